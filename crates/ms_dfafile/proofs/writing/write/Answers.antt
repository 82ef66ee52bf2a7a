use Rattle.std.proofs.Common.{◌≡◌, ◌∙◌, rules}
use Rattle.ms_dfafile.specs.inner.Parts.{content_text}
use Rattle.ms_dfafile.proofs.PartsLemmas.{content_text-spelled}
use Rattle.ms_dfafile.proofs.writing.write.Goals as goal

pub returns-in-Ok : goal.returns-in-Ok
returns-in-Ok c =
    let text : c.from.result ≡ content_text c.args.plain.now = search rules in
    record { text = text ∙ content_text-spelled c.args.plain.now; rules = c.requires }
