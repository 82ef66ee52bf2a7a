use Rattle.std.proofs.lemmas.Result.{IfErr-weaker}
use Rattle.ms_app_solved.specs.Tokens.{HasNoTokens, no_tokens}
use Rattle.ms_edge.specs.Files.{between}
use Rattle.ms_text.specs.Fault.{IsCause}
use Rattle.ms_app_solved.proofs.tokens.read_tokens.Goals as goal

pub returns-clause-refused : goal.returns-clause-refused
returns-clause-refused g c =
    let seen = between (g.F.Files.told c.args.files.now) (g.F.Files.told c.read_source.new.files) in
    IfErr-weaker c.tokens.result (IsCause 0 c.in-Ok.bytes) (λ refusal. HasNoTokens seen c.args.name.now refusal c.note.new.names)
    (λ refusal why. no_tokens c.in-Ok.bytes c.in-Ok.ensures.read why c.in-Ok-note.ensures) c.tokens.ensures.refused
