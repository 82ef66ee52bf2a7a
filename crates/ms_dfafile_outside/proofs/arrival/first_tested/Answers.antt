use Rattle.std.proofs.Common.{sym, ap, ◌∙◌}
use Rattle.ms_dfa.specs.Files.{content_of_file}
use Rattle.ms_dfafile_outside.specs.inner.Labels.{first_tested}
use Rattle.ms_dfafile_outside.proofs.FileLemmas.{length-variables}
use Rattle.ms_dfafile_outside.proofs.arrival.first_tested.Goals as goal

pub returns-in-Leaf : goal.returns-in-Leaf
returns-in-Leaf c =
    c.len.ensures ∙ sym (length-variables c.args.plain.now) ∙ sym (ap (first_tested (content_of_file c.args.plain.now)) c.in-Leaf.is)
