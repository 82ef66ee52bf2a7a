use Rattle.std.proofs.Common.{sym, ◌∙◌}
use Rattle.std.proofs.lemmas.Bool.{false≢true}
use Rattle.ms_dfafile.proofs.LineLemmas.{node-one_form}
use Rattle.ms_dfafile.proofs.PartsLemmas.{ending_missing}
use Rattle.ms_dfafile.proofs.parts.ending.Goals as goal

pub lines-requires : goal.lines-requires
lines-requires c = node-one_form

pub returns-then-not-is_end : goal.returns-then-not-is_end
returns-then-not-is_end c =
    ending_missing c.args.bytes.now c.in-Ok.found.0 c.in-Ok.found.1.now c.in-Ok.ensures (λ same. false≢true (sym c.if-not-is_end.true ∙ c.is_end.ensures.1 same))
