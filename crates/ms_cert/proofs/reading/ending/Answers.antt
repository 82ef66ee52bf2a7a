use Rattle.std.proofs.Common.{sym, ◌∙◌}
use Rattle.std.proofs.lemmas.Bool.{false≢true}
use Rattle.ms_cert.proofs.LinesLemmas.{tree-one_form}
use Rattle.ms_cert.proofs.PartsLemmas.{ending-missing}
use Rattle.ms_cert.proofs.reading.ending.Goals as goal

pub counted_lines-requires : goal.counted_lines-requires
counted_lines-requires c = tree-one_form

pub returns-then-not-is_end : goal.returns-then-not-is_end
returns-then-not-is_end c =
    ending-missing c.args.count c.args.bytes.now c.in-Ok.found.0 c.in-Ok.found.1.now c.in-Ok.ensures (λ same. false≢true (sym c.if-not-is_end.true ∙ c.is_end.ensures.1 same))
