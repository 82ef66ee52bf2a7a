use Rattle.ms_basic.proofs.TruthLemmas.{decides_truth}
use Rattle.std.proofs.Common.{[], ◌∷◌, refl}
use Rattle.ms_basic.specs.Operands.{truth_value}
use Rattle.ms_basic.specs.inner.Truth.{truth_table}
use Rattle.ms_basic.proofs.ApartOverLemmas.{by_contradiction}
use Rattle.ms_basic.proofs.ReachedOverLemmas.{truth_reached}
use Rattle.ms_basic.proofs.truth.truth.Goals as goal

pub made-requires-clause-decides : goal.made-requires-clause-decides
made-requires-clause-decides c = decides_truth c.args.setting.mode c.args.a

pub made-requires-clause-apart : goal.made-requires-clause-apart
made-requires-clause-apart c = by_contradiction (truth_value c.args.a ∷ []) truth_table refl refl

pub made-requires-clause-reached : goal.made-requires-clause-reached
made-requires-clause-reached c = truth_reached c.args.a
