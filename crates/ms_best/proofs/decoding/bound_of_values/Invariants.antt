use Rattle.std.proofs.Common.{◌≡◌, max, drop}
use Rattle.ms_logic_words.specs.inner.Decoding.{bound_of_values}
use Rattle.ms_best.proofs.decoding.bound_of_values.Given as goal

abbrev pub invariant-loop-value : goal.invariant-loop-value
invariant-loop-value l = max l.bound (bound_of_values (drop l.value-index l.values)) ≡ bound_of_values l.values
