use Rattle.std.proofs.Common.{◌≡◌, ◌<◌, ℕ, false}
use Rattle.ms_logic_words.specs.inner.Decoding.{bit_in}
use Rattle.ms_best.proofs.decoding.first_position.Given as goal

abbrev pub invariant-loop-position : goal.invariant-loop-position
invariant-loop-position l = (q : ℕ) → q < l.position → bit_in l.letters l.column q ≡ false
