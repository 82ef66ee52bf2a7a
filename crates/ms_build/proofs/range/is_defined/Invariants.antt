use Rattle.std.proofs.Common.{◌≢◌, ℕ, ◌<◌, Some}
use Rattle.ms_logic_words.specs.Content.{sign_at}
use Rattle.ms_logic_words.specs.declared.sign.Sign.TheVariants.{Undefined}
use Rattle.ms_build.proofs.range.is_defined.Given as goal

-- none of the states so far
abbrev pub invariant-loop-state : goal.invariant-loop-state
invariant-loop-state l = (state : ℕ) → state < l.state → sign_at l.automaton state ≢ Some Undefined
