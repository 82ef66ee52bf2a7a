use Rattle.std.proofs.Common.{◌≡◌, ◌≢◌, ℕ, ◌<◌, slice_get, Some}
use Rattle.ms_dfa.specs.declared.plain.FileSign.TheVariants as signs
use Rattle.ms_dfa.specs.declared.plain.FileState.{FileState}
use Rattle.ms_dfafile.proofs.signs.has_no_outside.Given as goal

-- the states so far have other signs
abbrev pub invariant-loop-state : goal.invariant-loop-state
invariant-loop-state l = (i : ℕ) (state : FileState) → i < l.state-index → slice_get l.states i ≡ Some state → state.sign ≢ signs.Outside
