use Rattle.std.proofs.Common.{◌≡◌, ℕ, ◌<◌, slice_get, Some}
use Rattle.ms_dfa.specs.Files.{content_of_file}
use Rattle.ms_dfa.specs.declared.plain.FileState.{FileState}
use Rattle.ms_dfafile.specs.inner.Rules.{IsNext}
use Rattle.ms_dfafile.proofs.rules.are_next.Given as goal

-- the states so far have references as a content has them
abbrev pub invariant-loop-state : goal.invariant-loop-state
invariant-loop-state l = (i : ℕ) (state : FileState) → i < l.state-index → slice_get l.plain.states i ≡ Some state → IsNext (content_of_file l.plain) state.next
