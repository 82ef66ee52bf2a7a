use Rattle.std.proofs.Common.{◌≡◌, ℕ, ◌+◌, ◌<◌, ◌≤◌, Some, length, slice_get}
use Rattle.ms_dfa.specs.declared.plain.FileState.{FileState}
use Rattle.ms_list.specs.declared.word.Word.{Word}
use Rattle.ms_cert.specs.inner.Lengths.{most_at}
use Rattle.ms_cert.proofs.lengths.has_steps.Given as goal

-- the steps from the states so far
abbrev pub invariant-loop-state : goal.invariant-loop-state
invariant-loop-state l =
    (place : ℕ) (word : Word) (state : FileState) → place < l.state → slice_get l.words place ≡ Some word → slice_get l.plain.states place ≡ Some state
    → most_at l.words l.known state.next ≤ length word.letters + 1
