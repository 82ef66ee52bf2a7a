use Rattle.std.proofs.Common.{◌≡◌, ℕ, length, slice_get, Some}
use Rattle.ms_logic_words.specs.declared.sign.Sign.{Sign}
use Rattle.ms_logic_words.specs.Content.{StateOf}
use Rattle.ms_minim.specs.inner.Hash.{hash_of}
use Rattle.ms_minim.proofs.hashes.hash_marks.Given as goal

-- the states so far have the hashes of where they lead
abbrev pub invariant-loop-state : goal.invariant-loop-state
invariant-loop-state l =
    (length l.made ≡ l.state)
    × ((state mark : ℕ) (found : StateOf Sign) → slice_get l.made state ≡ Some mark → slice_get l.automaton.states state ≡ Some found → mark ≡ hash_of l.classes l.hashes found.next)
