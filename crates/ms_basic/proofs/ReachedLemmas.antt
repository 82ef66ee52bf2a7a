-- How states of a machine are reached.
use Rattle.std.proofs.Common.{◌≡◌, ℕ, List, [], ◌∷◌, ◌++◌, refl, ap, ◌∙◌}
use Rattle.std.proofs.lemmas.List.Elements.{All-append, All-cons, All-nil}
use Rattle.ms_dfa_explore.specs.declared.small.TrackBits.{TrackBits}
use Rattle.ms_dfa_explore.specs.Small.{TransitionTable, zero_bits}
use Rattle.ms_basic.specs.inner.Apart.{AreOf, state_by}
use Rattle.ms_basic.specs.inner.Reached.{IsReached}

module _ (count : ℕ) (table : TransitionTable) where
  -- the start is reached
  pub at_start : IsReached count table (table.start zero_bits)
  at_start = ([], All-nil (AreOf count), refl)

  state_by-further : (state : ℕ) (letters : List TrackBits) (bits : TrackBits) → state_by table state (letters ++ bits ∷ []) ≡ table.step (state_by table state letters) bits
  state_by-further state [] bits = refl
  state_by-further state (first ∷ letters) bits = state_by-further (table.step state first) letters bits

  -- and so is each state to which a letter leads from one that is reached
  pub further : (state next : ℕ) (bits : TrackBits) → AreOf count bits → table.step state bits ≡ next → IsReached count table state → IsReached count table next
  further state next bits of leads path = (
    path.0 ++ bits ∷ [],
    All-append (AreOf count) path.0 (bits ∷ []) path.1 (All-cons (AreOf count) bits [] of (All-nil (AreOf count))),
    state_by-further (table.start zero_bits) path.0 bits ∙ ap (λ state. table.step state bits) path.2 ∙ leads,
  )
