-- When a formula of linear temporal logic holds at a position of a finite trace (De Giacomo and Vardi, 2013).
use Rattle.std.specs.Prelude.{◌≡◌, ℕ, ◌+◌, ◌<◌, ◌≤◌, ◌⊎◌, ◌↔◌, List}
use Rattle.ms_logic.specs.FiniteSet.{IsMember, IsRising}
use Rattle.ms_logic.specs.Lists.{Each}
use Rattle.ms_ltlf.specs.Tree.{Temporal, truth, falsity, proposition, brackets, negation, conjunction, disjunction, implication, equivalence, next, weak_next, eventually, always, until, release, Temporals, no_temporals, more_temporals}

-- a length, and for each proposition, by its number, the set of the positions at which it holds
pub record FiniteTrace : Type 0 where
  pub length : ℕ
  pub positions : ℕ → List ℕ

-- a trace of this many propositions: it has a position, and each proposition holds at positions of the trace
pub record IsTrace (count : ℕ) (t : FiniteTrace) : Type 0 where
  pub has_position : 0 < t.length
  pub sets : (p : ℕ) → p < count → IsRising (t.positions p)
  pub within : (p : ℕ) → p < count → Each (λ i. i < t.length) (t.positions p)

-- t, i ⊨ f: the formula holds at position i of the trace
abbrev mutual
  pub HoldsAt : FiniteTrace → Temporal → ℕ → Type 0
  HoldsAt t truth i = Unit {0}
  HoldsAt t falsity i = ⊥
  HoldsAt t (proposition p) i = IsMember i (t.positions p)
  HoldsAt t (brackets f) i = HoldsAt t f i
  HoldsAt t (negation f) i = ¬ HoldsAt t f i
  HoldsAt t (conjunction fs) i = EachHoldsAt t fs i
  HoldsAt t (disjunction fs) i = SomeHoldsAt t fs i
  HoldsAt t (implication f g) i = HoldsAt t f i → HoldsAt t g i
  HoldsAt t (equivalence f g) i = HoldsAt t f i ↔ HoldsAt t g i
  -- there is a next position, and f holds there
  HoldsAt t (next f) i = (i + 1 < t.length) × HoldsAt t f (i + 1)
  -- this is the last position, or f holds at the next
  HoldsAt t (weak_next f) i = (i + 1 ≡ t.length) ⊎ HoldsAt t f (i + 1)
  -- f holds at some position from here on
  HoldsAt t (eventually f) i = (j : ℕ) × (i ≤ j) × (j < t.length) × HoldsAt t f j
  -- f holds at every position from here on
  HoldsAt t (always f) i = (j : ℕ) → i ≤ j → j < t.length → HoldsAt t f j
  -- g holds at some position from here on, and f at every one before that
  HoldsAt t (until f g) i =
      (j : ℕ) × (i ≤ j) × (j < t.length) × HoldsAt t g j × ((k : ℕ) → i ≤ k → k < j → HoldsAt t f k)
  -- at every position from here on g holds, or f held at one before it
  HoldsAt t (release f g) i =
      (j : ℕ) → i ≤ j → j < t.length → HoldsAt t g j ⊎ ((k : ℕ) × (i ≤ k) × (k < j) × HoldsAt t f k)

  pub EachHoldsAt : FiniteTrace → Temporals → ℕ → Type 0
  EachHoldsAt t no_temporals i = Unit {0}
  EachHoldsAt t (more_temporals f fs) i = HoldsAt t f i × EachHoldsAt t fs i

  pub SomeHoldsAt : FiniteTrace → Temporals → ℕ → Type 0
  SomeHoldsAt t no_temporals i = ⊥
  SomeHoldsAt t (more_temporals f fs) i = HoldsAt t f i ⊎ SomeHoldsAt t fs i
