-- Laws of truth on traces.
use Rattle.std.specs.Prelude.{ℕ, ◌<◌, ◌⊎◌, ◌↔◌}
use Rattle.ms_ltlf.specs.Trace.{FiniteTrace, HoldsAt}
use Rattle.ms_ltlf.specs.Tree.{Temporal, always, eventually, negation, next, release, truth, until, weak_next}

-- a formula holds at a position of a trace, or it does not
abbrev pub TruthIsDecided : Type 0
TruthIsDecided = (t : FiniteTrace) (f : Temporal) (i : ℕ) → i < t.length → HoldsAt t f i ⊎ (¬ HoldsAt t f i)

-- two formulas hold at the same positions of each trace
abbrev pub Equivalent : Temporal → Temporal → Type 0
Equivalent f g = (t : FiniteTrace) (i : ℕ) → i < t.length → HoldsAt t f i ↔ HoldsAt t g i

-- WX f and ~X ~f
abbrev pub NextIsDual : Type 0
NextIsDual = (f : Temporal) → Equivalent (weak_next f) (negation (next (negation f)))

-- G f and ~F ~f
abbrev pub EventuallyIsDual : Type 0
EventuallyIsDual = (f : Temporal) → Equivalent (always f) (negation (eventually (negation f)))

-- f R g and ~(~f U ~g)
abbrev pub UntilIsDual : Type 0
UntilIsDual = (f g : Temporal) → Equivalent (release f g) (negation (until (negation f) (negation g)))

-- F f and true U f
abbrev pub EventuallyIsUntil : Type 0
EventuallyIsUntil = (f : Temporal) → Equivalent (eventually f) (until truth f)

-- f U g: now g, or now f and next f U g
abbrev pub UntilUnfolds : Type 0
UntilUnfolds =
    (f g : Temporal) (t : FiniteTrace) (i : ℕ) → i < t.length
    → HoldsAt t (until f g) i ↔ (HoldsAt t g i ⊎ (HoldsAt t f i × HoldsAt t (next (until f g)) i))
