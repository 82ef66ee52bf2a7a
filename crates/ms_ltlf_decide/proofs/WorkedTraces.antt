-- The examples of answers, worked by hand.
use Rattle.std.proofs.Common.{◌≡◌, ℕ, zero, suc, ◌<◌, Bool, inl, inr, List, [], ◌∷◌, Some, refl, ap, subst, arith}
use Rattle.std.specs.List.{flat_map}
use Rattle.ms_logic.specs.FiniteSet.{IsRising, numbers_below}
use Rattle.ms_logic.specs.First.{IsLower, bits_of}
use Rattle.ms_logic.specs.Letters.{letter_at}
use Rattle.ms_logic.specs.Lists.{Each}
use Rattle.ms_ltlf.specs.Trace.{FiniteTrace, IsTrace}
use Rattle.ms_ltlf.specs.Tree.{next, truth}
use Rattle.ms_ltlf.specs.inner.Examples.{trace}
use Rattle.ms_ltlf_decide.specs.Answer.{ComesBefore, HoldsOn, ShowsFirstTrace, assignment_by, propositions}

-- a trace of a length at which nothing holds
abbrev pub still : ℕ → FiniteTrace
still n = record { length = n; positions = λ q. [] }

pub bare : (count n : ℕ) → 0 < n → IsTrace count (still n)
bare count n some = record { has_position = some; sets = λ q below. tt; within = λ q below. tt }

first-rises : (q : ℕ) → q < 1 → IsRising ((trace 1 (0 ∷ []) []).positions q)
first-rises zero below = (tt, tt)
first-rises (suc q) below = absurd (omega (arith, below))

first-within : (q : ℕ) → q < 1 → Each (λ i. i < 1) ((trace 1 (0 ∷ []) []).positions q)
first-within zero below = (omega arith, tt)
first-within (suc q) below = absurd (omega (arith, below))

-- a trace of one position, at which the first proposition holds
pub first-holds : IsTrace 1 (trace 1 (0 ∷ []) [])
first-holds = record { has_position = omega arith; sets = first-rises; within = first-within }

-- where there is no proposition, letters have no bits
no-bits : (t : FiniteTrace) (ns : List ℕ) → flat_map (letter_at (propositions 0) (assignment_by t)) ns ≡ []
no-bits t [] = refl
no-bits t (n ∷ ns) = no-bits t ns

never-lower : (t u : FiniteTrace) → IsLower (bits_of (propositions 0) (assignment_by t)) (bits_of (propositions 0) (assignment_by u)) → ⊥
never-lower t u lower =
    let P : List Bool → Type 0 = λ bits. IsLower bits (bits_of (propositions 0) (assignment_by u)) in
    subst P (no-bits t (numbers_below t.length)) lower

-- so only shorter traces come before others
pub shorter-alone : (t u : FiniteTrace) → ComesBefore 0 t u → t.length < u.length
shorter-alone t u (inl shorter) = shorter
shorter-alone t u (inr (same, lower)) = absurd (never-lower t u lower)

pub two-positions : ShowsFirstTrace 0 (HoldsOn (next truth)) (Some (record { length = 2; values = [] }))
two-positions = (
  still 2,
  record {
    trace = bare 0 2 (omega arith);
    holds = (omega arith, tt);
    none_before = λ u is before held. omega (arith, shorter-alone u (still 2) before, is.has_position, held.0);
  },
  refl,
)

pub not-the-first : ShowsFirstTrace 0 (HoldsOn truth) (Some (record { length = 2; values = [] })) → ⊥
not-the-first (t, first, shown) =
    let long : 2 ≡ t.length = ap (λ (a : _). a.length) shown in
    first.none_before (still 1) (bare 0 1 (omega arith)) (inl (omega (arith, long))) tt
