-- Truth on traces is decided, since its translation is; the laws follow.
use Rattle.std.proofs.Common.{◌+◌, ◌≤◌, ◌≡◌, false, inl, inr, ⊎_elim, Some, refl, subst, arith}
use Rattle.std.proofs.lemmas.Bool.{cases_lt}
use Rattle.ms_logic.specs.Assignment.{Env}
use Rattle.ms_ltlf.specs.Trace.{HoldsAt}
use Rattle.ms_ltlf.specs.inner.Laws.{EventuallyIsDual, EventuallyIsUntil, NextIsDual, TruthIsDecided, UntilIsDual, UntilUnfolds}
use Rattle.ms_ltlf.proofs.Bounded.{some_or_each}
use Rattle.ms_ltlf.proofs.Translated.{translated}
use Rattle.ms_translation.proofs.Asked.{meanings, consistent}

pub decided : TruthIsDecided
decided t f i below =
    let e : Env = record { universe = Some t.length; truth = λ x. false; number = λ x. i; set = t.positions } in
    ⊎_elim (λ yes. inl yes.0) (λ no. inr no.0) (translated meanings consistent f t.length 0 i e (record { universe = refl; here = refl; within = below }))

pub next_is_dual : NextIsDual
next_is_dual f t i below = (
  (λ weak strong. ⊎_elim (λ last. omega (arith, strong.0, last)) (λ held. strong.1 held) weak),
  (λ never. ⊎_elim (λ later. ⊎_elim (λ held. inr held) (λ fails. absurd (never (later, fails))) (decided t f (i + 1) later)) (λ last. inl (omega (arith, below, last))) (cases_lt (i + 1) t.length)),
)

pub eventually_is_dual : EventuallyIsDual
eventually_is_dual f t i below = (
  (λ all some. some.3 (all some.0 some.1 some.2)),
  (λ never j from within. ⊎_elim (λ held. held) (λ fails. absurd (never (j, from, within, fails))) (decided t f j within)),
)

pub until_is_dual : UntilIsDual
until_is_dual f g t i below = (
  (λ released held. ⊎_elim (λ there. held.3 there) (λ freed. held.4 freed.0 freed.1 freed.2 freed.3) (released held.0 held.1 held.2)),
  (λ never j from within. ⊎_elim (λ there. inl there)
      (λ fails. ⊎_elim (λ freed. inr (freed.0, freed.2.0, freed.1, freed.2.1)) (λ none. absurd (never (j, from, within, fails, λ k from' before. none k before from')))
      (some_or_each (λ k. (i ≤ k) × HoldsAt t f k) (λ k. i ≤ k → ¬ HoldsAt t f k) j
      (λ k before. ⊎_elim (λ outside. inr (λ from'. absurd (omega (arith, outside, from'))))
      (λ from'. ⊎_elim (λ held. inl (from', held)) (λ fails'. inr (λ _. fails')) (decided t f k (omega (arith, before, within)))) (cases_lt k i))))
      (decided t g j within)),
)

pub eventually_is_until : EventuallyIsUntil
eventually_is_until f t i below =
    ((λ some. (some.0, some.1, some.2, some.3, λ k from before. tt)), (λ held. (held.0, held.1, held.2, held.3)))

pub until_unfolds : UntilUnfolds
until_unfolds f g t i below = (
  (λ held. ⊎_elim
      (λ later. inr (held.4 i (omega arith) later, (omega (arith, later, held.2), (held.0, omega (arith, later), held.2, held.3, λ k from before. held.4 k (omega (arith, from)) before))))
      (λ now. let same : held.0 ≡ i = omega (arith, now, held.1) in inl (subst (HoldsAt t g) same held.3)) (cases_lt i held.0)),
  (λ either. ⊎_elim (λ now. (i, omega arith, below, now, λ k from before. absurd (omega (arith, from, before))))
      (λ later. let there = later.1.1 in (
        there.0,
        omega (arith, there.1),
        there.2,
        there.3,
        λ k from before. ⊎_elim (λ behind. there.4 k (omega (arith, behind)) before) (λ here. let same : i ≡ k = omega (arith, here, from) in subst (HoldsAt t f) same later.0) (cases_lt i k),
      )) either),
)
