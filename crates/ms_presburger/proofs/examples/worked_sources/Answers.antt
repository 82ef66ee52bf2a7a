use Rattle.std.proofs.Common.{◌≡◌, ℕ, ◌+◌, List, [], ◌∷◌, inl, inr, ⊎_elim, refl, ap, arith}
use Rattle.ms_presburger.specs.Digits.{number_of}
use Rattle.ms_presburger.specs.inner.Examples.{at, set_at}
use Rattle.ms_presburger.proofs.Binary.{number_of-unique}
use Rattle.ms_presburger.proofs.examples.worked_sources.Goals as goal

-- the number of the set {0} is not 0
pub returns-clause-too_weak : goal.returns-clause-too_weak
returns-clause-too_weak c = λ tells.
    let held = (tells.yes (set_at (0 ∷ [])) (record { universe = refl; values = (((tt, tt), (tt, tt)), tt) })).0 ((tt, tt), (tt, tt)) in omega (arith, held)

pub returns-clause-no_counterexample : goal.returns-clause-no_counterexample
returns-clause-no_counterexample c = λ tells.
    let found = tells.counterexample.1 (at 1 0, λ held. omega (arith, held)) in ⊎_elim (λ never. never) (λ never. never) found.2.1.1

-- that of the empty set is
pub returns-clause-too_strong : goal.returns-clause-too_strong
returns-clause-too_strong c = λ tells. ((tells.yes (set_at []) (record { universe = refl; values = ((tt, tt), tt) })).1 refl).1.0

empty-of-zero : (members : List ℕ) → number_of members + 0 ≡ 0 + 0 → number_of members ≡ 0
empty-of-zero members zero_sum = omega (arith, zero_sum)

zero-of-empty : (members : List ℕ) → members ≡ [] → number_of members + 0 ≡ 0 + 0
zero-of-empty members none = omega (arith, ap number_of none)

pub returns-clause-tells : goal.returns-clause-tells
returns-clause-tells c = record {
  yes = λ e assigned. (
    (λ main. zero-of-empty (e.set 0) main.1.0),
    (λ held. ((tt, tt), (number_of-unique (e.set 0) [] assigned.values.0.0 tt (empty-of-zero (e.set 0) held), tt))),
  );
  no = λ e assigned. (
    (λ main held. ⊎_elim (λ some. some (number_of-unique (e.set 0) [] assigned.values.0.0 tt (empty-of-zero (e.set 0) held))) (λ never. never) main.1.1),
    (λ fails. ((tt, tt), ((inr (λ none. fails (zero-of-empty (e.set 0) none)), tt), inl (λ none. fails (zero-of-empty (e.set 0) none))))),
  );
}
