-- What a formula says of a position, it says in strings of the variable that stands for the position.
use Rattle.std.proofs.Common.{◌≡◌, ℕ, ◌+◌, ◌<◌, ◌≤◌, ◌⊎◌, inl, inr, ⊎_elim, refl, sym, subst, arith}
use Rattle.std.proofs.lemmas.Bool.{cases_lt}
use Rattle.ms_logic.specs.declared.assignment.Value.TheVariants.{Number}
use Rattle.ms_logic.specs.Assignment.{Env, assign}
use Rattle.ms_logic.specs.Tree.{Form, number_variable, numeral, comparison}
use Rattle.ms_logic.specs.Tree as string
use Rattle.ms_logic.specs.Truth.{Meanings}
use Rattle.ms_logic.proofs.Consistent.{IsConsistent}
use Rattle.ms_ltlf.specs.Tree.{Temporal, truth, falsity, proposition, brackets, negation, conjunction, disjunction, implication, equivalence, next, weak_next, eventually, always, until, release, Temporals, no_temporals, more_temporals}
use Rattle.ms_ltlf.specs.Trace.{FiniteTrace, HoldsAt, EachHoldsAt, SomeHoldsAt}
use Rattle.ms_ltlf.specs.Strings.{follows, at_most, every, between, freed_at, next_at, weak_next_at, eventually_at, always_at, until_at, release_at, string_form, string_forms}
use Rattle.ms_ltlf.proofs.Positions.{StandsAt, stands-bound, stands-kept, value-variable, agrees-at_most, agrees-less, agrees-follows, agrees-member}
use Rattle.ms_ltlf.proofs.Quantifiers.{agrees-exists, agrees-every}
use Rattle.ms_translation.specs.Parts.{less, two, three}
use Rattle.ms_translation.proofs.Agreeing.{Agrees, EachAgrees, SomeAgrees, along, agrees-truth, agrees-falsity, agrees-negation, agrees-implication, agrees-equivalence, each-none, each-more, some-none, some-more, agrees-conjunction, agrees-disjunction, agrees-two, agrees-three, agrees-either}

-- the trace of a length with the sets of an environment
abbrev pub trace : ℕ → Env → FiniteTrace
trace n e = record { length = n; positions = e.set }

module _ (m : Meanings) (consistent : IsConsistent m) where
  -- one more position j is bound behind x
  module _ (e : Env) (n x i j : ℕ) (stands : StandsAt e n x i) (below : j < n) where
    abbrev there : Env
    there = assign (x + 1) (Number j) e

    at-there : StandsAt there n (x + 1) j
    at-there = stands-bound e n (x + 1) j stands.universe below

    still-here : StandsAt there n x i
    still-here = stands-kept e n x i (x + 1) j stands (omega arith)

    -- and a position k behind that
    module _ (k : ℕ) (below' : k < n) where
      abbrev beyond : Env
      beyond = assign (x + 2) (Number k) there

      at-beyond : StandsAt beyond n (x + 2) k
      at-beyond = stands-bound there n (x + 2) k stands.universe below'

      still-there : StandsAt beyond n (x + 1) j
      still-there = stands-kept there n (x + 1) j (x + 2) k at-there (omega arith)

      here-still : StandsAt beyond n x i
      here-still = stands-kept there n x i (x + 2) k still-here (omega arith)

      agrees-between : Agrees m (between x) beyond ((i ≤ k) × (k < j))
      agrees-between =
          agrees-two m (at_most x (x + 2)) (less (x + 2) (x + 1)) beyond (i ≤ k) (k < j) (agrees-at_most m beyond n x i (x + 2) k here-still at-beyond)
          (agrees-less m beyond n (x + 2) k (x + 1) j at-beyond still-there)

  mutual
    pub translated : (f : Temporal) (n x i : ℕ) (e : Env) → StandsAt e n x i → Agrees m (string_form f x) e (HoldsAt (trace n e) f i)
    translated truth n x i e stands = agrees-truth m e
    translated falsity n x i e stands = agrees-falsity m e
    translated (proposition p) n x i e stands = agrees-member m (number_variable x) e i p (value-variable e n x i stands)
    translated (brackets f) n x i e stands = translated f n x i e stands
    translated (negation f) n x i e stands = agrees-negation m (string_form f x) e (HoldsAt (trace n e) f i) (translated f n x i e stands)
    translated (conjunction fs) n x i e stands = agrees-conjunction m (string_forms fs x) e (EachHoldsAt (trace n e) fs i) (each-translated fs n x i e stands)
    translated (disjunction fs) n x i e stands = agrees-disjunction m (string_forms fs x) e (SomeHoldsAt (trace n e) fs i) (some-translated fs n x i e stands)
    translated (implication f g) n x i e stands =
        agrees-implication m (string_form f x) (string_form g x) e (HoldsAt (trace n e) f i) (HoldsAt (trace n e) g i) (translated f n x i e stands) (translated g n x i e stands)
    translated (equivalence f g) n x i e stands =
        agrees-equivalence m (string_form f x) (string_form g x) e (HoldsAt (trace n e) f i) (HoldsAt (trace n e) g i) (translated f n x i e stands) (translated g n x i e stands)
    translated (next f) n x i e stands =
        let Holds : ℕ → Type 0 = HoldsAt (trace n e) f in
        along m (next_at x (string_form f (x + 1))) e ((j : ℕ) × (j < n) × ((j ≡ i + 1) × Holds j)) ((i + 1 < n) × Holds (i + 1))
        ((λ some. (omega (arith, some.1, some.2.0), subst Holds some.2.0 some.2.1)), (λ held. (i + 1, held.0, (refl, held.1))))
        (agrees-exists m consistent (string.conjunction (two (follows x (x + 1)) (string_form f (x + 1)))) n (x + 1) e (λ j. (j ≡ i + 1) × Holds j) stands.universe (omega (arith, stands.within))
        (λ j below. agrees-two m (follows x (x + 1)) (string_form f (x + 1)) (assign (x + 1) (Number j) e) (j ≡ i + 1) (Holds j)
        (agrees-follows m (assign (x + 1) (Number j) e) n x i (x + 1) j (still-here e n x i j stands below) (at-there e n x i j stands below))
        (translated f n (x + 1) j (assign (x + 1) (Number j) e) (at-there e n x i j stands below))))
    translated (weak_next f) n x i e stands =
        let Holds : ℕ → Type 0 = HoldsAt (trace n e) f in
        along m (weak_next_at x (string_form f (x + 1))) e ((j : ℕ) → j < n → (j ≡ i + 1) → Holds j) ((i + 1 ≡ n) ⊎ Holds (i + 1))
        ((λ all. ⊎_elim (λ below. inr (all (i + 1) below refl)) (λ above. inl (omega (arith, stands.within, above))) (cases_lt (i + 1) n)), (λ held j below same. ⊎_elim (λ last. absurd (omega (arith, below, same, last))) (λ holds. subst Holds (sym same) holds) held))
        (agrees-every m consistent (string.implication (follows x (x + 1)) (string_form f (x + 1))) n (x + 1) e (λ j. (j ≡ i + 1) → Holds j) stands.universe (omega (arith, stands.within))
        (λ j below. agrees-implication m (follows x (x + 1)) (string_form f (x + 1)) (assign (x + 1) (Number j) e) (j ≡ i + 1) (Holds j)
        (agrees-follows m (assign (x + 1) (Number j) e) n x i (x + 1) j (still-here e n x i j stands below) (at-there e n x i j stands below))
        (translated f n (x + 1) j (assign (x + 1) (Number j) e) (at-there e n x i j stands below))))
    translated (eventually f) n x i e stands =
        let Holds : ℕ → Type 0 = HoldsAt (trace n e) f in
        along m (eventually_at x (string_form f (x + 1))) e ((j : ℕ) × (j < n) × ((i ≤ j) × Holds j)) ((j : ℕ) × (i ≤ j) × (j < n) × Holds j)
        ((λ some. (some.0, some.2.0, some.1, some.2.1)), (λ held. (held.0, held.2, (held.1, held.3))))
        (agrees-exists m consistent (string.conjunction (two (at_most x (x + 1)) (string_form f (x + 1)))) n (x + 1) e (λ j. (i ≤ j) × Holds j) stands.universe (omega (arith, stands.within))
        (λ j below. agrees-two m (at_most x (x + 1)) (string_form f (x + 1)) (assign (x + 1) (Number j) e) (i ≤ j) (Holds j)
        (agrees-at_most m (assign (x + 1) (Number j) e) n x i (x + 1) j (still-here e n x i j stands below) (at-there e n x i j stands below))
        (translated f n (x + 1) j (assign (x + 1) (Number j) e) (at-there e n x i j stands below))))
    translated (always f) n x i e stands =
        let Holds : ℕ → Type 0 = HoldsAt (trace n e) f in
        along m (always_at x (string_form f (x + 1))) e ((j : ℕ) → j < n → (i ≤ j) → Holds j) ((j : ℕ) → i ≤ j → j < n → Holds j)
        ((λ all j from below. all j below from), (λ all j below from. all j from below))
        (agrees-every m consistent (string.implication (at_most x (x + 1)) (string_form f (x + 1))) n (x + 1) e (λ j. (i ≤ j) → Holds j) stands.universe (omega (arith, stands.within))
        (λ j below. agrees-implication m (at_most x (x + 1)) (string_form f (x + 1)) (assign (x + 1) (Number j) e) (i ≤ j) (Holds j)
        (agrees-at_most m (assign (x + 1) (Number j) e) n x i (x + 1) j (still-here e n x i j stands below) (at-there e n x i j stands below))
        (translated f n (x + 1) j (assign (x + 1) (Number j) e) (at-there e n x i j stands below))))
    translated (until f g) n x i e stands =
        let Holds : ℕ → Type 0 = HoldsAt (trace n e) f in
        let Ends : ℕ → Type 0 = HoldsAt (trace n e) g in
        let Kept : ℕ → Type 0 = λ j. (k : ℕ) → k < n → ((i ≤ k) × (k < j)) → Holds k in
        let kept_form : Form = every (x + 2) (string.implication (between x) (string_form f (x + 2))) in
        along m (until_at x (string_form f (x + 2)) (string_form g (x + 1))) e ((j : ℕ) × (j < n) × ((i ≤ j) × Ends j × Kept j))
        ((j : ℕ) × (i ≤ j) × (j < n) × Ends j × ((k : ℕ) → i ≤ k → k < j → Holds k)) (
          (λ some. (some.0, some.2.0, some.1, some.2.1, λ k from before. some.2.2 k (omega (arith, some.1, before)) (from, before))),
          (λ held. (held.0, held.2, (held.1, held.3, λ k below both. held.4 k both.0 both.1))),
        )
        (agrees-exists m consistent (string.conjunction (three (at_most x (x + 1)) (string_form g (x + 1)) kept_form)) n (x + 1) e (λ j. (i ≤ j) × Ends j × Kept j) stands.universe (omega (arith, stands.within))
        (λ j below. agrees-three m (at_most x (x + 1)) (string_form g (x + 1)) kept_form (assign (x + 1) (Number j) e) (i ≤ j) (Ends j) (Kept j)
        (agrees-at_most m (assign (x + 1) (Number j) e) n x i (x + 1) j (still-here e n x i j stands below) (at-there e n x i j stands below))
        (translated g n (x + 1) j (assign (x + 1) (Number j) e) (at-there e n x i j stands below))
        (agrees-every m consistent (string.implication (between x) (string_form f (x + 2))) n (x + 2) (assign (x + 1) (Number j) e) (λ k. ((i ≤ k) × (k < j)) → Holds k) stands.universe (omega (arith, stands.within))
        (λ k below'. agrees-implication m (between x) (string_form f (x + 2)) (assign (x + 2) (Number k) (assign (x + 1) (Number j) e)) ((i ≤ k) × (k < j)) (Holds k)
        (agrees-between e n x i j stands below k below')
        (translated f n (x + 2) k (assign (x + 2) (Number k) (assign (x + 1) (Number j) e)) (at-beyond e n x i j stands below k below'))))))
    translated (release f g) n x i e stands =
        let Frees : ℕ → Type 0 = HoldsAt (trace n e) f in
        let Holds : ℕ → Type 0 = HoldsAt (trace n e) g in
        let Freed : ℕ → Type 0 = λ j. (k : ℕ) × (k < n) × ((i ≤ k) × (k < j) × Frees k) in
        let either_form : Form = string.disjunction (two (string_form g (x + 1)) (freed_at x (string_form f (x + 2)))) in
        along m (release_at x (string_form f (x + 2)) (string_form g (x + 1))) e ((j : ℕ) → j < n → (i ≤ j) → Holds j ⊎ Freed j)
        ((j : ℕ) → i ≤ j → j < n → Holds j ⊎ ((k : ℕ) × (i ≤ k) × (k < j) × Frees k)) (
          (λ all j from below. ⊎_elim (λ holds. inl holds) (λ freed. inr (freed.0, freed.2.0, freed.2.1, freed.2.2)) (all j below from)),
          (λ all j below from. ⊎_elim (λ holds. inl holds) (λ freed. inr (freed.0, omega (arith, freed.2, below), (freed.1, freed.2, freed.3))) (all j from below)),
        )
        (agrees-every m consistent (string.implication (at_most x (x + 1)) either_form) n (x + 1) e (λ j. (i ≤ j) → Holds j ⊎ Freed j) stands.universe (omega (arith, stands.within))
        (λ j below. agrees-implication m (at_most x (x + 1)) either_form (assign (x + 1) (Number j) e) (i ≤ j) (Holds j ⊎ Freed j)
        (agrees-at_most m (assign (x + 1) (Number j) e) n x i (x + 1) j (still-here e n x i j stands below) (at-there e n x i j stands below))
        (agrees-either m (string_form g (x + 1)) (freed_at x (string_form f (x + 2))) (assign (x + 1) (Number j) e) (Holds j) (Freed j)
        (translated g n (x + 1) j (assign (x + 1) (Number j) e) (at-there e n x i j stands below))
        (agrees-exists m consistent (string.conjunction (three (at_most x (x + 2)) (less (x + 2) (x + 1)) (string_form f (x + 2)))) n (x + 2) (assign (x + 1) (Number j) e) (λ k. (i ≤ k) × (k < j) × Frees k) stands.universe (omega (arith, stands.within))
        (λ k below'. agrees-three m (at_most x (x + 2)) (less (x + 2) (x + 1)) (string_form f (x + 2)) (assign (x + 2) (Number k) (assign (x + 1) (Number j) e)) (i ≤ k) (k < j) (Frees k)
        (agrees-at_most m (assign (x + 2) (Number k) (assign (x + 1) (Number j) e)) n x i (x + 2) k (here-still e n x i j stands below k below') (at-beyond e n x i j stands below k below'))
        (agrees-less m (assign (x + 2) (Number k) (assign (x + 1) (Number j) e)) n (x + 2) k (x + 1) j (at-beyond e n x i j stands below k below') (still-there e n x i j stands below k below'))
        (translated f n (x + 2) k (assign (x + 2) (Number k) (assign (x + 1) (Number j) e)) (at-beyond e n x i j stands below k below')))))))

    each-translated : (fs : Temporals) (n x i : ℕ) (e : Env) → StandsAt e n x i → EachAgrees m (string_forms fs x) e (EachHoldsAt (trace n e) fs i)
    each-translated no_temporals n x i e stands = each-none m e
    each-translated (more_temporals f fs) n x i e stands =
        each-more m (string_form f x) (string_forms fs x) e (HoldsAt (trace n e) f i) (EachHoldsAt (trace n e) fs i) (translated f n x i e stands) (each-translated fs n x i e stands)

    some-translated : (fs : Temporals) (n x i : ℕ) (e : Env) → StandsAt e n x i → SomeAgrees m (string_forms fs x) e (SomeHoldsAt (trace n e) fs i)
    some-translated no_temporals n x i e stands = some-none m e
    some-translated (more_temporals f fs) n x i e stands =
        some-more m (string_form f x) (string_forms fs x) e (HoldsAt (trace n e) f i) (SomeHoldsAt (trace n e) fs i) (translated f n x i e stands) (some-translated fs n x i e stands)
