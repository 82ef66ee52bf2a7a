-- What a formula says of numbers, its translation says of their sets.
use Rattle.std.proofs.Common.{◌≡◌, ℕ, ◌+◌, inl, inr, ⊎_elim, List, [], ◌∷◌, None, sym, subst}
use Rattle.ms_logic.specs.declared.assignment.Value.TheVariants.{Set}
use Rattle.ms_logic.specs.declared.mode.Quant.TheVariants.{Ex, All}
use Rattle.ms_logic.specs.Assignment.{Env, assign}
use Rattle.ms_logic.specs.FiniteSet.{IsRising}
use Rattle.ms_logic.specs.Lists.{Each}
use Rattle.ms_logic.specs.Truth.{Meanings, NumbersRelate}
use Rattle.ms_logic.proofs.Consistent.{IsConsistent}
use Rattle.ms_presburger.specs.Digits.{number_of}
use Rattle.ms_presburger.specs.Numbers.{Valuation, with_number, value_of_sum, AtSome, AtAll, Holds, EachHolds, SomeHolds}
use Rattle.ms_presburger.specs.Sets.{Scope, with_variable, summands_of, over_sets, set_form, set_forms}
use Rattle.ms_presburger.specs.Tree.{Arithmetic, truth, falsity, comparison, brackets, negation, conjunction, disjunction, implication, equivalence, quantified, Arithmetics, no_arithmetics, more_arithmetics, names_in_sum, except, free_places, free_places_in_all}
use Rattle.ms_presburger.proofs.Quantifiers.{agrees-some-set, agrees-every-set}
use Rattle.ms_translation.proofs.Agreeing.{Agrees, EachAgrees, SomeAgrees, along, agrees-truth, agrees-falsity, agrees-negation, agrees-implication, agrees-equivalence, each-none, each-more, some-none, some-more, agrees-conjunction, agrees-disjunction}
use Rattle.ms_presburger.proofs.Binary.{set_of_number}
use Rattle.ms_presburger.proofs.Deciding.{truth-is-decided}
use Rattle.ms_presburger.proofs.Scopes.{Stands, each-left, each-right, stand-summands, total-summands, stand-bound, except-none}
use Rattle.ms_presburger.proofs.Totals.{total, agrees-compared}

module _ (m : Meanings) (consistent : IsConsistent m) where
  -- a formula agrees wherever its free names stand for their numbers
  abbrev IsTranslated : Arithmetic → Type 0
  IsTranslated f = (v : Valuation) (scope : Scope) (x : ℕ) (e : Env) → e.universe ≡ None → Each (Stands e scope v x) (free_places f) → Agrees m (set_form f scope x) e (Holds f v)

  module _ (f : Arithmetic) (body : IsTranslated f) where
    bound-some : (names : List (List ℕ)) (v : Valuation) (scope : Scope) (x : ℕ) (e : Env) → e.universe ≡ None → Each (Stands e scope v x) (except names (free_places f)) →
        Agrees m (over_sets Ex names (λ inner y. set_form f inner y) scope x) e (AtSome names (λ w. Holds f w) v)
    bound-some [] v scope x e natural stands = body v scope x e natural (let P : List (List ℕ) → Type 0 = Each (Stands e scope v x) in subst P (except-none (free_places f)) stands)
    bound-some (name ∷ names) v scope x e natural stands =
        let At : ℕ → Type 0 = λ n. AtSome names (λ w. Holds f w) (with_number name n v) in
        let AtSet : List ℕ → Type 0 = λ s. At (number_of s) in
        let from : ((s : List ℕ) × IsRising s × AtSet s) → (n : ℕ) × At n = λ some. (number_of some.0, some.2) in
        let to : ((n : ℕ) × At n) → (s : List ℕ) × IsRising s × AtSet s = λ some. let found = set_of_number some.0 in (found.0, found.1, subst At (sym found.2) some.1) in
        along m (over_sets Ex (name ∷ names) (λ inner y. set_form f inner y) scope x) e ((s : List ℕ) × IsRising s × AtSet s) ((n : ℕ) × At n) (from, to)
        (agrees-some-set m consistent e natural x (over_sets Ex names (λ inner y. set_form f inner y) (with_variable name x scope) (x + 2)) AtSet
        (λ s rises. bound-some names (with_number name (number_of s) v) (with_variable name x scope) (x + 2) (assign x (Set s) e) natural (stand-bound e scope v x name s rises names (free_places f) stands))
        (⊎_elim (λ some. inl (to some)) (λ none. inr (λ s rises held. none (from (s, rises, held)))) (truth-is-decided (quantified Ex (name ∷ names) f) v)))

    bound-all : (names : List (List ℕ)) (v : Valuation) (scope : Scope) (x : ℕ) (e : Env) → e.universe ≡ None → Each (Stands e scope v x) (except names (free_places f)) →
        Agrees m (over_sets All names (λ inner y. set_form f inner y) scope x) e (AtAll names (λ w. Holds f w) v)
    bound-all [] v scope x e natural stands = body v scope x e natural (let P : List (List ℕ) → Type 0 = Each (Stands e scope v x) in subst P (except-none (free_places f)) stands)
    bound-all (name ∷ names) v scope x e natural stands =
        let At : ℕ → Type 0 = λ n. AtAll names (λ w. Holds f w) (with_number name n v) in
        let AtSet : List ℕ → Type 0 = λ s. At (number_of s) in
        let from : ((s : List ℕ) → IsRising s → AtSet s) → (n : ℕ) → At n = λ all n. let found = set_of_number n in subst At found.2 (all found.0 found.1) in
        let to : ((n : ℕ) → At n) → (s : List ℕ) → IsRising s → AtSet s = λ all s rises. all (number_of s) in
        along m (over_sets All (name ∷ names) (λ inner y. set_form f inner y) scope x) e ((s : List ℕ) → IsRising s → AtSet s) ((n : ℕ) → At n) (from, to)
        (agrees-every-set m consistent e natural x (over_sets All names (λ inner y. set_form f inner y) (with_variable name x scope) (x + 2)) AtSet
        (λ s rises. bound-all names (with_number name (number_of s) v) (with_variable name x scope) (x + 2) (assign x (Set s) e) natural (stand-bound e scope v x name s rises names (free_places f) stands))
        (⊎_elim (λ some. let found = set_of_number some.0 in let Fails : ℕ → Type 0 = λ n. ¬ At n in inr (found.0, found.1, subst Fails (sym found.2) some.1))
        (λ none. inl (λ s rises. ⊎_elim (λ held. held) (λ fails. absurd (none (number_of s, fails))) (truth-is-decided (quantified All names f) (with_number name (number_of s) v))))
        (truth-is-decided (quantified Ex (name ∷ []) (negation (quantified All names f))) v)))

  mutual
    pub translated : (f : Arithmetic) (v : Valuation) (scope : Scope) (x : ℕ) (e : Env) → e.universe ≡ None → Each (Stands e scope v x) (free_places f) → Agrees m (set_form f scope x) e (Holds f v)
    translated truth v scope x e natural stands = agrees-truth m e
    translated falsity v scope x e natural stands = agrees-falsity m e
    translated (comparison r left right) v scope x e natural stands =
        let on-left = each-left (Stands e scope v x) (names_in_sum left) (names_in_sum right) stands in
        let on-right = each-right (Stands e scope v x) (names_in_sum left) (names_in_sum right) stands in
        let P : ℕ → Type 0 = λ n. Agrees m (set_form (comparison r left right) scope x) e (NumbersRelate r n (total e (summands_of scope right))) in
        let Q : ℕ → Type 0 = λ n. Agrees m (set_form (comparison r left right) scope x) e (NumbersRelate r (value_of_sum left v) n) in
        subst Q (total-summands e scope v x right on-right) (subst P (total-summands e scope v x left on-left)
        (agrees-compared m consistent r (summands_of scope left) (summands_of scope right) x e natural (stand-summands e scope v x left on-left) (stand-summands e scope v x right on-right)))
    translated (brackets f) v scope x e natural stands = translated f v scope x e natural stands
    translated (negation f) v scope x e natural stands = agrees-negation m (set_form f scope x) e (Holds f v) (translated f v scope x e natural stands)
    translated (conjunction fs) v scope x e natural stands = agrees-conjunction m (set_forms fs scope x) e (EachHolds fs v) (each-translated fs v scope x e natural stands)
    translated (disjunction fs) v scope x e natural stands = agrees-disjunction m (set_forms fs scope x) e (SomeHolds fs v) (some-translated fs v scope x e natural stands)
    translated (implication f g) v scope x e natural stands =
        agrees-implication m (set_form f scope x) (set_form g scope x) e (Holds f v) (Holds g v)
        (translated f v scope x e natural (each-left (Stands e scope v x) (free_places f) (free_places g) stands)) (translated g v scope x e natural (each-right (Stands e scope v x) (free_places f) (free_places g) stands))
    translated (equivalence f g) v scope x e natural stands =
        agrees-equivalence m (set_form f scope x) (set_form g scope x) e (Holds f v) (Holds g v)
        (translated f v scope x e natural (each-left (Stands e scope v x) (free_places f) (free_places g) stands)) (translated g v scope x e natural (each-right (Stands e scope v x) (free_places f) (free_places g) stands))
    translated (quantified Ex names f) v scope x e natural stands = bound-some f (translated f) names v scope x e natural stands
    translated (quantified All names f) v scope x e natural stands = bound-all f (translated f) names v scope x e natural stands

    each-translated : (fs : Arithmetics) (v : Valuation) (scope : Scope) (x : ℕ) (e : Env) → e.universe ≡ None → Each (Stands e scope v x) (free_places_in_all fs) → EachAgrees m (set_forms fs scope x) e (EachHolds fs v)
    each-translated no_arithmetics v scope x e natural stands = each-none m e
    each-translated (more_arithmetics f fs) v scope x e natural stands =
        each-more m (set_form f scope x) (set_forms fs scope x) e (Holds f v) (EachHolds fs v) (translated f v scope x e natural (each-left (Stands e scope v x) (free_places f) (free_places_in_all fs) stands))
        (each-translated fs v scope x e natural (each-right (Stands e scope v x) (free_places f) (free_places_in_all fs) stands))

    some-translated : (fs : Arithmetics) (v : Valuation) (scope : Scope) (x : ℕ) (e : Env) → e.universe ≡ None → Each (Stands e scope v x) (free_places_in_all fs) → SomeAgrees m (set_forms fs scope x) e (SomeHolds fs v)
    some-translated no_arithmetics v scope x e natural stands = some-none m e
    some-translated (more_arithmetics f fs) v scope x e natural stands =
        some-more m (set_form f scope x) (set_forms fs scope x) e (Holds f v) (SomeHolds fs v) (translated f v scope x e natural (each-left (Stands e scope v x) (free_places f) (free_places_in_all fs) stands))
        (some-translated fs v scope x e natural (each-right (Stands e scope v x) (free_places f) (free_places_in_all fs) stands))
