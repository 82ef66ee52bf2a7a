-- Truth hangs on the free names alone.
use Rattle.std.proofs.Common.{◌≡◌, ℕ, ◌*◌, Bool, true, false, cond, ◌||◌, inl, inr, ⊎_elim, List, [], ◌∷◌, refl, sym, ◌∙◌, ap, subst, arith}
use Rattle.std.specs.List.{list_any}
use Rattle.std.specs.Str.{bytes_eq}
use Rattle.std.proofs.lemmas.Slice.Eq.{bytes_eq-Decides}
use Rattle.ms_logic.specs.declared.mode.Quant.TheVariants.{Ex, All}
use Rattle.ms_logic.specs.Lists.{Each}
use Rattle.ms_logic.specs.Truth.{NumbersRelate}
use Rattle.ms_presburger.specs.declared.linear.Part.{Part}
use Rattle.ms_presburger.specs.declared.linear.Part.TheVariants.{Number, Var, Times}
use Rattle.ms_presburger.specs.Numbers.{Valuation, with_number, value_of_sum, AtSome, AtAll, Holds, EachHolds, SomeHolds}
use Rattle.ms_presburger.specs.Tree.{Arithmetic, truth, falsity, comparison, brackets, negation, conjunction, disjunction, implication, equivalence, quantified, Arithmetics, no_arithmetics, more_arithmetics, names_in_sum, except, free_names, free_places, free_places_in_all}
use Rattle.ms_presburger.specs.inner.Laws.{TruthIsOfFreeNames}
use Rattle.ms_presburger.proofs.Named.{IsNamed, once-covers, each-weaker}
use Rattle.ms_presburger.proofs.Scopes.{each-bound, each-left, each-right, except-none}

abbrev SameAt : Valuation → Valuation → List ℕ → Type 0
SameAt v w x = v x ≡ w x

turned : (v w : Valuation) (names : List (List ℕ)) → Each (SameAt v w) names → Each (SameAt w v) names
turned v w = each-weaker (SameAt v w) (SameAt w v) (λ x same. sym same)

sum-same : (v w : Valuation) (parts : List Part) → Each (SameAt v w) (names_in_sum parts) → value_of_sum parts v ≡ value_of_sum parts w
sum-same v w [] same = refl
sum-same v w (Number n ∷ more) same = omega (arith, sum-same v w more same)
sum-same v w (Var x ∷ more) same = omega (arith, same.0, sum-same v w more same.1)
sum-same v w (Times n x ∷ more) same = omega (arith, ap (λ k. n * k) same.0, sum-same v w more same.1)

bound-same : (v w : Valuation) (x : List ℕ) (n : ℕ) (names places : List (List ℕ)) → Each (SameAt v w) (except (x ∷ names) places) → Each (SameAt (with_number x n v) (with_number x n w)) (except names places)
bound-same v w x n =
    each-bound x (SameAt v w) (SameAt (with_number x n v) (with_number x n w))
    (λ y same. ap (λ t. cond t n (v y)) same ∙ sym (ap (λ t. cond t n (w y)) same)) (λ y differs same. ap (λ k. cond (bytes_eq x y) n k) same)

module _ (f : Arithmetic) (body : (v w : Valuation) → Each (SameAt v w) (free_places f) → Holds f v → Holds f w) where
  some-same : (names : List (List ℕ)) (v w : Valuation) → Each (SameAt v w) (except names (free_places f)) → AtSome names (λ u. Holds f u) v → AtSome names (λ u. Holds f u) w
  some-same [] v w same held = body v w (let P : List (List ℕ) → Type 0 = Each (SameAt v w) in subst P (except-none (free_places f)) same) held
  some-same (x ∷ names) v w same held = (held.0, some-same names (with_number x held.0 v) (with_number x held.0 w) (bound-same v w x held.0 names (free_places f) same) held.1)

  all-same : (names : List (List ℕ)) (v w : Valuation) → Each (SameAt v w) (except names (free_places f)) → AtAll names (λ u. Holds f u) v → AtAll names (λ u. Holds f u) w
  all-same [] v w same held = body v w (let P : List (List ℕ) → Type 0 = Each (SameAt v w) in subst P (except-none (free_places f)) same) held
  all-same (x ∷ names) v w same held = λ n. all-same names (with_number x n v) (with_number x n w) (bound-same v w x n names (free_places f) same) (held n)

mutual
  holds-same : (f : Arithmetic) (v w : Valuation) → Each (SameAt v w) (free_places f) → Holds f v → Holds f w
  holds-same truth v w same held = tt
  holds-same falsity v w same held = held
  holds-same (comparison r left right) v w same held =
      let one = sum-same v w left (each-left (SameAt v w) (names_in_sum left) (names_in_sum right) same) in
      let other = sum-same v w right (each-right (SameAt v w) (names_in_sum left) (names_in_sum right) same) in
      let P : ℕ → Type 0 = λ n. NumbersRelate r n (value_of_sum right v) in
      let Q : ℕ → Type 0 = λ n. NumbersRelate r (value_of_sum left w) n in subst Q other (subst P one held)
  holds-same (brackets f) v w same held = holds-same f v w same held
  holds-same (negation f) v w same fails = λ held. fails (holds-same f w v (turned v w (free_places f) same) held)
  holds-same (conjunction fs) v w same held = each-same fs v w same held
  holds-same (disjunction fs) v w same held = any-same fs v w same held
  holds-same (implication f g) v w same leads = λ held.
      holds-same g v w (each-right (SameAt v w) (free_places f) (free_places g) same) (leads (holds-same f w v (turned v w (free_places f) (each-left (SameAt v w) (free_places f) (free_places g) same)) held))
  holds-same (equivalence f g) v w same both =
      let one = each-left (SameAt v w) (free_places f) (free_places g) same in
      let other = each-right (SameAt v w) (free_places f) (free_places g) same in (
        (λ held. holds-same g v w other (both.0 (holds-same f w v (turned v w (free_places f) one) held))),
        (λ held. holds-same f v w one (both.1 (holds-same g w v (turned v w (free_places g) other) held))),
      )
  holds-same (quantified Ex names f) v w same held = some-same f (holds-same f) names v w same held
  holds-same (quantified All names f) v w same held = all-same f (holds-same f) names v w same held

  each-same : (fs : Arithmetics) (v w : Valuation) → Each (SameAt v w) (free_places_in_all fs) → EachHolds fs v → EachHolds fs w
  each-same no_arithmetics v w same held = tt
  each-same (more_arithmetics f fs) v w same held =
      (holds-same f v w (each-left (SameAt v w) (free_places f) (free_places_in_all fs) same) held.0, each-same fs v w (each-right (SameAt v w) (free_places f) (free_places_in_all fs) same) held.1)

  any-same : (fs : Arithmetics) (v w : Valuation) → Each (SameAt v w) (free_places_in_all fs) → SomeHolds fs v → SomeHolds fs w
  any-same no_arithmetics v w same held = held
  any-same (more_arithmetics f fs) v w same held =
      ⊎_elim (λ first. inl (holds-same f v w (each-left (SameAt v w) (free_places f) (free_places_in_all fs) same) first))
      (λ later. inr (any-same fs v w (each-right (SameAt v w) (free_places f) (free_places_in_all fs) same) later)) held

-- what holds of each name of a list holds of each place that the list covers
of-first : (v w : Valuation) (y x : List ℕ) (rest : Bool) → v y ≡ w y → (bytes_eq y x || rest) ≡ true → (rest ≡ true → v x ≡ w x) → (t : Bool) → bytes_eq y x ≡ t → v x ≡ w x
of-first v w y x rest here named later true is = let P : List ℕ → Type 0 = λ z. v z ≡ w z in subst P ((bytes_eq-Decides y x).0 is) here
of-first v w y x rest here named later false is = later (sym (ap (λ t. t || rest) is) ∙ named)

of-named : (v w : Valuation) (names : List (List ℕ)) (x : List ℕ) → Each (SameAt v w) names → IsNamed names x → v x ≡ w x
of-named v w [] x same named = let never : false ≡ true = named in absurd cc
of-named v w (y ∷ names) x same named = of-first v w y x (list_any (λ z. bytes_eq z x) names) same.0 named (of-named v w names x same.1) (bytes_eq y x) refl

pub truth-is-of-free-names : TruthIsOfFreeNames
truth-is-of-free-names f v w same held =
    holds-same f v w (each-weaker (IsNamed (free_names f)) (SameAt v w) (λ x named. of-named v w (free_names f) x same named) (free_places f) (once-covers (free_places f))) held
