-- A formula has no more free places than parts of sums, and no more free names.
use Rattle.std.proofs.Common.{◌≡◌, ℕ, ◌≤◌, suc, true, false, not, cond, List, [], ◌∷◌, length, arith, ap}
use Rattle.std.specs.List.{list_any}
use Rattle.std.specs.Str.{bytes_eq}
use Rattle.std.proofs.lemmas.List.{length-append}
use Rattle.ms_presburger.specs.declared.linear.Part.{Part}
use Rattle.ms_presburger.specs.declared.linear.Part.TheVariants.{Number, Var, Times}
use Rattle.ms_presburger.specs.Tree.{Arithmetic, truth, falsity, comparison, brackets, negation, conjunction, disjunction, implication, equivalence, quantified, Arithmetics, no_arithmetics, more_arithmetics, names_in_sum, except, each_once, extent, extent_of_all, free_names, free_places, free_places_in_all}

few-except : (bound names : List (List ℕ)) → length (except bound names) ≤ length names
few-except bound [] = omega arith
few-except bound (x ∷ names) =
    elim (not (list_any (λ y. bytes_eq y x) bound)) as (λ t. length (cond t (x ∷ except bound names) (except bound names)) ≤ suc (length names)) [ true ↦ omega (arith, few-except bound names) | false ↦ omega (arith, few-except bound names) ]

few-once : (names : List (List ℕ)) → length (each_once names) ≤ length names
few-once [] = omega arith
few-once (x ∷ names) = omega (arith, few-except (x ∷ []) (each_once names), few-once names)

few-in-sum : (parts : List Part) → length (names_in_sum parts) ≤ length parts
few-in-sum [] = omega arith
few-in-sum (Number n ∷ more) = omega (arith, few-in-sum more)
few-in-sum (Var x ∷ more) = omega (arith, few-in-sum more)
few-in-sum (Times n x ∷ more) = omega (arith, few-in-sum more)

mutual
  few-places : (f : Arithmetic) → length (free_places f) ≤ extent f
  few-places truth = omega arith
  few-places falsity = omega arith
  few-places (comparison r left right) = omega (arith, length-append (names_in_sum left) (names_in_sum right), few-in-sum left, few-in-sum right)
  few-places (brackets f) = few-places f
  few-places (negation f) = few-places f
  few-places (conjunction fs) = few-places-in-all fs
  few-places (disjunction fs) = few-places-in-all fs
  few-places (implication f g) = omega (arith, length-append (free_places f) (free_places g), few-places f, few-places g)
  few-places (equivalence f g) = omega (arith, length-append (free_places f) (free_places g), few-places f, few-places g)
  few-places (quantified q xs f) = omega (arith, few-except xs (free_places f), few-places f)

  few-places-in-all : (fs : Arithmetics) → length (free_places_in_all fs) ≤ extent_of_all fs
  few-places-in-all no_arithmetics = omega arith
  few-places-in-all (more_arithmetics f fs) = omega (arith, length-append (free_places f) (free_places_in_all fs), few-places f, few-places-in-all fs)

pub few-names : (names : List (List ℕ)) (f : Arithmetic) → names ≡ free_names f → length names ≤ extent f
few-names names f is = omega (arith, ap (λ (l : List (List ℕ)). length l) is, few-once (free_places f), few-places f)
