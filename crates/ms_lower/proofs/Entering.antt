-- One value more is entered.
use mathlib.Core.Path.{fun_ext}
use Rattle.std.proofs.Common.{◌≡◌, ℕ, zero, suc, ◌+◌, List, [], ◌∷◌, ◌++◌, drop, slice_get, Option, Some, refl, sym, ap, subst, ◌∙◌, arith}
use Rattle.std.proofs.lemmas.Option.{none-some, same_Some}
use Rattle.std.specs.Option.{option_map}
use Rattle.ms_logic.specs.declared.mode.Order.{Order}
use Rattle.ms_logic.specs.declared.mode.Order.TheVariants.{Zero, One, Two}
use Rattle.ms_logic_core.specs.Spread.{Callees, Names, TermSpread, after_first, first_named, numbers_and_sets, spread_number, spread_set, spread_under, truth_value, truth_values, variable_of_form}
use Rattle.ms_logic.specs.Tree.{Term, SetTerm, Argument, Arguments, more_arguments, truth_argument, number_argument, set_argument}
use Rattle.ms_logic.specs.View.{arguments}
use Rattle.ms_lower.specs.declared.defined.Defined.{Defined}
use Rattle.ms_lower.specs.declared.given.Entered.{Entered}
use Rattle.ms_lower.specs.inner.Defined.{IsDefined}
use Rattle.ms_lower.specs.inner.Given.{Giving, IsGiven, IsNumberOrSet, IsTruth, EntersBefore, below_all, below_given_at, entered_with, named_by}
use Rattle.ms_lower.specs.Numbering.{Numbering, renumbered}
use Rattle.ms_lower.specs.inner.Scope.{all_named}
use Rattle.ms_lower.proofs.Defaults.{all_named-append}
use Rattle.ms_lower.proofs.ValueLists.{below_all-append}

-- the variable at a place
first_at : (xs : List ℕ) (i : ℕ) (d : Defined) (names : Names) → first_named d.order (drop i xs) d.name names ≡ all_named (named_by (slice_get xs i) d) names
first_at [] zero d names = refl
first_at [] (suc i) d names = refl
first_at (x ∷ xs) zero d names = refl
first_at (x ∷ xs) (suc i) d names = first_at xs i d names

drop_suc : {A : Type 0} (xs : List A) (i : ℕ) → drop (suc i) xs ≡ drop (i + 1) xs
drop_suc xs i = let next : suc i ≡ i + 1 = omega arith in ap (λ k. drop k xs) next

later_suc : (xs : List ℕ) (i : ℕ) → after_first (drop i xs) ≡ drop (suc i) xs
later_suc [] zero = refl
later_suc [] (suc i) = refl
later_suc (x ∷ xs) zero = refl
later_suc (x ∷ xs) (suc i) = later_suc xs i

pub later_at : (xs : List ℕ) (i : ℕ) → after_first (drop i xs) ≡ drop (i + 1) xs
later_at xs i = later_suc xs i ∙ drop_suc xs i

get_suc : {A : Type 0} (xs : List A) (i : ℕ) (x : A) → slice_get xs i ≡ Some x → drop i xs ≡ x ∷ drop (suc i) xs
get_suc [] zero x is = absurd (none-some x is)
get_suc [] (suc i) x is = absurd (none-some x is)
get_suc (y ∷ xs) zero x is = ap (λ z. z ∷ xs) (same_Some y x is)
get_suc (y ∷ xs) (suc i) x is = get_suc xs i x is

pub drop_get : {A : Type 0} (xs : List A) (i : ℕ) (x : A) → slice_get xs i ≡ Some x → drop i xs ≡ x ∷ drop (i + 1) xs
drop_get xs i x is = get_suc xs i x is ∙ ap (λ l. x ∷ l) (drop_suc xs i)

given_number : (n : Numbering) (t : Term) (names : Names) (free : ℕ) (d : Defined) → IsDefined n One (spread_number t names) free d → IsGiven n One (spread_number t names) free d
given_number n t names free d defined = record { order_is = defined.order_is; says = defined.says }

given_set : (n : Numbering) (s : SetTerm) (names : Names) (free : ℕ) (d : Defined) → IsDefined n Two (spread_set s names) free d → IsGiven n Two (spread_set s names) free d
given_set n s names free d defined = record { order_is = defined.order_is; says = defined.says }

module _ (n : Numbering) (whole : Giving) (free : ℕ) where
  -- the next value is a variable
  pub enters_more : (rest : Giving) (xs : List ℕ) (i : ℕ) (o : Order) (T : TermSpread) (made : Entered) (d : Defined) (variable : Option ℕ) → variable ≡ slice_get xs i → IsGiven n o T made.next d →
      EntersBefore n whole (λ inner free Said. T free (λ free y. rest inner free (λ inner free. Said (first_named o (drop i xs) y inner) free))) free made →
      EntersBefore n whole rest free (entered_with made variable (Some d))
  enters_more rest xs i o T made d variable is given before =
      let one = named_by variable d in
      record {
        says = λ inner Said.
            let at : (inner : Names) → all_named made.named (first_named o (drop i xs) d.name inner) ≡ all_named (made.named ++ one) inner =
            λ inner. ap (all_named made.named) (ap (λ p. first_named p (drop i xs) d.name inner) (sym given.order_is) ∙ (first_at xs i d inner ∙ ap (λ v. all_named (named_by v d) inner) (sym is))) ∙ sym (all_named-append made.named one inner) in
            let same : (λ inner free. Said (all_named made.named (first_named o (drop i xs) d.name inner)) free) ≡ (λ inner free. Said (all_named (made.named ++ one) inner) free) =
            fun_ext (λ inner. ap Said (at inner)) in
            before.says inner Said
            ∙ (ap (below_all made.defined) (given.says (λ free y. rest inner free (λ inner free. Said (all_named made.named (first_named o (drop i xs) y inner)) free))
            ∙ (ap (λ S. below_given_at o d (renumbered n (rest inner d.next S))) same
            ∙ ap (λ p. below_given_at p d (renumbered n (rest inner d.next (λ inner free. Said (all_named (made.named ++ one) inner) free)))) (sym given.order_is)))
            ∙ sym (below_all-append made.defined d (renumbered n (rest inner d.next (λ inner free. Said (all_named (made.named ++ one) inner) free)))));
      }

  number_at_place : (xs : List ℕ) (names : Names) (i : ℕ) (a : Argument) (rest : Arguments) (value : Option Defined) (variable : Option ℕ) (before : Entered) →
      EntersBefore n whole (numbers_and_sets (drop i xs) (more_arguments a rest) names) free before → IsNumberOrSet n a names before.next value → variable ≡ slice_get xs i →
      EntersBefore n whole (numbers_and_sets (after_first (drop i xs)) rest names) free (entered_with before variable value)
  number_at_place xs names i (truth_argument f) rest value variable before enters none is =
      subst (λ v. EntersBefore n whole (numbers_and_sets (after_first (drop i xs)) rest names) free (entered_with before variable v)) (sym none) enters
  number_at_place xs names i (number_argument t) rest value variable before enters found is =
      subst (λ v. EntersBefore n whole (numbers_and_sets (after_first (drop i xs)) rest names) free (entered_with before variable v)) (sym found.1)
      (enters_more (numbers_and_sets (after_first (drop i xs)) rest names) xs i One (spread_number t names) before found.0 variable is (given_number n t names before.next found.0 found.2) enters)
  number_at_place xs names i (set_argument s) rest value variable before enters found is =
      subst (λ v. EntersBefore n whole (numbers_and_sets (after_first (drop i xs)) rest names) free (entered_with before variable v)) (sym found.1)
      (enters_more (numbers_and_sets (after_first (drop i xs)) rest names) xs i Two (spread_set s names) before found.0 variable is (given_set n s names before.next found.0 found.2) enters)

  -- one number or set more
  pub number_entered : (xs : List ℕ) (vals : List Argument) (names : Names) (i : ℕ) (a : Argument) (value : Option Defined) (variable : Option ℕ) (before after : Entered) →
      EntersBefore n whole (numbers_and_sets (drop i xs) (arguments (drop i vals)) names) free before → slice_get vals i ≡ Some a → IsNumberOrSet n a names before.next value → variable ≡ slice_get xs i →
      after ≡ entered_with before variable value → EntersBefore n whole (numbers_and_sets (drop (i + 1) xs) (arguments (drop (i + 1) vals)) names) free after
  number_entered xs vals names i a value variable before after enters at found is made =
      let split = drop_get vals i a at in
      let here = subst (λ vs. EntersBefore n whole (numbers_and_sets (drop i xs) (arguments vs) names) free before) split enters in
      subst (EntersBefore n whole (numbers_and_sets (drop (i + 1) xs) (arguments (drop (i + 1) vals)) names) free) (sym made)
      (subst (λ ys. EntersBefore n whole (numbers_and_sets ys (arguments (drop (i + 1) vals)) names) free (entered_with before variable value)) (later_at xs i)
      (number_at_place xs names i a (arguments (drop (i + 1) vals)) value variable before here found is))

  truth_at_place : (c : Callees) (xs : List ℕ) (names : Names) (i : ℕ) (a : Argument) (rest : Arguments) (value : Option Defined) (variable : Option ℕ) (before : Entered) →
      EntersBefore n whole (truth_values c (drop i xs) (more_arguments a rest) names) free before → IsTruth n c a names before.next value → variable ≡ slice_get xs i →
      EntersBefore n whole (truth_values c (after_first (drop i xs)) rest names) free (entered_with before variable value)
  truth_at_place c xs names i (truth_argument f) rest value variable before enters found is =
      subst (λ v. EntersBefore n whole (truth_values c (after_first (drop i xs)) rest names) free (entered_with before variable v)) (sym found.1)
      (enters_more (truth_values c (after_first (drop i xs)) rest names) xs i Zero (truth_value (option_map (names Zero) (variable_of_form f)) (spread_under c f names)) before found.0 variable is found.2 enters)
  truth_at_place c xs names i (number_argument t) rest value variable before enters none is =
      subst (λ v. EntersBefore n whole (truth_values c (after_first (drop i xs)) rest names) free (entered_with before variable v)) (sym none) enters
  truth_at_place c xs names i (set_argument s) rest value variable before enters none is =
      subst (λ v. EntersBefore n whole (truth_values c (after_first (drop i xs)) rest names) free (entered_with before variable v)) (sym none) enters

  -- one truth value more
  pub truth_entered : (c : Callees) (xs : List ℕ) (vals : List Argument) (names : Names) (i : ℕ) (a : Argument) (value : Option Defined) (variable : Option ℕ) (before after : Entered) →
      EntersBefore n whole (truth_values c (drop i xs) (arguments (drop i vals)) names) free before → slice_get vals i ≡ Some a → IsTruth n c a names before.next value → variable ≡ slice_get xs i →
      after ≡ entered_with before variable value → EntersBefore n whole (truth_values c (drop (i + 1) xs) (arguments (drop (i + 1) vals)) names) free after
  truth_entered c xs vals names i a value variable before after enters at found is made =
      let split = drop_get vals i a at in
      let here = subst (λ vs. EntersBefore n whole (truth_values c (drop i xs) (arguments vs) names) free before) split enters in
      subst (EntersBefore n whole (truth_values c (drop (i + 1) xs) (arguments (drop (i + 1) vals)) names) free) (sym made)
      (subst (λ ys. EntersBefore n whole (truth_values c ys (arguments (drop (i + 1) vals)) names) free (entered_with before variable value)) (later_at xs i)
      (truth_at_place c xs names i a (arguments (drop (i + 1) vals)) value variable before here found is))
