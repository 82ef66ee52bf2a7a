-- A relation holds of its operands where it holds of values by their places.
use Rattle.std.proofs.Common.{◌≡◌, ℕ, ◌+◌, ◌↔◌, true, List, slice_get, Some, refl, sym, ap, subst, ◌∙◌, arith}
use Rattle.ms_logic.specs.Assignment.{Env, Variable, value_at}
use Rattle.ms_logic.specs.FiniteSet.{IsSubset, difference_of, greatest, intersection_of, is_member, least, moved_down, moved_up, one_bits, union_of}
use Rattle.ms_logic.specs.Terms.{part_within}
use Rattle.ms_logic.specs.declared.mode.Order.TheVariants.{Zero, One, Two}
use Rattle.ms_logic_core.specs.CoreForm.{Holds}
use Rattle.ms_logic_core.specs.Operands.{at_places, variable, variables_of_basic}
use Rattle.ms_logic_core.specs.declared.core_formula.Basic.{Basic}
use Rattle.ms_logic_core.specs.declared.core_formula.Basic.TheVariants.{Truth, Number, Plus, Less, Member, Sub, Union, Inter, Diff, Up, Down, Min, Max, Bits}
use Rattle.ms_logic_core.proofs.SayingTerms.{number_in, set_in}
use Rattle.ms_logic_core.proofs.SpreadKeeps.{truth_in}

-- f gives the places what e gives the operands
abbrev pub GivesByPlace : List Variable → Env → Env → Type 0
GivesByPlace vs e f = (i : ℕ) (v : Variable) → slice_get vs i ≡ Some v → value_at v.order i f ≡ value_at v.order v.name e

module _ (e f : Env) (universe : f.universe ≡ e.universe) where
  -- along equal sides
  sides : {A : Type 0} (a b : A) {a' b' : A} → a' ≡ a → b' ≡ b → (a ≡ b) ↔ (a' ≡ b')
  sides a b first second = (λ is. first ∙ is ∙ sym second, λ is. sym first ∙ is ∙ second)

  -- a function of the sets at places 1 and 2
  of_sets : (g : List ℕ → List ℕ → List ℕ) (t u : ℕ) → f.set 1 ≡ e.set t → f.set 2 ≡ e.set u → g (f.set 1) (f.set 2) ≡ g (e.set t) (e.set u)
  of_sets g t u second third k = g (second k) (third k)

  pub holds_by_place : (b : Basic) → GivesByPlace (variables_of_basic b) e f → Holds b e ↔ Holds (at_places b) f
  holds_by_place (Truth a) same = sides (e.truth a) true (ap truth_in (same 0 (variable a Zero) refl)) refl
  holds_by_place (Number x n) same = sides (e.number x) n (ap number_in (same 0 (variable x One) refl)) refl
  holds_by_place (Plus x y n) same =
      sides (e.number x) (e.number y + n) (ap number_in (same 0 (variable x One) refl)) (ap (λ k. k + n) (ap number_in (same 1 (variable y One) refl)))
  holds_by_place (Less x y) same =
      let first = ap number_in (same 0 (variable x One) refl) in
      let second = ap number_in (same 1 (variable y One) refl) in
      (λ less. omega (arith, first, second, less), λ less. omega (arith, first, second, less))
  holds_by_place (Member x s) same =
      let first = ap number_in (same 0 (variable x One) refl) in
      let second = ap set_in (same 1 (variable s Two) refl) in
      sides (is_member (e.number x) (e.set s)) true (λ k. is_member (first k) (second k)) refl
  holds_by_place (Sub s t) same =
      let first = ap set_in (same 0 (variable s Two) refl) in
      let second = ap set_in (same 1 (variable t Two) refl) in
      let is : IsSubset (f.set 0) (f.set 1) ≡ IsSubset (e.set s) (e.set t) = λ k. IsSubset (first k) (second k) in
      (λ holds. subst (λ (P : Type 0). P) (sym is) holds, λ holds. subst (λ (P : Type 0). P) is holds)
  holds_by_place (Union s t u) same =
      sides (e.set s) (union_of (e.set t) (e.set u)) (ap set_in (same 0 (variable s Two) refl))
      (of_sets union_of t u (ap set_in (same 1 (variable t Two) refl)) (ap set_in (same 2 (variable u Two) refl)))
  holds_by_place (Inter s t u) same =
      sides (e.set s) (intersection_of (e.set t) (e.set u)) (ap set_in (same 0 (variable s Two) refl))
      (of_sets intersection_of t u (ap set_in (same 1 (variable t Two) refl)) (ap set_in (same 2 (variable u Two) refl)))
  holds_by_place (Diff s t u) same =
      sides (e.set s) (difference_of (e.set t) (e.set u)) (ap set_in (same 0 (variable s Two) refl))
      (of_sets difference_of t u (ap set_in (same 1 (variable t Two) refl)) (ap set_in (same 2 (variable u Two) refl)))
  holds_by_place (Up s t n) same =
      let second = ap set_in (same 1 (variable t Two) refl) in
      sides (e.set s) (part_within e.universe (moved_up n (e.set t))) (ap set_in (same 0 (variable s Two) refl)) (λ k. part_within (universe k) (moved_up n (second k)))
  holds_by_place (Down s t n) same =
      sides (e.set s) (moved_down n (e.set t)) (ap set_in (same 0 (variable s Two) refl)) (ap (moved_down n) (ap set_in (same 1 (variable t Two) refl)))
  holds_by_place (Min x s) same = sides (e.number x) (least (e.set s)) (ap number_in (same 0 (variable x One) refl)) (ap least (ap set_in (same 1 (variable s Two) refl)))
  holds_by_place (Max x s) same = sides (e.number x) (greatest (e.set s)) (ap number_in (same 0 (variable x One) refl)) (ap greatest (ap set_in (same 1 (variable s Two) refl)))
  holds_by_place (Bits s n) same = sides (e.set s) (part_within e.universe (one_bits n)) (ap set_in (same 0 (variable s Two) refl)) (ap (λ u. part_within u (one_bits n)) universe)
