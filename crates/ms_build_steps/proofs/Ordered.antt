-- The variables of a subformula have their orders, too.
use Rattle.std.proofs.Common.{◌≡◌, ℕ, zero, suc, inl, inr, List, [], ◌∷◌, slice_get, Some, sym, subst}
use Rattle.std.proofs.lemmas.Option.{none-some, same_Some}
use Rattle.ms_dag.specs.Laws.{EachHasItsOrders, HaveTheirOrders, RestrictionHasItsOrders}
use Rattle.ms_dag.specs.Lowered.{IsLowered, IsLoweredRoot}
use Rattle.ms_dag_steps.specs.Occurrences.{whole_formula}
use Rattle.ms_dag_steps.specs.Subformulas.{IsSubformula, IsSubformulaOfOne, IsSubformulaOfRestriction}
use Rattle.ms_logic.specs.Lists.{Each}
use Rattle.ms_logic.specs.Truth.{Import}
use Rattle.ms_logic.specs.declared.mode.Order.{Order}
use Rattle.ms_logic_core.specs.Calls.{Calls}
use Rattle.ms_logic_core.specs.declared.core_formula.Lowered.{Lowered}
use Rattle.ms_logic_core.specs.declared.core_formula.Root.{Root}
use Rattle.ms_logic_core.specs.CoreForm.{CoreForm, truth, falsity, basic, negation, conjunction, disjunction, implication, equivalence, restrict, imported, quantified, CoreForms, no_forms, more_forms, CoreRestriction, unrestricted, restricted}

module _ (imports : List Import) (orders : List Order) where
  abbrev Have : CoreForm → Type 0
  Have f = HaveTheirOrders imports orders f

  mutual
    pub ordered : (g f : CoreForm) → Have g → IsSubformula f g → Have f
    ordered truth f have is = subst Have (sym is) have
    ordered falsity f have is = subst Have (sym is) have
    ordered (basic b) f have is = subst Have (sym is) have
    ordered (negation g) f have (inl same) = subst Have (sym same) have
    ordered (negation g) f have (inr inside) = ordered g f have inside
    ordered (conjunction gs) f have (inl same) = subst Have (sym same) have
    ordered (conjunction gs) f have (inr inside) = ordered_one gs f have inside
    ordered (disjunction gs) f have (inl same) = subst Have (sym same) have
    ordered (disjunction gs) f have (inr inside) = ordered_one gs f have inside
    ordered (implication g h) f have (inl same) = subst Have (sym same) have
    ordered (implication g h) f have (inr (inl inside)) = ordered g f have.0 inside
    ordered (implication g h) f have (inr (inr inside)) = ordered h f have.1 inside
    ordered (equivalence g h) f have (inl same) = subst Have (sym same) have
    ordered (equivalence g h) f have (inr (inl inside)) = ordered g f have.0 inside
    ordered (equivalence g h) f have (inr (inr inside)) = ordered h f have.1 inside
    ordered (restrict g) f have (inl same) = subst Have (sym same) have
    ordered (restrict g) f have (inr inside) = ordered g f have inside
    ordered (imported i xs) f have is = subst Have (sym is) have
    ordered (quantified q o x d g) f have (inl same) = subst Have (sym same) have
    ordered (quantified q o x d g) f have (inr (inl inside)) = ordered_restriction d f have.1 inside
    ordered (quantified q o x d g) f have (inr (inr inside)) = ordered g f have.2 inside

    ordered_one : (gs : CoreForms) (f : CoreForm) → EachHasItsOrders imports orders gs → IsSubformulaOfOne f gs → Have f
    ordered_one no_forms f have is = absurd is
    ordered_one (more_forms g gs) f have (inl inside) = ordered g f have.0 inside
    ordered_one (more_forms g gs) f have (inr inside) = ordered_one gs f have.1 inside

    ordered_restriction : (d : CoreRestriction) (f : CoreForm) → RestrictionHasItsOrders imports orders d → IsSubformulaOfRestriction f d → Have f
    ordered_restriction unrestricted f have is = absurd is
    ordered_restriction (restricted g) f have is = ordered g f have is

pub each_at : {A : Type 0} (P : A → Type 0) (xs : List A) → Each P xs → (k : ℕ) (x : A) → slice_get xs k ≡ Some x → P x
each_at P [] each k x held = absurd (none-some x held)
each_at P (y ∷ ys) each zero x held = subst P (same_Some y x held) each.0
each_at P (y ∷ ys) each (suc k) x held = each_at P ys each.1 k x held

-- so have those of each subformula of a root
pub ordered_in_root : (imports : List Import) (calls : Calls) (lowered : Lowered) → IsLowered imports calls lowered → (number : ℕ) (root : Root) → slice_get lowered.roots number ≡ Some root → (f : CoreForm)
    → IsSubformula f (whole_formula calls root) → HaveTheirOrders imports lowered.orders f
ordered_in_root imports calls lowered is number root is_root f inside =
    ordered imports lowered.orders (whole_formula calls root) f (each_at (IsLoweredRoot imports calls lowered.orders) lowered.roots is.roots number root is_root).orders_of_all inside
