-- Bound variables have the orders of their numbers.
use Rattle.std.proofs.Common.{◌≡◌, ℕ, ◌-◌, ◌%◌, ◌<◌, ◌≤◌, min, List, [], ◌∷◌, length, ap, ◌∙◌, arith}
use Rattle.ms_logic.specs.declared.mode.Order.{Order}
use Rattle.ms_logic.specs.Assignment.{Variable}
use Rattle.ms_logic_core.specs.CoreForm.{CoreForm, truth, falsity, basic, negation, conjunction, disjunction, implication, equivalence, restrict, imported, quantified, CoreForms, no_forms, more_forms, CoreRestriction, unrestricted, restricted}
use Rattle.ms_logic_core.specs.Roots.{Root, first_free}
use Rattle.ms_logic.specs.Truth.{Import}
use Rattle.ms_logic.specs.Lists.{Each}
use Rattle.ms_logic_core.specs.Orders.{order_at, order_of_rank, order_or}
use Rattle.ms_logic_core.specs.Stands.{EachStands, RestrictionStands, Stands}
use Rattle.ms_lower.specs.NumberLaws.{numbering_in}
use Rattle.ms_lower.specs.Numbering.{Numbering, number_at, renumbered, renumbered_each, renumbered_in}
use Rattle.ms_lower.specs.inner.Orders.{BoundHaveOrders, EachHasOrders, RestrictionHasOrders}
use Rattle.ms_lower.proofs.Callees.{get-beyond}
use Rattle.ms_lower.proofs.KeptScopes.{have_orders}

-- a number above those of some variables is free
above_free : (vs : List Variable) (x : ℕ) → Each (λ v. v.name < x) vs → first_free vs ≤ x
above_free [] x above = omega arith
above_free (v ∷ vs) x above = let rest = above_free vs x above.1 in let here = above.0 in omega arith

-- a number behind those of the globals has the order of its variable
pub behind_has_order : (orders : List Order) (kept : ℕ) (o : Order) (x : ℕ) → kept ≤ x → order_at orders (number_at kept (length orders) o x) ≡ o
behind_has_order orders kept o x beyond =
    let have = have_orders kept (length orders) o x beyond in
    let y = number_at kept (length orders) o x in
    ap (λ found. order_or found (order_of_rank ((y - length orders) % 3))) (get-beyond orders y have.0) ∙ have.1

module _ (imports : List Import) (kept : ℕ) (known : ℕ → List Variable) (orders : List Order) where
  numbers : Numbering
  numbers = record { number = number_at kept (length orders); imported = known }

  -- what is above a scope is kept by no number
  abbrev IsAbove : List Variable → Type 0
  IsAbove scope = (x : ℕ) → Each (λ v. v.name < x) scope → kept ≤ x

  mutual
    unfolding numbers

    bound_orders : (scope : List Variable) (f : CoreForm) → IsAbove scope → Stands imports scope f → BoundHaveOrders orders (renumbered numbers f)
    bound_orders scope truth above stands = tt
    bound_orders scope falsity above stands = tt
    bound_orders scope (basic b) above stands = tt
    bound_orders scope (negation f) above stands = bound_orders scope f above stands
    bound_orders scope (conjunction fs) above stands = each_orders scope fs above stands
    bound_orders scope (disjunction fs) above stands = each_orders scope fs above stands
    bound_orders scope (implication f g) above stands = (bound_orders scope f above stands.0, bound_orders scope g above stands.1)
    bound_orders scope (equivalence f g) above stands = (bound_orders scope f above stands.0, bound_orders scope g above stands.1)
    bound_orders scope (restrict f) above stands = bound_orders scope f above stands
    bound_orders scope (imported i xs) above stands = tt
    bound_orders scope (quantified q o x d f) above stands = (
      behind_has_order orders kept o x (above x stands.0),
      restriction_orders (record { name = x; order = o } ∷ scope) d (λ y e. above y e.1) stands.1,
      bound_orders (record { name = x; order = o } ∷ scope) f (λ y e. above y e.1) stands.2,
    )

    each_orders : (scope : List Variable) (fs : CoreForms) → IsAbove scope → EachStands imports scope fs → EachHasOrders orders (renumbered_each numbers fs)
    each_orders scope no_forms above stands = tt
    each_orders scope (more_forms f fs) above stands = (bound_orders scope f above stands.0, each_orders scope fs above stands.1)

    restriction_orders : (scope : List Variable) (d : CoreRestriction) → IsAbove scope → RestrictionStands imports scope d → RestrictionHasOrders orders (renumbered_in numbers d)
    restriction_orders scope unrestricted above stands = tt
    restriction_orders scope (restricted d) above stands = bound_orders scope d above stands

-- with the numbers of the answer for a root
pub root_orders : (orders : List Order) (imports : List Import) (root : Root) → Stands imports root.variables root.formula →
    BoundHaveOrders orders (renumbered (numbering_in (length orders) imports root) root.formula)
unfolding numbers
root_orders orders imports root stands =
    bound_orders imports (min (length orders) (first_free root.variables)) (numbering_in (length orders) imports root).imported orders root.variables root.formula
    (λ x e. let f = above_free root.variables x e in omega (arith, f)) stands
