-- The orders of the bound variables of core formulas.
use Rattle.std.specs.Prelude.{◌≡◌, List}
use Rattle.ms_logic.specs.declared.mode.Order.{Order}
use Rattle.ms_logic_core.specs.CoreForm.{CoreForm, truth, falsity, basic, negation, conjunction, disjunction, implication, equivalence, restrict, imported, quantified, CoreForms, no_forms, more_forms, CoreRestriction, unrestricted, restricted}
use Rattle.ms_logic_core.specs.Orders.{order_at}

-- each variable that is bound in the formula has the order of its number, where the globals have these orders
abbrev mutual
  pub BoundHaveOrders : List Order → CoreForm → Type 0
  BoundHaveOrders orders truth = Unit {0}
  BoundHaveOrders orders falsity = Unit {0}
  BoundHaveOrders orders (basic b) = Unit {0}
  BoundHaveOrders orders (negation f) = BoundHaveOrders orders f
  BoundHaveOrders orders (conjunction fs) = EachHasOrders orders fs
  BoundHaveOrders orders (disjunction fs) = EachHasOrders orders fs
  BoundHaveOrders orders (implication f g) = BoundHaveOrders orders f × BoundHaveOrders orders g
  BoundHaveOrders orders (equivalence f g) = BoundHaveOrders orders f × BoundHaveOrders orders g
  BoundHaveOrders orders (restrict f) = BoundHaveOrders orders f
  BoundHaveOrders orders (imported i xs) = Unit {0}
  BoundHaveOrders orders (quantified q o x d f) = (order_at orders x ≡ o) × RestrictionHasOrders orders d × BoundHaveOrders orders f

  pub EachHasOrders : List Order → CoreForms → Type 0
  EachHasOrders orders no_forms = Unit {0}
  EachHasOrders orders (more_forms f fs) = BoundHaveOrders orders f × EachHasOrders orders fs

  pub RestrictionHasOrders : List Order → CoreRestriction → Type 0
  RestrictionHasOrders orders unrestricted = Unit {0}
  RestrictionHasOrders orders (restricted d) = BoundHaveOrders orders d
