-- A formula whose variables stand in their scopes, with their orders, is in scope.
use Rattle.std.proofs.Common.{◌≡◌, ℕ, ◌<◌, List, [], ◌∷◌, length, map, slice_get, All, Contains, subst, ⊎_elim, arith}
use Rattle.std.proofs.lemmas.List.Elements.{All-nil, All-cons, All-head, All-tail}
use Rattle.ms_diagram.proofs.ListLemmas.{Contains-first, Contains-rest}
use Rattle.ms_logic_core.specs.declared.core_formula.Root as code
use Rattle.ms_logic.specs.declared.mode.Order.{Order}
use Rattle.ms_logic.specs.Assignment.{Variable}
use Rattle.ms_logic_core.specs.CoreForm.{CoreForm, truth, falsity, basic, negation, conjunction, disjunction, implication, equivalence, restrict, imported, quantified, CoreForms, no_forms, more_forms, CoreRestriction, unrestricted, restricted, core_form_of}
use Rattle.ms_logic_core.specs.Spread.{variables_of_import}
use Rattle.ms_logic_core.specs.Operands.{variable, variables_of_basic, variables_at}
use Rattle.ms_logic.specs.Truth.{Import}
use Rattle.ms_logic.specs.Lists.{Each, IsAmong}
use Rattle.ms_logic_core.specs.Calls.{Calls, filled}
use Rattle.ms_logic_core.specs.Stands.{Stands, EachStands, RestrictionStands}
use Rattle.ms_dag.specs.Laws.{HasOrder, HaveTheirOrders, EachHasItsOrders, RestrictionHasItsOrders}
use Rattle.ms_dag.specs.Lowered.{IsLoweredRoot}
use Rattle.ms_dag.specs.Places.{AreBelow}
use Rattle.ms_dag.specs.inner.Scope.{IsInScope, AreInScope, IsRestrictionInScope, IsRootInScope}

abbrev names : List Variable → List ℕ
names vs = map (λ v. v.name) vs

name_among : (scope : List Variable) (v : Variable) → IsAmong scope v → Contains (names scope) v.name
name_among [] v among = absurd among
name_among (w ∷ ws) v among =
    ⊎_elim (λ here. subst (λ (one : Variable). Contains (w.name ∷ names ws) one.name) here (Contains-first w.name (names ws)))
    (λ later. Contains-rest w.name (names ws) v.name (name_among ws v later)) among

basic_in : (orders : List Order) (scope vs : List Variable) → Each (IsAmong scope) vs → All (HasOrder orders) vs → All (λ (v : Variable). Contains (names scope) v.name × HasOrder orders v) vs
basic_in orders scope [] stand ordered = All-nil (λ (v : Variable). Contains (names scope) v.name × HasOrder orders v)
basic_in orders scope (v ∷ vs) stand ordered =
    All-cons (λ (w : Variable). Contains (names scope) w.name × HasOrder orders w) v vs (name_among scope v stand.0, All-head (HasOrder orders) v vs ordered) (basic_in orders scope vs stand.1 (All-tail (HasOrder orders) v vs ordered))

import_in : (scope : List Variable) (xs : List ℕ) (vs : List Variable) → length xs ≡ length vs → Each (IsAmong scope) (variables_at xs vs) → All (Contains (names scope)) xs
import_in scope [] vs long stand = All-nil (Contains (names scope))
import_in scope (x ∷ xs) [] long stand = absurd (omega (arith, long))
import_in scope (x ∷ xs) (v ∷ vs) long stand =
    All-cons (Contains (names scope)) x xs (name_among scope (variable x v.order) stand.0) (import_in scope xs vs (omega (arith, long)) stand.1)

below_in : (scope : List Variable) (x : ℕ) → Each (λ (v : Variable). v.name < x) scope → AreBelow x (names scope)
below_in [] x each = All-nil (λ y. y < x)
below_in (v ∷ vs) x each = All-cons (λ y. y < x) v.name (names vs) each.0 (below_in vs x each.1)

module _ (imports : List Import) (orders : List Order) where
  mutual
    stands_in_scope : (f : CoreForm) (scope : List Variable) → Stands imports scope f → HaveTheirOrders imports orders f → IsInScope orders (names scope) f
    stands_in_scope truth scope stands ordered = tt
    stands_in_scope falsity scope stands ordered = tt
    stands_in_scope (basic b) scope stands ordered = basic_in orders scope (variables_of_basic b) stands ordered
    stands_in_scope (negation f) scope stands ordered = stands_in_scope f scope stands ordered
    stands_in_scope (conjunction fs) scope stands ordered = each_in_scope fs scope stands ordered
    stands_in_scope (disjunction fs) scope stands ordered = each_in_scope fs scope stands ordered
    stands_in_scope (implication f g) scope stands ordered = (stands_in_scope f scope stands.0 ordered.0, stands_in_scope g scope stands.1 ordered.1)
    stands_in_scope (equivalence f g) scope stands ordered = (stands_in_scope f scope stands.0 ordered.0, stands_in_scope g scope stands.1 ordered.1)
    stands_in_scope (restrict f) scope stands ordered = stands_in_scope f scope stands ordered
    stands_in_scope (imported i xs) scope stands ordered = import_in scope xs (variables_of_import (slice_get imports i)) stands.0 stands.1
    stands_in_scope (quantified q o x d f) scope stands ordered =
        (below_in scope x stands.0, ordered.0, restriction_in_scope d (variable x o ∷ scope) stands.1 ordered.1, stands_in_scope f (variable x o ∷ scope) stands.2 ordered.2)

    each_in_scope : (fs : CoreForms) (scope : List Variable) → EachStands imports scope fs → EachHasItsOrders imports orders fs → AreInScope orders (names scope) fs
    each_in_scope no_forms scope stands ordered = tt
    each_in_scope (more_forms f fs) scope stands ordered = (stands_in_scope f scope stands.0 ordered.0, each_in_scope fs scope stands.1 ordered.1)

    restriction_in_scope : (d : CoreRestriction) (scope : List Variable) → RestrictionStands imports scope d → RestrictionHasItsOrders imports orders d → IsRestrictionInScope orders (names scope) d
    restriction_in_scope unrestricted scope stands ordered = tt
    restriction_in_scope (restricted d) scope stands ordered = stands_in_scope d scope stands ordered

  module _ (calls : Calls) where
    root_in_scope : (root : code.Root) → IsLoweredRoot imports calls orders root → IsRootInScope calls orders root
    root_in_scope root is = record {
      rising = is.rising;
      formula = subst (λ list. IsInScope orders list (filled calls (core_form_of root.core))) is.variables (stands_in_scope (filled calls (core_form_of root.core)) is.own is.stands is.orders_of_all);
    }

    pub roots_in_scope : (roots : List code.Root) → Each (IsLoweredRoot imports calls orders) roots → All (IsRootInScope calls orders) roots
    roots_in_scope [] each = All-nil (IsRootInScope calls orders)
    roots_in_scope (root ∷ roots) each = All-cons (IsRootInScope calls orders) root roots (root_in_scope root each.0) (roots_in_scope roots each.1)
