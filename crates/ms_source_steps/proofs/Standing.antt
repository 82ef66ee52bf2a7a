-- Where the variables of a core formula stand is the same for imports whose variables have the same orders.
use Rattle.std.proofs.Common.{◌≡◌, ℕ, List, [], ◌∷◌, length, map, slice_get, sym, ap, ap₂, subst, ◌∙◌, refl, arith}
use Rattle.std.proofs.lemmas.List.{length-map}
use Rattle.ms_build_source.proofs.ImportAnswers.{orders_alike}
use Rattle.ms_dag.specs.Lowered.{IsLowered, IsLoweredRoot}
use Rattle.ms_logic.specs.Assignment.{Variable}
use Rattle.ms_logic.specs.Lists.{Each, IsAmong}
use Rattle.ms_logic.specs.Truth.{Import}
use Rattle.ms_logic.specs.declared.mode.Order.{Order}
use Rattle.ms_logic_core.specs.Calls.{Calls, filled}
use Rattle.ms_logic_core.specs.CoreForm.{CoreForm, truth, falsity, basic, negation, conjunction, disjunction, implication, equivalence, restrict, imported, quantified, CoreForms, no_forms, more_forms, CoreRestriction, unrestricted, restricted, core_form_of}
use Rattle.ms_logic_core.specs.Operands.{variables_at}
use Rattle.ms_logic_core.specs.Spread.{variables_of_import}
use Rattle.ms_logic_core.specs.Stands.{EachStands, RestrictionStands, Stands}
use Rattle.ms_logic_core.specs.declared.core_formula.Lowered.{Lowered}
use Rattle.ms_logic_core.specs.declared.core_formula.Root.{Root}

abbrev pub orders_of : List Variable → List Order
orders_of variables = map (λ v. v.order) variables

pub variables_by_orders : (xs : List ℕ) (vs ws : List Variable) → orders_of vs ≡ orders_of ws → variables_at xs vs ≡ variables_at xs ws
variables_by_orders [] vs ws same = refl
variables_by_orders (x ∷ xs) [] [] same = refl
variables_by_orders (x ∷ xs) [] (w ∷ ws) same = absurd (let none = ap length same in omega (arith, none))
variables_by_orders (x ∷ xs) (v ∷ vs) [] same = absurd (let none = ap length same in omega (arith, none))
variables_by_orders (x ∷ xs) (v ∷ vs) (w ∷ ws) same =
    let first : v.order ≡ w.order = cc in
    let others : orders_of vs ≡ orders_of ws = cc in
    ap₂ (λ (o : Order) (us : List Variable). record { name = x; order = o } ∷ us) first (variables_by_orders xs vs ws others)

module _ (first second : List Import) (alike : (i : ℕ) → orders_of (variables_of_import (slice_get first i)) ≡ orders_of (variables_of_import (slice_get second i))) where
  as_many : (i : ℕ) → length (variables_of_import (slice_get first i)) ≡ length (variables_of_import (slice_get second i))
  as_many i =
      sym (length-map (variables_of_import (slice_get first i)) (λ (v : Variable). v.order)) ∙ ap length (alike i)
      ∙ length-map (variables_of_import (slice_get second i)) (λ (v : Variable). v.order)

  mutual
    pub stands_alike : (f : CoreForm) (scope : List Variable) → Stands first scope f → Stands second scope f
    stands_alike truth scope stands = tt
    stands_alike falsity scope stands = tt
    stands_alike (basic b) scope stands = stands
    stands_alike (negation f) scope stands = stands_alike f scope stands
    stands_alike (conjunction fs) scope stands = each_stands_alike fs scope stands
    stands_alike (disjunction fs) scope stands = each_stands_alike fs scope stands
    stands_alike (implication f g) scope stands = (stands_alike f scope stands.0, stands_alike g scope stands.1)
    stands_alike (equivalence f g) scope stands = (stands_alike f scope stands.0, stands_alike g scope stands.1)
    stands_alike (restrict f) scope stands = stands_alike f scope stands
    stands_alike (imported i xs) scope stands = (
      stands.0 ∙ as_many i,
      subst (Each (IsAmong scope)) (variables_by_orders xs (variables_of_import (slice_get first i)) (variables_of_import (slice_get second i)) (alike i)) stands.1,
    )
    stands_alike (quantified q o x d f) scope stands = (
      stands.0,
      range_stands_alike d (record { name = x; order = o } ∷ scope) stands.1,
      stands_alike f (record { name = x; order = o } ∷ scope) stands.2,
    )

    each_stands_alike : (fs : CoreForms) (scope : List Variable) → EachStands first scope fs → EachStands second scope fs
    each_stands_alike no_forms scope stands = tt
    each_stands_alike (more_forms f fs) scope stands = (stands_alike f scope stands.0, each_stands_alike fs scope stands.1)

    range_stands_alike : (d : CoreRestriction) (scope : List Variable) → RestrictionStands first scope d → RestrictionStands second scope d
    range_stands_alike unrestricted scope stands = tt
    range_stands_alike (restricted d) scope stands = stands_alike d scope stands

  -- so what lowering gives is lowered over both
  roots_alike : (calls : Calls) (orders : List Order) (roots : List Root) → Each (IsLoweredRoot first calls orders) roots → Each (IsLoweredRoot second calls orders) roots
  roots_alike calls orders [] each = tt
  roots_alike calls orders (root ∷ roots) each = (
    record {
      rising = each.0.rising;
      own = each.0.own;
      variables = each.0.variables;
      listed = each.0.listed;
      stands = stands_alike (filled calls (core_form_of root.core)) each.0.own each.0.stands;
      orders_of_all = orders_alike orders first second alike (filled calls (core_form_of root.core)) each.0.orders_of_all;
    },
    roots_alike calls orders roots each.1,
  )

  pub lowered_alike : (calls : Calls) (lowered : Lowered) → IsLowered first calls lowered → IsLowered second calls lowered
  lowered_alike calls lowered is = record { roots = roots_alike calls lowered.orders lowered.roots is.roots }
