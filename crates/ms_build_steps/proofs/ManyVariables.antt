-- The free variables of the connective of operands are those of an automaton of their children, under the names of these.
use Rattle.std.proofs.Common.{◌≡◌, ℕ, ◌<◌, inl, inr, ⊎_elim, List, [], ◌∷◌, Contains, length, slice_get, slice_index, Some, sym, ap, subst, ◌∙◌, arith}
use Rattle.std.specs.List.{AllZip}
use Rattle.std.specs.List.Sorted.{IsStrictlyIncreasing}
use Rattle.std.proofs.lemmas.List.Elements.{Contains-append_cases, Contains-append_left, Contains-append_right}
use Rattle.std.proofs.lemmas.Option.{same_Some, slice_get_within}
use Rattle.ms_build.specs.Built.{IsReadAt}
use Rattle.ms_build.proofs.WholeLemmas.{rising_equal}
use Rattle.ms_dag.specs.Dag.{places_in_maps}
use Rattle.ms_dag.specs.Laws.{EachHasItsOrders, HaveTheirOrders}
use Rattle.ms_dag.specs.Places.{AreAt, picked}
use Rattle.ms_dag.specs.declared.node.Child.{Child}
use Rattle.ms_dag.specs.declared.node.Entry.{Entry}
use Rattle.ms_dag.proofs.PlaceLemmas.{AreAt-head, AreAt-tail}
use Rattle.ms_dag_steps.specs.Occurrences.{variables_named}
use Rattle.ms_dag_steps.proofs.FreeLemmas.{free_ordered, free_rise}
use Rattle.ms_dag_steps.proofs.JoinedLemmas.{IsNamed, Rise, joined_left, joined_right, joined_there, named}
use Rattle.ms_diagram.proofs.ListLemmas.{Contains-cases, Contains-first, Contains-none, Contains-rest}
use Rattle.ms_diagram.proofs.RootLemmas.{Contains-from_mapped}
use Rattle.ms_logic.specs.Assignment.{Variable}
use Rattle.ms_logic.specs.Lists.{AreRising, IsAmong, IsBelowFirst}
use Rattle.ms_logic.specs.Truth.{Import}
use Rattle.ms_logic.specs.declared.mode.Order.{Order}
use Rattle.ms_logic_core.specs.CoreForm.{CoreForm, conjunction, core_forms}
use Rattle.ms_logic_core.specs.Operands.{variable}
use Rattle.ms_logic_core.specs.Orders.{order_at}
use Rattle.ms_logic_measures.specs.Steps.{free_variables, free_variables_among}
use Rattle.ms_build_steps.proofs.Through.{AreNamed, among_through, through, through_among, through_rises}

pub among_contains : (vs : List Variable) (x : Variable) → IsAmong vs x → Contains vs x
among_contains [] x among = absurd among
among_contains (v ∷ vs) x (inl same) = subst (Contains (v ∷ vs)) same (Contains-first v vs)
among_contains (v ∷ vs) x (inr there) = Contains-rest v vs x (among_contains vs x there)

pub contains_among : (vs : List Variable) (x : Variable) → Contains vs x → IsAmong vs x
contains_among [] x there = absurd (Contains-none x there)
contains_among (v ∷ vs) x there = ⊎_elim (λ first. inl (sym first)) (λ later. inr (contains_among vs x later)) (Contains-cases v vs x there)

below_first : (v : Variable) (vs : List Variable) → ((w : Variable) → Contains vs w → v.name < w.name) → IsBelowFirst v.name vs
below_first v [] below = tt
below_first v (w ∷ vs) below = below w (Contains-first w vs)

rise_rising : (vs : List Variable) → Rise vs → AreRising vs
rise_rising [] rise = tt
rise_rising (v ∷ vs) rise = (below_first v vs rise.0, rise_rising vs rise.1)

module _ (imports : List Import) (globals : List Order) (entries : List Entry) (names : List ℕ) (outer : List Order) where
  -- a child that is an operand: the operand's free variables are the child's own, under the names that its map picks
  pub record IsOperandOf (f : CoreForm) (child : Child) : Type 0 where
    pub have : HaveTheirOrders imports globals f
    pub read : IsReadAt entries outer child
    pub free : free_variables imports f ≡ variables_named (picked names child.map) read.0.orders

  -- a variable under a name stands at a place of a map, and the other way round
  place_of_named : (places : List ℕ) (given : List Order) → AreAt outer places given → (x : Variable) → Contains (variables_named (picked names places) given) x
      → (j : ℕ) × Contains places j × (x.name ≡ slice_index names j) × (slice_get outer j ≡ Some x.order)
  place_of_named [] given at x there = absurd (Contains-none x there)
  place_of_named (p ∷ places) [] at x there = absurd (Contains-none x there)
  place_of_named (p ∷ places) (g ∷ given) at x there = ⊎_elim
      (λ first. (p, Contains-first p places, ap (λ (v : Variable). v.name) first, AreAt-head outer p places g given at ∙ ap (λ (v : Variable). Some v.order) (sym first)))
      (λ later. let found = place_of_named places given (AreAt-tail outer p places g given at) x later in (found.0, Contains-rest p places found.0 found.1, found.2, found.3))
      (Contains-cases (variable (slice_index names p) g) (variables_named (picked names places) given) x there)

  named_at_place : (places : List ℕ) (given : List Order) → AreAt outer places given → (j : ℕ) → Contains places j
      → (g : Order) × (slice_get outer j ≡ Some g) × Contains (variables_named (picked names places) given) (variable (slice_index names j) g)
  named_at_place [] given at j there = absurd (Contains-none j there)
  named_at_place (p ∷ places) [] at j there = absurd (let never : ⊥ = cc in never)
  named_at_place (p ∷ places) (g ∷ given) at j there =
      let here = variable (slice_index names p) g in
      let others = variables_named (picked names places) given in
      ⊎_elim
      (λ first. (g, ap (slice_get outer) first ∙ AreAt-head outer p places g given at, subst (λ n. Contains (here ∷ others) (variable (slice_index names n) g)) (sym first) (Contains-first here others)))
      (λ later. let found = named_at_place places given (AreAt-tail outer p places g given at) j later in (found.0, found.1, Contains-rest here others (variable (slice_index names j) found.0) found.2))
      (Contains-cases p places j there)

  -- so does one that is free in some operand
  free_placed : (operands : List CoreForm) (children : List Child) → AllZip IsOperandOf operands children → (x : Variable) → Contains (free_variables_among imports (core_forms operands)) x
      → (j : ℕ) × Contains (places_in_maps children) j × (x.name ≡ slice_index names j) × (slice_get outer j ≡ Some x.order)
  free_placed [] children are x there = absurd (Contains-none x there)
  free_placed (f ∷ operands) [] are x there = absurd are
  free_placed (f ∷ operands) (c ∷ children) are x there = ⊎_elim
      (λ here. let found = place_of_named c.map are.0.read.0.orders are.0.read.2 x (subst (λ vs. Contains vs x) are.0.free here) in
      (found.0, Contains-append_left c.map (places_in_maps children) found.0 found.1, found.2, found.3))
      (λ later. let found = free_placed operands children are.1 x later in (found.0, Contains-append_right c.map (places_in_maps children) found.0 found.1, found.2, found.3))
      (joined_there (free_variables imports f) (free_variables_among imports (core_forms operands)) x there)

  placed_free : (operands : List CoreForm) (children : List Child) → AllZip IsOperandOf operands children → (j : ℕ) → Contains (places_in_maps children) j
      → (g : Order) × (slice_get outer j ≡ Some g) × IsNamed (free_variables_among imports (core_forms operands)) (slice_index names j) × (order_at globals (slice_index names j) ≡ g)
  placed_free operands [] are j there = absurd (Contains-none j there)
  placed_free [] (c ∷ children) are j there = absurd are
  placed_free (f ∷ operands) (c ∷ children) are j there = ⊎_elim
      (λ here.
      let found = named_at_place c.map are.0.read.0.orders are.0.read.2 j here in
      let own = variable (slice_index names j) found.0 in
      let free = subst (λ vs. Contains vs own) (sym are.0.free) found.2 in (
        found.0,
        found.1,
        joined_left (free_variables imports f) (free_variables_among imports (core_forms operands)) (slice_index names j) (named (free_variables imports f) own free),
        free_ordered imports globals f are.0.have own free,
      ))
      (λ later.
      let found = placed_free operands children are.1 j later in
      (found.0, found.1, joined_right (free_variables imports f) (free_variables_among imports (core_forms operands)) (slice_index names j) found.2, found.3))
      (Contains-append_cases c.map (places_in_maps children) j there)

  pub have_each : (operands : List CoreForm) (children : List Child) → AllZip IsOperandOf operands children → EachHasItsOrders imports globals (core_forms operands)
  have_each [] children are = tt
  have_each (f ∷ operands) [] are = absurd are
  have_each (f ∷ operands) (c ∷ children) are = (are.0.have, have_each operands children are.1)

  -- rising variables at just the places of the maps
  pub record AreOfPlaces (children : List Child) (vs : List Variable) : Type 0 where
    pub rise : AreRising vs
    pub own : (v : Variable) → IsAmong vs v → slice_get outer v.name ≡ Some v.order
    pub only : (v : Variable) → IsAmong vs v → Contains (places_in_maps children) v.name
    pub covers : (j : ℕ) (o : Order) → Contains (places_in_maps children) j → slice_get outer j ≡ Some o → IsAmong vs (record { name = j; order = o })

  module _ (operands : List CoreForm) (children : List Child) (are : AllZip IsOperandOf operands children) (vs : List Variable) (of_places : AreOfPlaces children vs) (rising : IsStrictlyIncreasing names)
      (long : length names ≡ length outer) where
    abbrev free : List Variable
    free = free_variables_among imports (core_forms operands)

    pub are_named : AreNamed names vs
    are_named v among = let less = slice_get_within outer v.name v.order (of_places.own v among) in omega (arith, less, long)

    free_to : (x : Variable) → IsAmong free x → IsAmong (through names vs) x
    free_to x among =
        let found = free_placed operands children are x (among_contains free x among) in
        subst (IsAmong (through names vs)) (λ i. variable (sym found.2 i) x.order)
        (among_through names vs (variable found.0 x.order) (of_places.covers found.0 x.order found.1 found.3))

    free_from : (x : Variable) → IsAmong (through names vs) x → IsAmong free x
    free_from x among =
        let found = through_among names vs x among in
        let v = found.0 in
        let placed = placed_free operands children are v.name (of_places.only v found.1) in
        let member = Contains-from_mapped (λ (u : Variable). u.name) free (slice_index names v.name) placed.2 in
        let own = free_ordered imports globals (conjunction (core_forms operands)) (have_each operands children are) member.0 member.1 in
        let order : member.0.order ≡ v.order = sym own ∙ ap (order_at globals) member.2 ∙ placed.3 ∙ same_Some placed.0 v.order (sym placed.1 ∙ of_places.own v found.1) in
        let same : member.0 ≡ variable (slice_index names v.name) v.order = λ i. variable (member.2 i) (order i) in
        subst (IsAmong free) (same ∙ found.2) (contains_among free member.0 member.1)

    pub free_through : free ≡ through names vs
    free_through =
        rising_equal free (through names vs) (rise_rising free (free_rise imports (conjunction (core_forms operands)))) (through_rises names rising vs are_named of_places.rise) free_to free_from
