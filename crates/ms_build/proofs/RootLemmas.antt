-- The automaton of a root, and its variables.
use Rattle.std.proofs.Common.{◌≡◌, ℕ, zero, suc, ◌+◌, ◌<◌, inl, inr, Option, None, Result, Ok, Err, IfOk, List, [], ◌∷◌, ◌++◌, Contains, length, map, take, slice_get, slice_index, Some, refl, sym, ap, ap₂, subst, ◌∙◌, arith}
use Rattle.std.specs.List.Sorted.{IsStrictlyIncreasing}
use Rattle.std.proofs.lemmas.Option.{none-some, same_Some, slice_get_within, slice_get-map, slice_get-get_or}
use Rattle.std.specs.List.{AllZip, range_with_len, sum}
use Rattle.std.specs.Option.{option_map}
use Rattle.ms_dag.specs.declared.dag.SharedRoot.{SharedRoot}
use Rattle.std.proofs.lemmas.List.Elements.{All-contains}
use Rattle.ms_dag.specs.declared.dag.Dag.{Dag}
use Rattle.ms_logic_core.specs.Calls.{Calls}
use Rattle.ms_logic_core.specs.Orders.{order_at}
use Rattle.ms_dag.specs.declared.node.Entry.{Entry}
use Rattle.ms_dag.specs.Places.{AreAt}
use Rattle.ms_dag.specs.Lowered.{IsLowered, IsLoweredRoot}
use Rattle.ms_logic.specs.Truth.{Import}
use Rattle.ms_logic.specs.Lists.{Each, AreRising, IsAmong}
use Rattle.ms_dag.specs.Share.{AreRootsOf, IsDagOf, IsRootOf, children_of_roots, variables_of_roots}
use Rattle.ms_logic_core.specs.declared.core_formula.Lowered.{Lowered}
use Rattle.ms_build.specs.declared.plan.Plan.{Plan}
use Rattle.ms_list.specs.declared.fault.StepFault.{StepFault}
use Rattle.ms_logic_words.specs.Residual.{IsLeast}
use Rattle.ms_dag.specs.declared.node.Child.{Child}
use Rattle.ms_logic.specs.declared.mode.Mode.{Mode}
use Rattle.ms_logic.specs.declared.mode.Order.{Order}
use Rattle.ms_logic.specs.declared.mode.Order.TheVariants.{Zero}
use Rattle.ms_logic_words.specs.declared.sign.Sign.{Sign}
use Rattle.ms_logic.specs.Assignment.{Variable}
use Rattle.ms_logic_words.specs.Content.{Content}
use Rattle.ms_dfa.specs.declared.track.Track.{Track}
use Rattle.ms_dfa.specs.Automaton.{variable_of, variables_of}
use Rattle.std.proofs.lemmas.List.{length-map, map_push, take_more}
use Rattle.std.proofs.lemmas.List.FromFn.{get_or-map-range_with_len, length-range_with_len}
use Rattle.std.proofs.lemmas.List.Sums.{sum_by-cons}
use Rattle.ms_dfa.specs.Values.{Meaning}
use Rattle.ms_build.specs.Built.{HasOnly, IsOver, IsPart, IsReadAt, child_meaning, entries_of, imports_for}
use Rattle.ms_build.specs.Roots.{AreRootVariables, AreRootsRead, IsOverRoot, IsReadInSource, IsRootAt, named}
use Rattle.ms_build.proofs.ChildLemmas.{same_variable}
use Rattle.ms_build.proofs.PlaceLemmas.{contains_place, own-among}

-- a variable with its order
abbrev pub variable_at : List Order → ℕ → Variable
variable_at orders x = record { name = x; order = order_at orders x }

-- variables by rising numbers rise
pub named-rising : (orders : List Order) (variables : List ℕ) → IsStrictlyIncreasing variables → AreRising (named orders variables)
named-rising orders [] rising = tt
named-rising orders (x ∷ []) rising = (tt, tt)
named-rising orders (x ∷ y ∷ variables) rising = (
  rising 0 (omega arith),
  named-rising orders (y ∷ variables) (λ k less.
      subst (λ n. slice_index (y ∷ variables) k < slice_index (x ∷ y ∷ variables) n) (let moved : suc k + 1 ≡ suc (k + 1) = omega arith in moved) (rising (suc k) (omega (arith, less)))),
)

named-among : (orders : List Order) (variables : List ℕ) (place x : ℕ) → slice_get variables place ≡ Some x → IsAmong (named orders variables) (variable_at orders x)
named-among orders [] place x held = absurd (none-some x held)
named-among orders (y ∷ variables) zero x held = inl (ap (variable_at orders) (same_Some y x held))
named-among orders (y ∷ variables) (suc place) x held = inr (named-among orders variables place x held)

-- a variable that has this order
pub variable_held : (orders : List Order) (x : ℕ) (o : Order) → order_at orders x ≡ o → record { name = x; order = o } ≡ variable_at orders x
variable_held orders x o held = ap (λ (order : Order). record { name = x; order = order }) (sym held)

-- one track more
pub named-more : (orders : List Order) (variables : List ℕ) (made : List Track) (i x : ℕ) (order : Order) → i < length variables → x ≡ slice_index variables i → order_at orders x ≡ order
    → variables_of made ≡ named orders (take i variables) → variables_of (made ++ record { variable = x; order = order } ∷ []) ≡ named orders (take (i + 1) variables)
named-more orders variables made i x order less is held were =
    map_push variable_of made (record { variable = x; order = order })
    ∙ ap (λ (vs : List Variable). vs ++ record { name = x; order = order } ∷ []) were
    ∙ ap (λ (v : Variable). named orders (take i variables) ++ v ∷ []) (variable_held orders x order held ∙ ap (variable_at orders) is)
    ∙ sym (map_push (variable_at orders) (take i variables) (slice_index variables i))
    ∙ ap (named orders) (sym (take_more variables i 0 less))

-- a formula that is read at variables of the source is read at the first ones of them, by their places
module _ (orders : List Order) where
  -- the orders of the first variables, so many
  abbrev first_orders : ℕ → List Order
  first_orders count = map (order_at orders) (range_with_len 0 count)

  -- there are as many, and each is that of its number
  first_length : (count : ℕ) → length (first_orders count) ≡ count
  first_length count = length-map (range_with_len 0 count) (order_at orders) ∙ length-range_with_len 0 count

  first_at : (count x : ℕ) → x < count → slice_get (first_orders count) x ≡ Some (order_at orders x)
  first_at count x less =
      let long = first_length count in
      slice_get-get_or (first_orders count) x Zero (omega (arith, less, long)) ∙ ap Some (get_or-map-range_with_len (order_at orders) 0 count x x Zero less (omega arith))

  first_order : (count x : ℕ) (o : Order) → slice_get (first_orders count) x ≡ Some o → order_at orders x ≡ o
  first_order count x o held =
      let less = slice_get_within (first_orders count) x o held in
      let long = first_length count in
      same_Some (order_at orders x) o (sym (first_at count x (omega (arith, less, long))) ∙ held)

  -- numbers below the count lead to their orders
  at_first : (count : ℕ) (names : List ℕ) → sum names < count → AreAt (first_orders count) names (map (order_at orders) names)
  at_first count [] less = refl
  at_first count (x ∷ names) less =
      let total : sum (x ∷ names) ≡ x + sum names = sum_by-cons (λ n. n) x names in
      ap₂ (λ o os. o ∷ os) (first_at count x (omega (arith, less, total))) (at_first count names (omega (arith, less, total)))

  -- the orders of the first variables, with all that a list names
  abbrev pub orders_for : List ℕ → List Order
  orders_for names = first_orders (suc (sum names))

  pub read_at_first : (entries : List Entry) (child : Child) → IsReadInSource entries orders child → IsReadAt entries (orders_for child.map) child
  read_at_first entries child read =
      (read.0, read.1, subst (AreAt (orders_for child.map) child.map) read.2 (at_first (suc (sum child.map)) child.map (omega arith)))

-- the formula's own variables are among those of the root
pub root-among : (mode : Mode) (orders : List Order) (child : Child) (variables : List ℕ) → AreRootVariables child variables → (meaning : Meaning) (content : Content Sign)
    → IsPart mode (orders_for orders child.map) child.map meaning content → HasOnly child.map content → (v : Variable) → IsAmong content.variables v → IsAmong (named orders variables) v
root-among mode orders child variables are meaning content part own v there =
    let at = contains_place variables v.name (are.among v.name (own v there)) in
    let order = first_order orders (suc (sum child.map)) v.name v.order (own-among (orders_for orders child.map) v (part.among v there)) in
    let same : variable_at orders v.name ≡ v = same_variable (variable_at orders v.name) v refl order in
    subst (IsAmong (named orders variables)) same (named-among orders variables at.0 v.name at.1)

-- a root by its child and its variables
pub root_at : (roots : List SharedRoot) (r : ℕ) (child : Child) (variables : List ℕ) → slice_get (children_of_roots roots) r ≡ Some child → slice_get (variables_of_roots roots) r ≡ Some variables
    → (root : SharedRoot) × (slice_get roots r ≡ Some root) × (root.child ≡ child) × (root.variables ≡ variables)
root_at roots r child variables of_child of_variables = by (slice_get roots r) refl (sym (slice_get-map (λ (root : SharedRoot). root.child) roots r) ∙ of_child)
    (sym (slice_get-map (λ (root : SharedRoot). root.variables) roots r) ∙ of_variables)
  where
    by : (found : Option SharedRoot) → slice_get roots r ≡ found → option_map (λ (root : SharedRoot). root.child) found ≡ Some child → option_map (λ (root : SharedRoot). root.variables) found ≡ Some variables
        → (root : SharedRoot) × (slice_get roots r ≡ Some root) × (root.child ≡ child) × (root.variables ≡ variables)
    by None same has_child has_variables = absurd (none-some child has_child)
    by (Some root) same has_child has_variables = (root, same, same_Some root.child child has_child, same_Some root.variables variables has_variables)

-- the automaton of a root, that has fewest states as it is made
pub root_made : (plan : Plan) (r : ℕ) (root : SharedRoot) → slice_get plan.dag.now.roots r ≡ Some root → (result : Result (Content Sign) StepFault) → IfOk result (IsOverRoot plan root.child root.variables)
    → IfOk result IsLeast → IfOk result (IsRootAt plan r)
root_made plan r root held (Ok made) over least = (
  root,
  held,
  record { mode_is = over.mode_is; variables_are = over.variables_are; values = over.values; fewest = least.fewest; reached = least.reached; differ = least.differ },
)
root_made plan r root held (Err fault) over least = tt

-- an item beside another in two lists
zipped : {A B : Type 0} (R : A → B → Type 0) (xs : List A) (ys : List B) → AllZip R xs ys → (place : ℕ) (y : B) → slice_get ys place ≡ Some y → (x : A) × (slice_get xs place ≡ Some x) × R x y
zipped R [] [] all place y held = absurd (none-some y held)
zipped R [] (z ∷ ys) all place y held = absurd all
zipped R (x ∷ xs) [] all place y held = absurd all
zipped R (x ∷ xs) (z ∷ ys) all zero y held = (x, refl, subst (R x) (same_Some z y held) all.0)
zipped R (x ∷ xs) (z ∷ ys) all (suc place) y held = zipped R xs ys all.1 place y held

-- the roots of a source are read at its variables
pub roots_read : (imports : List Import) (calls : Calls) (lowered : Lowered) (dag : Dag) → IsLowered imports calls lowered → IsDagOf calls lowered dag → AreRootsRead dag
roots_read imports calls lowered dag is of r root held =
    let both = zipped (IsRootOf calls dag.orders dag.entries) lowered.roots dag.roots (subst (λ orders. AreRootsOf calls orders dag.entries lowered.roots dag.roots) (sym of.orders_are) of.roots) r root held in
    let lowered_root = each_at (IsLoweredRoot imports calls lowered.orders) lowered.roots is.roots r both.0 both.1 in (
      both.2.ordered,
      record {
        rising = subst IsStrictlyIncreasing (sym both.2.variables) lowered_root.rising;
        among = λ j is_in. subst (λ (list : List ℕ). Contains list j) (sym both.2.variables) (All-contains (Contains both.0.variables) root.child.map j both.2.among is_in);
      },
      both.2.rising,
    )
  where
    each_at : {X : Type 0} (P : X → Type 0) (xs : List X) → Each P xs → (place : ℕ) (x : X) → slice_get xs place ≡ Some x → P x
    each_at P [] each place x held = absurd (none-some x held)
    each_at P (y ∷ xs) each zero x held = subst P (same_Some y x held) each.0
    each_at P (y ∷ xs) each (suc place) x held = each_at P xs each.1 place x held
