-- What it is to make the diagram of a function of values behind a store of states and nodes, and the diagram of a leaf.
use Rattle.std.proofs.Common.{◌≡◌, ℕ, ◌+◌, suc, ◌<◌, ◌≤◌, ◌⊎◌, inl, inr, Bool, true, false, if◌then◌else◌, List, [], ◌∷◌, length, slice_get, Some, refl, sym, ap, subst, ◌∙◌, arith}
use Rattle.std.proofs.lemmas.Option.{slice_get_within, same_Some}
use Rattle.ms_arena.specs.declared.node.Ref.{Ref}
use Rattle.ms_arena.specs.declared.node.Ref.TheVariants.{Leaf, Inner}
use Rattle.ms_arena.specs.declared.node.Node.{Node}
use Rattle.ms_arena.specs.Diagram.{Bits, leaf_of}
use Rattle.ms_arena.specs.Halves.{IsLeaf}
use Rattle.ms_arena.specs.Reach.{Reaches, here, through_low, through_high}
use Rattle.ms_arena.specs.Target.{Extends}
use Rattle.ms_arena.proofs.Appending.{Extends-same}
use Rattle.ms_arena.proofs.Paths.{leaf_of-leaf}
use Rattle.ms_logic.specs.Assignment.{Variable}
use Rattle.ms_logic.specs.declared.mode.Order.{Order}
use Rattle.ms_logic_words.specs.Content.{count_of}
use Rattle.ms_logic_machines.proofs.Diagrams.{GiveValues, IsDiagram, TestsFrom-lower, give-with, give-without}
use Rattle.ms_logic_machines.proofs.Sights.{Sees}
use Rattle.ms_logic_machines.proofs.Stores.{IsStore, put_state}
use Rattle.ms_logic_machines.proofs.Walks.{leaves_from, places_from, leaves-leaf}

-- nothing is reached from a leaf
pub leaf_reaches : (nodes : List Node) {root : Ref} {goal : ℕ} → Reaches nodes root goal → IsLeaf root → ⊥
leaf_reaches nodes here is = is
leaf_reaches nodes (through_low node held path) is = is
leaf_reaches nodes (through_high node held path) is = is

-- from a node it is itself that is reached, or a node behind one of its ends
pub node_reaches : (nodes : List Node) {root : Ref} {goal : ℕ} → Reaches nodes root goal → (place : ℕ) (node : Node) → root ≡ Inner place
    → slice_get nodes place ≡ Some node
    → (place ≡ goal) ⊎ (Reaches nodes node.low goal ⊎ Reaches nodes node.high goal)
node_reaches nodes (here {place = there}) place node is held = inl cc
node_reaches nodes (through_low {place = there} {goal} other held_other path) place node is held =
    let at : there ≡ place = cc in
    let same : other ≡ node = same_Some other node (sym held_other ∙ (ap (slice_get nodes) at ∙ held)) in
    inr (inl (subst (λ (n : Node). Reaches nodes n.low goal) same path))
node_reaches nodes (through_high {place = there} {goal} other held_other path) place node is held =
    let at : there ≡ place = cc in
    let same : other ≡ node = same_Some other node (sym held_other ∙ (ap (slice_get nodes) at ∙ held)) in
    inr (inr (subst (λ (n : Node). Reaches nodes n.high goal) same path))

no_values : (values : List Bool) → length values ≡ 0 → values ≡ []
no_values [] none = refl
no_values (bit ∷ values) none = absurd (omega (arith, none))

module _ (variables : List Variable) (has_value : Order → Bool) (P : ℕ → Type 0) where
  -- behind these states and nodes come those that the function of the values of these variables needs, in the order of a walk
  pub record Made (found : List ℕ) (nodes : List Node) (vs : List Variable) (place : ℕ) (function : List Bool → ℕ) : Type 0 where
    pub after : List ℕ
    pub nodes_after : List Node
    pub root : Ref
    pub store : IsStore (length variables) P after nodes_after
    pub grows : Extends found after
    pub extends : Extends nodes nodes_after
    pub is : IsDiagram variables has_value after nodes_after vs place function root
    pub leaves : Sees (length found) (leaves_from nodes_after root) (length after)
    pub places : Sees (length nodes) (places_from nodes_after root) (length nodes_after)
    pub reached : (goal : ℕ) → length nodes ≤ goal → goal < length nodes_after → Reaches nodes_after root goal

  -- with no variable left the diagram is a leaf
  pub made_leaf : (found : List ℕ) (nodes : List Node) (place : ℕ) (function : List Bool → ℕ) → IsStore (length variables) P found nodes → P (function [])
      → Made found nodes [] place function
  made_leaf found nodes place function store good =
      let state = put_state (length variables) P found nodes store (function []) good in
      record {
        after = state.after;
        nodes_after = nodes;
        root = Leaf state.place;
        store = state.store_after;
        grows = state.put.extends;
        extends = Extends-same nodes;
        is = record {
          valid = tt;
          from = tt;
          leaf = slice_get_within state.after state.place (function []) state.put.held;
          tests = λ var tested. absurd (leaf_reaches nodes tested.2 tt);
          right = λ bits values long give.
              ap (slice_get state.after) (leaf_of-leaf nodes bits state.place)
              ∙ (state.put.held ∙ ap (λ list. Some (function list)) (sym (no_values values long)));
        };
        leaves = subst (λ list. Sees (length found) list (length state.after)) (sym (leaves-leaf nodes (length nodes) state.place)) state.put.sees;
        places = refl;
        reached = λ goal less within. absurd (omega (arith, less, within));
      }

  -- a variable with no value is passed over
  pub made_without : (found : List ℕ) (nodes : List Node) (v : Variable) (vs : List Variable) (place : ℕ) (function : List Bool → ℕ) → has_value v.order ≡ false
      → Made found nodes vs (suc place) function → Made found nodes (v ∷ vs) place function
  made_without found nodes v vs place function none made = record {
    after = made.after;
    nodes_after = made.nodes_after;
    root = made.root;
    store = made.store;
    grows = made.grows;
    extends = made.extends;
    is = record {
      valid = made.is.valid;
      from = TestsFrom-lower made.nodes_after place (suc place) made.root (omega arith) made.is.from;
      leaf = made.is.leaf;
      tests = made.is.tests;
      right = λ bits values long give.
          made.is.right bits values (long ∙ ap (λ test. if test then count_of has_value vs + 1 else count_of has_value vs) none)
          (give-without variables has_value place bits v vs values none give);
    };
    leaves = made.leaves;
    places = made.places;
    reached = made.reached;
  }

  -- where a variable has a value, its bit chooses between the diagrams of the two functions that are left
  pub ends_right : (found : List ℕ) (nodes : List Node) (v : Variable) (vs : List Variable) (place : ℕ) (function : List Bool → ℕ) (low high root : Ref)
      → has_value v.order ≡ true
      → IsDiagram variables has_value found nodes vs (suc place) (λ values. function (false ∷ values)) low
      → IsDiagram variables has_value found nodes vs (suc place) (λ values. function (true ∷ values)) high
      → ((bits : Bits) → leaf_of nodes root bits ≡ leaf_of nodes (if bits place then high else low) bits)
      → (bits : Bits) (values : List Bool) → length values ≡ count_of has_value (v ∷ vs) → GiveValues variables has_value place bits (v ∷ vs) values
      → slice_get found (leaf_of nodes root bits) ≡ Some (function values)
  ends_right found nodes v vs place function low high root has is_low is_high ends bits [] long give =
      let many = long ∙ ap (λ test. if test then count_of has_value vs + 1 else count_of has_value vs) has in absurd (omega (arith, many))
  ends_right found nodes v vs place function low high root has is_low is_high ends bits (true ∷ values) long give =
      let many = long ∙ ap (λ test. if test then count_of has_value vs + 1 else count_of has_value vs) has in
      let given = give-with variables has_value place bits v vs true values has give in
      ap (slice_get found) (ends bits ∙ ap (λ bit. leaf_of nodes (if bit then high else low) bits) given.0)
      ∙ is_high.right bits values (omega (arith, many)) given.1
  ends_right found nodes v vs place function low high root has is_low is_high ends bits (false ∷ values) long give =
      let many = long ∙ ap (λ test. if test then count_of has_value vs + 1 else count_of has_value vs) has in
      let given = give-with variables has_value place bits v vs false values has give in
      ap (slice_get found) (ends bits ∙ ap (λ bit. leaf_of nodes (if bit then high else low) bits) given.0)
      ∙ is_low.right bits values (omega (arith, many)) given.1
