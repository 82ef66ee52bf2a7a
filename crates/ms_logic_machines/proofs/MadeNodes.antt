-- The diagram of each function of values is made: two ends are joined by a node where they differ.
use Rattle.std.proofs.Common.{◌≡◌, ℕ, ◌+◌, suc, ⊎_elim, Bool, true, false, if◌then◌else◌, List, [], ◌∷◌, ◌++◌, length, slice_get, Some, refl, sym, ap, subst, ◌∙◌, arith}
use Rattle.std.proofs.lemmas.Bool.{cases_lt}
use Rattle.std.proofs.lemmas.Option.{slice_get_within, same_Some}
use Rattle.ms_arena.specs.declared.node.Ref.{Ref}
use Rattle.ms_arena.specs.declared.node.Ref.TheVariants.{Leaf, Inner}
use Rattle.ms_arena.specs.declared.node.Node.{Node}
use Rattle.ms_arena.specs.Diagram.{leaf_of, TestsAbove}
use Rattle.ms_arena.specs.Halves.{TestsFrom}
use Rattle.ms_arena.specs.Reach.{Reaches, here, through_low, through_high}
use Rattle.ms_arena.specs.Target.{Extends}
use Rattle.ms_arena.proofs.Appending.{Extends-further, Extends-same}
use Rattle.ms_arena.proofs.Paths.{leaf_of-node}
use Rattle.ms_logic.specs.Assignment.{Variable}
use Rattle.ms_logic.specs.declared.mode.Order.{Order}
use Rattle.ms_logic_words.specs.Content.{HasValueAt, count_of}
use Rattle.ms_logic_machines.proofs.Diagrams.{AreFrom, IsDiagram, TestsFrom-lower, diagram-extends, from-next}
use Rattle.ms_logic_machines.proofs.Finding.{refs-tested}
use Rattle.ms_logic_machines.proofs.Making.{Made, ends_right, made_leaf, made_without, node_reaches}
use Rattle.ms_logic_machines.proofs.Sights.{Sees, sees-again, sees-append}
use Rattle.ms_logic_machines.proofs.Stores.{IsStore, put_node}
use Rattle.ms_logic_machines.proofs.Walks.{leaves_from, places_from, leaves-extends, leaves-node, places-extends, places-node, reaches-extends}

-- what tests from the next variable on tests above this one
above-from : (nodes : List Node) (var : ℕ) (root : Ref) → TestsFrom nodes (suc var) root → TestsAbove nodes var root
above-from nodes var (Leaf value) from = tt
above-from nodes var (Inner place) from = from

module _ (variables : List Variable) (has_value : Order → Bool) (P : ℕ → Type 0) (v : Variable) (vs : List Variable) (place : ℕ)
    (has : has_value v.order ≡ true)
    (there : slice_get variables place ≡ Some v) (function : List Bool → ℕ) (found : List ℕ) (nodes : List Node)
    (low : Made variables has_value P found nodes vs (suc place) (λ values. function (false ∷ values)))
    (high : Made variables has_value P low.after low.nodes_after vs (suc place) (λ values. function (true ∷ values))) where
  grows : Extends found high.after
  grows = Extends-further found low.after high.after low.grows high.grows

  extends : Extends nodes high.nodes_after
  extends = Extends-further nodes low.nodes_after high.nodes_after low.extends high.extends

  -- the low end stays right while the high end is made
  low_is : IsDiagram variables has_value high.after high.nodes_after vs (suc place) (λ values. function (false ∷ values)) low.root
  low_is =
      diagram-extends variables has_value low.after high.after low.nodes_after high.nodes_after vs (suc place) (λ values. function (false ∷ values)) low.root
      low.store.ordered high.grows high.extends low.is

  -- equal ends are the diagram
  made_same : low.root ≡ high.root → Made variables has_value P found nodes (v ∷ vs) place function
  made_same same =
      let leaves : leaves_from high.nodes_after high.root ≡ leaves_from low.nodes_after low.root
      = ap (leaves_from high.nodes_after) (sym same) ∙ leaves-extends low.nodes_after high.nodes_after low.store.ordered high.extends low.root low.is.valid in
      let places : places_from high.nodes_after high.root ≡ places_from low.nodes_after low.root
      = ap (places_from high.nodes_after) (sym same) ∙ places-extends low.nodes_after high.nodes_after low.store.ordered high.extends low.root low.is.valid in
      let as_many : length low.after ≡ length high.after
      = sees-again (length found) (length low.after) (length high.after) (leaves_from low.nodes_after low.root) low.leaves
      (subst (λ list. Sees (length low.after) list (length high.after)) leaves high.leaves) in
      let as_many_nodes : length low.nodes_after ≡ length high.nodes_after
      = sees-again (length nodes) (length low.nodes_after) (length high.nodes_after) (places_from low.nodes_after low.root) low.places
      (subst (λ list. Sees (length low.nodes_after) list (length high.nodes_after)) places high.places) in
      record {
        after = high.after;
        nodes_after = high.nodes_after;
        root = high.root;
        store = high.store;
        grows = grows;
        extends = extends;
        is = record {
          valid = high.is.valid;
          from = TestsFrom-lower high.nodes_after place (suc place) high.root (omega arith) high.is.from;
          leaf = high.is.leaf;
          tests = high.is.tests;
          right = ends_right variables has_value P high.after high.nodes_after v vs place function low.root high.root high.root has low_is high.is (λ bits.
              elim (bits place) as (λ bit. leaf_of high.nodes_after high.root bits ≡ leaf_of high.nodes_after (if bit then high.root else low.root) bits) [
                | true ↦ refl
                | false ↦ ap (λ root. leaf_of high.nodes_after root bits) (sym same)
              ]);
        };
        leaves = subst (λ count. Sees (length found) (leaves_from high.nodes_after high.root) count) as_many
            (subst (λ list. Sees (length found) list (length low.after)) (sym leaves) low.leaves);
        places = subst (λ count. Sees (length nodes) (places_from high.nodes_after high.root) count) as_many_nodes
            (subst (λ list. Sees (length nodes) list (length low.nodes_after)) (sym places) low.places);
        reached = λ goal less within.
            subst (λ root. Reaches high.nodes_after root goal) same
            (reaches-extends low.nodes_after high.nodes_after high.extends (low.reached goal less (omega (arith, within, as_many_nodes))));
      }

  -- and different ends get a node
  made_node : ¬ (low.root ≡ high.root) → Made variables has_value P found nodes (v ∷ vs) place function
  made_node differ =
      let node : Node = record { var = place; low = low.root; high = high.root } in
      let put = put_node (length variables) P high.after high.nodes_after high.store node
      (record {
        valid_low = low_is.valid;
        valid_high = high.is.valid;
        above_low = above-from high.nodes_after place low.root low_is.from;
        above_high = above-from high.nodes_after place high.root high.is.from;
        ends_differ = differ;
      })
      (record { low = low_is.leaf; high = high.is.leaf; variable = slice_get_within variables place v there }) in
      let last = put.after in
      let held = put.put.held in
      let from_low = Extends-further low.nodes_after high.nodes_after last high.extends put.put.extends in
      let is_low = diagram-extends variables has_value low.after high.after low.nodes_after last vs (suc place)
      (λ values. function (false ∷ values)) low.root low.store.ordered
      high.grows from_low low.is in
      let is_high = diagram-extends variables has_value high.after high.after high.nodes_after last vs (suc place)
      (λ values. function (true ∷ values)) high.root high.store.ordered
      (Extends-same high.after) put.put.extends high.is in
      record {
        after = high.after;
        nodes_after = last;
        root = Inner put.place;
        store = put.store_after;
        grows = grows;
        extends = Extends-further nodes high.nodes_after last extends put.put.extends;
        is = record {
          valid = slice_get_within last put.place node held;
          from = λ other is. let same = ap (λ (n : Node). n.var) (same_Some node other (sym held ∙ is)) in omega (arith, same);
          leaf = tt;
          tests = λ var tested. ⊎_elim
              (λ own.
              let same = same_Some node tested.1 (sym held ∙ (ap (slice_get last) own ∙ tested.3)) in
              subst (HasValueAt variables has_value) (ap (λ (n : Node). n.var) same ∙ tested.4) (v, there, has))
              (λ behind. ⊎_elim
              (λ path. is_low.tests var (tested.0, tested.1, path, tested.3, tested.4))
              (λ path. is_high.tests var (tested.0, tested.1, path, tested.3, tested.4)) behind)
              (node_reaches last tested.2 put.place node refl held);
          right = ends_right variables has_value P high.after last v vs place function low.root high.root (Inner put.place) has is_low is_high
              (λ bits. leaf_of-node last put.store_after.ordered bits put.place node held);
        };
        leaves = subst (λ list. Sees (length found) list (length high.after)) (sym (leaves-node last put.store_after.ordered put.place node held))
            (sees-append (length found) (length low.after) (length high.after) (leaves_from last low.root) (leaves_from last high.root)
            (subst (λ list. Sees (length found) list (length low.after))
            (sym (leaves-extends low.nodes_after last low.store.ordered from_low low.root low.is.valid)) low.leaves)
            (subst (λ list. Sees (length low.after) list (length high.after))
            (sym (leaves-extends high.nodes_after last high.store.ordered put.put.extends high.root high.is.valid)) high.leaves));
        places = subst (λ list. Sees (length nodes) list (length last)) (sym (places-node last put.store_after.ordered put.place node held))
            (sees-append (length nodes) (length high.nodes_after) (length last) (places_from last low.root ++ places_from last high.root) (put.place ∷ [])
            (sees-append (length nodes) (length low.nodes_after) (length high.nodes_after) (places_from last low.root) (places_from last high.root)
            (subst (λ list. Sees (length nodes) list (length low.nodes_after))
            (sym (places-extends low.nodes_after last low.store.ordered from_low low.root low.is.valid)) low.places)
            (subst (λ list. Sees (length low.nodes_after) list (length high.nodes_after))
            (sym (places-extends high.nodes_after last high.store.ordered put.put.extends high.root high.is.valid))
            high.places)) put.put.sees);
        reached = λ goal less within. ⊎_elim
            (λ early. through_low node held (reaches-extends low.nodes_after last from_low (low.reached goal less early)))
            (λ later. ⊎_elim
            (λ early. through_high node held (reaches-extends high.nodes_after last put.put.extends (high.reached goal later early)))
            (λ behind. ⊎_elim
            (λ old. let none = old.1 in absurd (omega (arith, none, behind, within)))
            (λ next.
            let at = next.0 in let end = next.1 in
            let is : put.place ≡ goal = omega (arith, at, end, behind, within) in
            subst (Reaches last (Inner put.place)) is here)
            put.put.sees)
            (cases_lt goal (length high.nodes_after)))
            (cases_lt goal (length low.nodes_after));
      }

  pub made_with : Made variables has_value P found nodes (v ∷ vs) place function
  made_with = ⊎_elim made_same made_node (refs-tested low.root high.root)

module _ (variables : List Variable) (has_value : Order → Bool) (P : ℕ → Type 0) where
  -- each function of values with the property has a diagram
  pub make : (vs : List Variable) (place : ℕ) (function : List Bool → ℕ) (found : List ℕ) (nodes : List Node) → AreFrom variables has_value place vs
      → IsStore (length variables) P found nodes → ((values : List Bool) → length values ≡ count_of has_value vs → P (function values))
      → Made variables has_value P found nodes vs place function
  make [] place function found nodes are store good = made_leaf variables has_value P found nodes place function store (good [] refl)
  make (v ∷ vs) place function found nodes are store good =
      by (has_value v.order) refl
      (λ longer found nodes store. make vs (suc place) longer found nodes (from-next variables has_value place v vs are) store)
    where
      by : (test : Bool) → has_value v.order ≡ test
          → ((longer : List Bool → ℕ) (found : List ℕ) (nodes : List Node) → IsStore (length variables) P found nodes
          → ((values : List Bool) → length values ≡ count_of has_value vs → P (longer values)) → Made variables has_value P found nodes vs (suc place) longer)
          → Made variables has_value P found nodes (v ∷ vs) place function
      by false none rest =
          made_without variables has_value P found nodes v vs place function none
          (rest function found nodes store
          (λ values long. good values (long ∙ sym (ap (λ test. if test then count_of has_value vs + 1 else count_of has_value vs) none))))
      by true has rest =
          let longer : (bit : Bool) (values : List Bool) → length values ≡ count_of has_value vs → P (function (bit ∷ values))
          = λ bit values long.
          good (bit ∷ values)
          (let many = ap (λ test. if test then count_of has_value vs + 1 else count_of has_value vs) has in omega (arith, long, many)) in
          let low = rest (λ values. function (false ∷ values)) found nodes store (longer false) in
          let high = rest (λ values. function (true ∷ values)) low.after low.nodes_after low.store (longer true) in
          made_with variables has_value P v vs place has (ap (slice_get variables) (omega arith) ∙ are 0 v refl) function found nodes low high
