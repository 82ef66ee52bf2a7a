-- How far the parts of an automaton are from a sign.
use Rattle.std.proofs.Common.{◌≡◌, ℕ, zero, suc, ◌+◌, ◌<◌, ◌≤◌, min, ◌==◌, Bool, true, false, if◌then◌else◌, List, [], ◌∷◌, ◌++◌, length, map, get_or, slice_get, Some, refl, ap, ◌∙◌, arith}
use Rattle.std.specs.Option.{option_map}
use Rattle.std.proofs.lemmas.Bool.{lt-ltb}
use Rattle.std.proofs.lemmas.List.{length-map}
use Rattle.std.proofs.lemmas.Option.{slice_get-map, slice_get_within}
use Rattle.ms_arena.specs.declared.node.Ref.{Ref}
use Rattle.ms_arena.specs.declared.node.Ref.TheVariants.{Leaf, Inner}
use Rattle.ms_arena.specs.declared.node.Node.{Node}
use Rattle.ms_arena.specs.Diagram.{Bits, leaf_of, end_at, IsBefore, IsValid, IsOrdered}
use Rattle.ms_arena.specs.Halves.{half_of}
use Rattle.ms_arena.proofs.Lists.{slice_get-held, slice_get-append_some}
use Rattle.ms_arena.proofs.Paths.{IsBefore-later, IsBefore-end_at, leaf_of-leaf, leaf_of-node}
use Rattle.ms_logic_words.specs.Content.{StateOf, Content}
use Rattle.ms_logic_words.specs.declared.sign.Sign.{Sign}
use Rattle.ms_best.specs.declared.graph.Vertex.TheVariants.{Goal, Letter}
use Rattle.ms_best.specs.inner.Graph.{distance_by}
use Rattle.ms_best.specs.inner.Automaton.{is_sign, place_of, vertex_of_state, vertex_of_node, graph_of, distance_of, AreDistancesFrom}

-- an item of the back part of a list
slice_get-append_right : {X : Type 0} (xs ys : List X) (n i : ℕ) → n ≡ length xs + i → slice_get (xs ++ ys) n ≡ slice_get ys i
slice_get-append_right [] ys n i same = let equal : n ≡ i = omega (arith, same) in ap (λ k. slice_get ys k) equal
slice_get-append_right (x ∷ xs) ys zero i same = absurd (omega (arith, same))
slice_get-append_right (x ∷ xs) ys (suc n) i same = slice_get-append_right xs ys n i (omega (arith, same))

-- the distance at a leaf that is a state
at_state : (content : Content Sign) (distances : List ℕ) (state : ℕ) → state < length content.states
    → distance_of content distances (Leaf state) ≡ get_or distances state (length content.states)
at_state content distances state within =
    ap (λ test. get_or distances (if test then state else length content.states + length content.nodes) (length content.states)) (lt-ltb state (length content.states) within)

-- a distance that was looked up by the numbers of states and nodes
pub kept_distance : (content : Content Sign) (distances : List ℕ) (states nodes : ℕ) (reference : Ref) (found : ℕ) → states ≡ length content.states → nodes ≡ length content.nodes
    → found ≡ get_or distances (place_of states nodes reference) states → found ≡ distance_of content distances reference
kept_distance content distances states nodes reference found same_states same_nodes is =
    is ∙ ap (λ n. get_or distances (place_of n nodes reference) n) same_states ∙ ap (λ n. get_or distances (place_of (length content.states) n reference) (length content.states)) same_nodes

module _ (content : Content Sign) (sign : Sign) (distances : List ℕ) (right : AreDistancesFrom content sign distances) where
  -- a state of the sign is at 0, and another is one letter further than its diagram
  pub distance_of-state : (state : ℕ) (found : StateOf Sign) → slice_get content.states state ≡ Some found
      → distance_of content distances (Leaf state) ≡ (if is_sign found.sign sign then 0 else min (length content.states) (distance_of content distances found.next + 1))
  distance_of-state state found held =
      let front : slice_get (map (vertex_of_state (length content.states) (length content.nodes) sign) content.states) state ≡ Some (vertex_of_state (length content.states) (length content.nodes) sign found)
      = slice_get-map (vertex_of_state (length content.states) (length content.nodes) sign) content.states state ∙ ap (option_map (vertex_of_state (length content.states) (length content.nodes) sign)) held in
      let there : slice_get (graph_of content sign) state ≡ Some (vertex_of_state (length content.states) (length content.nodes) sign found)
      = slice_get-append_some (map (vertex_of_state (length content.states) (length content.nodes) sign) content.states ++ map (vertex_of_node (length content.states) (length content.nodes)) content.nodes) _ state _
      (slice_get-append_some (map (vertex_of_state (length content.states) (length content.nodes) sign) content.states) _ state _ front) in
      at_state content distances state (slice_get_within content.states state found held)
      ∙ right.each state (vertex_of_state (length content.states) (length content.nodes) sign found) there
      ∙ by_sign (is_sign found.sign sign) (place_of (length content.states) (length content.nodes) found.next)
    where
      by_sign : (test : Bool) (next : ℕ) → distance_by (length content.states) distances (if test then Goal else Letter next)
          ≡ (if test then 0 else min (length content.states) (get_or distances next (length content.states) + 1))
      by_sign true next = refl
      by_sign false next = refl

  -- a node is as near as its nearer end
  pub distance_of-node : (place : ℕ) (node : Node) → slice_get content.nodes place ≡ Some node
      → distance_of content distances (Inner place) ≡ min (distance_of content distances node.low) (distance_of content distances node.high)
  distance_of-node place node held =
      let back : slice_get (map (vertex_of_node (length content.states) (length content.nodes)) content.nodes) place ≡ Some (vertex_of_node (length content.states) (length content.nodes) node)
      = slice_get-map (vertex_of_node (length content.states) (length content.nodes)) content.nodes place ∙ ap (option_map (vertex_of_node (length content.states) (length content.nodes))) held in
      let there : slice_get (map (vertex_of_state (length content.states) (length content.nodes) sign) content.states ++ map (vertex_of_node (length content.states) (length content.nodes)) content.nodes) (length content.states + place)
      ≡ Some (vertex_of_node (length content.states) (length content.nodes) node)
      = slice_get-append_right (map (vertex_of_state (length content.states) (length content.nodes) sign) content.states) _ (length content.states + place) place
      (rw (length-map content.states (vertex_of_state (length content.states) (length content.nodes) sign)) refl) ∙ back in
      right.each (length content.states + place) (vertex_of_node (length content.states) (length content.nodes) node) (slice_get-append_some _ _ (length content.states + place) _ there)

  -- a reference is as near as the nearer of its halves at a variable
  pub distance_of-halves : (var : ℕ) (reference : Ref) → IsValid content.nodes reference
      → distance_of content distances reference ≡ min (distance_of content distances (half_of content.nodes var false reference)) (distance_of content distances (half_of content.nodes var true reference))
  distance_of-halves var (Leaf value) valid = omega arith
  distance_of-halves var (Inner place) valid =
      let held = slice_get-held content.nodes place valid in
      rw held.1 (by_test held.0 held.1 (held.0.var == var))
    where
      by_test : (node : Node) → slice_get content.nodes place ≡ Some node → (test : Bool)
          → distance_of content distances (Inner place)
          ≡ min (distance_of content distances (if test then node.low else Inner place)) (distance_of content distances (if test then node.high else Inner place))
      by_test node held true = distance_of-node place node held
      by_test node held false = omega arith

  -- no bits lead to a leaf that is nearer than the reference
  pub no_nearer : IsOrdered content.nodes → (bits : Bits) (n : ℕ) (reference : Ref) → n ≤ length content.nodes → IsBefore n reference
      → distance_of content distances reference ≤ distance_of content distances (Leaf (leaf_of content.nodes reference bits))
  no_nearer ordered bits n (Leaf value) within before = rw (leaf_of-leaf content.nodes bits value) (omega arith)
  no_nearer ordered bits zero (Inner place) within before = absurd (omega (arith, before))
  no_nearer ordered bits (suc n) (Inner place) within before =
      let held = slice_get-held content.nodes place (omega (arith, before, within)) in
      let end = end_at held.0 bits in
      let earlier : IsBefore n end = IsBefore-later place n end (omega (arith, before)) (IsBefore-end_at content.nodes ordered place held.0 bits held.1) in
      let rest = no_nearer ordered bits n end (omega (arith, within)) earlier in
      rw (leaf_of-node content.nodes ordered bits place held.0 held.1, distance_of-node place held.0 held.1)
      (of_ends held.0 (bits held.0.var) (distance_of content distances (Leaf (leaf_of content.nodes end bits))) rest)
    where
      of_ends : (node : Node) (bit : Bool) (far : ℕ) → distance_of content distances (if bit then node.high else node.low) ≤ far
          → min (distance_of content distances node.low) (distance_of content distances node.high) ≤ far
      of_ends node true far near = omega (arith, near)
      of_ends node false far near = omega (arith, near)
