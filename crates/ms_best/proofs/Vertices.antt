-- The vertices of an automaton, and that they lead to vertices of its graph alone.
use Rattle.std.proofs.Common.{◌≡◌, ℕ, ◌+◌, ◌<◌, inl, inr, Bool, true, false, if◌then◌else◌, List, [], ◌∷◌, ◌++◌, length, map, take, get_or, slice_get, Some, All, refl, ap, subst, ◌∙◌, arith, append_assoc}
use Rattle.std.proofs.lemmas.Bool.{lt-ltb, cases_lt, le-ltb}
use Rattle.std.proofs.lemmas.List.{length-append, length-map, map-append, take_more}
use Rattle.std.proofs.lemmas.List.Elements.{All-append, All-cons, All-map}
use Rattle.std.proofs.lemmas.Option.{slice_get-get_or, slice_get_within, get_or_from_slice_get}
use Rattle.ms_arena.specs.declared.node.Ref.{Ref}
use Rattle.ms_arena.specs.declared.node.Ref.TheVariants.{Leaf, Inner}
use Rattle.ms_arena.specs.declared.node.Node.{Node}
use Rattle.ms_arena.specs.Diagram.{IsBefore}
use Rattle.ms_arena.proofs.Paths.{IsBefore-later}
use Rattle.ms_logic_words.specs.Content.{StateOf, Content}
use Rattle.ms_logic_words.specs.declared.sign.Sign.{Sign}
use Rattle.ms_dfa.specs.Automaton.{IsAutomaton}
use Rattle.ms_best.specs.declared.graph.Vertex.{Vertex}
use Rattle.ms_best.specs.declared.graph.Vertex.TheVariants.{Goal, Letter}
use Rattle.ms_best.specs.inner.Graph.{LeadsTo, IsClosed}
use Rattle.ms_best.specs.inner.Automaton.{is_sign, place_of, vertex_of_state, vertex_of_node, graph_of}

-- one item more of a list is mapped
pub mapped_more : {X Y : Type 0} (f : X → Y) (xs : List X) (i : ℕ) (x d : X) (y : Y) (made : List Y) → slice_get xs i ≡ Some x → y ≡ f x
    → made ≡ map f (take i xs) → made ++ y ∷ [] ≡ map f (take (i + 1) xs)
mapped_more f xs i x d y made held is sofar =
    let within = slice_get_within xs i x held in
    rw (sofar, is, take_more xs i d within, map-append f (take i xs) (get_or xs i d ∷ []), get_or_from_slice_get xs i x d held) refl

-- the same behind others
pub mapped_behind : {X Y : Type 0} (f : X → Y) (front : List Y) (xs : List X) (i : ℕ) (x d : X) (y : Y) (made : List Y) → slice_get xs i ≡ Some x → y ≡ f x
    → made ≡ front ++ map f (take i xs) → made ++ y ∷ [] ≡ front ++ map f (take (i + 1) xs)
mapped_behind f front xs i x d y made held is sofar =
    ap (λ l. l ++ y ∷ []) sofar ∙ append_assoc front (map f (take i xs)) (y ∷ []) ∙ ap (λ l. front ++ l) (mapped_more f xs i x d y (map f (take i xs)) held is refl)

-- a reference before the last node has a place
place_within : (states nodes : ℕ) (reference : Ref) → IsBefore nodes reference → place_of states nodes reference < states + nodes + 1
place_within states nodes (Leaf value) before =
    elim (cases_lt value states) [
      | inl below ↦ rw (lt-ltb value states below) (omega (arith, below))
      | inr above ↦ rw (le-ltb value states above) (omega arith)
    ]
place_within states nodes (Inner place) before = omega (arith, before)

-- a vertex leads within so many places
abbrev pub LeadsWithin : ℕ → Vertex → Type 0
LeadsWithin n vertex = (place : ℕ) → LeadsTo vertex place → place < n

module _ (content : Content Sign) (sign : Sign) (automaton : IsAutomaton content) where
  abbrev pub size : ℕ
  size = length content.states + length content.nodes + 1

  state_leads : (state : StateOf Sign) → IsBefore (length content.nodes) state.next → LeadsWithin size (vertex_of_state (length content.states) (length content.nodes) sign state)
  state_leads state before = by_test (is_sign state.sign sign)
    where
      by_test : (test : Bool) → LeadsWithin size (if test then Goal else Letter (place_of (length content.states) (length content.nodes) state.next))
      by_test true place leads = absurd leads
      by_test false place leads = subst (λ (p : ℕ). p < size) leads (place_within (length content.states) (length content.nodes) state.next before)

  node_leads : (node : Node) → IsBefore (length content.nodes) node.low → IsBefore (length content.nodes) node.high → LeadsWithin size (vertex_of_node (length content.states) (length content.nodes) node)
  node_leads node low high place (inl is_low) = subst (λ (p : ℕ). p < size) is_low (place_within (length content.states) (length content.nodes) node.low low)
  node_leads node low high place (inr is_high) = subst (λ (p : ℕ). p < size) is_high (place_within (length content.states) (length content.nodes) node.high high)

  length-graph_of : length (graph_of content sign) ≡ size
  length-graph_of =
      rw (
        length-append (map (vertex_of_state (length content.states) (length content.nodes) sign) content.states ++ map (vertex_of_node (length content.states) (length content.nodes)) content.nodes) (Letter (length content.states + length content.nodes) ∷ []),
        length-append (map (vertex_of_state (length content.states) (length content.nodes) sign) content.states) (map (vertex_of_node (length content.states) (length content.nodes)) content.nodes),
        length-map content.states (vertex_of_state (length content.states) (length content.nodes) sign),
        length-map content.nodes (vertex_of_node (length content.states) (length content.nodes)),
      )
      refl

  all_lead : All (LeadsWithin size) (graph_of content sign)
  all_lead =
      All-append (LeadsWithin size) (map (vertex_of_state (length content.states) (length content.nodes) sign) content.states ++ map (vertex_of_node (length content.states) (length content.nodes)) content.nodes) (Letter (length content.states + length content.nodes) ∷ [])
      (All-append (LeadsWithin size) (map (vertex_of_state (length content.states) (length content.nodes) sign) content.states) (map (vertex_of_node (length content.states) (length content.nodes)) content.nodes)
      (All-map (LeadsWithin size) (vertex_of_state (length content.states) (length content.nodes) sign) content.states
      (λ k d below. state_leads (get_or content.states k d) (automaton.closed.next k d below).valid))
      (All-map (LeadsWithin size) (vertex_of_node (length content.states) (length content.nodes)) content.nodes
      (λ k d below.
      let held = slice_get-get_or content.nodes k d below in
      node_leads (get_or content.nodes k d)
      (IsBefore-later k (length content.nodes) (get_or content.nodes k d).low (omega (arith, below)) (automaton.ordered.earlier_low k (get_or content.nodes k d) held))
      (IsBefore-later k (length content.nodes) (get_or content.nodes k d).high (omega (arith, below)) (automaton.ordered.earlier_high k (get_or content.nodes k d) held)))))
      (All-cons (LeadsWithin size) (Letter (length content.states + length content.nodes)) [] (λ place leads. omega (arith, leads)) (λ k d below. absurd (omega (arith, below))))

  pub graph_is_closed : IsClosed (graph_of content sign)
  graph_is_closed i vertex held place leads =
      rw length-graph_of
      (let P : Vertex → Type 0 = λ v. LeadsWithin size v in
      subst P (get_or_from_slice_get (graph_of content sign) i vertex vertex held) (all_lead i vertex (slice_get_within (graph_of content sign) i vertex held)) place leads)
