-- A walk over the start and over all states that it sees: what it leads to was seen, and ends before their nodes.
use Rattle.std.proofs.Common.{◌≡◌, ℕ, zero, suc, ◌<◌, List, [], ◌∷◌, ◌++◌, length, fold, slice_get, Some, refl, sym, ap, subst, ◌∙◌, arith}
use Rattle.std.specs.List.{flat_map}
use Rattle.std.proofs.lemmas.List.Sums.{fold-append}
use Rattle.std.proofs.lemmas.Option.{none-some, slice_get_within}
use Rattle.ms_arena.specs.declared.node.Node.{Node}
use Rattle.ms_arena.specs.declared.node.Ref.{Ref}
use Rattle.ms_arena.specs.Diagram.{IsOrdered}
use Rattle.ms_arena.proofs.Lists.{slice_get-held}
use Rattle.ms_diagram.specs.Leaves.{noted}
use Rattle.ms_diagram.specs.Numbering.{HasNoRepeats}
use Rattle.ms_diagram.proofs.LeavesLemmas.{KnowsAll-noted}
use Rattle.ms_dfa.specs.declared.state.State.{State}
use Rattle.ms_minim_canonical.specs.inner.Renumbering.{LeadsBelow, from_state, leaves_from, nodes_from, walk_over}
use Rattle.ms_minim_canonical.proofs.ImageLemmas.{IsAt}
use Rattle.ms_minim_canonical.proofs.NotedLemmas.{AllOf, all-left, all-right, extends-noted, known_all, no_repeats-none, no_repeats-noted}
use Rattle.ms_minim_canonical.proofs.PostorderLemmas.{IsPostorder, IsSeen, post-walk, seen-extends}

-- what all of a walk has, the walk of each item has
all-item : (P : ℕ → Type 0) (f : ℕ → List ℕ) (ns : List ℕ) → AllOf P (flat_map f ns) → (at n : ℕ) → slice_get ns at ≡ Some n → AllOf P (f n)
all-item P f [] all at n held = absurd (none-some n held)
all-item P f (m ∷ ns) all zero n held = subst (λ k. AllOf P (f k)) (some_is m n held) (all-left P (f m) (flat_map f ns) all)
  where
    some_is : (one other : ℕ) → Some one ≡ Some other → one ≡ other
    some_is one other same = cc
all-item P f (m ∷ ns) all (suc at) n held = all-item P f ns (all-right P (f m) (flat_map f ns) all) at n held

module _ (nodes : List Node) (ordered : IsOrdered nodes) (start : Ref) (states : List State) (leads : LeadsBelow nodes (length states) start)
    (leads_next : (place : ℕ) (state : State) → slice_get states place ≡ Some state → LeadsBelow nodes (length states) state.next)
    (order places : List ℕ) (order_is : order ≡ fold noted [] (walk_over (leaves_from nodes) start states order)) where
  -- the number was seen
  abbrev pub IsOrdinal : ℕ → Type 0
  IsOrdinal n = (at : ℕ) × IsAt order n at

  pub order-apart : HasNoRepeats order
  order-apart = subst HasNoRepeats (sym order_is) (no_repeats-noted [] (walk_over (leaves_from nodes) start states order) no_repeats-none)

  -- all leaves were
  all_leaves : AllOf IsOrdinal (walk_over (leaves_from nodes) start states order)
  all_leaves =
      subst (λ list. AllOf (λ n. (at : ℕ) × IsAt list n at) (walk_over (leaves_from nodes) start states order)) (sym order_is)
      (known_all (fold noted [] (walk_over (leaves_from nodes) start states order)) (walk_over (leaves_from nodes) start states order)
      (KnowsAll-noted [] (walk_over (leaves_from nodes) start states order)))

  abbrev leaves_at : ℕ → List ℕ
  leaves_at n = from_state (leaves_from nodes) (slice_get states n)

  pub start_leaves : AllOf IsOrdinal (leaves_from nodes start)
  start_leaves = all-left IsOrdinal (leaves_from nodes start) (flat_map leaves_at order) all_leaves

  pub next_leaves : (at n : ℕ) (state : State) → slice_get order at ≡ Some n → slice_get states n ≡ Some state → AllOf IsOrdinal (leaves_from nodes state.next)
  next_leaves at n state there held =
      subst (AllOf IsOrdinal) (ap (from_state (leaves_from nodes)) held)
      (all-item IsOrdinal leaves_at order (all-right IsOrdinal (leaves_from nodes start) (flat_map leaves_at order) all_leaves) at n there)

  -- the nodes, state by state
  abbrev nodes_at : ℕ → List ℕ
  nodes_at n = from_state (nodes_from nodes) (slice_get states n)

  -- the leaves of these states were seen
  abbrev AreWalkable : List ℕ → Type 0
  AreWalkable ns = (at n : ℕ) → slice_get ns at ≡ Some n → (state : State) × (slice_get states n ≡ Some state) × AllOf IsOrdinal (leaves_from nodes state.next)

  post-states : (ns seen : List ℕ) → AreWalkable ns → IsPostorder nodes IsOrdinal seen
      → IsPostorder nodes IsOrdinal (fold noted seen (flat_map nodes_at ns))
      × ((at n : ℕ) (state : State) → slice_get ns at ≡ Some n → slice_get states n ≡ Some state → IsSeen IsOrdinal (fold noted seen (flat_map nodes_at ns)) state.next)
  post-states [] seen walkable posts = (posts, λ at n state there held. absurd (none-some n there))
  post-states (m ∷ ns) seen walkable posts =
      let first = walkable 0 m refl in
      let own : nodes_at m ≡ nodes_from nodes first.0.next = ap (from_state (nodes_from nodes)) first.1 in
      let one = post-walk nodes ordered IsOrdinal (length nodes) first.0.next seen (leads_next m first.0 first.1).valid (omega arith) first.2 posts in
      let then = fold noted seen (nodes_from nodes first.0.next) in
      let more = post-states ns then (λ at n there. walkable (suc at) n there) one.0 in
      let whole : fold noted seen (nodes_at m ++ flat_map nodes_at ns) ≡ fold noted then (flat_map nodes_at ns)
      = fold-append noted seen (nodes_at m) (flat_map nodes_at ns) ∙ ap (λ list. fold noted (fold noted seen list) (flat_map nodes_at ns)) own in (
        subst (IsPostorder nodes IsOrdinal) (sym whole) more.0,
        λ at n state there held. subst (λ list. IsSeen IsOrdinal list state.next) (sym whole)
            (by at n state there held first.0 first.1 (fold noted then (flat_map nodes_at ns)) (seen-extends nodes ordered IsOrdinal then (fold noted then (flat_map nodes_at ns)) (extends-noted then (flat_map nodes_at ns)) first.0.next one.1) more.1),
      )
    where
      by : (at n : ℕ) (state : State) → slice_get (m ∷ ns) at ≡ Some n → slice_get states n ≡ Some state → (own : State) → slice_get states m ≡ Some own
          → (list : List ℕ) → IsSeen IsOrdinal list own.next
          → ((at n : ℕ) (state : State) → slice_get ns at ≡ Some n → slice_get states n ≡ Some state → IsSeen IsOrdinal list state.next) → IsSeen IsOrdinal list state.next
      by zero n state there held own own_held list seen rest =
          let same : Some own ≡ Some state = sym own_held ∙ ap (slice_get states) (let is : m ≡ n = cc in is) ∙ held in
          let is : own ≡ state = cc in subst (λ (s : State). IsSeen IsOrdinal list s.next) is seen
      by (suc at) n state there held own own_held list seen rest = rest at n state there held

  module _ (below : AllOf (λ n. n < length states) order) (places_is : places ≡ fold noted [] (walk_over (nodes_from nodes) start states order)) where
    walkable : AreWalkable order
    walkable at n there =
        let held = slice_get-held states n (below at n there) in
        (held.0, held.1, next_leaves at n held.0 there held.1)

    begun : IsPostorder nodes IsOrdinal (fold noted [] (nodes_from nodes start)) × IsSeen IsOrdinal (fold noted [] (nodes_from nodes start)) start
    begun = post-walk nodes ordered IsOrdinal (length nodes) start [] leads.valid (omega arith) start_leaves (λ at place there. absurd (none-some place there))

    whole : places ≡ fold noted (fold noted [] (nodes_from nodes start)) (flat_map nodes_at order)
    whole = places_is ∙ fold-append noted [] (nodes_from nodes start) (flat_map nodes_at order)

    done : IsPostorder nodes IsOrdinal (fold noted (fold noted [] (nodes_from nodes start)) (flat_map nodes_at order))
        × ((at n : ℕ) (state : State) → slice_get order at ≡ Some n → slice_get states n ≡ Some state
        → IsSeen IsOrdinal (fold noted (fold noted [] (nodes_from nodes start)) (flat_map nodes_at order)) state.next)
    done = post-states order (fold noted [] (nodes_from nodes start)) walkable begun.0

    pub places-apart : HasNoRepeats places
    places-apart = subst HasNoRepeats (sym places_is) (no_repeats-noted [] (walk_over (nodes_from nodes) start states order) no_repeats-none)

    pub posts : IsPostorder nodes IsOrdinal places
    posts = subst (IsPostorder nodes IsOrdinal) (sym whole) done.0

    pub start_seen : IsSeen IsOrdinal places start
    start_seen = subst (λ list. IsSeen IsOrdinal list start) (sym whole)
        (seen-extends nodes ordered IsOrdinal (fold noted [] (nodes_from nodes start)) (fold noted (fold noted [] (nodes_from nodes start)) (flat_map nodes_at order))
        (extends-noted (fold noted [] (nodes_from nodes start)) (flat_map nodes_at order)) start begun.1)

    pub next_seen : (at n : ℕ) (state : State) → slice_get order at ≡ Some n → slice_get states n ≡ Some state → IsSeen IsOrdinal places state.next
    next_seen at n state there held = subst (λ list. IsSeen IsOrdinal list state.next) (sym whole) (done.1 at n state there held)

    pub places-below : AllOf (λ place. place < length nodes) places
    places-below at place there = let is = posts at place there in slice_get_within nodes place is.node is.held
