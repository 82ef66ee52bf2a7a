-- The nodes that a walk sees are reached.
use Rattle.std.proofs.Common.{◌≡◌, ℕ, zero, suc, ◌<◌, inl, inr, List, [], ◌∷◌, ◌++◌, length, slice_get, Option, Some, None, refl, sym, subst, ◌∙◌, arith}
use Rattle.std.specs.List.{flat_map}
use Rattle.std.specs.Option.{option_map_or}
use Rattle.std.proofs.lemmas.Option.{same_Some, slice_get_within}
use Rattle.ms_arena.specs.declared.node.Node.{Node}
use Rattle.ms_arena.specs.declared.node.Ref.{Ref}
use Rattle.ms_arena.specs.declared.node.Ref.TheVariants.{Leaf, Inner}
use Rattle.ms_arena.specs.Reach.{Reaches, here, through_low, through_high}
use Rattle.ms_arena.proofs.Lists.{slice_get-held}
use Rattle.ms_logic_words.specs.Canonical.{IsNodeReached, first_sights_of, nodes_within, seen_nodes}
use Rattle.ms_logic_words.specs.Content.{StateOf, Content}
use Rattle.ms_logic.specs.FiniteSet.{numbers_below}
use Rattle.ms_minim_canonical.proofs.FirstSightLemmas.{numbers_below_at}
use Rattle.ms_minim_canonical.proofs.NotedLemmas.{AllOf, all-append, all-first, all-flat_map, all-implies, all-none, all-unseen}
use Rattle.ms_minim_canonical.proofs.Paired.{lists_equal, paired-at, paired-length}
use Rattle.ms_minim_canonical.specs.inner.Renumbering.{ArePaired}
use Rattle.std.proofs.lemmas.List.FromFn.{length-range_with_len}

reach-node : (nodes : List Node) (place : ℕ) (lows highs : Node → List ℕ) (found : Option Node) → slice_get nodes place ≡ found
    → ((node : Node) → AllOf (Reaches nodes node.low) (lows node)) → ((node : Node) → AllOf (Reaches nodes node.high) (highs node))
    → AllOf (Reaches nodes (Inner place)) (option_map_or (λ node. lows node ++ highs node ++ place ∷ []) found [])
reach-node nodes place lows highs None is low high = all-none (Reaches nodes (Inner place))
reach-node nodes place lows highs (Some node) is low high =
    all-append (Reaches nodes (Inner place)) (lows node ++ highs node) (place ∷ [])
    (all-append (Reaches nodes (Inner place)) (lows node) (highs node)
    (all-implies (Reaches nodes node.low) (Reaches nodes (Inner place)) (lows node) (λ goal path. through_low node is path) (low node))
    (all-implies (Reaches nodes node.high) (Reaches nodes (Inner place)) (highs node) (λ goal path. through_high node is path) (high node)))
    (all-first (Reaches nodes (Inner place)) place [] here (all-none (Reaches nodes (Inner place))))

pub reach_all : (nodes : List Node) (count : ℕ) (root : Ref) → AllOf (Reaches nodes root) (nodes_within count nodes root)
reach_all nodes count (Leaf value) = all-none (Reaches nodes (Leaf value))
reach_all nodes zero (Inner place) = all-none (Reaches nodes (Inner place))
reach_all nodes (suc count) (Inner place) =
    reach-node nodes place (λ node. nodes_within count nodes node.low) (λ node. nodes_within count nodes node.high) (slice_get nodes place) refl
    (λ node. reach_all nodes count node.low) (λ node. reach_all nodes count node.high)

module _ {Sign : Type 0} (content : Content Sign) where
  all_reached : AllOf (IsNodeReached content) (seen_nodes content)
  all_reached =
      let f : StateOf Sign → List ℕ = λ state. nodes_within (length content.nodes) content.nodes state.next in
      all-append (IsNodeReached content) (nodes_within (length content.nodes) content.nodes content.start) (flat_map f content.states)
      (all-implies (Reaches content.nodes content.start) (IsNodeReached content) (nodes_within (length content.nodes) content.nodes content.start) (λ place path. inl path)
      (reach_all content.nodes (length content.nodes) content.start))
      (all-flat_map (IsNodeReached content) f content.states (λ at state held.
      all-implies (Reaches content.nodes state.next) (IsNodeReached content) (f state) (λ place path. inr (at, state, held, path)) (reach_all content.nodes (length content.nodes) state.next)))

  -- nodes that are numbered by first sight are all reached
  pub reached-numbered : first_sights_of (seen_nodes content) ≡ numbers_below (length content.nodes) → (place : ℕ) → place < length content.nodes → IsNodeReached content place
  reached-numbered numbered place less =
      subst (AllOf (IsNodeReached content)) numbered (all-unseen (IsNodeReached content) [] (seen_nodes content) all_reached) place place (numbers_below_at (length content.nodes) place less)

-- items that are related each to its own place alone are the numbers in order
pub own_numbers : (S : ℕ → ℕ → Type 0) (xs ks : List ℕ) → ArePaired S xs ks → ((at x k : ℕ) → slice_get xs at ≡ Some x → S x k → k ≡ at) → ks ≡ numbers_below (length xs)
own_numbers S xs ks paired own =
    let long = paired-length S xs ks paired in
    let count = length-range_with_len 0 (length xs) in
    lists_equal ks (numbers_below (length xs)) (omega (arith, long, count)) (λ place k m at_k at_m.
    let less = slice_get_within ks place k at_k in
    let within : place < length xs = omega (arith, less, long) in
    let x = slice_get-held xs place within in
    let is_place = own place x.0 k x.1 (paired-at S xs ks paired place x.0 k x.1 at_k) in
    is_place ∙ same_Some place m (sym (numbers_below_at (length xs) place within) ∙ at_m))
