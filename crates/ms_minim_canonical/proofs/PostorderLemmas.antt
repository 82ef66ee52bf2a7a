-- A walk sees the ends of a node before the node itself.
use Rattle.std.proofs.Common.{◌≡◌, ℕ, zero, suc, ◌<◌, ◌≤◌, ⊎_elim, inl, inr, List, [], ◌∷◌, ◌++◌, length, fold, slice_get, Some, refl, sym, ap, subst, ◌∙◌, arith}
use Rattle.std.proofs.lemmas.List.Sums.{fold-append}
use Rattle.std.proofs.lemmas.Option.{slice_get_within}
use Rattle.ms_arena.specs.declared.node.Node.{Node}
use Rattle.ms_arena.specs.declared.node.Ref.{Ref}
use Rattle.ms_arena.specs.declared.node.Ref.TheVariants.{Leaf, Inner}
use Rattle.ms_arena.specs.Diagram.{IsBefore, IsOrdered}
use Rattle.ms_arena.specs.Leaves.{leaves_behind, leaves_within}
use Rattle.ms_arena.specs.Target.{Extends}
use Rattle.ms_arena.proofs.Appending.{slice_get-extends}
use Rattle.ms_arena.proofs.Lists.{slice_get-held, slice_get-pushed}
use Rattle.ms_arena.proofs.Paths.{IsBefore-later}
use Rattle.ms_diagram.specs.Leaves.{noted}
use Rattle.ms_diagram.specs.Numbering.{Numbers}
use Rattle.ms_diagram.proofs.LeavesLemmas.{leaves_within-leaf, KnowsAll-noted}
use Rattle.ms_logic_words.specs.Canonical.{nodes_within}
use Rattle.ms_minim_canonical.specs.inner.Renumbering.{nodes_from}
use Rattle.ms_minim_canonical.proofs.NotedLemmas.{AllOf, all-left, all-right, any_place, extends-noted, numbers-noted}

module _ (nodes : List Node) (ordered : IsOrdered nodes) where
  -- more steps than the place see no more nodes
  nodes_settled : (count steps : ℕ) (root : Ref) → IsBefore count root → count ≤ length nodes → count ≤ steps → nodes_within steps nodes root ≡ nodes_within count nodes root
  nodes_settled count steps (Leaf value) before within enough = refl
  nodes_settled zero steps (Inner place) before within enough = absurd (omega arith)
  nodes_settled (suc count) zero (Inner place) before within enough = absurd (omega arith)
  nodes_settled (suc count) (suc steps) (Inner place) before within enough =
      let held = slice_get-held nodes place (omega arith) in
      let low = nodes_settled count steps held.0.low (IsBefore-later place count held.0.low (omega arith) (ordered.earlier_low place held.0 held.1)) (omega arith) (omega arith) in
      let high = nodes_settled count steps held.0.high (IsBefore-later place count held.0.high (omega arith) (ordered.earlier_high place held.0 held.1)) (omega arith) (omega arith) in
      rw (held.1) (λ i. low i ++ high i ++ place ∷ [])

  -- those behind the low end of a node, those behind its high end, and the node
  pub nodes_from-node : (place : ℕ) (node : Node) → slice_get nodes place ≡ Some node
      → nodes_from nodes (Inner place) ≡ nodes_from nodes node.low ++ nodes_from nodes node.high ++ place ∷ []
  nodes_from-node place node held =
      let within : place < length nodes = slice_get_within nodes place node held in
      let low = nodes_settled place (length nodes) node.low (ordered.earlier_low place node held) (omega arith) (omega arith) in
      let high = nodes_settled place (length nodes) node.high (ordered.earlier_high place node held) (omega arith) (omega arith) in
      nodes_settled (suc place) (length nodes) (Inner place) (omega arith) within within
      ∙ rw (held) (λ i. sym low i ++ sym high i ++ place ∷ [])

-- a reference is a leaf with the property, or its node was seen
abbrev pub IsSeen : (ℕ → Type 0) → List ℕ → Ref → Type 0
IsSeen P seen (Leaf value) = P value
IsSeen P seen (Inner place) = (at : ℕ) × (slice_get seen at ≡ Some place)

-- and was seen before this place of the list
abbrev pub IsSeenBefore : (ℕ → Type 0) → List ℕ → ℕ → Ref → Type 0
IsSeenBefore P seen bound (Leaf value) = P value
IsSeenBefore P seen bound (Inner place) = (at : ℕ) × (at < bound) × (slice_get seen at ≡ Some place)

-- a node was seen at this place, and its ends before it
pub record IsPosted (nodes : List Node) (P : ℕ → Type 0) (seen : List ℕ) (at place : ℕ) : Type 0 where
  pub node : Node
  pub held : slice_get nodes place ≡ Some node
  pub low : IsSeenBefore P seen at node.low
  pub high : IsSeenBefore P seen at node.high

abbrev pub IsPostorder : List Node → (ℕ → Type 0) → List ℕ → Type 0
IsPostorder nodes P seen = (at place : ℕ) → slice_get seen at ≡ Some place → IsPosted nodes P seen at place

module _ (nodes : List Node) (ordered : IsOrdered nodes) (P : ℕ → Type 0) where
  pub seen-extends : (seen more : List ℕ) → Extends seen more → (root : Ref) → IsSeen P seen root → IsSeen P more root
  seen-extends seen more extends (Leaf value) is = is
  seen-extends seen more extends (Inner place) is = (is.0, slice_get-extends seen more extends is.0 place is.1)

  before-extends : (seen more : List ℕ) → Extends seen more → (bound : ℕ) (root : Ref) → IsSeenBefore P seen bound root → IsSeenBefore P more bound root
  before-extends seen more extends bound (Leaf value) is = is
  before-extends seen more extends bound (Inner place) is = (is.0, is.1, slice_get-extends seen more extends is.0 place is.2)

  seen_before : (seen more : List ℕ) → Extends seen more → (root : Ref) → IsSeen P seen root → IsSeenBefore P more (length seen) root
  seen_before seen more extends (Leaf value) is = is
  seen_before seen more extends (Inner place) is = (is.0, slice_get_within seen is.0 place is.1, slice_get-extends seen more extends is.0 place is.1)

  -- a node whose ends were seen
  post-one : (seen new : List ℕ) (place : ℕ) (node : Node) → slice_get nodes place ≡ Some node → Numbers seen new place → IsPostorder nodes P seen → IsSeen P seen node.low → IsSeen P seen node.high
      → IsPostorder nodes P new
  post-one seen new place node held (inl same) posts low high = subst (IsPostorder nodes P) (sym same) posts
  post-one seen new place node held (inr added) posts low high = λ at other there.
      let extends : Extends seen new = (place ∷ [], added.1) in
      ⊎_elim
      (λ before.
      let was = posts at other before in
      record { node = was.node; held = was.held; low = before-extends seen new extends at was.node.low was.low; high = before-extends seen new extends at was.node.high was.high })
      (λ last.
      let own : IsPosted nodes P new (length seen) place = record { node = node; held = held; low = seen_before seen new extends node.low low; high = seen_before seen new extends node.high high } in
      subst (λ n. IsPosted nodes P new at n) last.1 (subst (λ i. IsPosted nodes P new i place) (sym last.0) own))
      (slice_get-pushed seen place at other (ap (λ list. slice_get list at) (sym added.1) ∙ there))

  post-node : (place : ℕ) (node : Node) → slice_get nodes place ≡ Some node → (seen lows highs : List ℕ) → IsSeen P (fold noted seen lows) node.low
      → IsPostorder nodes P (fold noted (fold noted seen lows) highs) → IsSeen P (fold noted (fold noted seen lows) highs) node.high
      → IsPostorder nodes P (fold noted seen (lows ++ highs ++ place ∷ [])) × IsSeen P (fold noted seen (lows ++ highs ++ place ∷ [])) (Inner place)
  post-node place node held seen lows highs low posts high =
      let then = fold noted seen lows in
      let last = fold noted then highs in
      let known = KnowsAll-noted last (place ∷ []) in
      let whole : fold noted seen (lows ++ highs ++ place ∷ []) ≡ noted last place
      = fold-append noted seen (lows ++ highs) (place ∷ []) ∙ ap (λ list. noted list place) (fold-append noted seen lows highs) in
      subst (λ list. IsPostorder nodes P list × IsSeen P list (Inner place)) (sym whole) (
        post-one last (noted last place) place node held (numbers-noted last place) posts (seen-extends then last (extends-noted then highs) node.low low) high,
        any_place place (noted last place) known.0,
      )

  pub post-walk : (count : ℕ) (root : Ref) (seen : List ℕ) → IsBefore count root → count ≤ length nodes → AllOf P (leaves_within nodes count root) → IsPostorder nodes P seen
      → IsPostorder nodes P (fold noted seen (nodes_within count nodes root)) × IsSeen P (fold noted seen (nodes_within count nodes root)) root
  post-walk count (Leaf value) seen before within leaves posts = (posts, subst (AllOf P) (leaves_within-leaf nodes count value) leaves 0 value refl)
  post-walk zero (Inner place) seen before within leaves posts = absurd (omega arith)
  post-walk (suc count) (Inner place) seen before within leaves posts =
      let held = slice_get-held nodes place (omega arith) in
      let lows = nodes_within count nodes held.0.low in
      let highs = nodes_within count nodes held.0.high in
      let both = subst (λ found. AllOf P (leaves_behind (leaves_within nodes count) found)) held.1 leaves in
      let one = post-walk count held.0.low seen (IsBefore-later place count held.0.low (omega arith) (ordered.earlier_low place held.0 held.1)) (omega arith)
      (all-left P (leaves_within nodes count held.0.low) (leaves_within nodes count held.0.high) both) posts in
      let two = post-walk count held.0.high (fold noted seen lows) (IsBefore-later place count held.0.high (omega arith) (ordered.earlier_high place held.0 held.1)) (omega arith)
      (all-right P (leaves_within nodes count held.0.low) (leaves_within nodes count held.0.high) both) one.0 in
      rw (held.1) (post-node place held.0 held.1 seen lows highs one.1 two.0 two.1)
