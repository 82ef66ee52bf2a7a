-- The nodes and the links of cells, in which a link is written, or behind which a cell is put.
use Rattle.std.proofs.Common.{◌≡◌, ℕ, zero, suc, ◌+◌, ◌<◌, ◌≤◌, List, [], ◌∷◌, ◌++◌, length, slice_get, get_or, set, Some, refl, sym, ap, subst, ◌∙◌, arith}
use Rattle.std.proofs.lemmas.List.{length-map, map-append, map-set}
use Rattle.std.proofs.lemmas.Option.{same_Some, slice_get_within, slice_get-map}
use Rattle.std.specs.Option.{option_map}
use Rattle.ms_arena.specs.declared.node.Node.{Node}
use Rattle.ms_arena.specs.declared.cells.Cell.{Cell}
use Rattle.ms_arena.specs.inner.Bucket.{bucket_of}
use Rattle.ms_arena.specs.inner.Chain.{nodes_of, links_of, IsLinked, IsLast, AreLinked}
use Rattle.ms_arena.proofs.ChainLemmas.{LeadsTo, LeadsTo-last, LeadsTo-next, IsLinked-append, IsLinked-link}

-- a link that is written leaves the nodes
pub nodes_of-set : (cells : List Cell) (place : ℕ) (cell : Cell) (link : ℕ) → slice_get cells place ≡ Some cell → nodes_of (set cells place (record { node = cell.node; next = link })) ≡ nodes_of cells
nodes_of-set [] place cell link held = refl
nodes_of-set (first ∷ cells) zero cell link held = ap (λ (c : Cell). c.node ∷ nodes_of cells) (sym (same_Some first cell held))
nodes_of-set (first ∷ cells) (suc place) cell link held = ap (λ nodes. first.node ∷ nodes) (nodes_of-set cells place cell link held)

module _ (cells : List Cell) (heads : List ℕ) where
  -- the node of a cell
  pub node_at : (place : ℕ) (cell : Cell) → slice_get cells place ≡ Some cell → slice_get (nodes_of cells) place ≡ Some cell.node
  node_at place cell held = slice_get-map (λ c. c.node) cells place ∙ ap (option_map (λ c. c.node)) held

  -- and its link
  link_at : (place : ℕ) (cell : Cell) → slice_get cells place ≡ Some cell → slice_get (links_of cells) place ≡ Some cell.next
  link_at place cell held = slice_get-map (λ c. c.next) cells place ∙ ap (option_map (λ c. c.next)) held

  -- as many nodes as cells
  counted : length (nodes_of cells) ≡ length cells
  counted = length-map cells (λ c. c.node)

  linked_all : AreLinked cells heads (length cells) → AreLinked cells heads (length (nodes_of cells))
  linked_all = subst (AreLinked cells heads) (sym counted)

  -- a cell behind those that count makes no difference
  pub AreLinked-append : (cell : Cell) → AreLinked cells heads (length cells) → AreLinked (cells ++ cell ∷ []) heads (length cells)
  AreLinked-append cell linked =
      rw (map-append (λ (c : Cell). c.node) cells (cell ∷ []), map-append (λ (c : Cell). c.next) cells (cell ∷ []))
      (subst (IsLinked bucket_of (nodes_of cells ++ cell.node ∷ []) (links_of cells ++ cell.next ∷ []) heads) counted
      (IsLinked-append bucket_of (nodes_of cells) (links_of cells) heads cell.node cell.next (length-map cells (λ c. c.next) ∙ sym counted) (linked_all linked)))

  -- a place that is put in front of its chain
  pub AreLinked-link : (place head : ℕ) (own : Cell) → slice_get cells place ≡ Some own → head ≡ bucket_of (length heads) own.node → head < length heads → AreLinked cells heads place
      → AreLinked (set cells place (record { node = own.node; next = get_or heads head 0 })) (set heads head (place + 1)) (place + 1)
  AreLinked-link place head own held is bucketed linked =
      let within = slice_get_within cells place own held in
      rw (nodes_of-set cells place own (get_or heads head 0) held, map-set (λ (c : Cell). c.next) cells place (record { node = own.node; next = get_or heads head 0 }))
      (IsLinked-link bucket_of (nodes_of cells) (links_of cells) heads place head own.node (node_at place own held) (omega (arith, within, length-map cells (λ (c : Cell). c.next))) is bucketed linked)

  -- the link of a cell
  linked_at : (place : ℕ) (cell : Cell) → AreLinked cells heads (length cells) → slice_get cells place ≡ Some cell
      → IsLast (bucket_of (length heads)) (nodes_of cells) place (bucket_of (length heads) cell.node) cell.next
  linked_at place cell linked held = linked.followed place cell.node cell.next (node_at place cell held) (link_at place cell held) (slice_get_within cells place cell held)

  -- leads to an earlier place
  pub link_falls : (place : ℕ) (cell : Cell) → AreLinked cells heads (length cells) → slice_get cells place ≡ Some cell → cell.next ≤ place
  link_falls place cell linked held = (linked_at place cell linked held).within

  -- the link leads to the first place of a chain on which the node lies, if it is held
  abbrev pub LeadsToNode : Node → ℕ → Type 0
  LeadsToNode node = LeadsTo (bucket_of (length heads)) (nodes_of cells) (λ place. slice_get (nodes_of cells) place ≡ Some node) (bucket_of (length heads) node)

  -- the head of its bucket does
  pub LeadsTo-head : (node : Node) (first : ℕ) → IsLast (bucket_of (length heads)) (nodes_of cells) (length cells) (bucket_of (length heads) node) first → LeadsToNode node first
  LeadsTo-head node first last =
      LeadsTo-last (bucket_of (length heads)) (nodes_of cells) (λ place. slice_get (nodes_of cells) place ≡ Some node) (bucket_of (length heads) node) (λ place held. (node, held, refl)) first
      (subst (λ count. IsLast (bucket_of (length heads)) (nodes_of cells) count (bucket_of (length heads) node) first) (sym counted) last)

  -- and so does the link of each cell of its chain up to its own
  pub LeadsTo-cell : (node : Node) (place : ℕ) (cell : Cell) → AreLinked cells heads (length cells) → slice_get cells place ≡ Some cell → (cell.node ≡ node → ⊥)
      → LeadsToNode node (place + 1) → LeadsToNode node cell.next
  LeadsTo-cell node place cell linked held differ leads =
      LeadsTo-next (bucket_of (length heads)) (nodes_of cells) (λ other. slice_get (nodes_of cells) other ≡ Some node) (bucket_of (length heads) node) (λ other there. (node, there, refl))
      place cell.next cell.node (node_at place cell held) (λ there. differ (same_Some cell.node node (sym (node_at place cell held) ∙ there))) leads
      (linked_at place cell linked held)
