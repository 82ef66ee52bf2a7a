-- Where the bits lead: a reference has the leaf of the end that the bits choose, and later nodes change nothing.
use Rattle.std.proofs.Common.{◌≡◌, ℕ, zero, suc, ◌<◌, ◌≤◌, true, false, if◌then◌else◌, List, ◌++◌, length, slice_get, Some, refl, sym, ap, ◌∙◌, length-append, arith}
use Rattle.std.proofs.lemmas.Option.{slice_get_within}
use Rattle.ms_arena.specs.declared.node.Ref.{Ref}
use Rattle.ms_arena.specs.declared.node.Ref.TheVariants.{Leaf, Inner}
use Rattle.ms_arena.specs.declared.node.Node.{Node}
use Rattle.ms_arena.specs.Diagram.{Bits, end_at, end_behind, ref_after, leaf_number, leaf_of, IsBefore, IsValid, IsOrdered}
use Rattle.ms_arena.proofs.Lists.{slice_get-append_left, slice_get-held}

-- what is before a place is before each later one
pub IsBefore-later : (one two : ℕ) (reference : Ref) → one ≤ two → IsBefore one reference → IsBefore two reference
IsBefore-later one two (Leaf value) later before = tt
IsBefore-later one two (Inner place) later before = omega arith

-- both ends of a node are before it, so the one that the bits choose is
pub IsBefore-end_at : (nodes : List Node) → IsOrdered nodes → (place : ℕ) (node : Node) (bits : Bits) → slice_get nodes place ≡ Some node → IsBefore place (end_at node bits)
IsBefore-end_at nodes ordered place node bits held =
    elim (bits node.var) as (λ bit. IsBefore place (if bit then node.high else node.low)) [
      | true ↦ ordered.earlier_high place node held
      | false ↦ ordered.earlier_low place node held
    ]

-- a leaf stays where it is
pub ref_after-leaf : (nodes : List Node) (bits : Bits) (steps value : ℕ) → ref_after nodes bits steps (Leaf value) ≡ Leaf value
ref_after-leaf nodes bits zero value = refl
ref_after-leaf nodes bits (suc steps) value = ref_after-leaf nodes bits steps value

-- the leaf of a leaf
pub leaf_of-leaf : (nodes : List Node) (bits : Bits) (value : ℕ) → leaf_of nodes (Leaf value) bits ≡ value
unfolding leaf_of
leaf_of-leaf nodes bits value = ap leaf_number (ref_after-leaf nodes bits (length nodes) value)

module _ (nodes : List Node) (ordered : IsOrdered nodes) (bits : Bits) where
  -- from before a place, as many steps as the place end at a leaf, where further steps stay
  settled : (count steps : ℕ) (reference : Ref) → IsBefore count reference → count ≤ length nodes → count ≤ steps
      → ref_after nodes bits steps reference ≡ Leaf (leaf_number (ref_after nodes bits count reference))
  settled count steps (Leaf value) before within enough =
      ref_after-leaf nodes bits steps value ∙ ap (λ r. Leaf (leaf_number r)) (sym (ref_after-leaf nodes bits count value))
  settled zero steps (Inner place) before within enough = absurd (omega arith)
  settled (suc count) zero (Inner place) before within enough = absurd (omega arith)
  settled (suc count) (suc steps) (Inner place) before within enough =
      let held = slice_get-held nodes place (omega arith) in
      rw (held.1) (settled count steps (end_at held.0 bits)
      (IsBefore-later place count (end_at held.0 bits) (omega arith) (IsBefore-end_at nodes ordered place held.0 bits held.1))
      (omega arith) (omega arith))

  -- so the leaf is found within as many steps as the place
  pub leaf_of-after : (count : ℕ) (reference : Ref) → IsBefore count reference → count ≤ length nodes
      → leaf_of nodes reference bits ≡ leaf_number (ref_after nodes bits count reference)
  unfolding leaf_of
  leaf_of-after count reference before within = ap leaf_number (settled count (length nodes) reference before within within)

  -- the leaf of a node is that of the end that the bits choose
  pub leaf_of-node : (place : ℕ) (node : Node) → slice_get nodes place ≡ Some node → leaf_of nodes (Inner place) bits ≡ leaf_of nodes (end_at node bits) bits
  leaf_of-node place node held =
      let within : place < length nodes = slice_get_within nodes place node held in
      leaf_of-after (suc place) (Inner place) (omega arith) within
      ∙ ap (λ found. leaf_number (ref_after nodes bits place (end_behind place found bits))) held
      ∙ sym (leaf_of-after place (end_at node bits) (IsBefore-end_at nodes ordered place node bits held) (omega arith))

module _ (nodes more : List Node) (ordered : IsOrdered nodes) (bits : Bits) where
  -- steps among the first nodes are the same in the longer list
  ref_after-append : (steps : ℕ) (reference : Ref) → IsValid nodes reference → ref_after (nodes ++ more) bits steps reference ≡ ref_after nodes bits steps reference
  ref_after-append steps (Leaf value) valid = ref_after-leaf (nodes ++ more) bits steps value ∙ sym (ref_after-leaf nodes bits steps value)
  ref_after-append zero (Inner place) valid = refl
  ref_after-append (suc steps) (Inner place) valid =
      let held = slice_get-held nodes place valid in
      rw (slice_get-append_left nodes more place valid, held.1)
      (ref_after-append steps (end_at held.0 bits)
      (IsBefore-later place (length nodes) (end_at held.0 bits) (omega arith) (IsBefore-end_at nodes ordered place held.0 bits held.1)))

  -- nodes that come later change no leaf
  pub leaf_of-append : (reference : Ref) → IsValid nodes reference → leaf_of (nodes ++ more) reference bits ≡ leaf_of nodes reference bits
  unfolding leaf_of
  leaf_of-append reference valid =
      ap leaf_number (ref_after-append (length (nodes ++ more)) reference valid
      ∙ settled nodes ordered bits (length nodes) (length (nodes ++ more)) reference valid (omega arith) (omega (arith, length-append nodes more)))
