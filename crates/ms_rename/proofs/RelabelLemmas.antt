-- Nodes whose leaves get other numbers, different ones different numbers.
use Rattle.std.proofs.Common.{◌≡◌, ℕ, zero, suc, ◌<◌, ◌≤◌, Bool, true, false, if◌then◌else◌, List, length, map, slice_get, Some, refl, sym, ap, subst, ◌∙◌, arith}
use Rattle.std.specs.Option.{option_map}
use Rattle.std.proofs.lemmas.List.{length-map}
use Rattle.std.proofs.lemmas.Option.{same_Some, slice_get-map, slice_get_within}
use Rattle.ms_arena.specs.Diagram.{Bits, IsBefore, IsOrdered, IsReduced, IsValid, TestsAbove, end_at, leaf_of}
use Rattle.ms_arena.specs.declared.node.Node.{Node}
use Rattle.ms_arena.specs.declared.node.Ref.{Ref}
use Rattle.ms_arena.specs.declared.node.Ref.TheVariants.{Leaf, Inner}
use Rattle.ms_arena.proofs.Lists.{slice_get-held}
use Rattle.ms_arena.proofs.Paths.{IsBefore-end_at, IsBefore-later, leaf_of-leaf, leaf_of-node}

module _ (number_of : ℕ → ℕ) where
  abbrev pub relabelled_ref : Ref → Ref
  relabelled_ref (Leaf value) = Leaf (number_of value)
  relabelled_ref (Inner place) = Inner place

  abbrev pub relabelled_node : Node → Node
  relabelled_node node = record { var = node.var; low = relabelled_ref node.low; high = relabelled_ref node.high }

  -- the end to which bits lead
  pub relabelled_end : (node : Node) (bits : Bits) → end_at (relabelled_node node) bits ≡ relabelled_ref (end_at node bits)
  relabelled_end node bits = by_bit (bits node.var)
    where
      by_bit : (bit : Bool) → (if bit then relabelled_ref node.high else relabelled_ref node.low) ≡ relabelled_ref (if bit then node.high else node.low)
      by_bit true = refl
      by_bit false = refl

  before_relabelled : (count : ℕ) (reference : Ref) → IsBefore count reference → IsBefore count (relabelled_ref reference)
  before_relabelled count (Leaf value) before = tt
  before_relabelled count (Inner place) before = before

  module _ (nodes : List Node) where
    abbrev pub relabelled : List Node
    relabelled = map relabelled_node nodes

    pub held_relabelled : (place : ℕ) (node : Node) → slice_get nodes place ≡ Some node → slice_get relabelled place ≡ Some (relabelled_node node)
    held_relabelled place node held = slice_get-map relabelled_node nodes place ∙ ap (option_map relabelled_node) held

    -- what has become of which node
    pub was_node : (place : ℕ) (made : Node) → slice_get relabelled place ≡ Some made → (node : Node) × (slice_get nodes place ≡ Some node) × (made ≡ relabelled_node node)
    was_node place made held =
        let within = slice_get_within relabelled place made held in
        let long = length-map nodes relabelled_node in
        let was = slice_get-held nodes place (omega (arith, within, long)) in
        (was.0, was.1, same_Some made (relabelled_node was.0) (sym held ∙ held_relabelled place was.0 was.1))

    tests_relabelled : (var : ℕ) (reference : Ref) → TestsAbove nodes var reference → TestsAbove relabelled var (relabelled_ref reference)
    tests_relabelled var (Leaf value) tests = tt
    tests_relabelled var (Inner place) tests = λ made held.
        let was = was_node place made held in subst (λ (node : Node). var < node.var) (sym was.2) (tests was.0 was.1)

    module _ (ordered : IsOrdered nodes) where
      pub relabelled_ordered : IsOrdered relabelled
      relabelled_ordered = record {
        earlier_low = λ place made held.
            let was = was_node place made held in subst (λ (node : Node). IsBefore place node.low) (sym was.2) (before_relabelled place was.0.low (ordered.earlier_low place was.0 was.1));
        earlier_high = λ place made held.
            let was = was_node place made held in subst (λ (node : Node). IsBefore place node.high) (sym was.2) (before_relabelled place was.0.high (ordered.earlier_high place was.0 was.1));
        rising_low = λ place made held.
            let was = was_node place made held in
            subst (λ (node : Node). TestsAbove relabelled node.var node.low) (sym was.2) (tests_relabelled was.0.var was.0.low (ordered.rising_low place was.0 was.1));
        rising_high = λ place made held.
            let was = was_node place made held in
            subst (λ (node : Node). TestsAbove relabelled node.var node.high) (sym was.2) (tests_relabelled was.0.var was.0.high (ordered.rising_high place was.0 was.1));
      }

      leaf_below : (bound : ℕ) (reference : Ref) → IsBefore bound reference → bound ≤ length nodes → (bits : Bits)
          → leaf_of relabelled (relabelled_ref reference) bits ≡ number_of (leaf_of nodes reference bits)
      leaf_below bound (Leaf value) before within bits = leaf_of-leaf relabelled bits (number_of value) ∙ sym (ap number_of (leaf_of-leaf nodes bits value))
      leaf_below zero (Inner place) before within bits = absurd (omega (arith, before))
      leaf_below (suc bound) (Inner place) before within bits =
          let held = slice_get-held nodes place (omega (arith, before, within)) in
          let node = held.0 in
          leaf_of-node relabelled relabelled_ordered bits place (relabelled_node node) (held_relabelled place node held.1)
          ∙ ap (λ reference. leaf_of relabelled reference bits) (relabelled_end node bits)
          ∙ leaf_below bound (end_at node bits) (IsBefore-later place bound (end_at node bits) (omega (arith, before)) (IsBefore-end_at nodes ordered place node bits held.1)) (omega (arith, within)) bits
          ∙ sym (ap number_of (leaf_of-node nodes ordered bits place node held.1))

      -- bits lead to the number of the leaf to which they led
      pub leaf_relabelled : (reference : Ref) → IsValid nodes reference → (bits : Bits) → leaf_of relabelled (relabelled_ref reference) bits ≡ number_of (leaf_of nodes reference bits)
      leaf_relabelled reference valid bits = leaf_below (length nodes) reference valid (omega arith) bits

      pub end_valid : (place : ℕ) (node : Node) → slice_get nodes place ≡ Some node → (bits : Bits) → IsValid nodes (end_at node bits)
      end_valid place node held bits =
          let within = slice_get_within nodes place node held in
          IsBefore-later place (length nodes) (end_at node bits) (omega (arith, within)) (IsBefore-end_at nodes ordered place node bits held)

    module _ (apart : (one other : ℕ) → number_of one ≡ number_of other → one ≡ other) where
      same_ref : (one other : Ref) → relabelled_ref one ≡ relabelled_ref other → one ≡ other
      same_ref (Leaf one) (Leaf other) same = let equal : number_of one ≡ number_of other = cc in ap Leaf (apart one other equal)
      same_ref (Leaf one) (Inner place) same = let never : ⊥ = cc in absurd never
      same_ref (Inner place) (Leaf other) same = let never : ⊥ = cc in absurd never
      same_ref (Inner one) (Inner other) same = same

      same_node : (one other : Node) → relabelled_node one ≡ relabelled_node other → one ≡ other
      same_node one other same =
          let low = same_ref one.low other.low (ap (λ (node : Node). node.low) same) in
          let high = same_ref one.high other.high (ap (λ (node : Node). node.high) same) in
          let var : one.var ≡ other.var = ap (λ (node : Node). node.var) same in
          λ i. record { var = var i; low = low i; high = high i }

      pub relabelled_reduced : IsReduced nodes → IsReduced relabelled
      relabelled_reduced reduced = record {
        ends_differ = λ place made held same.
            let was = was_node place made held in
            reduced.ends_differ place was.0 was.1 (same_ref was.0.low was.0.high (subst (λ (node : Node). node.low ≡ node.high) was.2 same));
        distinct = λ one two made first second.
            let was = was_node one made first in
            let other = was_node two made second in
            let same = same_node was.0 other.0 (sym was.2 ∙ other.2) in
            reduced.distinct one two other.0 (was.1 ∙ ap Some same) other.1;
      }
