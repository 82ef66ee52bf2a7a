-- The ends of a held node, as they stand in a longer list.
use Rattle.std.proofs.Common.{◌≡◌, ℕ, suc, ◌<◌, Bool, List, length, slice_get, Some, sym, ◌∙◌, arith}
use Rattle.std.proofs.lemmas.Option.{slice_get_within}
use Rattle.ms_arena.specs.declared.node.Ref.TheVariants.{Inner}
use Rattle.ms_arena.specs.declared.node.Node.{Node}
use Rattle.ms_arena.specs.Diagram.{Bits, leaf_of, IsValid, IsOrdered}
use Rattle.ms_arena.specs.Bits.{with_bit, AgreeAbove}
use Rattle.ms_arena.specs.Halves.{size_of}
use Rattle.ms_arena.specs.Target.{Extends}
use Rattle.ms_arena.proofs.Paths.{IsBefore-later}
use Rattle.ms_arena.proofs.Canonicity.{end_for, leaf_of-above, leaf_of-end_for, IsBefore-end_for, TestsAbove-end_for}
use Rattle.ms_arena.proofs.Appending.{IsValid-extends, TestsAbove-extends, leaf_of-extends}
use Rattle.ms_arena.proofs.HalvesLemmas.{size-IsBefore}

module _ (old : List Node) (ordered : IsOrdered old) (place : ℕ) (node : Node) (held : slice_get old place ≡ Some node) (bit : Bool) where
  -- an end is valid
  pub end_valid : IsValid old (end_for node bit)
  end_valid =
      let within : place < length old = slice_get_within old place node held in
      IsBefore-later place (length old) (end_for node bit) (omega arith) (IsBefore-end_for old ordered place node bit held)

  -- and smaller than the node
  pub end_smaller : size_of (end_for node bit) < suc place
  end_smaller = let small = size-IsBefore place (end_for node bit) (IsBefore-end_for old ordered place node bit held) in omega arith

  module _ (new : List Node) (ordered_new : IsOrdered new) (extends : Extends old new) where
    -- it has the leaf of the node at the bits with the bit
    pub end_leaf : (bits : Bits) → leaf_of new (end_for node bit) bits ≡ leaf_of old (Inner place) (with_bit bits node.var bit)
    end_leaf bits =
        leaf_of-extends old new extends ordered (end_for node bit) bits end_valid
        ∙ sym (leaf_of-end_for old ordered place node bit bits held end_valid)

    -- and reads no bit up to the variable
    pub end_blind : (one two : Bits) → AgreeAbove node.var one two → leaf_of new (end_for node bit) one ≡ leaf_of new (end_for node bit) two
    end_blind one two agree =
        leaf_of-above new ordered_new node.var (end_for node bit) one two (IsValid-extends old new extends (end_for node bit) end_valid)
        (TestsAbove-extends old new extends node.var (end_for node bit) end_valid (TestsAbove-end_for old ordered place node bit held)) agree
