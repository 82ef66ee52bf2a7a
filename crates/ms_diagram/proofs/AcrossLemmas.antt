-- Pairs of leaves of two stores, split at a variable.
use Rattle.std.proofs.Common.{◌≡◌, ◌≢◌, ℕ, zero, suc, ◌<◌, ◌≤◌, ⊎_elim, Bool, true, false, List, length, slice_get, get_or, Some, Result, Err, sym, ap, subst, ◌∙◌, refl, arith}
use Rattle.std.proofs.Math.Nat.{le_refl}
use Rattle.std.proofs.lemmas.Bool.{cases_lt}
use Rattle.std.proofs.lemmas.Option.{same_Some}
use Rattle.ms_list.specs.declared.fault.StepFault.{StepFault}
use Rattle.ms_list.specs.declared.fault.StepFault.TheVariants.{Nodes, Memory}
use Rattle.ms_arena.specs.declared.node.Ref.{Ref}
use Rattle.ms_arena.specs.declared.node.Ref.TheVariants.{Leaf, Inner}
use Rattle.ms_arena.specs.declared.node.Node.{Node}
use Rattle.ms_arena.specs.Diagram.{Bits, IsValid, IsOrdered}
use Rattle.ms_arena.specs.Bits.{with_bit, AgreeAbove}
use Rattle.ms_arena.specs.Reach.{IsTested}
use Rattle.ms_arena.specs.Target.{Meets}
use Rattle.ms_arena.proofs.BitsLemmas.{with_bit-other}
use Rattle.ms_arena.proofs.Canonicity.{end_for}
use Rattle.ms_arena.proofs.Needs.{IsPart}
use Rattle.ms_arena.proofs.Paths.{leaf_of-leaf}
use Rattle.ms_arena.proofs.ReachLemmas.{IsTested-own, IsTested-above, leaf_of-tested}
use Rattle.ms_diagram.specs.declared.sides.Sides.{Sides}
use Rattle.ms_diagram.specs.Across.{side_leaf, IsOn, AreOn, leaves_across, HasLeavesAcross, NumberAcross, LacksAcross, IsPairedAcross, IsEnd, IsLater, IsHalf, IsBranchAcross}
use Rattle.ms_diagram.specs.inner.Adding.{AddsOnly-implies}
use Rattle.ms_diagram.specs.Bring.{read_through}
use Rattle.ms_diagram.specs.inner.Crossing.{crossing}
use Rattle.ms_diagram.specs.Growth.{Builds, OnNodes}
use Rattle.ms_diagram.specs.Numbering.{AddsOnly, HasNoRepeats, IsMissing, IsLeafOf}
use Rattle.ms_diagram.specs.Side.{Side}
use Rattle.ms_diagram.specs.Store.{Contents}
use Rattle.ms_diagram.specs.Table.{EachEntry}
use Rattle.ms_diagram.specs.inner.Walk.{OnFault, IsSplit, IsWalked}
use Rattle.ms_diagram.proofs.BringLemmas.{RenamedLeaf-part, Renames-end, brought_end_valid}

-- the half of a reference, at the first variable that is read for it or for another
module _ (side : Side) (ordered : IsOrdered side.nodes) (var : ℕ) (bit : Bool) (root half : Ref) (on : IsOn side root) where
  module _ (is : IsEnd side var bit root half) where
    abbrev the_end : Ref
    the_end = end_for is.node bit

    end_part : IsPart (λ bits number. number ≡ side_leaf side root bits) (λ bits number. number ≡ side_leaf side half bits) var bit
    end_part =
        subst (λ v. IsPart (λ bits number. number ≡ side_leaf side root bits) (λ bits number. number ≡ side_leaf side half bits) v bit) is.read
        (subst (λ (r : Ref). IsPart (λ bits number. number ≡ side_leaf side root bits) (λ bits number. number ≡ side_leaf side r bits) (get_or side.map is.node.var 0) bit) (sym is.end)
        (RenamedLeaf-part side.nodes ordered side.map root is.place is.is is.node is.held bit on.1))

    end_on : IsOn side half
    end_on = subst (λ (r : Ref). IsOn side r) (sym is.end) (
      brought_end_valid side.nodes ordered side.map root is.place is.is is.node is.held bit on.1,
      Renames-end side.nodes ordered side.map root is.place is.is is.node is.held bit on.1,
    )

  module _ (is : IsLater side var root half) where
    -- bits that agree on the later variables lead to one leaf
    later_leaf : (one two : Bits) → ((other : ℕ) → var < other → one other ≡ two other) → side_leaf side half one ≡ side_leaf side root two
    later_leaf one two agree =
        ap (λ (r : Ref). side_leaf side r one) is.same
        ∙ leaf_of-tested side.nodes ordered root (read_through side.map one) (read_through side.map two) on.0 (λ tested at. agree (get_or side.map tested 0) (is.above tested at))

  module _ (is : IsHalf side var bit root half) where
    pub half_on : IsOn side half
    half_on = ⊎_elim end_on (λ later. subst (λ (r : Ref). IsOn side r) (sym later.same) on) is

    -- it has the leaf of the reference at the bits with the bit
    pub half_across : (bits : Bits) → side_leaf side half bits ≡ side_leaf side root (with_bit bits var bit)
    half_across bits = ⊎_elim
        (λ end. (end_part end).fixes bits (side_leaf side half bits) refl)
        (λ later. later_leaf later bits (with_bit bits var bit) (λ other above. sym (with_bit-other bits var bit other (λ same. omega (arith, same, above)))))
        is

    -- and reads no bit up to the variable
    pub half_reads : (one two : Bits) → AgreeAbove var one two → side_leaf side half one ≡ side_leaf side half two
    half_reads one two agree = ⊎_elim
        (λ end. (end_part end).blind one two (side_leaf side half one) agree refl)
        (λ later. later_leaf later one two agree ∙ sym (ap (λ (r : Ref). side_leaf side r two) later.same))
        is

-- no variable is read before that of the first node
module _ (side : Side) (ordered : IsOrdered side.nodes) (root : Ref) (on : IsOn side root) (place : ℕ) (is : root ≡ Inner place) (node : Node) (held : slice_get side.nodes place ≡ Some node) where
  tests_from : (tested : ℕ) → IsTested side.nodes (Inner place) tested → (var : ℕ) → var ≡ node.var → var ≤ tested
  tests_from tested at zero same = omega arith
  tests_from tested at (suc below) same =
      IsTested-above side.nodes ordered below (Inner place) tested
      (λ found there. let one = ap (λ (n : Node). n.var) (same_Some found node (sym there ∙ held)) in omega (arith, same, one)) at

  pub first_tested : IsTested side.nodes root node.var
  first_tested = subst (λ (r : Ref). IsTested side.nodes r node.var) (sym is) (IsTested-own side.nodes place node held)

  pub first_read : (tested : ℕ) → IsTested side.nodes root tested → get_or side.map node.var 0 ≤ get_or side.map tested 0
  first_read tested at =
      let from = tests_from tested (subst (λ (r : Ref). IsTested side.nodes r tested) is at) node.var refl in ⊎_elim
      (λ less. let rises = on.1.rising node.var tested first_tested at less in omega (arith, rises))
      (λ more. let same : node.var ≡ tested = omega (arith, from, more) in subst (λ v. get_or side.map node.var 0 ≤ get_or side.map v 0) same (le_refl (get_or side.map node.var 0)))
      (cases_lt node.var tested)

  -- the map has a variable for it
  pub first_within : node.var < length side.map
  first_within = on.1.long node.var first_tested

  -- where it is another than the given one, and no earlier one is read, later ones alone are
  pub first_later : (var : ℕ) → ((tested : ℕ) → IsTested side.nodes root tested → var ≤ get_or side.map tested 0) → get_or side.map node.var 0 ≢ var → IsLater side var root (Inner place)
  first_later var from apart = record {
    same = sym is;
    above = λ tested at.
        let least = first_read tested at in
        let own = from node.var first_tested in
        omega (arith, least, own, apart);
  }

module _ (sides : Sides) (roots half : Ref × Ref) (var : ℕ) (bit : Bool) (on : AreOn sides roots) (ordered_left : IsOrdered sides.left.nodes) (ordered_right : IsOrdered sides.right.nodes)
    (left : IsHalf sides.left var bit roots.0 half.0) (right : IsHalf sides.right var bit roots.1 half.1) where
  pub halves_on : AreOn sides half
  halves_on = (half_on sides.left ordered_left var bit roots.0 half.0 on.0 left, half_on sides.right ordered_right var bit roots.1 half.1 on.1 right)

  halves_across : (bits : Bits) → leaves_across sides half bits ≡ leaves_across sides roots (with_bit bits var bit)
  halves_across bits =
      let one = half_across sides.left ordered_left var bit roots.0 half.0 on.0 left bits in
      let other = half_across sides.right ordered_right var bit roots.1 half.1 on.1 right bits in
      λ i. (one i, other i)

  -- the halves have a part of the target
  pub NumberAcross-part : (pairs : List (ℕ × ℕ)) → HasNoRepeats pairs → IsPart (NumberAcross sides pairs roots) (NumberAcross sides pairs half) var bit
  NumberAcross-part pairs distinct = record {
    fixes = λ bits number there. there ∙ ap Some (halves_across bits);
    single = λ bits one two first second. distinct one two (leaves_across sides half bits) first second;
    blind = λ one two number agree there.
        let first = half_reads sides.left ordered_left var bit roots.0 half.0 on.0 left one two agree in
        let second = half_reads sides.right ordered_right var bit roots.1 half.1 on.1 right one two agree in
        there ∙ (λ i. Some (first i, second i));
  }

  -- a pair that is missing for the halves is missing for the whole
  pub LacksAcross-part : (pairs : List (ℕ × ℕ)) → LacksAcross sides pairs half → LacksAcross sides pairs roots
  LacksAcross-part pairs lacks = (lacks.0, (with_bit lacks.1.0 var bit, subst (λ pair. IsMissing pairs pair) (halves_across lacks.1.0) lacks.1.1))

  -- the halves have leaves that the whole has
  pub HasLeavesAcross-part : (pair : ℕ × ℕ) → HasLeavesAcross sides half pair → HasLeavesAcross sides roots pair
  HasLeavesAcross-part pair has = (with_bit has.0 var bit, sym (halves_across has.0) ∙ has.1)

module _ (sides : Sides) (roots : Ref × Ref) (left right : ℕ) (left_is : roots.0 ≡ Leaf left) (right_is : roots.1 ≡ Leaf right) where
  -- two leaves are their pair at all bits
  pub leaves_alone : (bits : Bits) → leaves_across sides roots bits ≡ (left, right)
  leaves_alone bits =
      let one = ap (λ (r : Ref). side_leaf sides.left r bits) left_is ∙ leaf_of-leaf sides.left.nodes (read_through sides.left.map bits) left in
      let other = ap (λ (r : Ref). side_leaf sides.right r bits) right_is ∙ leaf_of-leaf sides.right.nodes (read_through sides.right.map bits) right in
      λ i. (one i, other i)

  pub has_alone : HasLeavesAcross sides roots (left, right)
  has_alone = ((λ _. false), leaves_alone (λ _. false))

  -- and have its number
  pub number_alone : (nodes : List Node) (pairs : List (ℕ × ℕ)) (made : Ref) → IsLeafOf pairs (left, right) made → IsValid nodes made × Meets nodes (NumberAcross sides pairs roots) made
  number_alone nodes pairs (Leaf number) is = (tt, λ bits. ap (slice_get pairs) (leaf_of-leaf nodes bits number) ∙ is ∙ ap Some (sym (leaves_alone bits)))
  number_alone nodes pairs (Inner place) is = absurd is

  -- where it has none, they lack one
  pub lacks_alone : (pairs : List (ℕ × ℕ)) (limit : ℕ) (fault : StepFault)
      → OnNodes (Err fault) (λ most. (most ≡ limit) × (length pairs ≡ 4294967295) × IsMissing pairs (left, right))
      → OnFault fault (λ most. (most ≡ limit) × LacksAcross sides pairs roots)
  lacks_alone pairs limit Memory given = tt
  lacks_alone pairs limit (Nodes most) given = (given.0, (given.1, ((λ _. false), subst (λ pair. IsMissing pairs pair) (sym (leaves_alone (λ _. false))) given.2)))

-- a walk over two stores
module _ {S N : Type 0} (sides_of : S → Sides) (pairs_of : S → List (ℕ × ℕ)) (name_of : S → N) where
  -- the halves of two references
  pub crossing_split : (state : S) (nodes : List Node) (roots : Ref × Ref) → AreOn (sides_of state) roots → (var : ℕ) (low high : Ref × Ref)
      → IsBranchAcross (sides_of state) roots var low high → IsSplit (crossing sides_of pairs_of name_of) state nodes roots var low high
  crossing_split state nodes roots on_state var low high branch_state late new follows =
      let sides = sides_of late in
      let pairs = pairs_of late in
      let on = subst (λ (s : Sides). AreOn s roots) (sym follows.later.0) on_state in
      let branch = subst (λ (s : Sides). IsBranchAcross s roots var low high) (sym follows.later.0) branch_state in
      record {
        low_fits = halves_on sides roots low var false on branch.ordered_left branch.ordered_right branch.low_left branch.low_right;
        high_fits = halves_on sides roots high var true on branch.ordered_left branch.ordered_right branch.high_left branch.high_right;
        low_is = NumberAcross-part sides roots low var false on branch.ordered_left branch.ordered_right branch.low_left branch.low_right pairs follows.right.no_repeats;
        high_is = NumberAcross-part sides roots high var true on branch.ordered_left branch.ordered_right branch.high_left branch.high_right pairs follows.right.no_repeats;
        low_lacks = LacksAcross-part sides roots low var false on branch.ordered_left branch.ordered_right branch.low_left branch.low_right pairs;
        high_lacks = LacksAcross-part sides roots high var true on branch.ordered_left branch.ordered_right branch.high_left branch.high_right pairs;
        low_adds = λ before after. AddsOnly-implies (HasLeavesAcross sides low) (HasLeavesAcross sides roots) (pairs_of before) (pairs_of after)
            (HasLeavesAcross-part sides roots low var false on branch.ordered_left branch.ordered_right branch.low_left branch.low_right);
        high_adds = λ before after. AddsOnly-implies (HasLeavesAcross sides high) (HasLeavesAcross sides roots) (pairs_of before) (pairs_of after)
            (HasLeavesAcross-part sides roots high var true on branch.ordered_left branch.ordered_right branch.high_left branch.high_right);
      }

  -- what it has built
  module _ (old new : Contents) (early late : S) (roots : Ref × Ref) (entries : List ((Ref × Ref) × Ref)) (result : Result Ref StepFault)
      (walked : IsWalked (crossing sides_of pairs_of name_of) old early roots new late entries result) where
    pub crossing_builds : Builds old new (NumberAcross (sides_of early) (pairs_of late) roots) (LacksAcross (sides_of early) (pairs_of late) roots) result
    crossing_builds =
        subst (λ (s : Sides). Builds old new (NumberAcross s (pairs_of late) roots) (LacksAcross s (pairs_of late) roots) result) walked.later.0 walked.builds

    pub crossing_added : AddsOnly (HasLeavesAcross (sides_of early) roots) (pairs_of early) (pairs_of late)
    crossing_added = subst (λ (s : Sides). AddsOnly (HasLeavesAcross s roots) (pairs_of early) (pairs_of late)) walked.later.0 walked.added

    pub crossing_table : EachEntry (IsPairedAcross (sides_of early) (pairs_of late) new.nodes) entries
    crossing_table = subst (λ (s : Sides). EachEntry (IsPairedAcross s (pairs_of late) new.nodes) entries) walked.later.0 walked.table
