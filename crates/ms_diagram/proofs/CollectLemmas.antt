-- The set of the leaves of several diagrams, split at a variable, and at the track.
use Rattle.std.proofs.Common.{◌≡◌, ◌≢◌, ℕ, ◌<◌, Bool, false, List, length, slice_get, get_or, Some, Err, All, Contains, sym, ap, subst, ◌∙◌, ⊎_elim, arith}
use Rattle.std.proofs.lemmas.Bool.{cases_eq, cases_lt}
use Rattle.std.proofs.lemmas.List.Elements.{Contains-get_or}
use Rattle.ms_list.specs.declared.fault.StepFault.{StepFault}
use Rattle.ms_list.specs.declared.fault.StepFault.TheVariants.{Nodes, Memory}
use Rattle.ms_arena.specs.declared.node.Ref.{Ref}
use Rattle.ms_arena.specs.declared.node.Ref.TheVariants.{Leaf, Inner}
use Rattle.ms_arena.specs.declared.node.Node.{Node}
use Rattle.ms_arena.specs.Diagram.{Bits, leaf_of, IsValid, IsOrdered}
use Rattle.ms_arena.specs.Bits.{with_bit, AgreeAbove}
use Rattle.ms_arena.specs.Halves.{half_of, TestsFrom, IsLeaf}
use Rattle.ms_arena.specs.Reach.{IsTested}
use Rattle.ms_arena.specs.Target.{Meets}
use Rattle.ms_arena.proofs.BitsLemmas.{with_bit-same, with_bit-other, with_bit-twice}
use Rattle.ms_arena.proofs.HalvesLemmas.{Halved, at_node, above, halved, IsValid-half, TestsAbove-half, leaf_of-half}
use Rattle.ms_arena.proofs.Needs.{Implies, IsPart}
use Rattle.ms_arena.proofs.Paths.{leaf_of-leaf}
use Rattle.ms_arena.proofs.ReachLemmas.{IsTested-end, IsTested-above, leaf_of-tested}
use Rattle.ms_diagram.specs.Bring.{read_through}
use Rattle.ms_diagram.specs.Collect.{IsLeafThere, IsRisingSet, HasLeafSet, SetNumber, LacksSet, AreHalves, AreBothHalves, IsSetOf, IsSetLeaf, IsSetMissing, leaf_values}
use Rattle.ms_diagram.specs.inner.Collecting.{All-member, IsRisingSet-same}
use Rattle.ms_diagram.specs.Growth.{OnNodes}
use Rattle.ms_diagram.specs.inner.Walk.{OnFault}
use Rattle.ms_diagram.specs.Numbering.{HasNoRepeats}
use Rattle.ms_diagram.specs.Projecting.{Projecting, IsReadIn, KeepsOrder, opened}
use Rattle.ms_diagram.proofs.ListLemmas.{same_rising}
use Rattle.ms_diagram.proofs.RootLemmas.{Contains-leaf_values, Contains-from_leaf_values}

-- two rising sets of the same numbers have one number
pub same_number : (sets : List (List ℕ)) (IsMember : ℕ → Type 0) → HasNoRepeats sets → (one two : ℕ) (first second : List ℕ) → slice_get sets one ≡ Some first → slice_get sets two ≡ Some second
    → IsRisingSet first IsMember → IsRisingSet second IsMember → one ≡ two
same_number sets IsMember distinct one two first second first_held second_held first_is second_is =
    let same : first ≡ second = same_rising first second first_is.rising second_is.rising
    (λ item held. second_is.all item (first_is.only item held)) (λ item held. first_is.all item (second_is.only item held)) in
    distinct one two first first_held (second_held ∙ ap Some (sym same))

-- roots that test no variable before this one
pub record AreFrom (view : Projecting) (roots : List Ref) (var : ℕ) : Type 0 where
  pub ordered : IsOrdered view.nodes
  pub order : KeepsOrder view
  pub read : All (IsReadIn view) roots
  pub from : (root : Ref) → Contains roots root → TestsFrom view.nodes var root

module _ (view : Projecting) (roots : List Ref) (var : ℕ) (are : AreFrom view roots var) (bit : Bool) (root : Ref) (there : Contains roots root) where
  read : IsReadIn view root
  read = All-member (IsReadIn view) roots root are.read there

  half_tested_by : Halved view.nodes var bit root → (tested : ℕ) → IsTested view.nodes (half_of view.nodes var bit root) tested → IsTested view.nodes root tested
  half_tested_by (at_node place node is held own half) tested at =
      subst (λ (r : Ref). IsTested view.nodes r tested) (sym is)
      (IsTested-end view.nodes place node bit tested held (subst (λ (r : Ref). IsTested view.nodes r tested) half at))
  half_tested_by (above tests half) tested at = subst (λ (r : Ref). IsTested view.nodes r tested) half at

  -- a half can be read as well
  pub half_read : IsReadIn view (half_of view.nodes var bit root)
  half_read = (
    IsValid-half view.nodes are.ordered var bit root read.0 (are.from root there),
    λ tested at. read.1 tested (half_tested_by (halved view.nodes var bit root read.0 (are.from root there)) tested at),
  )

  -- it has the leaf of the root at the bits with the variable's bit
  half_at : (bits : Bits) → leaf_of view.nodes (half_of view.nodes var bit root) bits ≡ leaf_of view.nodes root (with_bit bits var bit)
  half_at bits = leaf_of-half view.nodes are.ordered var bit root read.0 (are.from root there) bits

  -- a half at the track does not read the track
  pub track_half : var ≡ view.track → (bits : Bits) (side : Bool) → leaf_of view.nodes (half_of view.nodes var bit root) (opened view bits side) ≡ leaf_of view.nodes root (opened view bits bit)
  track_half same bits side =
      half_at (opened view bits side)
      ∙ ap (leaf_of view.nodes root) (ap (λ v. with_bit (opened view bits side) v bit) same ∙ with_bit-twice (read_through view.map bits) view.track side bit)

  module _ (within : var < length view.map) (apart : var ≢ view.track) where
    -- other variables are read in other places
    other_place : (other : ℕ) → other < length view.map → other ≢ view.track → other ≢ var → get_or view.map other 0 ≢ get_or view.map var 0
    other_place other inside left differs same = ⊎_elim
        (λ less. let rises = are.order other var less within left apart in omega (arith, rises, same))
        (λ more. let rises = are.order var other (omega (arith, more, differs)) inside apart left in omega (arith, rises, same))
        (cases_lt other var)

    -- the bit of the variable, replaced behind the reading and before it
    same_read : (bits : Bits) (side : Bool) (tested : ℕ) → tested < length view.map → with_bit (opened view bits side) var bit tested ≡ opened view (with_bit bits (get_or view.map var 0) bit) side tested
    same_read bits side tested inside =
        let later = with_bit bits (get_or view.map var 0) bit in
        let reads = read_through view.map bits in ⊎_elim
        (λ is.
        with_bit-other (opened view bits side) var bit tested (λ own. apart (sym own ∙ is))
        ∙ ap (opened view bits side) is ∙ with_bit-same reads view.track side
        ∙ sym (ap (opened view later side) is ∙ with_bit-same (read_through view.map later) view.track side))
        (λ left. ⊎_elim
        (λ own.
        ap (with_bit (opened view bits side) var bit) own ∙ with_bit-same (opened view bits side) var bit
        ∙ sym (with_bit-other (read_through view.map later) view.track side tested left
        ∙ ap (λ v. later (get_or view.map v 0)) own ∙ with_bit-same bits (get_or view.map var 0) bit))
        (λ differs.
        with_bit-other (opened view bits side) var bit tested differs ∙ with_bit-other reads view.track side tested left
        ∙ sym (with_bit-other (read_through view.map later) view.track side tested left
        ∙ with_bit-other bits (get_or view.map var 0) bit (get_or view.map tested 0) (other_place tested inside left differs)))
        (cases_eq tested var))
        (cases_eq tested view.track)

    pub half_there : (bits : Bits) (side : Bool)
        → leaf_of view.nodes (half_of view.nodes var bit root) (opened view bits side) ≡ leaf_of view.nodes root (opened view (with_bit bits (get_or view.map var 0) bit) side)
    half_there bits side =
        half_at (opened view bits side)
        ∙ leaf_of-tested view.nodes are.ordered root (with_bit (opened view bits side) var bit) (opened view (with_bit bits (get_or view.map var 0) bit) side) read.0
        (λ tested at. same_read bits side tested (read.1 tested at))

    -- and reads no bit up to the one that is read for the variable
    pub half_blind : (one two : Bits) (side : Bool) → AgreeAbove (get_or view.map var 0) one two
        → leaf_of view.nodes (half_of view.nodes var bit root) (opened view one side) ≡ leaf_of view.nodes (half_of view.nodes var bit root) (opened view two side)
    half_blind one two side agree =
        leaf_of-tested view.nodes are.ordered (half_of view.nodes var bit root) (opened view one side) (opened view two side) half_read.0 (λ tested at. ⊎_elim
        (λ is.
        ap (opened view one side) is ∙ with_bit-same (read_through view.map one) view.track side
        ∙ sym (ap (opened view two side) is ∙ with_bit-same (read_through view.map two) view.track side))
        (λ left.
        let behind = IsTested-above view.nodes are.ordered var (half_of view.nodes var bit root) tested (TestsAbove-half view.nodes are.ordered var bit root read.0 (are.from root there)) at in
        with_bit-other (read_through view.map one) view.track side tested left
        ∙ agree (get_or view.map tested 0) (are.order var tested behind (half_read.1 tested at) apart left)
        ∙ sym (with_bit-other (read_through view.map two) view.track side tested left))
        (cases_eq tested view.track))

module _ (view : Projecting) (roots : List Ref) (var : ℕ) (are : AreFrom view roots var) (sets : List (List ℕ)) where
  -- the halves for one bit of a variable that stays
  module _ (within : var < length view.map) (apart : var ≢ view.track) (bit : Bool) (halves : List Ref) (halved : AreHalves view.nodes var bit roots halves) where
    to_whole : (bits : Bits) (leaf : ℕ) → IsLeafThere view halves bits leaf → IsLeafThere view roots (with_bit bits (get_or view.map var 0) bit) leaf
    to_whole bits leaf there =
        let root = halved.only there.0 there.2 in
        (root.0, there.1, root.1, sym (half_there view roots var are bit root.0 root.1 within apart bits there.1) ∙ ap (λ half. leaf_of view.nodes half (opened view bits there.1)) root.2 ∙ there.3)

    to_part : (bits : Bits) (leaf : ℕ) → IsLeafThere view roots (with_bit bits (get_or view.map var 0) bit) leaf → IsLeafThere view halves bits leaf
    to_part bits leaf there =
        (half_of view.nodes var bit there.0, there.1, halved.all there.0 there.2, half_there view roots var are bit there.0 there.2 within apart bits there.1 ∙ there.3)

    blind_there : (one two : Bits) → AgreeAbove (get_or view.map var 0) one two → (leaf : ℕ) → IsLeafThere view halves one leaf → IsLeafThere view halves two leaf
    blind_there one two agree leaf there =
        let root = halved.only there.0 there.2 in (
          there.0,
          there.1,
          there.2,
          ap (λ half. leaf_of view.nodes half (opened view two there.1)) (sym root.2)
              ∙ sym (half_blind view roots var are bit root.0 root.1 within apart one two there.1 agree)
              ∙ ap (λ half. leaf_of view.nodes half (opened view one there.1)) root.2 ∙ there.3,
        )

    pub halves_read : All (IsReadIn view) halves
    halves_read k d inside =
        let half = get_or halves k d in
        let root = halved.only half (Contains-get_or halves k d inside) in
        subst (IsReadIn view) root.2 (half_read view roots var are bit root.0 root.1)

    -- the halves have a part of the target
    pub SetNumber-part : HasNoRepeats sets → IsPart (SetNumber view sets roots) (SetNumber view sets halves) (get_or view.map var 0) bit
    SetNumber-part distinct = record {
      fixes = λ bits number is. (is.0, is.1, IsRisingSet-same is.0 (IsLeafThere view halves bits) (IsLeafThere view roots (with_bit bits (get_or view.map var 0) bit)) (to_whole bits) (to_part bits) is.2);
      single = λ bits one two first second. same_number sets (IsLeafThere view halves bits) distinct one two first.0 second.0 first.1 second.1 first.2 second.2;
      blind = λ one two number agree is. (
        is.0,
        is.1,
        IsRisingSet-same is.0 (IsLeafThere view halves one) (IsLeafThere view halves two) (blind_there one two agree) (blind_there two one (λ other above. sym (agree other above))) is.2,
      );
    }

    -- what they lack, the whole lacks
    pub LacksSet-part : LacksSet view sets halves → LacksSet view sets roots
    LacksSet-part lacks =
        let bits = with_bit lacks.1.0 (get_or view.map var 0) bit in (
          lacks.0,
          (bits, λ number set held is. lacks.1.1 number set held (IsRisingSet-same set (IsLeafThere view roots bits) (IsLeafThere view halves lacks.1.0) (to_part lacks.1.0) (to_whole lacks.1.0) is)),
        )

    -- they have sets of leaves that the whole has
    pub HasLeafSet-part : (set : List ℕ) → HasLeafSet view halves set → HasLeafSet view roots set
    HasLeafSet-part set has =
        let bits = with_bit has.0 (get_or view.map var 0) bit in
        (bits, IsRisingSet-same set (IsLeafThere view halves has.0) (IsLeafThere view roots bits) (to_whole has.0) (to_part has.0) has.1)

  -- the halves for both bits of the track
  module _ (same : var ≡ view.track) (halves : List Ref) (both : AreBothHalves view.nodes var roots halves) where
    from_both : (bits : Bits) (leaf : ℕ) → IsLeafThere view halves bits leaf → IsLeafThere view roots bits leaf
    from_both bits leaf there =
        let root = both.only there.0 there.2 in
        (root.0, root.1, root.2, sym (track_half view roots var are root.1 root.0 root.2 same bits there.1) ∙ ap (λ half. leaf_of view.nodes half (opened view bits there.1)) root.3 ∙ there.3)

    to_both : (bits : Bits) (leaf : ℕ) → IsLeafThere view roots bits leaf → IsLeafThere view halves bits leaf
    to_both bits leaf there =
        (half_of view.nodes var there.1 there.0, there.1, both.all there.0 there.1 there.2, track_half view roots var are there.1 there.0 there.2 same bits there.1 ∙ there.3)

    pub both_read : All (IsReadIn view) halves
    both_read k d inside =
        let half = get_or halves k d in
        let root = both.only half (Contains-get_or halves k d inside) in
        subst (IsReadIn view) root.3 (half_read view roots var are root.1 root.0 root.2)

    -- they have the target of the roots
    pub SetNumber-both : Implies (SetNumber view sets halves) (SetNumber view sets roots)
    SetNumber-both bits number is = (is.0, is.1, IsRisingSet-same is.0 (IsLeafThere view halves bits) (IsLeafThere view roots bits) (from_both bits) (to_both bits) is.2)

    pub LacksSet-both : LacksSet view sets halves → LacksSet view sets roots
    LacksSet-both lacks = (
      lacks.0,
      (
        lacks.1.0,
        λ number set held is. lacks.1.1 number set held (IsRisingSet-same set (IsLeafThere view roots lacks.1.0) (IsLeafThere view halves lacks.1.0) (to_both lacks.1.0) (from_both lacks.1.0) is),
      ),
    )

    -- and its sets of leaves
    pub HasLeafSet-both : (set : List ℕ) → HasLeafSet view halves set → HasLeafSet view roots set
    HasLeafSet-both set has = (has.0, IsRisingSet-same set (IsLeafThere view halves has.0) (IsLeafThere view roots has.0) (from_both has.0) (to_both has.0) has.1)

module _ (view : Projecting) (sets : List (List ℕ)) (roots : List Ref) (leaves : All IsLeaf roots) where
  -- where all roots are leaves, their set is the same at all bits
  leaf_members : (bits : Bits) (set : List ℕ) → IsSetOf (leaf_values roots) set → IsRisingSet set (IsLeafThere view roots bits)
  leaf_members bits set set_is = record {
    rising = set_is.rising;
    all = λ item there. set_is.same.there item (Contains-leaf_values roots item (subst (λ r. Contains roots r) (leaf_is there.0 item (All-member IsLeaf roots there.0 leaves there.2) (opened view bits there.1) there.3) there.2));
    only = λ item held. (Leaf item, false, Contains-from_leaf_values roots item (set_is.same.back item held), leaf_of-leaf view.nodes (opened view bits false) item);
  }
    where
      leaf_is : (root : Ref) (item : ℕ) → IsLeaf root → (at : Bits) → leaf_of view.nodes root at ≡ item → root ≡ Leaf item
      leaf_is (Leaf value) item leaf at same = ap Leaf (sym (leaf_of-leaf view.nodes at value) ∙ same)
      leaf_is (Inner place) item leaf at same = absurd leaf

  pub HasLeafSet-leaves : (set : List ℕ) → IsSetOf (leaf_values roots) set → HasLeafSet view roots set
  HasLeafSet-leaves set set_is = ((λ _. false), leaf_members (λ _. false) set set_is)

  -- the leaf with the number of their set is right
  pub set_alone : (nodes : List Node) (made : Ref) → IsSetLeaf sets (leaf_values roots) made → IsValid nodes made × Meets nodes (SetNumber view sets roots) made
  set_alone nodes (Leaf number) is = (tt, λ bits. (is.0, ap (slice_get sets) (leaf_of-leaf nodes bits number) ∙ is.2, leaf_members bits is.0 is.1))
  set_alone nodes (Inner place) is = absurd is.2

  leaves_lack : IsSetMissing sets (leaf_values roots) → LacksSet view sets roots
  leaves_lack missing = (
    missing.0,
    (
      (λ _. false),
      λ number set held set_is.
          let whole = leaf_members (λ _. false) missing.1.0 missing.1.1 in
          let same : set ≡ missing.1.0 = same_rising set missing.1.0 set_is.rising whole.rising
          (λ item there. whole.all item (set_is.only item there)) (λ item there. set_is.all item (whole.only item there)) in
          missing.1.2 number (held ∙ ap Some same),
    ),
  )

  -- where their set has no number, they lack one
  pub set_lacks : (limit : ℕ) (fault : StepFault) → OnNodes (Err fault) (λ most. (most ≡ limit) × IsSetMissing sets (leaf_values roots))
      → OnFault fault (λ most. (most ≡ limit) × LacksSet view sets roots)
  set_lacks limit Memory full = tt
  set_lacks limit (Nodes n) full = (full.0, leaves_lack full.1)
