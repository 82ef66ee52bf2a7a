-- The steps of `collect` at a list of roots: its halves, and at the track both halves together.
use Rattle.std.proofs.Common.{◌≡◌, ◌≢◌, ℕ, ◌<◌, Bool, true, false, List, length, get_or, Result, All, sym, ap, subst, ◌∙◌, arith}
use Rattle.ms_list.specs.declared.fault.StepFault.{StepFault}
use Rattle.ms_arena.specs.declared.node.Ref.{Ref}
use Rattle.ms_arena.specs.declared.node.Ref.TheVariants.{Leaf, Inner}
use Rattle.ms_arena.specs.declared.node.Node.{Node}
use Rattle.ms_arena.specs.Diagram.{IsOrdered}
use Rattle.ms_arena.specs.Halves.{TestsAt}
use Rattle.ms_arena.specs.Reach.{IsTested, here}
use Rattle.ms_arena.proofs.HalvesLemmas.{TestsAt-level, TestsFrom-level}
use Rattle.ms_arena.proofs.Needs.{IsPart}
use Rattle.ms_diagram.specs.inner.Adding.{AddsOnly-implies}
use Rattle.ms_diagram.specs.inner.Collecting.{collecting, All-member}
use Rattle.ms_diagram.specs.Table.{EachEntry}
use Rattle.ms_diagram.specs.inner.Walk.{IsSplit, StandsFor, IsWalked}
use Rattle.ms_diagram.specs.Collect.{HasLeafSet, IsCollected, SetNumber, LacksSet, AreHalves, AreBothHalves, least_level}
use Rattle.ms_diagram.specs.Growth.{Builds}
use Rattle.ms_diagram.specs.Numbering.{AddsOnly}
use Rattle.ms_diagram.specs.Projecting.{Projecting, IsReadIn, KeepsOrder}
use Rattle.ms_diagram.specs.Store.{Contents}
use Rattle.ms_diagram.proofs.CollectLemmas.{AreFrom, halves_read, both_read, SetNumber-part, SetNumber-both, LacksSet-part, LacksSet-both, HasLeafSet-part, HasLeafSet-both}
use Rattle.ms_diagram.proofs.RootLemmas.{least_level-each, least_level-own}

tested_at : (nodes : List Node) (var : ℕ) (root : Ref) → TestsAt nodes var root → IsTested nodes root var
tested_at nodes var (Leaf value) never = absurd never
tested_at nodes var (Inner place) is = (place, is.0, here, is.1, is.2)

module _ (view : Projecting) (ordered : IsOrdered view.nodes) (roots : List Ref) (fits : KeepsOrder view × All (IsReadIn view) roots) (var : ℕ) (least : var ≡ least_level view.nodes roots) where
  -- no root tests a variable before the least one
  are_from : AreFrom view roots var
  are_from = record {
    ordered = ordered;
    order = fits.0;
    read = fits.1;
    from = λ root there. let low = least_level-each view.nodes roots root there in TestsFrom-level view.nodes var root (omega (arith, low, least));
  }

  -- which some root tests, so the map has it
  least_within : var < 4294967296 → var < length view.map
  least_within small =
      let own = least_level-own view.nodes roots (omega (arith, small, least)) in
      let is = All-member (IsReadIn view) roots own.0 fits.1 own.1 in
      is.1 var (tested_at view.nodes var own.0 (TestsAt-level view.nodes var own.0 is.0 (own.2 ∙ sym least) small))

module _ {S N I : Type 0} (view_of : S → Projecting) (sets_of : S → List (List ℕ)) (name_of : S → N) (roots_of : I → List Ref) where
  -- the halves of the roots
  collecting_split : (state : S) (nodes : List Node) (item : I) (var : ℕ) → AreFrom (view_of state) (roots_of item) var → var < length (view_of state).map → var ≢ (view_of state).track
      → (low high : I) → AreHalves (view_of state).nodes var false (roots_of item) (roots_of low) → AreHalves (view_of state).nodes var true (roots_of item) (roots_of high)
      → IsSplit (collecting view_of sets_of name_of roots_of) state nodes item (get_or (view_of state).map var 0) low high
  collecting_split state nodes item var from_state inside_state apart_state low high low_state high_state late new follows =
      let view = view_of late in
      let sets = sets_of late in
      let moved = sym follows.later.0 in
      let from = subst (λ v. AreFrom v (roots_of item) var) moved from_state in
      let inside = subst (λ (v : Projecting). var < length v.map) moved inside_state in
      let apart = subst (λ (v : Projecting). var ≢ v.track) moved apart_state in
      let low_are = subst (λ (v : Projecting). AreHalves v.nodes var false (roots_of item) (roots_of low)) moved low_state in
      let high_are = subst (λ (v : Projecting). AreHalves v.nodes var true (roots_of item) (roots_of high)) moved high_state in
      let same_var = ap (λ (v : Projecting). get_or v.map var 0) follows.later.0 in
      record {
        low_fits = (from.order, halves_read view (roots_of item) var from sets inside apart false (roots_of low) low_are);
        high_fits = (from.order, halves_read view (roots_of item) var from sets inside apart true (roots_of high) high_are);
        low_is = subst (λ v. IsPart (SetNumber view sets (roots_of item)) (SetNumber view sets (roots_of low)) v false) same_var
            (SetNumber-part view (roots_of item) var from sets inside apart false (roots_of low) low_are follows.right.numbering.no_repeats);
        high_is = subst (λ v. IsPart (SetNumber view sets (roots_of item)) (SetNumber view sets (roots_of high)) v true) same_var
            (SetNumber-part view (roots_of item) var from sets inside apart true (roots_of high) high_are follows.right.numbering.no_repeats);
        low_lacks = LacksSet-part view (roots_of item) var from sets inside apart false (roots_of low) low_are;
        high_lacks = LacksSet-part view (roots_of item) var from sets inside apart true (roots_of high) high_are;
        low_adds = λ before after. AddsOnly-implies (HasLeafSet view (roots_of low)) (HasLeafSet view (roots_of item)) (sets_of before) (sets_of after)
            (HasLeafSet-part view (roots_of item) var from sets inside apart false (roots_of low) low_are);
        high_adds = λ before after. AddsOnly-implies (HasLeafSet view (roots_of high)) (HasLeafSet view (roots_of item)) (sets_of before) (sets_of after)
            (HasLeafSet-part view (roots_of item) var from sets inside apart true (roots_of high) high_are);
      }

  -- at the track both halves together ask for the same
  collecting_both : (state : S) (nodes : List Node) (item : I) (var : ℕ) → AreFrom (view_of state) (roots_of item) var → var ≡ (view_of state).track
      → (both : I) → AreBothHalves (view_of state).nodes var (roots_of item) (roots_of both) → StandsFor (collecting view_of sets_of name_of roots_of) state nodes item both
  collecting_both state nodes item var from_state same_state both are_state late new follows =
      let view = view_of late in
      let sets = sets_of late in
      let moved = sym follows.later.0 in
      let from = subst (λ v. AreFrom v (roots_of item) var) moved from_state in
      let same = subst (λ (v : Projecting). var ≡ v.track) moved same_state in
      let are = subst (λ (v : Projecting). AreBothHalves v.nodes var (roots_of item) (roots_of both)) moved are_state in
      record {
        fits = (from.order, both_read view (roots_of item) var from sets same (roots_of both) are);
        implies = SetNumber-both view (roots_of item) var from sets same (roots_of both) are;
        lacks = LacksSet-both view (roots_of item) var from sets same (roots_of both) are;
        adds = λ before after. AddsOnly-implies (HasLeafSet view (roots_of both)) (HasLeafSet view (roots_of item)) (sets_of before) (sets_of after)
            (HasLeafSet-both view (roots_of item) var from sets same (roots_of both) are);
      }

  -- an item whose roots test a variable first, in the view of the walk as it is found
  module _ (state : S) (nodes : List Node) (item : I) (fits : KeepsOrder (view_of state) × All (IsReadIn (view_of state)) (roots_of item)) (inside : Projecting) (same : inside ≡ view_of state)
      (ordered : IsOrdered inside.nodes) (list : List Ref) (list_is : list ≡ roots_of item) (var : ℕ) (least : var ≡ least_level inside.nodes list) where
    own_fits : KeepsOrder inside × All (IsReadIn inside) (roots_of item)
    own_fits = subst (λ (view : Projecting). KeepsOrder view × All (IsReadIn view) (roots_of item)) (sym same) fits

    own_least : var ≡ least_level inside.nodes (roots_of item)
    own_least = least ∙ ap (least_level inside.nodes) list_is

    own_from : AreFrom (view_of state) (roots_of item) var
    own_from = subst (λ view. AreFrom view (roots_of item) var) same (are_from inside ordered (roots_of item) own_fits var own_least)

    pub item_within : var < 4294967296 → var < length inside.map
    item_within = least_within inside ordered (roots_of item) own_fits var own_least

    pub item_split : var < 4294967296 → var ≢ inside.track → (low high : I) → AreHalves inside.nodes var false list (roots_of low) → AreHalves inside.nodes var true list (roots_of high)
        → IsSplit (collecting view_of sets_of name_of roots_of) state nodes item (get_or inside.map var 0) low high
    item_split small apart low high low_are high_are =
        let halved : (bit : Bool) (half : I) → AreHalves inside.nodes var bit list (roots_of half) → AreHalves (view_of state).nodes var bit (roots_of item) (roots_of half) = λ bit half are.
        subst (λ (view : Projecting). AreHalves view.nodes var bit (roots_of item) (roots_of half)) same (subst (λ (l : List Ref). AreHalves inside.nodes var bit l (roots_of half)) list_is are) in
        subst (λ (view : Projecting). IsSplit (collecting view_of sets_of name_of roots_of) state nodes item (get_or view.map var 0) low high) (sym same)
        (collecting_split state nodes item var own_from (subst (λ (view : Projecting). var < length view.map) same (item_within small)) (subst (λ (view : Projecting). var ≢ view.track) same apart)
        low high (halved false low low_are) (halved true high high_are))

    pub item_both : var ≡ inside.track → (both : I) → AreBothHalves inside.nodes var list (roots_of both) → StandsFor (collecting view_of sets_of name_of roots_of) state nodes item both
    item_both at_track both are =
        collecting_both state nodes item var own_from (subst (λ (view : Projecting). var ≡ view.track) same at_track) both
        (subst (λ (view : Projecting). AreBothHalves view.nodes var (roots_of item) (roots_of both)) same (subst (λ (l : List Ref). AreBothHalves inside.nodes var l (roots_of both)) list_is are))

  -- what the walk has built
  module _ (old new : Contents) (early late : S) (item : I) (entries : List (I × Ref)) (result : Result Ref StepFault)
      (walked : IsWalked (collecting view_of sets_of name_of roots_of) old early item new late entries result) where
    pub collecting_builds : Builds old new (SetNumber (view_of early) (sets_of late) (roots_of item)) (LacksSet (view_of early) (sets_of late) (roots_of item)) result
    collecting_builds =
        subst (λ view. Builds old new (SetNumber view (sets_of late) (roots_of item)) (LacksSet view (sets_of late) (roots_of item)) result) walked.later.0 walked.builds

    pub collecting_added : AddsOnly (HasLeafSet (view_of early) (roots_of item)) (sets_of early) (sets_of late)
    collecting_added = subst (λ view. AddsOnly (HasLeafSet view (roots_of item)) (sets_of early) (sets_of late)) walked.later.0 walked.added

    pub collecting_table : EachEntry (λ key. IsCollected (view_of early) (sets_of late) new.nodes (roots_of key)) entries
    collecting_table = subst (λ view. EachEntry (λ key. IsCollected view (sets_of late) new.nodes (roots_of key)) entries) walked.later.0 walked.table
