-- Nodes that are those of an ordered and reduced list under other places, each behind its ends, are ordered and reduced, and have
-- the same functions but for the numbers at their leaves.
use Rattle.std.proofs.Common.{◌≡◌, ℕ, zero, suc, ◌<◌, ◌≤◌, Bool, true, false, List, length, slice_get, Some, sym, ap, subst, ◌∙◌, arith}
use Rattle.std.proofs.lemmas.Option.{same_Some, slice_get_within}
use Rattle.ms_arena.specs.declared.node.Node.{Node}
use Rattle.ms_arena.specs.declared.node.Ref.{Ref}
use Rattle.ms_arena.specs.declared.node.Ref.TheVariants.{Leaf, Inner}
use Rattle.ms_arena.specs.Diagram.{Bits, leaf_of, IsBefore, IsValid, TestsAbove, IsOrdered, IsReduced}
use Rattle.ms_arena.specs.Reach.{Reaches, here, through_low, through_high, TestsOnly}
use Rattle.ms_arena.proofs.Canonicity.{end_for, IsBefore-end_for}
use Rattle.ms_arena.proofs.Lists.{slice_get-held}
use Rattle.ms_arena.proofs.Paths.{IsBefore-later, leaf_of-leaf, leaf_of-node}
use Rattle.ms_diagram.specs.Numbering.{HasNoRepeats}
use Rattle.ms_minim_canonical.proofs.FirstSightLemmas.{IsMatching}
use Rattle.ms_minim_canonical.proofs.PostorderLemmas.{IsSeen, IsSeenBefore}
use Rattle.ms_minim_canonical.specs.inner.Renumbering.{IsRenamed}

-- the number at a place of a list
abbrev pub IsAt : List ℕ → ℕ → ℕ → Type 0
IsAt list number place = slice_get list place ≡ Some number

pub IsMatching-at : (list : List ℕ) → HasNoRepeats list → IsMatching (IsAt list)
IsMatching-at list apart = record {
  right = λ number one two first second. apart one two number first second;
  left = λ one two place first second. same_Some one two (sym first ∙ second);
}

-- two leaves, or two nodes, one of which is the other under its new number
abbrev pub AreSame : List ℕ → List ℕ → Ref → Ref → Type 0
AreSame order places (Leaf value) (Leaf number) = IsAt order value number
AreSame order places (Leaf value) (Inner place) = ⊥
AreSame order places (Inner place) (Leaf number) = ⊥
AreSame order places (Inner old) (Inner new) = IsAt places old new

-- two such nodes
pub record AreSameNodes (order places : List ℕ) (node made : Node) : Type 0 where
  pub var : made.var ≡ node.var
  pub low : AreSame order places node.low made.low
  pub high : AreSame order places node.high made.high

pub same-renamed : (order places : List ℕ) (root made : Ref) → IsRenamed order places root made → IsSeen (λ n. (at : ℕ) × IsAt order n at) places root → AreSame order places root made
same-renamed order places (Leaf value) made renamed seen = subst (AreSame order places (Leaf value)) (sym renamed.1) (renamed.2 seen.0 seen.1)
same-renamed order places (Inner place) made renamed seen = subst (AreSame order places (Inner place)) (sym renamed.1) (renamed.2 seen.0 seen.1)

pub seen-before : (order places : List ℕ) (bound : ℕ) (root : Ref) → IsSeenBefore (λ n. (at : ℕ) × IsAt order n at) places bound root → IsSeen (λ n. (at : ℕ) × IsAt order n at) places root
seen-before order places bound (Leaf value) seen = seen
seen-before order places bound (Inner place) seen = (seen.0, seen.2)

-- a node at a place is one of the old list, whose ends stand before it
pub record IsImage (old : List Node) (order places : List ℕ) (at : ℕ) (made : Node) : Type 0 where
  pub place : ℕ
  pub place_is : IsAt places place at
  pub node : Node
  pub node_is : slice_get old place ≡ Some node
  pub same : AreSameNodes order places node made
  pub low : IsSeenBefore (λ n. (at : ℕ) × IsAt order n at) places at node.low
  pub high : IsSeenBefore (λ n. (at : ℕ) × IsAt order n at) places at node.high

pub record AreImages (old new : List Node) (order places : List ℕ) : Type 0 where
  pub ordered : IsOrdered old
  pub reduced : IsReduced old
  pub order_apart : HasNoRepeats order
  pub places_apart : HasNoRepeats places
  pub long : length new ≡ length places
  pub each : (at : ℕ) (made : Node) → slice_get new at ≡ Some made → IsImage old order places at made

module _ (old new : List Node) (order places : List ℕ) (are : AreImages old new order places) where
  before-image : (at : ℕ) (root made : Ref) → IsSeenBefore (λ n. (at : ℕ) × IsAt order n at) places at root → AreSame order places root made → IsBefore at made
  before-image at (Leaf value) (Leaf number) seen same = tt
  before-image at (Leaf value) (Inner new) seen same = absurd same
  before-image at (Inner place) (Leaf number) seen same = absurd same
  before-image at (Inner place) (Inner new) seen same = let own = are.places_apart seen.0 new place seen.2 same in let less = seen.1 in omega (arith, own, less)

  above-image : (var : ℕ) (root made : Ref) → TestsAbove old var root → AreSame order places root made → TestsAbove new var made
  above-image var (Leaf value) (Leaf number) above same = tt
  above-image var (Leaf value) (Inner new) above same = absurd same
  above-image var (Inner place) (Leaf number) above same = absurd same
  above-image var (Inner place) (Inner at) above same = λ made held.
      let is = are.each at made held in
      let own : is.place ≡ place = same_Some is.place place (sym is.place_is ∙ same) in
      let less : var < is.node.var = above is.node (ap (slice_get old) (sym own) ∙ is.node_is) in
      let var_is = is.same.var in
      omega (arith, less, var_is)

  pub ordered-image : IsOrdered new
  ordered-image = record {
    earlier_low = λ at made held. (let is = are.each at made held in before-image at is.node.low made.low is.low is.same.low);
    earlier_high = λ at made held. (let is = are.each at made held in before-image at is.node.high made.high is.high is.same.high);
    rising_low = λ at made held. (let is = are.each at made held in
        subst (λ var. TestsAbove new var made.low) (sym is.same.var) (above-image is.node.var is.node.low made.low (are.ordered.rising_low is.place is.node is.node_is) is.same.low));
    rising_high = λ at made held. (let is = are.each at made held in
        subst (λ var. TestsAbove new var made.high) (sym is.same.var) (above-image is.node.var is.node.high made.high (are.ordered.rising_high is.place is.node is.node_is) is.same.high));
  }

  -- one reference is new for one old reference alone
  same_back : (one other made : Ref) → AreSame order places one made → AreSame order places other made → one ≡ other
  same_back (Leaf one) (Leaf other) (Leaf number) first second = ap Leaf (same_Some one other (sym first ∙ second))
  same_back (Leaf one) (Leaf other) (Inner at) first second = absurd first
  same_back (Leaf one) (Inner other) (Leaf number) first second = absurd second
  same_back (Leaf one) (Inner other) (Inner at) first second = absurd first
  same_back (Inner one) (Leaf other) (Leaf number) first second = absurd first
  same_back (Inner one) (Leaf other) (Inner at) first second = absurd second
  same_back (Inner one) (Inner other) (Leaf number) first second = absurd first
  same_back (Inner one) (Inner other) (Inner at) first second = ap Inner (same_Some one other (sym first ∙ second))

  pub reduced-image : IsReduced new
  reduced-image = record {
    ends_differ = λ at made held equal.
        let is = are.each at made held in
        are.reduced.ends_differ is.place is.node is.node_is
        (same_back is.node.low is.node.high made.high (subst (AreSame order places is.node.low) equal is.same.low) is.same.high);
    distinct = λ one two made first second.
        let is = are.each one made first in
        let also = are.each two made second in
        let var : is.node.var ≡ also.node.var = sym is.same.var ∙ also.same.var in
        let low = same_back is.node.low also.node.low made.low is.same.low also.same.low in
        let high = same_back is.node.high also.node.high made.high is.same.high also.same.high in
        let equal : is.node ≡ also.node = λ i. record { var = var i; low = low i; high = high i } in
        let place = are.reduced.distinct is.place also.place is.node is.node_is (also.node_is ∙ ap Some (sym equal)) in
        are.places_apart one two is.place is.place_is (also.place_is ∙ ap Some (sym place));
  }

  same_end : (node made : Node) (bit : Bool) → AreSameNodes order places node made → AreSame order places (end_for node bit) (end_for made bit)
  same_end node made true same = same.high
  same_end node made false same = same.low

  -- at all bits the leaf has its new number
  leaf-before : (bits : Bits) (count : ℕ) (root made : Ref) → IsBefore count made → count ≤ length new → AreSame order places root made
      → IsAt order (leaf_of old root bits) (leaf_of new made bits)
  leaf-before bits count (Leaf value) (Leaf number) before within same = rw (leaf_of-leaf old bits value, leaf_of-leaf new bits number) same
  leaf-before bits count (Leaf value) (Inner at) before within same = absurd same
  leaf-before bits count (Inner place) (Leaf number) before within same = absurd same
  leaf-before bits zero (Inner place) (Inner at) before within same = absurd (omega arith)
  leaf-before bits (suc count) (Inner place) (Inner at) before within same =
      let held = slice_get-held new at (omega arith) in
      let made = held.0 in
      let is = are.each at made held.1 in
      let own : is.place ≡ place = same_Some is.place place (sym is.place_is ∙ same) in
      let left : leaf_of old (Inner place) bits ≡ leaf_of old (end_for is.node (bits made.var)) bits
      = leaf_of-node old are.ordered bits place is.node (ap (slice_get old) (sym own) ∙ is.node_is) ∙ ap (λ var. leaf_of old (end_for is.node (bits var)) bits) (sym is.same.var) in
      let right : leaf_of new (Inner at) bits ≡ leaf_of new (end_for made (bits made.var)) bits = leaf_of-node new ordered-image bits at made held.1 in
      let ends = leaf-before bits count (end_for is.node (bits made.var)) (end_for made (bits made.var))
      (IsBefore-later at count (end_for made (bits made.var)) (omega arith) (IsBefore-end_for new ordered-image at made (bits made.var) held.1)) (omega arith)
      (same_end is.node made (bits made.var) is.same) in
      subst (IsAt order (leaf_of old (Inner place) bits)) (sym right) (subst (λ n. IsAt order n (leaf_of new (end_for made (bits made.var)) bits)) (sym left) ends)

  pub valid-image : (root made : Ref) → AreSame order places root made → IsValid new made
  valid-image (Leaf value) (Leaf number) same = tt
  valid-image (Leaf value) (Inner at) same = absurd same
  valid-image (Inner place) (Leaf number) same = absurd same
  valid-image (Inner place) (Inner at) same = let less = slice_get_within places at place same in let long = are.long in omega (arith, less, long)

  pub leaf-image : (bits : Bits) (root made : Ref) → AreSame order places root made → IsAt order (leaf_of old root bits) (leaf_of new made bits)
  leaf-image bits root made same = leaf-before bits (length new) root made (valid-image root made same) (omega arith) same

  -- what the new reference reaches, the old one reached
  reach_back : {made : Ref} {goal : ℕ} → Reaches new made goal → (root : Ref) → AreSame order places root made → (place : ℕ) × IsAt places place goal × Reaches old root place
  reach_back (here {place = goal}) (Leaf value) same = absurd same
  reach_back (here {place = goal}) (Inner place) same = (place, same, here)
  reach_back (through_low made held path) (Leaf value) same = absurd same
  reach_back (through_low {place = at} made held path) (Inner place) same =
      let is = are.each at made held in
      let own : is.place ≡ place = same_Some is.place place (sym is.place_is ∙ same) in
      let more = reach_back path is.node.low is.same.low in
      (more.0, more.1, through_low is.node (ap (slice_get old) (sym own) ∙ is.node_is) more.2)
  reach_back (through_high made held path) (Leaf value) same = absurd same
  reach_back (through_high {place = at} made held path) (Inner place) same =
      let is = are.each at made held in
      let own : is.place ≡ place = same_Some is.place place (sym is.place_is ∙ same) in
      let more = reach_back path is.node.high is.same.high in
      (more.0, more.1, through_high is.node (ap (slice_get old) (sym own) ∙ is.node_is) more.2)

  pub tests-image : (P : ℕ → Type 0) (root made : Ref) → AreSame order places root made → TestsOnly old P root → TestsOnly new P made
  tests-image P root made same tests var tested =
      let back = reach_back tested.2 root same in
      let is = are.each tested.0 tested.1 tested.3 in
      let own : is.place ≡ back.0 = same_Some is.place back.0 (sym is.place_is ∙ back.1) in
      tests var (back.0, is.node, back.2, ap (slice_get old) (sym own) ∙ is.node_is, sym is.same.var ∙ tested.4)
