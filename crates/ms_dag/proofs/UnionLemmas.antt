-- A node above parts over the union of their variables.
use Rattle.std.proofs.Common.{◌≡◌, ℕ, ◌<◌, List, [], ◌++◌, Contains, sym, ◌∙◌, subst, append-nil}
use Rattle.std.proofs.lemmas.List.Elements.{All-contains}
use Rattle.std.specs.List.Sorted.{IsStrictlyIncreasing}
use Rattle.ms_logic.specs.declared.mode.Order.{Order}
use Rattle.ms_diagram.specs.Collect.{HaveSameItems}
use Rattle.ms_dag.specs.declared.node.Child.{Child}
use Rattle.ms_dag.specs.declared.node.DagNode.{DagNode}
use Rattle.ms_dag.specs.declared.node.Entry.{Entry}
use Rattle.ms_dag.specs.Dag.{children_of, places_in_maps}
use Rattle.ms_dag.specs.inner.Maps.{AreTheSameIn}
use Rattle.ms_dag.specs.Places.{AreBelow, AreAmong}
use Rattle.ms_dag.specs.inner.Shared.{IsMade, IsAbove}
use Rattle.ms_dag.proofs.Members.{All-by}

module _ (parts : List Child) (names : List ℕ) (union : HaveSameItems (places_in_maps parts) names) where
  pub union_there : AreAmong names (places_in_maps parts)
  union_there = All-by (Contains names) (places_in_maps parts) union.there

  pub union_back : AreAmong (places_in_maps parts) names
  union_back = All-by (Contains (places_in_maps parts)) names union.back

  pub union_below : (count : ℕ) → AreBelow count (places_in_maps parts) → AreBelow count names
  union_below count known = All-by (λ x. x < count) names (λ x there. All-contains (λ y. y < count) (places_in_maps parts) x known (union.back x there))

  pub above_union : (orders : List Order) (old new : List Entry) (node : DagNode) (child : Child) → IsStrictlyIncreasing names → AreTheSameIn names parts (children_of node) → IsMade orders old new node names child →
      IsAbove orders old new [] parts node child
  above_union orders old new node child rising same made =
      let own : names ≡ child.map = sym made.map in
      let all : names ≡ child.map ++ [] = own ∙ sym (append-nil child.map) in
      record {
        rising = subst (λ (list : List ℕ). IsStrictlyIncreasing list) all rising;
        there = subst (λ list. AreAmong list (places_in_maps parts)) all union_there;
        back = subst (λ list. AreAmong (places_in_maps parts) list) own union_back;
        children = subst (λ list. AreTheSameIn list parts (children_of node)) all same;
        made = subst (λ list. IsMade orders old new node list child) own made;
      }
