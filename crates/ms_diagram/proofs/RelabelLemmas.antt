-- Leaves read in a map, split at a node.
use Rattle.std.proofs.Common.{◌≡◌, ℕ, ◌<◌, Bool, List, length, slice_get, Some, Result, Ok, true, false, sym, ap, subst, ◌∙◌}
use Rattle.ms_list.specs.declared.fault.StepFault.{StepFault}
use Rattle.ms_arena.specs.declared.node.Ref.{Ref}
use Rattle.ms_arena.specs.declared.node.Ref.TheVariants.{Leaf, Inner}
use Rattle.ms_arena.specs.declared.node.Node.{Node}
use Rattle.ms_arena.specs.Diagram.{leaf_of, IsValid, IsOrdered}
use Rattle.ms_arena.specs.Bits.{with_bit}
use Rattle.ms_arena.specs.Target.{Extends}
use Rattle.ms_arena.proofs.Appending.{Extends-same, IsValid-extends, slice_get-extends}
use Rattle.ms_arena.proofs.Canonicity.{end_for}
use Rattle.ms_arena.proofs.Ends.{end_valid, end_leaf, end_blind}
use Rattle.ms_arena.proofs.Needs.{IsPart}
use Rattle.ms_arena.proofs.Paths.{leaf_of-leaf}
use Rattle.ms_diagram.specs.Growth.{Builds}
use Rattle.ms_diagram.specs.Relabel.{MappedLeaf, CoversLeaves, IsRelabelled}
use Rattle.ms_diagram.specs.inner.Relabelling.{relabelling, covers_later}
use Rattle.ms_diagram.specs.Store.{Contents, IsStore}
use Rattle.ms_diagram.specs.Table.{EachEntry}
use Rattle.ms_diagram.specs.inner.Walk.{IsSplit, IsWalked}
use Rattle.ms_diagram.proofs.Building.{Builds-found}

module _ (old : List Node) (ordered : IsOrdered old) (map : List ℕ) (root : Ref) (place : ℕ) (is : root ≡ Inner place) (node : Node)
    (held : slice_get old place ≡ Some node) (bit : Bool) (new : List Node) (ordered_new : IsOrdered new) (extends : Extends old new) where
  -- an end has a part of the target
  pub MappedLeaf-part : IsPart (MappedLeaf old map root) (MappedLeaf new map (end_for node bit)) node.var bit
  MappedLeaf-part = subst (λ (r : Ref). IsPart (MappedLeaf old map r) (MappedLeaf new map (end_for node bit)) node.var bit) (sym is) (record {
    fixes = λ bits number there. ap (slice_get map) (sym (end_leaf old ordered place node held bit new ordered_new extends bits)) ∙ there;
    single = λ bits one two first second. let same : Some one ≡ Some two = sym first ∙ second in cc;
    blind = λ one two number agree there. ap (slice_get map) (sym (end_blind old ordered place node held bit new ordered_new extends one two agree)) ∙ there;
  })

  -- and leaves that the map has
  pub CoversLeaves-end : CoversLeaves old map root → CoversLeaves new map (end_for node bit)
  CoversLeaves-end covers bits =
      subst (λ leaf. leaf < length map) (sym (end_leaf old ordered place node held bit new ordered_new extends bits ∙ ap (λ r. leaf_of old r (with_bit bits node.var bit)) (sym is)))
      (covers (with_bit bits node.var bit))

  -- it is valid
  pub root_end_valid : IsValid new (end_for node bit)
  root_end_valid = IsValid-extends old new extends (end_for node bit) (end_valid old ordered place node held bit)

-- a right entry answers at its place
pub Builds-relabelled : (store : Contents) (map : List ℕ) (root : Ref) (place : ℕ) (made : Ref) → IsStore store.nodes store.limit → root ≡ Inner place
    → IsRelabelled store.nodes map place made → Builds store store (MappedLeaf store.nodes map root) ⊥ (Ok made)
Builds-relabelled store map root place made is root_is entry =
    subst (λ (r : Ref). Builds store store (MappedLeaf store.nodes map r) ⊥ (Ok made)) (sym root_is)
    (Builds-found store (MappedLeaf store.nodes map (Inner place)) ⊥ made is entry.valid entry.meets)

-- the map has an item for a leaf
pub covered_leaf : (nodes : List Node) (map : List ℕ) (root : Ref) (value : ℕ) → root ≡ Leaf value → CoversLeaves nodes map root → value < length map
covered_leaf nodes map root value is covers =
    subst (λ leaf. leaf < length map) (ap (λ (r : Ref). leaf_of nodes r (λ _. false)) is ∙ leaf_of-leaf nodes (λ _. false) value) (covers (λ _. false))

-- a leaf becomes the leaf that the map has for it
pub Builds-mapped : (store : Contents) (map : List ℕ) (root : Ref) (value number : ℕ) → IsStore store.nodes store.limit → root ≡ Leaf value
    → slice_get map value ≡ Some number → Builds store store (MappedLeaf store.nodes map root) ⊥ (Ok (Leaf number))
Builds-mapped store map root value number is root_is there =
    subst (λ (r : Ref). Builds store store (MappedLeaf store.nodes map r) ⊥ (Ok (Leaf number))) (sym root_is)
    (Builds-found store (MappedLeaf store.nodes map (Leaf value)) ⊥ (Leaf number) is tt
    (λ bits. ap (slice_get map) (leaf_of-leaf store.nodes bits value) ∙ there ∙ ap Some (sym (leaf_of-leaf store.nodes bits number))))

-- a walk whose leaves are read in a map
module _ {S : Type 0} (map_of : S → List ℕ) where
  -- the ends of a node
  pub relabelling_split : (state : S) (nodes : List Node) (root : Ref) (place : ℕ) → root ≡ Inner place → (node : Node) → slice_get nodes place ≡ Some node
      → IsValid nodes root × CoversLeaves nodes (map_of state) root → IsSplit (relabelling map_of) state nodes root node.var node.low node.high
  relabelling_split state nodes root place is node held fits late new follows =
      let there = slice_get-extends nodes new follows.extends place node held in
      let covers = covers_later map_of state nodes late new follows root fits.0 fits.1 in
      record {
        low_fits = (
          root_end_valid new follows.ordered (map_of late) root place is node there false new follows.ordered (Extends-same new),
          CoversLeaves-end new follows.ordered (map_of late) root place is node there false new follows.ordered (Extends-same new) covers,
        );
        high_fits = (
          root_end_valid new follows.ordered (map_of late) root place is node there true new follows.ordered (Extends-same new),
          CoversLeaves-end new follows.ordered (map_of late) root place is node there true new follows.ordered (Extends-same new) covers,
        );
        low_is = MappedLeaf-part new follows.ordered (map_of late) root place is node there false new follows.ordered (Extends-same new);
        high_is = MappedLeaf-part new follows.ordered (map_of late) root place is node there true new follows.ordered (Extends-same new);
        low_lacks = λ never. never;
        high_lacks = λ never. never;
        low_adds = λ before after added. tt;
        high_adds = λ before after added. tt;
      }

  -- what it has built
  module _ (old new : Contents) (early late : S) (root : Ref) (entries : List (ℕ × Ref)) (result : Result Ref StepFault)
      (walked : IsWalked (relabelling map_of) old early root new late entries result) where
    pub relabelling_table : EachEntry (IsRelabelled new.nodes (map_of early)) entries
    relabelling_table = subst (λ (map : List ℕ). EachEntry (IsRelabelled new.nodes map) entries) walked.later walked.table
