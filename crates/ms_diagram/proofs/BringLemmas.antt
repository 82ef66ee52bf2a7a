-- Renamed leaves, split at a node of the other store.
use Rattle.std.proofs.Common.{◌≡◌, ◌≢◌, ℕ, ◌<◌, Bool, List, length, slice_get, get_or, Some, Result, Ok, true, false, sym, ap, subst, ◌∙◌, ⊎_elim, arith}
use Rattle.std.proofs.lemmas.Bool.{cases_eq, cases_lt}
use Rattle.std.proofs.lemmas.Option.{slice_get_within}
use Rattle.ms_list.specs.declared.fault.StepFault.{StepFault}
use Rattle.ms_arena.specs.declared.node.Ref.{Ref}
use Rattle.ms_arena.specs.declared.node.Ref.TheVariants.{Leaf, Inner}
use Rattle.ms_arena.specs.declared.node.Node.{Node}
use Rattle.ms_arena.specs.Diagram.{Bits, IsValid, IsOrdered}
use Rattle.ms_arena.specs.Bits.{with_bit}
use Rattle.ms_arena.specs.Reach.{IsTested}
use Rattle.ms_arena.specs.Target.{Extends}
use Rattle.ms_arena.proofs.Appending.{Extends-same, IsValid-extends, leaf_of-extends}
use Rattle.ms_arena.proofs.BitsLemmas.{with_bit-same, with_bit-other}
use Rattle.ms_arena.proofs.Canonicity.{end_for, TestsAbove-end_for}
use Rattle.ms_arena.proofs.Ends.{end_valid, end_leaf}
use Rattle.ms_arena.proofs.Needs.{IsPart}
use Rattle.ms_arena.proofs.Paths.{leaf_of-leaf}
use Rattle.ms_arena.proofs.ReachLemmas.{IsTested-own, IsTested-end, IsTested-above, leaf_of-tested}
use Rattle.ms_diagram.specs.Bring.{read_through, RenamedLeaf, Renames, IsBrought}
use Rattle.ms_diagram.specs.inner.Bringing.{bringing, bringing_fits}
use Rattle.ms_diagram.specs.Growth.{Builds}
use Rattle.ms_diagram.specs.Table.{EachEntry}
use Rattle.ms_diagram.specs.inner.Walk.{IsSplit, IsWalked}
use Rattle.ms_diagram.specs.Store.{Contents, IsStore}
use Rattle.ms_diagram.proofs.Building.{Builds-found}

module _ (origin : List Node) (ordered : IsOrdered origin) (map : List ℕ) (place : ℕ) (node : Node) (held : slice_get origin place ≡ Some node) (bit : Bool)
    (renames : Renames origin map (Inner place)) where
  valid_end : IsValid origin (end_for node bit)
  valid_end = end_valid origin ordered place node held bit

  -- the variables that an end tests are later than the node's, and so are those that are read in their place
  later : (var : ℕ) → IsTested origin (end_for node bit) var → get_or map node.var 0 < get_or map var 0
  later var tested =
      renames.rising node.var var (IsTested-own origin place node held) (IsTested-end origin place node bit var held tested)
      (IsTested-above origin ordered node.var (end_for node bit) var (TestsAbove-end_for origin ordered place node bit held) tested)

  -- at the tested variables, a bit replaced before reading is one replaced after it
  same_read : (bits : Bits) (var : ℕ) → IsTested origin (Inner place) var
      → with_bit (read_through map bits) node.var bit var ≡ read_through map (with_bit bits (get_or map node.var 0) bit) var
  same_read bits var tested = ⊎_elim
      (λ same. ap (with_bit (read_through map bits) node.var bit) same ∙ with_bit-same (read_through map bits) node.var bit
      ∙ sym (ap (λ v. with_bit bits (get_or map node.var 0) bit (get_or map v 0)) same ∙ with_bit-same bits (get_or map node.var 0) bit))
      (λ differs. with_bit-other (read_through map bits) node.var bit var differs
      ∙ sym (with_bit-other bits (get_or map node.var 0) bit (get_or map var 0) (apart differs)))
      (cases_eq var node.var)
    where
      apart : var ≢ node.var → get_or map var 0 ≢ get_or map node.var 0
      apart differs same = ⊎_elim
          (λ less. let rises = renames.rising var node.var tested (IsTested-own origin place node held) less in omega (arith, rises, same))
          (λ more. let rises = renames.rising node.var var (IsTested-own origin place node held) tested (omega (arith, more, differs)) in omega (arith, rises, same))
          (cases_lt var node.var)

  part_at_place : IsPart (RenamedLeaf origin map (Inner place)) (RenamedLeaf origin map (end_for node bit)) (get_or map node.var 0) bit
  part_at_place = record {
    fixes = λ bits number there.
        there ∙ end_leaf origin ordered place node held bit origin ordered (Extends-same origin) (read_through map bits)
        ∙ leaf_of-tested origin ordered (Inner place) (with_bit (read_through map bits) node.var bit) (read_through map (with_bit bits (get_or map node.var 0) bit))
        (slice_get_within origin place node held) (same_read bits);
    single = λ bits one two first second. first ∙ sym second;
    blind = λ one two number agree there.
        there ∙ leaf_of-tested origin ordered (end_for node bit) (read_through map one) (read_through map two) valid_end
        (λ var tested. agree (get_or map var 0) (later var tested));
  }

  renames_end : Renames origin map (end_for node bit)
  renames_end = record {
    long = λ var tested. renames.long var (IsTested-end origin place node bit var held tested);
    rising = λ one two first second. renames.rising one two (IsTested-end origin place node bit one held first) (IsTested-end origin place node bit two held second);
  }

module _ (origin : List Node) (ordered : IsOrdered origin) (map : List ℕ) (root : Ref) (place : ℕ) (is : root ≡ Inner place) (node : Node)
    (held : slice_get origin place ≡ Some node) (bit : Bool) (renames : Renames origin map root) where
  renames_place : Renames origin map (Inner place)
  renames_place = subst (λ r. Renames origin map r) is renames

  -- an end has a part of the target
  pub RenamedLeaf-part : IsPart (RenamedLeaf origin map root) (RenamedLeaf origin map (end_for node bit)) (get_or map node.var 0) bit
  RenamedLeaf-part =
      subst (λ (r : Ref). IsPart (RenamedLeaf origin map r) (RenamedLeaf origin map (end_for node bit)) (get_or map node.var 0) bit) (sym is)
      (part_at_place origin ordered map place node held bit renames_place)

  -- and is renamed by the map; it is valid
  pub Renames-end : Renames origin map (end_for node bit)
  Renames-end = renames_end origin ordered map place node held bit renames_place

  pub brought_end_valid : IsValid origin (end_for node bit)
  brought_end_valid = end_valid origin ordered place node held bit

  -- the map has a variable for the node
  pub node_renamed : node.var < length map
  node_renamed = renames_place.long node.var (IsTested-own origin place node held)

-- an entry of the table stays right while the other store grows
pub IsBrought-origin_grows : (old new nodes : List Node) (map : List ℕ) → IsOrdered old → Extends old new → (place : ℕ) (made : Ref) → IsBrought old map nodes place made → IsBrought new map nodes place made
IsBrought-origin_grows old new nodes map ordered extends place made is = record {
  valid_root = IsValid-extends old new extends (Inner place) is.valid_root;
  valid = is.valid;
  meets = λ bits. is.meets bits ∙ sym (leaf_of-extends old new extends ordered (Inner place) (read_through map bits) is.valid_root);
}

-- a right entry answers at its place
pub Builds-brought : (origin : List Node) (store : Contents) (map : List ℕ) (root : Ref) (place : ℕ) (made : Ref) → IsStore store.nodes store.limit → root ≡ Inner place
    → IsBrought origin map store.nodes place made → Builds store store (RenamedLeaf origin map root) ⊥ (Ok made)
Builds-brought origin store map root place made is root_is entry =
    subst (λ (r : Ref). Builds store store (RenamedLeaf origin map r) ⊥ (Ok made)) (sym root_is)
    (Builds-found store (RenamedLeaf origin map (Inner place)) ⊥ made is entry.valid entry.meets)

-- a leaf stays a leaf
pub Builds-same_leaf : (origin : List Node) (store : Contents) (map : List ℕ) (root : Ref) (value : ℕ) → IsStore store.nodes store.limit → root ≡ Leaf value
    → Builds store store (RenamedLeaf origin map root) ⊥ (Ok (Leaf value))
Builds-same_leaf origin store map root value is root_is =
    subst (λ (r : Ref). Builds store store (RenamedLeaf origin map r) ⊥ (Ok (Leaf value))) (sym root_is)
    (Builds-found store (RenamedLeaf origin map (Leaf value)) ⊥ (Leaf value) is tt
    (λ bits. leaf_of-leaf store.nodes bits value ∙ sym (leaf_of-leaf origin (read_through map bits) value)))

-- a walk through another store
module _ {S : Type 0} (origin_of : S → List Node) (map_of : S → List ℕ) where
  -- the ends of a node
  pub bringing_split : (state : S) (nodes : List Node) (root : Ref) (place : ℕ) → root ≡ Inner place → (node : Node) → IsOrdered (origin_of state)
      → slice_get (origin_of state) place ≡ Some node → IsValid (origin_of state) root × Renames (origin_of state) (map_of state) root
      → IsSplit (bringing origin_of map_of) state nodes root (get_or (map_of state) node.var 0) node.low node.high
  bringing_split state nodes root place is node ordered held fits late new follows =
      let origin = origin_of late in
      let ordered_late = subst (λ (list : List Node). IsOrdered list) (sym follows.later.0) ordered in
      let there : slice_get origin place ≡ Some node = ap (λ (list : List Node). slice_get list place) follows.later.0 ∙ held in
      let fits_late = bringing_fits origin_of map_of state late follows.later root fits in
      let same_var = ap (λ (map : List ℕ). get_or map node.var 0) follows.later.1 in
      record {
        low_fits = (
          brought_end_valid origin ordered_late (map_of late) root place is node there false fits_late.1,
          Renames-end origin ordered_late (map_of late) root place is node there false fits_late.1,
        );
        high_fits = (
          brought_end_valid origin ordered_late (map_of late) root place is node there true fits_late.1,
          Renames-end origin ordered_late (map_of late) root place is node there true fits_late.1,
        );
        low_is = subst (λ var. IsPart (RenamedLeaf origin (map_of late) root) (RenamedLeaf origin (map_of late) node.low) var false) same_var
            (RenamedLeaf-part origin ordered_late (map_of late) root place is node there false fits_late.1);
        high_is = subst (λ var. IsPart (RenamedLeaf origin (map_of late) root) (RenamedLeaf origin (map_of late) node.high) var true) same_var
            (RenamedLeaf-part origin ordered_late (map_of late) root place is node there true fits_late.1);
        low_lacks = λ never. never;
        high_lacks = λ never. never;
        low_adds = λ before after added. tt;
        high_adds = λ before after added. tt;
      }

  -- what it has built
  module _ (old new : Contents) (early late : S) (root : Ref) (entries : List (ℕ × Ref)) (result : Result Ref StepFault)
      (walked : IsWalked (bringing origin_of map_of) old early root new late entries result) where
    pub bringing_builds : Builds old new (RenamedLeaf (origin_of early) (map_of early) root) ⊥ result
    bringing_builds =
        subst (λ (origin : List Node). Builds old new (RenamedLeaf origin (map_of early) root) ⊥ result) walked.later.0
        (subst (λ (map : List ℕ). Builds old new (RenamedLeaf (origin_of late) map root) ⊥ result) walked.later.1 walked.builds)

    pub bringing_table : EachEntry (IsBrought (origin_of early) (map_of early) new.nodes) entries
    bringing_table =
        subst (λ (origin : List Node). EachEntry (IsBrought origin (map_of early) new.nodes) entries) walked.later.0
        (subst (λ (map : List ℕ). EachEntry (IsBrought (origin_of late) map new.nodes) entries) walked.later.1 walked.table)
