-- What nodes become one after the other, where their leaves are read as classes.
use Rattle.std.proofs.Common.{◌≡◌, ℕ, ◌<◌, ⊎_elim, Bool, true, false, if◌then◌else◌, List, [], ◌∷◌, ◌++◌, length, slice_get, slice_index, Some, refl, sym, ap, subst, ◌∙◌, arith}
use Rattle.std.proofs.lemmas.Option.{get_or_from_slice_get, slice_get-get_or}
use Rattle.ms_arena.specs.declared.node.Ref.{Ref}
use Rattle.ms_arena.specs.declared.node.Ref.TheVariants.{Leaf, Inner}
use Rattle.ms_arena.specs.declared.node.Node.{Node}
use Rattle.ms_arena.specs.Diagram.{Bits, end_at, leaf_of, IsBefore, IsValid, IsOrdered, TestsAbove}
use Rattle.ms_arena.specs.Target.{Extends, Meets}
use Rattle.ms_arena.proofs.Appending.{IsValid-extends, TestsAbove-extends, leaf_of-extends}
use Rattle.ms_arena.proofs.Lists.{slice_get-held, slice_get-pushed}
use Rattle.ms_arena.proofs.Paths.{leaf_of-leaf, leaf_of-node}
use Rattle.ms_diagram.specs.Relabel.{MappedLeaf}
use Rattle.ms_diagram.specs.Store.{Contents, IsStore}
use Rattle.ms_logic_words.specs.declared.sign.Sign.{Sign}
use Rattle.ms_logic_words.specs.Content.{Content}
use Rattle.ms_minim.specs.declared.images.Images.{Images}
use Rattle.ms_minim.specs.declared.origins.Origins.{Origins}
use Rattle.ms_minim.specs.inner.Image.{IsImage, HaveImages, AreImages, image_of}
use Rattle.ms_minim.specs.inner.Origin.{IsOn, IsSeen}
use Rattle.ms_minim.specs.inner.Partition.{IsRoot}

-- an image stays one when nodes are added
pub IsImage-extends : (old_new new old : List Node) (classes : List ℕ) (root made : Ref) → IsOrdered old_new → Extends old_new new → IsImage old_new old classes root made
    → IsImage new old classes root made
IsImage-extends old_new new old classes root made ordered extends was = record {
  valid = IsValid-extends old_new new extends made was.valid;
  leaves = λ bits. leaf_of-extends old_new new extends ordered made bits was.valid ∙ was.leaves bits;
  above = λ var tests. TestsAbove-extends old_new new extends var made was.valid (was.above var tests);
}

-- so do all
pub HaveImages-extends : (old_new new old : List Node) (classes origins : List ℕ) (images : List Ref) → IsOrdered old_new → Extends old_new new → HaveImages old_new old classes origins images
    → HaveImages new old classes origins images
HaveImages-extends old_new new old classes origins images ordered extends were place image on held =
    IsImage-extends old_new new old classes (Inner place) image ordered extends (were place image on held)

-- the image of a reference to earlier nodes
pub IsImage-of : (new old : List Node) (classes origins : List ℕ) (images : List Ref) (reference : Ref) → HaveImages new old classes origins images → IsBefore (length images) reference → IsOn origins reference
    → IsImage new old classes reference (image_of images classes reference)
IsImage-of new old classes origins images (Leaf value) are before on = record {
  valid = tt;
  leaves = λ bits. leaf_of-leaf new bits (slice_index classes value) ∙ ap (slice_index classes) (sym (leaf_of-leaf old bits value));
  above = λ var tests. tt;
}
IsImage-of new old classes origins images (Inner place) are before on =
    let held = slice_get-held images place before in
    subst (IsImage new old classes (Inner place)) (sym (get_or_from_slice_get images place held.0 (Leaf 0) held.1)) (are place held.0 on held.1)

-- the same of an end, by what was read of the images
pub IsImage-end : (new old : List Node) (classes origins : List ℕ) (images : List Ref) (reference made : Ref) (count : ℕ) → HaveImages new old classes origins images → length images ≡ count
    → IsBefore count reference → IsOn origins reference → made ≡ image_of images classes reference → IsImage new old classes reference made
IsImage-end new old classes origins images reference made count are long before on is =
    subst (IsImage new old classes reference) (sym is) (IsImage-of new old classes origins images reference are (subst (λ n. IsBefore n reference) (sym long) before) on)

-- the image of a node is the choice between those of its ends
pub IsImage-node : (before new old : List Node) (classes : List ℕ) (place : ℕ) (node : Node) (low high made : Ref) → IsOrdered old → slice_get old place ≡ Some node
    → IsImage before old classes node.low low → IsImage before old classes node.high high → IsValid new made
    → ((bits : Bits) → leaf_of new made bits ≡ (if bits node.var then leaf_of before high bits else leaf_of before low bits))
    → ((var : ℕ) → var < node.var → TestsAbove new var made) → IsImage new old classes (Inner place) made
IsImage-node before new old classes place node low high made ordered held low_is high_is valid function above = record {
  valid = valid;
  leaves = λ bits. function bits ∙ by bits (bits node.var) refl ∙ ap (slice_index classes) (sym (leaf_of-node old ordered bits place node held));
  above = λ var tests. above var (tests node held);
}
  where
    by : (bits : Bits) (bit : Bool) → bits node.var ≡ bit
        → (if bits node.var then leaf_of before high bits else leaf_of before low bits) ≡ slice_index classes (leaf_of old (end_at node bits) bits)
    by bits true is =
        ap (λ b. if b then leaf_of before high bits else leaf_of before low bits) is ∙ high_is.leaves bits
        ∙ ap (λ b. slice_index classes (leaf_of old (if b then node.high else node.low) bits)) (sym is)
    by bits false is =
        ap (λ b. if b then leaf_of before high bits else leaf_of before low bits) is ∙ low_is.leaves bits
        ∙ ap (λ b. slice_index classes (leaf_of old (if b then node.high else node.low) bits)) (sym is)

-- one image more
pub HaveImages-more : (before new old : List Node) (classes origins : List ℕ) (images : List Ref) (made : Ref) → IsOrdered before → Extends before new → HaveImages before old classes origins images
    → (IsOn origins (Inner (length images)) → IsImage new old classes (Inner (length images)) made) → HaveImages new old classes origins (images ++ made ∷ [])
HaveImages-more before new old classes origins images made ordered extends were is place image on held = ⊎_elim
    (λ there. IsImage-extends before new old classes (Inner place) image ordered extends (were place image on there))
    (λ last.
    subst (λ p. IsImage new old classes (Inner p) image) (sym last.0)
    (subst (IsImage new old classes (Inner (length images))) last.1 (is (subst (λ p. IsOn origins (Inner p)) last.0 on))))
    (slice_get-pushed images made place image held)

-- a root of a content has the classes of the states that it leads to
pub Meets-image : (new : List Node) (content : Content Sign) (classes : List ℕ) (root made : Ref) → IsRoot content root → length classes ≡ length content.states
    → IsImage new content.nodes classes root made → Meets new (MappedLeaf content.nodes classes root) made
Meets-image new content classes root made is all image bits =
    let within : leaf_of content.nodes root bits < length classes = let below = is.1.states bits in omega (arith, below, all) in
    slice_get-get_or classes (leaf_of content.nodes root bits) 0 within ∙ ap Some (sym (image.leaves bits))

-- a reference of which an origin is noted
pub IsOn-seen : (origins : Origins) (reference : Ref) → IsSeen origins reference → IsOn origins.nodes.items reference
IsOn-seen origins (Leaf state) seen = tt
IsOn-seen origins (Inner place) seen = seen

module _ (content : Content Sign) (classes : List ℕ) (origins : Origins) (images : Images) (are : AreImages content.nodes classes origins.nodes.items images) (root : Ref) (is : IsRoot content root)
    (seen : IsSeen origins root) where
  pub root_before : IsBefore (length images.list) root
  root_before = subst (λ n. IsBefore n root) (sym are.long) is.1.valid

  pub IsImage-root : IsImage images.store.nodes content.nodes classes root (image_of images.list classes root)
  IsImage-root = IsImage-of images.store.nodes content.nodes classes origins.nodes.items images.list root are.each root_before (IsOn-seen origins root seen)

  -- the same by what was read
  pub IsImage-read : (read : List Ref) (by : List ℕ) (made : Ref) → read ≡ images.list → by ≡ classes → made ≡ image_of read by root → IsImage images.store.nodes content.nodes classes root made
  IsImage-read read by made same same_classes made_is =
      subst (IsImage images.store.nodes content.nodes classes root)
      (sym (made_is ∙ ap (λ (list : List Ref). image_of list by root) same ∙ ap (λ list. image_of images.list list root) same_classes)) IsImage-root

  -- which has the classes of the states that the root leads to
  pub Meets-read : length classes ≡ length content.states → (read : List Ref) (by : List ℕ) (made : Ref) → read ≡ images.list → by ≡ classes → made ≡ image_of read by root
      → Meets images.store.nodes (MappedLeaf content.nodes classes root) made
  Meets-read all read by made same same_classes made_is = Meets-image images.store.nodes content classes root made is all (IsImage-read read by made same same_classes made_is)

-- images stay while their store grows
pub AreImages-grow : (old : List Node) (classes origins : List ℕ) (images : Images) (store : Contents) → Extends images.store.nodes store.nodes → IsStore store.nodes store.limit → AreImages old classes origins images
    → AreImages old classes origins (record { store = store; list = images.list })
AreImages-grow old classes origins images store extends is were = record {
  store = is;
  long = were.long;
  each = HaveImages-extends images.store.nodes store.nodes old classes origins images.list were.store.ordered extends were.each;
}
