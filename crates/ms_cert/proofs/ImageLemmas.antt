-- What nodes become one after the other, where their leaves are read as classes.
use Rattle.std.proofs.Common.{◌≡◌, ℕ, ◌<◌, ⊎_elim, Bool, true, false, if◌then◌else◌, List, [], ◌∷◌, ◌++◌, length, slice_get, slice_index, Some, refl, sym, ap, subst, ◌∙◌, inl, inr}
use Rattle.std.proofs.lemmas.Option.{get_or_from_slice_get}
use Rattle.ms_arena.specs.declared.node.Ref.{Ref}
use Rattle.ms_arena.specs.declared.node.Ref.TheVariants.{Leaf, Inner}
use Rattle.ms_arena.specs.declared.node.Node.{Node}
use Rattle.ms_arena.specs.Diagram.{Bits, end_at, leaf_of, IsBefore, IsOrdered, IsValid, TestsAbove}
use Rattle.ms_arena.specs.Target.{Appends, Extends}
use Rattle.ms_arena.proofs.Appending.{IsValid-extends, TestsAbove-extends, leaf_of-extends}
use Rattle.ms_arena.proofs.Lists.{slice_get-held, slice_get-pushed}
use Rattle.ms_arena.proofs.Paths.{leaf_of-leaf, leaf_of-node}
use Rattle.ms_cert.specs.inner.Difference.{TestBelow}
use Rattle.ms_cert.specs.inner.Images.{HaveImages, IsImage, image_of}

-- an image stays one when nodes are added
pub image-extends : (before new old : List Node) (classes : List ℕ) (root made : Ref) → IsOrdered before → Extends before new → IsImage before old classes root made → IsImage new old classes root made
image-extends before new old classes root made ordered extends was = record {
  valid = IsValid-extends before new extends made was.valid;
  leaves = λ bits. leaf_of-extends before new extends ordered made bits was.valid ∙ was.leaves bits;
  above = λ var tests. TestsAbove-extends before new extends var made was.valid (was.above var tests);
}

-- the image of a reference to earlier nodes
pub image-is : (new old : List Node) (classes : List ℕ) (images : List Ref) (reference : Ref) → HaveImages new old classes images → IsBefore (length images) reference → IsImage new old classes reference (image_of images classes reference)
image-is new old classes images (Leaf value) are before = record {
  valid = tt;
  leaves = λ bits. leaf_of-leaf new bits (slice_index classes value) ∙ ap (slice_index classes) (sym (leaf_of-leaf old bits value));
  above = λ var tests. tt;
}
image-is new old classes images (Inner place) are before =
    let held = slice_get-held images place before in
    subst (IsImage new old classes (Inner place)) (sym (get_or_from_slice_get images place held.0 (Leaf 0) held.1)) (are place held.0 held.1)

-- the same of what was read
pub image-read : (new old : List Node) (classes : List ℕ) (images : List Ref) (reference made : Ref) → HaveImages new old classes images → IsBefore (length images) reference → made ≡ image_of images classes reference → IsImage new old classes reference made
image-read new old classes images reference made are before is = subst (IsImage new old classes reference) (sym is) (image-is new old classes images reference are before)

-- the image of a node is the choice between those of its ends
pub image-node : (before new old : List Node) (classes : List ℕ) (place : ℕ) (node : Node) (low high made : Ref) → IsOrdered old → slice_get old place ≡ Some node
    → IsImage before old classes node.low low → IsImage before old classes node.high high → IsValid new made
    → ((bits : Bits) → leaf_of new made bits ≡ (if bits node.var then leaf_of before high bits else leaf_of before low bits))
    → ((var : ℕ) → var < node.var → TestsAbove new var made) → IsImage new old classes (Inner place) made
image-node before new old classes place node low high made ordered held low_is high_is valid function above = record {
  valid = valid;
  leaves = λ bits. function bits ∙ by bits (bits node.var) refl ∙ ap (slice_index classes) (sym (leaf_of-node old ordered bits place node held));
  above = λ var tests. above var (tests node held);
}
  where
    by : (bits : Bits) (bit : Bool) → bits node.var ≡ bit
        → (if bits node.var then leaf_of before high bits else leaf_of before low bits) ≡ slice_index classes (leaf_of old (end_at node bits) bits)
    by bits true is =
        ap (λ b. if b then leaf_of before high bits else leaf_of before low bits) is ∙ high_is.leaves bits
        ∙ ap (λ b. slice_index classes (leaf_of old (if b then node.high else node.low) bits)) (sym is)
    by bits false is =
        ap (λ b. if b then leaf_of before high bits else leaf_of before low bits) is ∙ low_is.leaves bits
        ∙ ap (λ b. slice_index classes (leaf_of old (if b then node.high else node.low) bits)) (sym is)

-- one image more
pub images-more : (before new old : List Node) (classes : List ℕ) (images : List Ref) (made : Ref) → IsOrdered before → Extends before new → HaveImages before old classes images
    → IsImage new old classes (Inner (length images)) made → HaveImages new old classes (images ++ made ∷ [])
images-more before new old classes images made ordered extends were is place image held = ⊎_elim
    (λ there. image-extends before new old classes (Inner place) image ordered extends (were place image there))
    (λ last. subst (λ p. IsImage new old classes (Inner p) image) (sym last.0) (subst (IsImage new old classes (Inner (length images))) last.1 is))
    (slice_get-pushed images made place image held)

-- a node more tests variables below one, where it tests one of these
pub below-appends : (old new : List Node) (node : Node) (count : ℕ) → Appends old new node → TestBelow old count → node.var < count → TestBelow new count
below-appends old new node count (inl same) below less = subst (λ (nodes : List Node). TestBelow nodes count) (sym same) below
below-appends old new node count (inr more) below less = subst (λ (nodes : List Node). TestBelow nodes count) (sym more.2) (λ place found held. ⊎_elim
    (λ early. below place found early)
    (λ last. subst (λ (n : Node). n.var < count) last.1 less)
    (slice_get-pushed old node place found held))
