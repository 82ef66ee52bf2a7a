-- What nodes become one after the other, where their variables are read at other places.
use Rattle.std.proofs.Common.{◌≡◌, ℕ, ◌+◌, ◌<◌, ⊎_elim, Bool, true, false, if◌then◌else◌, List, [], ◌∷◌, ◌++◌, length, map, take, slice_get, slice_index, Some, IfSome, refl, sym, ap, subst, ◌∙◌, arith}
use Rattle.std.specs.Option.{option_map}
use Rattle.std.proofs.lemmas.List.{length-map, map_push, take_more}
use Rattle.std.proofs.lemmas.Option.{slice_get-map, slice_get_within, get_or_from_slice_get, same_Some}
use Rattle.ms_arena.specs.declared.node.Ref.{Ref}
use Rattle.ms_arena.specs.declared.node.Ref.TheVariants.{Leaf, Inner}
use Rattle.ms_arena.specs.declared.node.Node.{Node}
use Rattle.ms_arena.specs.Diagram.{Bits, end_at, leaf_of, IsBefore, IsValid, IsOrdered}
use Rattle.ms_arena.specs.Target.{Extends, Meets}
use Rattle.ms_arena.proofs.Appending.{IsValid-extends, leaf_of-extends}
use Rattle.ms_arena.proofs.Lists.{slice_get-held, slice_get-pushed}
use Rattle.ms_arena.proofs.Paths.{leaf_of-leaf, leaf_of-node}
use Rattle.ms_diagram.specs.Apply.{PairNumber}
use Rattle.ms_diagram.specs.Bring.{read_through}
use Rattle.ms_diagram.specs.Growth.{KeepsFunctions}
use Rattle.ms_diagram.specs.Relabel.{MappedLeaf}
use Rattle.ms_dfa.specs.declared.state.State.{State}
use Rattle.ms_dfa.specs.Automaton.{state_of, states_of}
use Rattle.ms_logic_words.specs.declared.sign.Sign.{Sign}
use Rattle.ms_logic_words.specs.Content.{StateOf, Content, IsClosed, IsFollowed, is_in_letters, sign_at}
use Rattle.ms_rename.specs.inner.Choice.{chosen_end, choice_of}
use Rattle.ms_rename.specs.inner.Image.{IsImage, AreImages, IsRenamedBy, image_of, with_image}

-- the end that is chosen is the low one at the bit 0, and the high one at 1
pub chosen_is : (choices ends : List (ℕ × ℕ)) (table : List ℕ) (which made both low high : ℕ) (bit : Bool) (test : ℕ) → table ≡ map (choice_of ends) choices
    → slice_get table which ≡ Some made → slice_get choices which ≡ Some (test, both) → slice_get ends both ≡ Some (low, high) → test ≡ (if bit then 1 else 0)
    → made ≡ (if bit then high else low)
chosen_is choices ends table which made both low high bit test is held choice end test_is =
    let mapped : slice_get table which ≡ Some (choice_of ends (test, both)) = ap (λ list. slice_get list which) is ∙ slice_get-map (choice_of ends) choices which ∙ ap (option_map (choice_of ends)) choice in
    same_Some made (choice_of ends (test, both)) (sym held ∙ mapped) ∙ ap (chosen_end test) end ∙ ap (λ t. chosen_end t (Some (low, high))) test_is ∙ by bit
  where
    by : (b : Bool) → chosen_end (if b then 1 else 0) (Some (low, high)) ≡ (if b then high else low)
    by true = refl
    by false = refl

-- an image stays one when nodes are added
pub IsImage-extends : (old_new new old : List Node) (places : List ℕ) (root made : Ref) → IsOrdered old_new → Extends old_new new → IsImage old_new old places root made
    → IsImage new old places root made
IsImage-extends old_new new old places root made ordered extends was = record {
  valid = IsValid-extends old_new new extends made was.valid;
  leaves = λ bits. leaf_of-extends old_new new extends ordered made bits was.valid ∙ was.leaves bits;
}

-- the image of a reference to earlier nodes
pub IsImage-of : (new old : List Node) (places : List ℕ) (images : List Ref) (reference : Ref) → AreImages new old places images → IsBefore (length images) reference
    → IsImage new old places reference (image_of images reference)
IsImage-of new old places images (Leaf value) are before = record { valid = tt; leaves = λ bits. leaf_of-leaf new bits value ∙ sym (leaf_of-leaf old (read_through places bits) value) }
IsImage-of new old places images (Inner place) are before =
    let held = slice_get-held images place before in
    subst (IsImage new old places (Inner place)) (sym (get_or_from_slice_get images place held.0 (Leaf 0) held.1)) (are place held.0 held.1)

-- the image of a node is the choice between those of its ends
pub IsImage-node : (before new old : List Node) (places : List ℕ) (place : ℕ) (node : Node) (low high made : Ref) → IsOrdered old → slice_get old place ≡ Some node
    → IsImage before old places node.low low → IsImage before old places node.high high → IsValid new made
    → ((bits : Bits) → leaf_of new made bits ≡ (if bits (slice_index places node.var) then leaf_of before high bits else leaf_of before low bits))
    → IsImage new old places (Inner place) made
IsImage-node before new old places place node low high made ordered held low_is high_is valid function = record {
  valid = valid;
  leaves = λ bits.
      function bits ∙ by bits (bits (slice_index places node.var)) refl ∙ sym (leaf_of-node old ordered (read_through places bits) place node held);
}
  where
    by : (bits : Bits) (bit : Bool) → bits (slice_index places node.var) ≡ bit
        → (if bits (slice_index places node.var) then leaf_of before high bits else leaf_of before low bits) ≡ leaf_of old (end_at node (read_through places bits)) (read_through places bits)
    by bits true is =
        ap (λ b. if b then leaf_of before high bits else leaf_of before low bits) is ∙ high_is.leaves bits
        ∙ ap (λ b. leaf_of old (if b then node.high else node.low) (read_through places bits)) (sym is)
    by bits false is =
        ap (λ b. if b then leaf_of before high bits else leaf_of before low bits) is ∙ low_is.leaves bits
        ∙ ap (λ b. leaf_of old (if b then node.high else node.low) (read_through places bits)) (sym is)

-- one image more
pub AreImages-more : (before new old : List Node) (places : List ℕ) (images : List Ref) (made : Ref) → IsOrdered before → Extends before new → AreImages before old places images
    → IsImage new old places (Inner (length images)) made → AreImages new old places (images ++ made ∷ [])
AreImages-more before new old places images made ordered extends were is place image held = ⊎_elim
    (λ there. IsImage-extends before new old places (Inner place) image ordered extends (were place image there))
    (λ last. subst (λ p. IsImage new old places (Inner p) image) (sym last.0) (subst (IsImage new old places (Inner (length images))) last.1 is))
    (slice_get-pushed images made place image held)

-- one item more, and what a function makes of it
pub map-more : {X Y : Type 0} (f : X → Y) (items : List X) (made : List Y) (place : ℕ) (item : X) → made ≡ map f (take place items) → slice_get items place ≡ Some item
    → made ++ f item ∷ [] ≡ map f (take (place + 1) items)
map-more f items made place item was held =
    ap (λ list. list ++ f item ∷ []) was
    ∙ sym (map_push f (take place items) item)
    ∙ ap (map f) (sym (take_more items place item (slice_get_within items place item held) ∙ ap (λ x. take place items ++ x ∷ []) (get_or_from_slice_get items place item item held)))

-- one state more
pub states-more : (images : List Ref) (content : Content Sign) (made : List State) (place : ℕ) (sign : Sign) (next new : Ref) → states_of made ≡ map (with_image images) (take place content.states)
    → place < length content.states → sign_at content place ≡ Some sign → IfSome (slice_get content.states place) (λ (found : StateOf Sign). next ≡ found.next) → new ≡ image_of images next
    → states_of (made ++ record { sign = sign; next = new } ∷ []) ≡ map (with_image images) (take (place + 1) content.states)
states-more images content made place sign next new was within is_sign is_next is_new =
    let held = slice_get-held content.states place within in
    let own : sign ≡ held.0.sign = same_Some sign held.0.sign (sym is_sign ∙ ap (option_map (λ (found : StateOf Sign). found.sign)) held.1) in
    let next_is : next ≡ held.0.next = subst (λ found. IfSome found (λ (s : StateOf Sign). next ≡ s.next)) held.1 is_next in
    let new_is : new ≡ image_of images held.0.next = is_new ∙ ap (image_of images) next_is in
    let state_is : state_of (record { sign = sign; next = new }) ≡ with_image images held.0 = λ i. record { sign = own i; next = new_is i } in
    map_push state_of made (record { sign = sign; next = new })
    ∙ ap (λ (s : StateOf Sign). states_of made ++ s ∷ []) state_is
    ∙ map-more (with_image images) content.states (states_of made) place held.0 was held.1

module _ (zero one two three four : List Node) (var : ℕ) (low high test both which made : Ref) (ends pairs : List (ℕ × ℕ)) (table : List ℕ) where
  -- what a choice makes: the leaf of the test and the pair of both leaves have a number, for which the table has the leaf that is chosen
  pub choose_is : IsOrdered one → Extends one two → IsValid one test → IsValid zero low → IsValid zero high → KeepsFunctions zero one
      → ((bits : Bits) → leaf_of one test bits ≡ (if bits var then leaf_of zero (Leaf 1) bits else leaf_of zero (Leaf 0) bits))
      → Meets two (PairNumber one ends low high) both → Meets three (PairNumber two pairs test both) which → Meets four (MappedLeaf three table which) made
      → table ≡ map (choice_of ends) pairs
      → (bits : Bits) → leaf_of four made bits ≡ (if bits var then leaf_of zero high bits else leaf_of zero low bits)
  choose_is ordered extends valid_test valid_low valid_high kept tests meets_both meets_which meets_made table_is bits =
      let test_is : leaf_of two test bits ≡ (if bits var then 1 else 0)
      = leaf_of-extends one two extends ordered test bits valid_test ∙ tests bits ∙ (λ i. if bits var then leaf_of-leaf zero bits 1 i else leaf_of-leaf zero bits 0 i) in
      chosen_is pairs ends table (leaf_of three which bits) (leaf_of four made bits) (leaf_of two both bits) (leaf_of one low bits) (leaf_of one high bits) (bits var) (leaf_of two test bits) table_is
      (meets_made bits) (meets_which bits) (meets_both bits) test_is
      ∙ (λ i. if bits var then kept high valid_high bits i else kept low valid_low bits i)

  -- the table has a leaf for each number
  pub table_covers : Meets three (PairNumber two pairs test both) which → table ≡ map (choice_of ends) pairs → (bits : Bits) → leaf_of three which bits < length table
  table_covers meets table_is bits =
      let within = slice_get_within pairs (leaf_of three which bits) (leaf_of two test bits, leaf_of two both bits) (meets bits) in
      let long = ap length table_is in
      let mapped = length-map pairs (choice_of ends) in
      omega (arith, within, long, mapped)

-- the content that is made of the images of all nodes
pub IsRenamedBy-made : (content made : Content Sign) (places : List ℕ) (images : List Ref) → IsClosed content → length images ≡ length content.nodes → AreImages made.nodes content.nodes places images
    → made.start ≡ image_of images content.start → made.states ≡ map (with_image images) content.states → IsRenamedBy places content made
IsRenamedBy-made content made places images closed long are start states = record {
  start = subst (IsImage made.nodes content.nodes places content.start) (sym start)
      (IsImage-of made.nodes content.nodes places images content.start are (subst (λ n. IsBefore n content.start) (sym long) closed.start.valid));
  long = ap length states ∙ length-map content.states (with_image images);
  states = λ number was is was_held is_held.
      let mapped : slice_get made.states number ≡ Some (with_image images was)
      = ap (λ list. slice_get list number) states ∙ slice_get-map (with_image images) content.states number ∙ ap (option_map (with_image images)) was_held in
      let same : is ≡ with_image images was = same_Some is (with_image images was) (sym is_held ∙ mapped) in
      let followed = subst (λ (s : StateOf Sign). IsFollowed content is_in_letters s.next) (get_or_from_slice_get content.states number was was was_held)
      (closed.next number was (slice_get_within content.states number was was_held)) in (
        ap (λ (s : StateOf Sign). s.sign) same,
        subst (IsImage made.nodes content.nodes places was.next) (sym (ap (λ (s : StateOf Sign). s.next) same))
            (IsImage-of made.nodes content.nodes places images was.next are (subst (λ n. IsBefore n was.next) (sym long) followed.valid)),
      );
}
