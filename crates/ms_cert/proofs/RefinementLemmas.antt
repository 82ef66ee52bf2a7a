-- Classes that no letter splits have one state each, where all states differ.
use Rattle.std.proofs.Common.{◌≡◌, ◌≢◌, ℕ, ◌+◌, ◌<◌, ◌≤◌, Bool, IfNone, List, [], ◌∷◌, length, slice_get, slice_index, Option, Some, None, sym, ap, subst, ◌∙◌, arith, ⊎_elim}
use Rattle.std.proofs.lemmas.Bool.{cases_lt}
use Rattle.std.proofs.lemmas.Option.{get_or_from_slice_get, same_Some, slice_get-get_or, slice_get_within}
use Rattle.ms_arena.specs.declared.node.Node.{Node}
use Rattle.ms_arena.specs.declared.node.Ref.{Ref}
use Rattle.ms_arena.specs.Diagram.{Bits, leaf_of}
use Rattle.ms_dfa.proofs.NarrowLemmas.{leaf_of-gathered}
use Rattle.ms_dfa.specs.Narrow.{gathered}
use Rattle.ms_dfa.specs.declared.plain.FileSign.{FileSign}
use Rattle.ms_logic_words.specs.Canonical.{IsCanonical}
use Rattle.ms_logic_words.specs.Content.{Content, IsContent, StateOf, is_in_letters, letter_bits, next_from, next_state, sign_at, state_after}
use Rattle.ms_dfafile_outside.proofs.ContentLemmas.{valid-part}
use Rattle.ms_cert.specs.declared.splitter.Splitter.{Splitter}
use Rattle.ms_cert.specs.inner.Images.{IsImage}
use Rattle.ms_cert.specs.inner.Partition.{Classes, IsDiscrete, IsIn, IsPartition, with_split}
use Rattle.ms_cert.specs.inner.Refinement.{AreAlike, AreAllAlike, AreSettled, AreSettledBelow, LeadTogether, Refines}
use Rattle.ms_cert.proofs.ContentLemmas.{next-state}
use Rattle.ms_cert.proofs.SplitLemmas.{new-other, split-refines}

-- what follows where nothing is found
pub none-weaker : {X : Type 0} (found : Option X) (P Q : Type 0) → (P → Q) → IfNone found P → IfNone found Q
none-weaker None P Q follows is = follows is
none-weaker (Some x) P Q follows is = is

-- classes refine themselves
pub refines-own : (classes : List ℕ) → Refines classes classes
refines-own classes one other class held_one held_other = get_or_from_slice_get classes one class 0 held_one ∙ sym (get_or_from_slice_get classes other class 0 held_other)

module _ (content : Content FileSign) (classes : List ℕ) where
  pub alike-back : (one other : ℕ) → AreAlike content classes one other → AreAlike content classes other one
  alike-back one other are = record { signs = sym are.signs; next = λ letter. sym (are.next letter) }

  pub alike-on : (one two three : ℕ) → AreAlike content classes one two → AreAlike content classes two three → AreAlike content classes one three
  alike-on one two three are also = record { signs = are.signs ∙ also.signs; next = λ letter. are.next letter ∙ also.next letter }

  -- states that are like the first one are like each other
  pub alike-all : (states : List ℕ) (first : ℕ) → ((place state : ℕ) → place < length states → slice_get states place ≡ Some state → AreAlike content classes first state) → AreAllAlike content classes states
  alike-all states first are one other in_one in_other =
      alike-on one first other (alike-back first one (are in_one.0 one (slice_get_within states in_one.0 one in_one.1) in_one.1)) (are in_other.0 other (slice_get_within states in_other.0 other in_other.1) in_other.1)

  -- one state more is like the first one
  pub alike-more : (states : List ℕ) (first place own : ℕ) → slice_get states place ≡ Some own → ((at state : ℕ) → at < place → slice_get states at ≡ Some state → AreAlike content classes first state) → AreAlike content classes first own
      → (at state : ℕ) → at < place + 1 → slice_get states at ≡ Some state → AreAlike content classes first state
  alike-more states first place own there so_far are at state less held = ⊎_elim
      (λ before. so_far at state before held)
      (λ past.
      let here : at ≡ place = omega arith in
      subst (AreAlike content classes first) (same_Some own state (sym there ∙ ap (slice_get states) (sym here) ∙ held)) are)
      (cases_lt at place)

  -- one image
  pub together-images : (nodes : List Node) (one other : ℕ) (one_own other_own : StateOf FileSign) (one_image other_image : Ref) → slice_get content.states one ≡ Some one_own → slice_get content.states other ≡ Some other_own
      → IsImage nodes content.nodes classes one_own.next one_image → IsImage nodes content.nodes classes other_own.next other_image → one_image ≡ other_image → LeadTogether content classes one other
  together-images nodes one other one_own other_own one_image other_image held_one held_other is also same letter =
      let bits = letter_bits content.variables letter in
      ap (λ (found : Option (StateOf FileSign)). slice_index classes (next_from content found letter)) held_one
      ∙ sym (is.leaves bits)
      ∙ ap (λ (r : Ref). leaf_of nodes r bits) same
      ∙ also.leaves bits
      ∙ sym (ap (λ (found : Option (StateOf FileSign)). slice_index classes (next_from content found letter)) held_other)

  -- the letter that bits make leads from a state to the class that they lead to from its image
  pub image-letter : (rules : IsContent content) (nodes : List Node) (state : ℕ) (own : StateOf FileSign) (made : Ref) (bits : Bits) → slice_get content.states state ≡ Some own → IsImage nodes content.nodes classes own.next made
      → slice_index classes (next_state content state (gathered is_in_letters 0 content.variables bits)) ≡ leaf_of nodes made bits
  image-letter rules nodes state own made bits held is =
      ap (λ (found : Option (StateOf FileSign)). slice_index classes (next_from content found (gathered is_in_letters 0 content.variables bits))) held
      ∙ ap (slice_index classes) (leaf_of-gathered content.nodes is_in_letters content.variables own.next bits rules.ordered (valid-part content own.next (rules.next_named state own held)) (rules.next_tests state own held))
      ∙ sym (is.leaves bits)

  -- the classes so far, and one more
  pub settled-more : (members : List (List ℕ)) (count : ℕ) (states : List ℕ) → AreSettledBelow content classes members count → slice_get members count ≡ Some states → AreAllAlike content classes states
      → AreSettledBelow content classes members (count + 1)
  settled-more members count states below there are class own less held = ⊎_elim
      (λ before. below class own before held)
      (λ past.
      let here : class ≡ count = omega arith in
      subst (AreAllAlike content classes) (same_Some states own (sym there ∙ ap (slice_get members) (sym here) ∙ held)) are)
      (cases_lt class count)

  -- a class that is split later changes none of those before
  pub settled-split : (old : Classes) (is : IsPartition content old) (class : ℕ) (splitter : Splitter) (within : class < length old.members) → AreSettledBelow content classes old.members class
      → AreSettledBelow content classes (with_split content old class splitter).members class
  settled-split old is class splitter within below other states less held =
      let differ : other ≢ class = omega arith in
      below other states less (sym (new-other content old is class splitter within other (omega arith) differ) ∙ held)

  -- and leaves those of one class in one class
  pub refines-split : (old : Classes) (is : IsPartition content old) (class : ℕ) (splitter : Splitter) (within : class < length old.members) → Refines old.classes classes → Refines (with_split content old class splitter).classes classes
  refines-split old is class splitter within refines one other own held_one held_other =
      let same = split-refines content old is class splitter within one other own held_one held_other in
      refines one other same.0 same.1 same.2

  -- all classes
  pub settled-all : (parts : Classes) → IsPartition content parts → (count : ℕ) → length parts.members ≤ count → AreSettledBelow content classes parts.members count → classes ≡ parts.classes → AreSettled content parts.classes
  settled-all parts is count past below same one other class held_one held_other =
      let in_one = is.listed one class held_one in
      let in_other = is.listed other class held_other in
      let list = same_Some in_other.0 in_one.0 (sym in_other.1 ∙ in_one.1) in
      let less = slice_get_within parts.members class in_one.0 in_one.1 in
      subst (λ (c : List ℕ). AreAlike content c one other) same
      (below class in_one.0 (omega (arith, less, past)) in_one.1 one other in_one.2 (subst (λ (s : List ℕ). IsIn s other) list in_other.2))

module _ (content : Content FileSign) (canonical : IsCanonical content) (classes : List ℕ) (count : length classes ≡ length content.states) (settled : AreSettled content classes) where
  -- states of one class have one sign after all letters
  same-signs : (letters : List (List Bool)) (one other class : ℕ) → slice_get classes one ≡ Some class → slice_get classes other ≡ Some class → sign_at content (state_after content one letters) ≡ sign_at content (state_after content other letters)
  same-signs [] one other class held_one held_other = (settled one other class held_one held_other).signs
  same-signs (letter ∷ letters) one other class held_one held_other =
      let first = next_state content one letter in
      let second = next_state content other letter in
      let in_first = next-state content canonical.rules one letter in
      let in_second = next-state content canonical.rules other letter in
      let same = (settled one other class held_one held_other).next letter in
      same-signs letters first second (slice_index classes second)
      (slice_get-get_or classes first 0 (omega (arith, in_first, count)) ∙ ap Some same)
      (slice_get-get_or classes second 0 (omega (arith, in_second, count)))

  pub settled-discrete : IsDiscrete classes
  settled-discrete one other class held_one held_other =
      let in_one = slice_get_within classes one class held_one in
      let in_other = slice_get_within classes other class held_other in
      canonical.states_differ one other (omega (arith, in_one, count)) (omega (arith, in_other, count)) (λ letters over. same-signs letters one other class held_one held_other)
