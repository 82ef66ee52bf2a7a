-- The most letters of the words below a reference, and what they tell of words that start, and of steps by a letter.
use Rattle.std.proofs.Common.{◌≡◌, ◌↔◌, ℕ, ◌+◌, ◌≤◌, Bool, true, false, List, [], ◌∷◌, ◌++◌, length, max, slice_get, slice_index, Option, Some, sym, ap, subst, ◌∙◌, arith, ⊎_elim, length-append}
use Rattle.std.proofs.Math.ListN.{get_or-append}
use Rattle.std.proofs.Math.Seq.{get_or-append_seam}
use Rattle.std.proofs.lemmas.Bool.{cases_lt}
use Rattle.std.proofs.lemmas.Option.{slice_get_within}
use Rattle.ms_list.specs.declared.word.Word.{Word}
use Rattle.ms_arena.specs.declared.node.Node.{Node}
use Rattle.ms_arena.specs.declared.node.Ref.{Ref}
use Rattle.ms_arena.specs.declared.node.Ref.TheVariants.{Leaf, Inner}
use Rattle.ms_arena.specs.Bits.{with_bit}
use Rattle.ms_arena.specs.Diagram.{Bits, IsBefore, IsOrdered, IsValid, leaf_of}
use Rattle.ms_arena.specs.Reach.{TestsOnly}
use Rattle.ms_arena.proofs.Canonicity.{end_for, leaf_of-end_for}
use Rattle.ms_arena.proofs.Ends.{end_valid}
use Rattle.ms_arena.proofs.Lists.{slice_get-held}
use Rattle.ms_arena.proofs.Paths.{leaf_of-leaf, leaf_of-node}
use Rattle.ms_arena.proofs.ReachLemmas.{leaf_of-tested}
use Rattle.ms_dfa.proofs.GatheredLemmas.{gathered_at, length-gathered}
use Rattle.ms_dfa.specs.Narrow.{gathered}
use Rattle.ms_logic.specs.declared.mode.Order.{Order}
use Rattle.ms_logic.specs.Assignment.{Variable}
use Rattle.ms_dfa.specs.Files.{content_of_file}
use Rattle.ms_dfa.specs.declared.plain.FileSign.{FileSign}
use Rattle.ms_dfa.specs.declared.plain.Plain.{Plain}
use Rattle.ms_logic_words.specs.Content.{Content, HasValueAt, IsContent, NamesPart, StateOf, bits_at, first_state, is_in_letters, is_truth_value, letter_bits, next_from, next_state, padded, truth_bits}
use Rattle.ms_dfafile_outside.proofs.ContentLemmas.{valid-part}
use Rattle.ms_dfafile_outside.proofs.FileLemmas.{length-states, state-at, state_of}
use Rattle.ms_cert.specs.Certificate.{GrowByLetters}
use Rattle.ms_cert.specs.inner.Lengths.{AreMost, HasSteps, IsKnown, IsMost, letters_in, letters_to, most_at}
use Rattle.ms_cert.proofs.ContentLemmas.{first-state, next-state, state-in}

module _ (nodes : List Node) (words : List Word) (ordered : IsOrdered nodes) where
  pub most-leaf : (state : ℕ) → IsMost nodes words (Leaf state) (letters_to words state)
  most-leaf state = record {
    above = λ bits. let same = ap (letters_to words) (leaf_of-leaf nodes bits state) in omega (arith, same);
    bits = λ place. false;
    there = ap (letters_to words) (leaf_of-leaf nodes (λ place. false) state);
  }

  -- a node has the most of either end
  module _ (place : ℕ) (node : Node) (held : slice_get nodes place ≡ Some node) where
    above-node : (low high : ℕ) → IsMost nodes words node.low low → IsMost nodes words node.high high → (bits : Bits) → letters_to words (leaf_of nodes (Inner place) bits) ≤ max low high
    above-node low high is_low is_high bits =
        let same = ap (letters_to words) (leaf_of-node nodes ordered bits place node held) in
        let end : letters_to words (leaf_of nodes (end_for node (bits node.var)) bits) ≤ max low high = either (bits node.var) in
        omega (arith, same, end)
      where
        either : (bit : Bool) → letters_to words (leaf_of nodes (end_for node bit) bits) ≤ max low high
        either true = let most = is_high.above bits in omega (arith, most)
        either false = let most = is_low.above bits in omega (arith, most)

    at_end : (bit : Bool) (most : ℕ) (bits : Bits) → letters_to words (leaf_of nodes (end_for node bit) bits) ≡ most → letters_to words (leaf_of nodes (Inner place) (with_bit bits node.var bit)) ≡ most
    at_end bit most bits there =
        ap (letters_to words) (leaf_of-end_for nodes ordered place node bit bits held (end_valid nodes ordered place node held bit)) ∙ there

    pub most-node : (low high most : ℕ) → most ≡ max low high → IsMost nodes words node.low low → IsMost nodes words node.high high → IsMost nodes words (Inner place) most
    most-node low high most is is_low is_high = subst (IsMost nodes words (Inner place)) (sym is) (⊎_elim
        (λ less. record {
          above = above-node low high is_low is_high;
          bits = with_bit is_high.bits node.var true;
          there = at_end true (max low high) is_high.bits (is_high.there ∙ omega (arith, less));
        })
        (λ more. record {
          above = above-node low high is_low is_high;
          bits = with_bit is_low.bits node.var false;
          there = at_end false (max low high) is_low.bits (is_low.there ∙ omega (arith, more));
        })
        (cases_lt low high))

  -- the most of each reference that is known
  pub most-known : (known : List ℕ) (count : ℕ) (reference : Ref) → AreMost nodes words known count → IsBefore count reference → IsMost nodes words reference (most_at words known reference)
  most-known known count (Leaf state) are before = most-leaf state
  most-known known count (Inner place) are before = are.each place before

  -- one node more
  pub most-more : (known : List ℕ) (count most : ℕ) (node : Node) → AreMost nodes words known count → slice_get nodes count ≡ Some node
      → most ≡ max (most_at words known node.low) (most_at words known node.high) → AreMost nodes words (known ++ most ∷ []) (count + 1)
  most-more known count most node are held is = record {
    long = length-append known (most ∷ []) ∙ ap (λ (n : ℕ). n + 1) are.long;
    each = λ place within. ⊎_elim
        (λ less. subst (IsMost nodes words (Inner place)) (sym (get_or-append known (most ∷ []) 0 place (omega (arith, less, are.long)))) (are.each place less))
        (λ past.
        let here : place ≡ count = omega arith in
        let last : slice_index (known ++ most ∷ []) (length known) ≡ most = get_or-append_seam known most [] 0 in
        let at : length known ≡ place = are.long ∙ sym here in
        subst (λ (p : ℕ). IsMost nodes words (Inner p) (slice_index (known ++ most ∷ []) p)) at
        (subst (IsMost nodes words (Inner (length known))) (sym last) (subst (λ (p : ℕ). IsMost nodes words (Inner p) most) (sym are.long) there)))
        (cases_lt place count);
  }
    where
      low_known : IsMost nodes words node.low (most_at words known node.low)
      low_known = most-known known count node.low are (ordered.earlier_low count node held)

      high_known : IsMost nodes words node.high (most_at words known node.high)
      high_known = most-known known count node.high are (ordered.earlier_high count node held)

      there : IsMost nodes words (Inner count) most
      there = most-node count node held (most_at words known node.low) (most_at words known node.high) most is low_known high_known

-- a reference of which the most is known has a word or a node
pub known-before : {Sign : Type 0} (content : Content Sign) (words : List Word) (known : List ℕ) (reference : Ref) → length words ≡ length content.states → NamesPart content reference
    → IsBefore (length known) reference → IsKnown words known reference
known-before content words known (Leaf state) count named before = omega (arith, count, named)
known-before content words known (Inner place) count named before = before

-- the bits that are gathered for the variables that a reference tests lead where the bits lead
led-gathered : (nodes : List Node) → IsOrdered nodes → (variables : List Variable) (has_value : Order → Bool) (reference : Ref) (bits : Bits) → IsValid nodes reference → TestsOnly nodes (HasValueAt variables has_value) reference
    → leaf_of nodes reference (bits_at (padded has_value variables (gathered has_value 0 variables bits))) ≡ leaf_of nodes reference bits
led-gathered nodes ordered variables has_value reference bits valid tests =
    leaf_of-tested nodes ordered reference (bits_at (padded has_value variables (gathered has_value 0 variables bits))) bits valid
    (λ var tested. let has = tests var tested in let same : 0 + var ≡ var = omega arith in gathered_at has_value variables bits 0 var has.0 has.1 has.2 ∙ ap bits same)

pub letters-held : (words : List Word) (state : ℕ) (word : Word) → slice_get words state ≡ Some word → letters_to words state ≡ length word.letters
letters-held words state word held = ap letters_in held

module _ (content : Content FileSign) (rules : IsContent content) (words : List Word) (count : length words ≡ length content.states) (grow : GrowByLetters content words) where
  -- where words grow by letters, the start leads to none with a letter
  pub start-to : (most : ℕ) → IsMost content.nodes words content.start most → most ≡ 0
  start-to most is =
      let truth = gathered is_truth_value 0 content.variables is.bits in
      let led = led-gathered content.nodes rules.ordered content.variables is_truth_value content.start is.bits (valid-part content content.start rules.start_named) rules.start_tests in
      let held = slice_get-held words (first_state content truth) (omega (arith, first-state content rules truth, count)) in
      let none = grow.start truth held.0 (length-gathered is_truth_value content.variables is.bits 0) held.1 in
      sym is.there ∙ ap (letters_to words) (sym led) ∙ letters-held words (first_state content truth) held.0 held.1 ∙ none

  -- and what a state leads to has one letter more at most
  pub step-to : (place most : ℕ) (word : Word) (state : StateOf FileSign) → slice_get words place ≡ Some word → slice_get content.states place ≡ Some state → IsMost content.nodes words state.next most
      → most ≤ length word.letters + 1
  step-to place most word state held_word held is =
      let letter = gathered is_in_letters 0 content.variables is.bits in
      let led = led-gathered content.nodes rules.ordered content.variables is_in_letters state.next is.bits (valid-part content state.next (rules.next_named place state held)) (rules.next_tests place state held) in
      let next : next_state content place letter ≡ leaf_of content.nodes state.next is.bits = ap (λ (found : Option (StateOf FileSign)). next_from content found letter) held ∙ led in
      let there = slice_get-held words (next_state content place letter) (omega (arith, next-state content rules place letter, count)) in
      let few = grow.step place letter word there.0 (length-gathered is_in_letters content.variables is.bits 0) held_word there.1 in
      let same = sym is.there ∙ ap (letters_to words) (sym next) ∙ letters-held words (next_state content place letter) there.0 there.1 in
      omega (arith, few, same)

-- where the start leads to no word with a letter, and each state to words with one letter more at most, they grow by letters
pub grow-from : (content : Content FileSign) (words : List Word) → length words ≡ length content.states → IsMost content.nodes words content.start 0
    → ((place : ℕ) (word : Word) (state : StateOf FileSign) → slice_get words place ≡ Some word → slice_get content.states place ≡ Some state → (most : ℕ) × IsMost content.nodes words state.next most × (most ≤ length word.letters + 1))
    → GrowByLetters content words
grow-from content words count none steps = record {
  start = λ truth word long held.
      let above = none.above (truth_bits content.variables truth) in
      omega (arith, above, letters-held words (first_state content truth) word held);
  step = λ state letter word next long held held_next.
      let there = slice_get-held content.states state (omega (arith, slice_get_within words state word held, count)) in
      let few = steps state word there.0 held there.1 in
      let led : next_state content state letter ≡ leaf_of content.nodes there.0.next (letter_bits content.variables letter) = ap (λ (found : Option (StateOf FileSign)). next_from content found letter) there.1 in
      let above = few.1.above (letter_bits content.variables letter) in
      let same = letters-held words (next_state content state letter) next held_next in
      let led_letters = ap (letters_to words) led in
      omega (arith, above, few.2, same, led_letters);
}

-- where the start leads to no word with a letter, words grow by letters exactly where the steps are right
module _ (plain : Plain) (words : List Word) (known : List ℕ) (rules : IsContent (content_of_file plain)) (count : length words ≡ length plain.states) (are : AreMost plain.nodes words known (length plain.nodes)) where
  most-of : (reference : Ref) → NamesPart (content_of_file plain) reference → IsMost plain.nodes words reference (most_at words known reference)
  most-of reference named = most-known plain.nodes words rules.ordered known (length plain.nodes) reference are (valid-part (content_of_file plain) reference named)

  all_words : length words ≡ length (content_of_file plain).states
  all_words = count ∙ sym (length-states plain)

  pub grow-by_steps : most_at words known plain.start ≡ 0 → HasSteps plain words known ↔ GrowByLetters (content_of_file plain) words
  grow-by_steps none = (
    λ steps. grow-from (content_of_file plain) words all_words (subst (IsMost plain.nodes words plain.start) none (most-of plain.start rules.start_named))
        (λ place word state held there.
        let found = state-in plain place state there in (
          most_at words known state.next,
          most-of state.next (rules.next_named place state there),
          subst (λ (s : StateOf FileSign). most_at words known s.next ≤ length word.letters + 1) found.2 (steps place word found.0 held found.1),
        )),
    λ grow place word state held there.
        let found = state-at plain place state there in
        step-to (content_of_file plain) rules words all_words grow place (most_at words known state.next) word (state_of state) held found (most-of state.next (rules.next_named place (state_of state) found)),
  )
