-- A start and free bits are a word, over the variables of a content.
use Rattle.std.proofs.Common.{◌≡◌, ℕ, Bool, List, [], ◌∷◌, ◌++◌, map, slice_get, Option, Some, None, refl, sym, ap, ◌∙◌}
use Rattle.ms_list.specs.declared.word.Word.{Word}
use Rattle.ms_arena.specs.Diagram.{Bits}
use Rattle.ms_minim.specs.SignReading.{IsRead}
use Rattle.ms_dfa.specs.Automaton.{IsAutomaton}
use Rattle.ms_logic.specs.Assignment.{Variable}
use Rattle.ms_logic_measures.specs.Starts.{IsStartOver, Start, bits_for, left_by, narrowed, next_at, part_of_letter, some_truth_values, state_at, whole_word, with_free_bits}
use Rattle.ms_logic_measures.proofs.Runs.{state_after-append}
use Rattle.ms_logic_starts.specs.ContentStarts.{HaveDistinctNumbers}
use Rattle.ms_logic_starts.proofs.LeftLemmas.{leaf_of_all}
use Rattle.ms_logic_starts.proofs.RankLemmas.{bits_for_own}
use Rattle.ms_logic_starts.proofs.RisingLemmas.{rising_distinct}
use Rattle.ms_logic_words.specs.Content.{AreLetters, Content, IsWordOver, StateOf, first_state, is_in_letters, is_truth_value, last_state, next_from}
use Rattle.ms_logic_words.specs.declared.sign.Sign.{Sign}
use Rattle.ms_product.proofs.WidenedLemmas.{followed}
use Rattle.ms_calls.proofs.Given.{all_values, length-all_values}
use Rattle.ms_calls.proofs.Pairs.{AreLetters-push}

-- the word of a start, with the free bits that the last letter, or the truth values, have
abbrev pub word_of : List Variable → Start → Bits → Word
word_of vs (some_truth_values values) rest = record { truth = all_values is_truth_value vs (with_free_bits is_truth_value vs values vs rest); letters = [] }
word_of vs (whole_word word) rest = word
word_of vs (part_of_letter word bits) rest =
    record { truth = word.truth; letters = word.letters ++ all_values is_in_letters vs (with_free_bits is_in_letters vs bits vs rest) ∷ [] }

pub word_of-over : (vs : List Variable) (start : Start) (rest : Bits) → IsStartOver vs start → IsWordOver vs (word_of vs start rest)
word_of-over vs (some_truth_values values) rest over = record { truth = length-all_values is_truth_value vs (with_free_bits is_truth_value vs values vs rest); letters = tt }
word_of-over vs (whole_word word) rest over = over
word_of-over vs (part_of_letter word bits) rest over =
    let own = with_free_bits is_in_letters vs bits vs rest in
    record {
      truth = over.0.truth;
      letters = AreLetters-push vs word.letters (all_values is_in_letters vs own) over.0.letters (length-all_values is_in_letters vs own);
    }

-- a word is narrowed to itself
letters_own : (vs : List Variable) (letters : List (List Bool)) → HaveDistinctNumbers vs → AreLetters vs letters
    → map (λ letter. bits_for is_in_letters vs letter vs) letters ≡ letters
letters_own vs [] distinct are = refl
letters_own vs (letter ∷ letters) distinct are =
    ap (λ (first : List Bool). first ∷ map (λ other. bits_for is_in_letters vs other vs) letters) (bits_for_own is_in_letters vs letter distinct are.0)
    ∙ ap (λ (more : List (List Bool)). letter ∷ more) (letters_own vs letters distinct are.1)

pub narrowed_own : (vs : List Variable) (word : Word) → HaveDistinctNumbers vs → IsWordOver vs word → narrowed vs word vs ≡ word
narrowed_own vs word distinct over =
    let truth = bits_for_own is_truth_value vs word.truth distinct over.truth in
    let letters = letters_own vs word.letters distinct over.letters in
    λ i. record { truth = truth i; letters = letters i }

-- an automaton, whatever its signs are
pub as_read : (content : Content Sign) → IsAutomaton content → IsRead content
as_read content is = record { ordered = is.ordered; reduced = is.reduced; closed = is.closed; rising = is.rising; few_states = is.few_states }

module _ (content : Content Sign) (is : IsRead content) where
  abbrev vs : List Variable
  vs = content.variables

  pub distinct : HaveDistinctNumbers content.variables
  distinct = rising_distinct content.variables is.rising

  pub state_own : (word : Word) → IsWordOver content.variables word → state_at content content.variables word ≡ last_state content word
  state_own word over = ap (last_state content) (narrowed_own content.variables word distinct over)

  left_found : (s : ℕ) (found : Option (StateOf Sign)) → slice_get content.states s ≡ found → (own : Bits)
      → next_at content found own ≡ next_from content found (all_values is_in_letters vs own)
  left_found s None held own = refl
  left_found s (Some state) held own =
      let there = followed content [] is.closed s state held in
      sym (leaf_of_all is_in_letters vs distinct content.nodes is.ordered state.next there.valid there.tests own)

  -- the start leaves the state to which the word leads
  pub left_is : (start : Start) (rest : Bits) → IsStartOver content.variables start
      → left_by content content.variables start rest ≡ last_state content (word_of content.variables start rest)
  left_is (some_truth_values values) rest over =
      let own = with_free_bits is_truth_value vs values vs rest in
      sym (leaf_of_all is_truth_value vs distinct content.nodes is.ordered content.start is.closed.start.valid is.closed.start.tests own)
  left_is (whole_word word) rest over = state_own word over
  left_is (part_of_letter word bits) rest over =
      let own = with_free_bits is_in_letters vs bits vs rest in
      let s = last_state content word in
      ap (λ state. next_at content (slice_get content.states state) own) (state_own word over.0)
      ∙ left_found s (slice_get content.states s) refl own
      ∙ sym (state_after-append content (first_state content word.truth) word.letters (all_values is_in_letters vs own ∷ []))
