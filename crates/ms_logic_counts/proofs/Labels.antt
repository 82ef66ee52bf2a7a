-- Labels of starts: what their word leads to, and their own bits.
use Rattle.std.proofs.Common.{◌≡◌, ℕ, zero, suc, ◌+◌, ◌<◌, inl, inr, Bool, List, [], ◌∷◌, length, slice_get, refl, sym, ◌∙◌, ap, arith}
use Rattle.ms_list.specs.declared.word.Word.{Word}
use Rattle.ms_arena.specs.Diagram.{Bits, leaf_of}
use Rattle.ms_logic.specs.Assignment.{Variable}
use Rattle.ms_logic_words.specs.Content.{Content, count_of, is_in_letters, is_truth_value}
use Rattle.ms_logic_measures.specs.CallMeasures.{LeaveSame}
use Rattle.ms_logic_measures.specs.Starts.{Start, some_truth_values, whole_word, part_of_letter, IsStartOver, left_by, next_at, state_at, with_free_bits}
use Rattle.ms_logic_counts.specs.Counts.{AreCounted, IsTransitive}
use Rattle.ms_logic_counts.proofs.BitLists.{lists_below, among-lists_below}
use Rattle.ms_logic_machines.proofs.Choices.{Among, pairs, among-pairs}
use Rattle.ms_logic_counts.proofs.CountLemmas.{labels_are_counted}

-- whether a start is some truth values, a word, or a word and some bits
abbrev pub kind_of : Start → ℕ
kind_of (some_truth_values values) = 0
kind_of (whole_word word) = 1
kind_of (part_of_letter word bits) = 2

-- its word, if it has one
abbrev pub word_in : Start → Word
word_in (some_truth_values values) = record { truth = []; letters = [] }
word_in (whole_word word) = word
word_in (part_of_letter word bits) = word

-- the bits of its own
abbrev pub bits_in : Start → List Bool
bits_in (some_truth_values values) = values
bits_in (whole_word word) = []
bits_in (part_of_letter word bits) = bits

module _ {S : Type 0} (seen : Word → S) (sights : List S) (listed : (word : Word) → Among (seen word) sights) (variables : List Variable)
    (AreAlike : Start → Start → Type 0) (transitive : IsTransitive AreAlike)
    (alike : (one other : Start) → kind_of one ≡ kind_of other → seen (word_in one) ≡ seen (word_in other) → bits_in one ≡ bits_in other
    → AreAlike one other) where
  abbrev Label : Type 0
  Label = ℕ × (S × List Bool)

  abbrev label_of : Start → Label
  label_of start = (kind_of start, (seen (word_in start), bits_in start))

  abbrev longest : ℕ
  longest = suc (count_of is_truth_value variables + count_of is_in_letters variables)

  abbrev labels : List Label
  labels = pairs (0 ∷ 1 ∷ 2 ∷ []) (pairs sights (lists_below longest))

  kind_listed : (start : Start) → Among (kind_of start) (0 ∷ 1 ∷ 2 ∷ [])
  kind_listed (some_truth_values values) = inl refl
  kind_listed (whole_word word) = inr (inl refl)
  kind_listed (part_of_letter word bits) = inr (inr (inl refl))

  few_bits : (start : Start) → IsStartOver variables start → length (bits_in start) < longest
  few_bits (some_truth_values values) over = omega (arith, over)
  few_bits (whole_word word) over = omega arith
  few_bits (part_of_letter word bits) over = let few = over.1 in omega (arith, few)

  label_listed : (start : Start) → IsStartOver variables start → Among (label_of start) labels
  label_listed start over =
      among-pairs (kind_of start) (seen (word_in start), bits_in start) (0 ∷ 1 ∷ 2 ∷ []) (pairs sights (lists_below longest)) (kind_listed start)
      (among-pairs (seen (word_in start)) (bits_in start) sights (lists_below longest) (listed (word_in start))
      (among-lists_below longest (bits_in start) (few_bits start over)))

  -- where words lead to finitely many things, and starts of one kind, with one such thing and with one list of bits are alike, starts
  -- have an exact count
  pub starts_are_counted : AreCounted AreAlike (IsStartOver variables)
  starts_are_counted =
      labels_are_counted AreAlike (IsStartOver variables) label_of transitive
      (λ one other is_one is_other same. alike one other (ap (λ (l : Label). l.0) same) (ap (λ (l : Label). l.1.0) same) (ap (λ (l : Label). l.1.1) same))
      labels label_listed

module _ {Sign : Type 0} (content : Content Sign) (variables : List Variable) where
  -- what a start of a kind with a state and bits leaves
  abbrev left_from : ℕ → ℕ → List Bool → Bits → ℕ
  left_from zero state bits rest = leaf_of content.nodes content.start (with_free_bits is_truth_value variables bits content.variables rest)
  left_from (suc zero) state bits rest = state
  left_from (suc (suc kind)) state bits rest =
      next_at content (slice_get content.states state) (with_free_bits is_in_letters variables bits content.variables rest)

  left_is : (start : Start) (rest : Bits)
      → left_by content variables start rest ≡ left_from (kind_of start) (state_at content variables (word_in start)) (bits_in start) rest
  left_is (some_truth_values values) rest = refl
  left_is (whole_word word) rest = refl
  left_is (part_of_letter word bits) rest = refl

  -- starts of one kind, with one state and one list of bits, leave the same
  pub leave_same : (one other : Start) → kind_of one ≡ kind_of other
      → state_at content variables (word_in one) ≡ state_at content variables (word_in other) → bits_in one ≡ bits_in other
      → LeaveSame content variables one other
  leave_same one other kinds states bits rest =
      left_is one rest
      ∙ (ap (λ kind. left_from kind (state_at content variables (word_in one)) (bits_in one) rest) kinds
      ∙ (ap (λ state. left_from (kind_of other) state (bits_in one) rest) states
      ∙ (ap (λ own. left_from (kind_of other) (state_at content variables (word_in other)) own rest) bits
      ∙ sym (left_is other rest))))
