-- Where words and first bits, with the bits of the bound variable, lead a content whose variables stand among those of another.
use Rattle.std.proofs.Common.{◌≡◌, ℕ, ◌≤◌, Bool, false, IsTrue, List, ◌++◌, length, slice_get, Some, unwrap_or, sym, ap, ◌∙◌}
use Rattle.std.specs.Option.{option_and_then}
use Rattle.ms_list.specs.declared.word.Word.{Word}
use Rattle.ms_arena.specs.Bits.{with_bit}
use Rattle.ms_arena.specs.Diagram.{Bits, leaf_of}
use Rattle.ms_logic.specs.declared.mode.Order.{Order}
use Rattle.ms_logic.specs.Assignment.{Variable}
use Rattle.ms_logic_measures.specs.CallMeasures.{bound_bits, word_with}
use Rattle.ms_logic_measures.specs.Starts.{bits_for, given_bit, next_at, state_at, whole_word, with_free_bits}
use Rattle.ms_logic_words.specs.Content.{Content, is_in_letters, is_truth_value, letter_bits, truth_bits}
use Rattle.ms_project.proofs.ReachLemmas.{with_letter}
use Rattle.ms_project_parts.specs.inner.Matched.{AreOthers, IsRead}
use Rattle.ms_project_parts.proofs.Given.{IsPut, all_values, bit_of, ordered_with, padded_for, partly, values, wholly}
use Rattle.ms_project_parts.proofs.Words.{more_bits, next_is, no_letters, state_first, state_more}

module _ (ws others : List Variable) (x : Variable) (bound : ℕ) (back : List ℕ) (are : AreOthers ws others x bound back) where
  abbrev all : List Variable
  all = ordered_with others x

  -- bits of all the others
  abbrev pub of_others : (Order → Bool) → Bits → List Bool
  of_others has_bit whole = all_values ws others x bound back are has_bit whole

  -- first bits of the others
  abbrev pub first_of_others : (Order → Bool) → ℕ → Bits → List Bool
  first_of_others has_bit level first = values ws others x bound back are has_bit level first

  abbrev pub IsPutFrom : (Order → Bool) → ℕ → Bits → Bits → Bits → Type 0
  IsPutFrom has_bit level first free whole = IsPut ws others x bound back are has_bit level first free whole

  module _ {Sign : Type 0} (content : Content Sign) (at : ℕ → ℕ) (stands : (place : ℕ) (v : Variable) → slice_get content.variables place ≡ Some v → slice_get ws (at place) ≡ Some v) (read : IsRead content) where
    -- the bits as the content reads them
    abbrev pub read_at : Bits → Bits
    read_at bits = λ place. bits (at place)

    given_whole : (has_bit : Order → Bool) (whole : Bits) (bit : Bool) (place : ℕ) (v : Variable) → slice_get content.variables place ≡ Some v → IsTrue (has_bit v.order)
        → unwrap_or (given_bit has_bit all (of_others has_bit whole ++ bit_of has_bit x.order bit) v.name) false ≡ with_bit whole bound bit (at place)
    given_whole has_bit whole bit place v held holds = wholly ws others x bound back are has_bit whole bit (at place) v (stands place v held) holds

    -- a word of no letters
    pub leads_first : (whole : Bits) (bit : Bool)
        → state_at content all (word_with x.order (bit_of is_truth_value x.order bit) (no_letters (of_others is_truth_value whole))) ≡ leaf_of content.nodes content.start (read_at (with_bit whole bound bit))
    leads_first whole bit =
        let truth = of_others is_truth_value whole ++ bit_of is_truth_value x.order bit in
        state_first content all x.order (of_others is_truth_value whole) bit
        ∙ read.start (truth_bits content.variables (bits_for is_truth_value all truth content.variables)) (read_at (with_bit whole bound bit))
        (λ place v held holds. padded_for is_truth_value all truth content.variables place v held holds ∙ given_whole is_truth_value whole bit place v held holds)

    -- one letter more
    pub leads_more : (word : Word) (bits : List Bool) (whole : Bits) (bit : Bool) → length bits ≡ bound_bits x.order (whole_word word)
        → state_at content all (word_with x.order (more_bits x.order bits bit) (with_letter word (of_others is_in_letters whole)))
        ≡ next_at content (slice_get content.states (state_at content all (word_with x.order bits word))) (read_at (with_bit whole bound bit))
    leads_more word bits whole bit long =
        let letter = of_others is_in_letters whole ++ bit_of is_in_letters x.order bit in
        let state = state_at content all (word_with x.order bits word) in
        let given = bits_for is_in_letters all letter content.variables in
        state_more content all x.order word (of_others is_in_letters whole) bits bit long
        ∙ next_is content (slice_get content.states state) given
        ∙ read.next state (letter_bits content.variables given) (read_at (with_bit whole bound bit))
        (λ place v held holds. padded_for is_in_letters all letter content.variables place v held holds ∙ given_whole is_in_letters whole bit place v held holds)

    -- first bits, and free ones behind them
    module _ (has_bit : Order → Bool) (level : ℕ) (first free whole : Bits) (bit : Bool) (few : level ≤ length others) (put : IsPutFrom has_bit level first free whole) where
      abbrev pub free_bits : Bits
      free_bits = with_free_bits has_bit all (first_of_others has_bit level first) content.variables (read_at (with_bit free bound bit))

      agree : (place : ℕ) (v : Variable) → slice_get content.variables place ≡ Some v → IsTrue (has_bit v.order) → free_bits place ≡ read_at (with_bit whole bound bit) place
      agree place v held holds =
          ap (λ found. unwrap_or (option_and_then (λ (u : Variable). given_bit has_bit all (first_of_others has_bit level first) u.name) found) (with_bit free bound bit (at place))) (held ∙ sym (stands place v held))
          ∙ partly ws others x bound back are has_bit level first free whole bit few put (at place) v (stands place v held) holds

    pub leads_partly_first : (level : ℕ) (first free whole : Bits) (bit : Bool) (few : level ≤ length others) (put : IsPutFrom is_truth_value level first free whole)
        → leaf_of content.nodes content.start (free_bits is_truth_value level first free whole bit few put) ≡ leaf_of content.nodes content.start (read_at (with_bit whole bound bit))
    leads_partly_first level first free whole bit few put =
        read.start (free_bits is_truth_value level first free whole bit few put) (read_at (with_bit whole bound bit)) (agree is_truth_value level first free whole bit few put)

    pub leads_partly_next : (state level : ℕ) (first free whole : Bits) (bit : Bool) (few : level ≤ length others) (put : IsPutFrom is_in_letters level first free whole)
        → next_at content (slice_get content.states state) (free_bits is_in_letters level first free whole bit few put) ≡ next_at content (slice_get content.states state) (read_at (with_bit whole bound bit))
    leads_partly_next state level first free whole bit few put =
        read.next state (free_bits is_in_letters level first free whole bit few put) (read_at (with_bit whole bound bit)) (agree is_in_letters level first free whole bit few put)
