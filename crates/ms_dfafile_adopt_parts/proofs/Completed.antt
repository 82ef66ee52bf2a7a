-- A start whose last letter is completed by free bits is a word, which leads where the start leads with these bits.
use Rattle.std.proofs.Common.{◌≡◌, ℕ, Bool, false, IsTrue, List, [], ◌∷◌, ◌++◌, length, map, slice_get, Option, Some, None, unwrap_or, refl, sym, ap, subst, ◌∙◌}
use Rattle.std.specs.Option.{option_and_then}
use Rattle.std.proofs.lemmas.List.{map-append}
use Rattle.std.proofs.lemmas.Option.{get_or_from_slice_get, slice_get_within}
use Rattle.ms_arena.specs.declared.node.Ref.{Ref}
use Rattle.ms_arena.specs.Diagram.{Bits, IsOrdered, leaf_of}
use Rattle.ms_arena.proofs.ReachLemmas.{leaf_of-tested}
use Rattle.ms_list.specs.declared.word.Word.{Word}
use Rattle.ms_logic.specs.Assignment.{Variable}
use Rattle.ms_logic.specs.declared.mode.Order.{Order}
use Rattle.ms_logic_measures.specs.Starts.{IsStartOver, Start, bits_for, given_bit, left_by, narrowed, next_at, part_of_letter, some_truth_values, state_at, whole_word, with_free_bits}
use Rattle.ms_logic_starts.specs.ContentStarts.{HaveDistinctNumbers}
use Rattle.ms_logic_starts.specs.inner.Ranks.{bits_before, rank}
use Rattle.ms_logic_starts.proofs.RankLemmas.{bit_before, given_at, length-bits_before, padded_at, rank_of_all}
use Rattle.ms_logic_words.specs.Content.{Content, IsClosed, IsFollowed, IsWordOver, StateOf, bits_at, count_of, first_state, is_in_letters, is_truth_value, last_state, next_from, padded, state_after}
use Rattle.ms_minim.proofs.LettersLemmas.{AreLetters-append, state_after-append}
use Rattle.ms_rename_parts.proofs.Firsts.{bit_for}

module _ (order : List Variable) (own : HaveDistinctNumbers order) (rest : Bits) where
  -- bits that are given, and behind them the free ones
  abbrev pub completed : (Order → Bool) → List Bool → List Bool
  completed has_bit given = bits_before has_bit (length order) order (with_free_bits has_bit order given order rest)

  abbrev pub whole_of : Start → Word
  whole_of (some_truth_values values) = record { truth = completed is_truth_value values; letters = [] }
  whole_of (whole_word word) = word
  whole_of (part_of_letter word bits) = record { truth = word.truth; letters = word.letters ++ completed is_in_letters bits ∷ [] }

  length-completed : (has_bit : Order → Bool) (given : List Bool) → length (completed has_bit given) ≡ count_of has_bit order
  length-completed has_bit given = length-bits_before has_bit (length order) order (with_free_bits has_bit order given order rest) ∙ rank_of_all has_bit order

  pub whole_over : (start : Start) → IsStartOver order start → IsWordOver order (whole_of start)
  whole_over (some_truth_values values) over = record { truth = length-completed is_truth_value values; letters = tt }
  whole_over (whole_word word) over = over
  whole_over (part_of_letter word bits) over = record {
    truth = over.0.truth;
    letters = AreLetters-append order word.letters (completed is_in_letters bits ∷ []) over.0.letters (length-completed is_in_letters bits, tt);
  }

  -- a content over some of the variables, whose free bits are these
  module _ {S : Type 0} (content : Content S) (free : Bits) (ordered : IsOrdered content.nodes) (closed : IsClosed content)
      (read : (place : ℕ) (v : Variable) → slice_get content.variables place ≡ Some v → (at : ℕ) × (slice_get order at ≡ Some v) × (free place ≡ rest at)) where
    abbrev us : List Variable
    us = content.variables

    -- its bits are those of the completed ones
    bits_agree : (has_bit : Order → Bool) (given : List Bool) (place : ℕ) (v : Variable) → slice_get us place ≡ Some v → IsTrue (has_bit v.order)
        → with_free_bits has_bit order given us free place ≡ bits_at (padded has_bit us (bits_for has_bit order (completed has_bit given) us)) place
    bits_agree has_bit given place v held holds =
        let at = read place v held in
        let here : with_free_bits has_bit order given us free place ≡ unwrap_or (given_bit has_bit order given v.name) (free place)
        = ap (λ found. unwrap_or (option_and_then (λ (w : Variable). given_bit has_bit order given w.name) found) (free place)) held in
        let there : with_free_bits has_bit order given order rest at.0 ≡ unwrap_or (given_bit has_bit order given v.name) (rest at.0)
        = ap (λ found. unwrap_or (option_and_then (λ (w : Variable). given_bit has_bit order given w.name) found) (rest at.0)) at.1 in
        let own_bit : given_bit has_bit order (completed has_bit given) v.name ≡ Some (with_free_bits has_bit order given order rest at.0)
        = given_at has_bit order (completed has_bit given) at.0 v own at.1 holds
        ∙ bit_before has_bit (length order) order (with_free_bits has_bit order given order rest) at.0 v (slice_get_within order at.0 v at.1) at.1 holds in
        here
        ∙ ap (unwrap_or (given_bit has_bit order given v.name)) at.2
        ∙ sym there
        ∙ sym (ap (λ found. unwrap_or found false) own_bit)
        ∙ sym (get_or_from_slice_get (bits_for has_bit order (completed has_bit given) us) (rank has_bit place us) (unwrap_or (given_bit has_bit order (completed has_bit given) v.name) false) false
        (bit_for has_bit order (completed has_bit given) us place v held holds))
        ∙ sym (padded_at has_bit us (bits_for has_bit order (completed has_bit given) us) place v held holds)

    leads : (has_bit : Order → Bool) (given : List Bool) (root : Ref) → IsFollowed content has_bit root
        → leaf_of content.nodes root (with_free_bits has_bit order given us free) ≡ leaf_of content.nodes root (bits_at (padded has_bit us (bits_for has_bit order (completed has_bit given) us)))
    leads has_bit given root followed =
        leaf_of-tested content.nodes ordered root (with_free_bits has_bit order given us free) (bits_at (padded has_bit us (bits_for has_bit order (completed has_bit given) us))) followed.valid
        (λ place tested. let found = followed.tests place tested in bits_agree has_bit given place found.0 found.1 found.2)

    next_followed : (state : ℕ) (found : StateOf S) → slice_get content.states state ≡ Some found → IsFollowed content is_in_letters found.next
    next_followed state found held =
        subst (λ (s : StateOf S). IsFollowed content is_in_letters s.next) (get_or_from_slice_get content.states state found found held)
        (closed.next state found (slice_get_within content.states state found held))

    next_leads : (state : ℕ) (bits : List Bool) (found : Option (StateOf S)) → slice_get content.states state ≡ found
        → next_at content found (with_free_bits is_in_letters order bits us free) ≡ next_from content found (bits_for is_in_letters order (completed is_in_letters bits) us)
    next_leads state bits None held = refl
    next_leads state bits (Some found) held = leads is_in_letters bits found.next (next_followed state found held)

    pub led : (start : Start) → left_by content order start free ≡ last_state content (narrowed order (whole_of start) us)
    led (some_truth_values values) = leads is_truth_value values content.start closed.start
    led (whole_word word) = refl
    led (part_of_letter word bits) =
        let state = state_at content order word in
        let letter = completed is_in_letters bits in
        let narrow : List Bool → List Bool = λ l. bits_for is_in_letters order l us in
        let first = first_state content (bits_for is_truth_value order word.truth us) in
        next_leads state bits (slice_get content.states state) refl
        ∙ sym (state_after-append content first (map narrow word.letters) (narrow letter ∷ []))
        ∙ ap (state_after content first) (sym (map-append narrow word.letters (letter ∷ [])))
