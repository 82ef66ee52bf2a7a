-- What starts over some variables leave of a content whose variables stand among these.
use Rattle.std.proofs.Common.{◌≡◌, ℕ, ◌<◌, ◌≤◌, ⊎_elim, Bool, IsTrue, List, [], ◌∷◌, ◌++◌, length, map, slice_get, Option, Some, None, unwrap_or, refl, sym, ap, ◌∙◌, arith}
use Rattle.std.specs.Option.{option_and_then}
use Rattle.std.proofs.lemmas.Bool.{cases_lt}
use Rattle.std.proofs.lemmas.List.{map-append}
use Rattle.std.proofs.lemmas.Option.{slice_get_past, slice_get_within}
use Rattle.ms_list.specs.declared.word.Word.{Word}
use Rattle.ms_arena.specs.Bits.{below_from}
use Rattle.ms_arena.specs.Diagram.{Bits, leaf_of}
use Rattle.ms_arena.specs.declared.node.Ref.{Ref}
use Rattle.ms_arena.proofs.BitsLemmas.{below_from-first, below_from-later}
use Rattle.ms_arena.proofs.ReachLemmas.{leaf_of-tested}
use Rattle.ms_logic.specs.declared.mode.Order.{Order}
use Rattle.ms_logic.specs.Assignment.{Variable}
use Rattle.ms_logic_measures.specs.Starts.{bits_for, given_bit, left_by, next_at, part_of_letter, some_truth_values, state_at, with_free_bits}
use Rattle.ms_logic_measures.proofs.Runs.{state_after-append}
use Rattle.ms_logic_starts.specs.ContentStarts.{HaveDistinctNumbers}
use Rattle.ms_logic_starts.specs.inner.Ranks.{bits_before, rank}
use Rattle.ms_logic_starts.proofs.LeftLemmas.{leaf_of_all}
use Rattle.ms_logic_starts.proofs.RankLemmas.{bit_before, given_at, length-bits_before, own_bits, rank_below_all, rank_grows, rank_of_all}
use Rattle.ms_logic_words.specs.Content.{Content, IsFollowed, StateOf, count_of, first_state, is_in_letters, is_truth_value, next_from, next_state, state_after}
use Rattle.ms_logic_words.specs.declared.sign.Sign.{Sign}
use Rattle.ms_product.proofs.WidenedLemmas.{followed}
use Rattle.ms_calls.specs.Products.{StandsAmong}

-- first bits of the variables below a level
module _ (has_bit : Order → Bool) (wide : List Variable) (distinct : HaveDistinctNumbers wide) (level : ℕ) (first : Bits) where
  abbrev pub values : List Bool
  values = bits_before has_bit level wide first

  module _ (at : ℕ) (w : Variable) (held : slice_get wide at ≡ Some w) (holds : IsTrue (has_bit w.order)) where
    given_is : given_bit has_bit wide values w.name ≡ slice_get values (rank has_bit at wide)
    given_is = given_at has_bit wide values at w distinct held holds

    given_below : at < level → given_bit has_bit wide values w.name ≡ Some (first at)
    given_below below = given_is ∙ bit_before has_bit level wide first at w below held holds

    given_above : level ≤ at → (free : Bool) → unwrap_or (given_bit has_bit wide values w.name) free ≡ free
    given_above above free =
        let past = rank_grows has_bit level at wide above in
        let long = length-bits_before has_bit level wide first in
        ap (λ found. unwrap_or found free) (given_is ∙ slice_get_past values (rank has_bit at wide) (omega (arith, past, long)))

    -- behind them free bits stand
    given_from : (free : Bits) → unwrap_or (given_bit has_bit wide values w.name) (free at) ≡ below_from level first free at
    given_from free = ⊎_elim
        (λ below. ap (λ found. unwrap_or found (free at)) (given_below below) ∙ sym (below_from-first level first free at below))
        (λ above. given_above above (free at) ∙ sym (below_from-later level first free at above))
        (cases_lt at level)

    -- where they are all bits, none is free
    none_free : count_of has_bit wide ≤ length values → (free other : Bits) → below_from level first free at ≡ below_from level first other at
    none_free full free other = ⊎_elim
        (λ below. below_from-first level first free at below ∙ sym (below_from-first level first other at below))
        (λ above.
        let past = rank_grows has_bit level at wide above in
        let less = rank_below_all has_bit at wide w held holds in
        let long = length-bits_before has_bit level wide first in
        absurd (omega (arith, past, less, full, long)))
        (cases_lt at level)

-- all bits of a list of variables
abbrev pub all_values : (Order → Bool) → List Variable → Bits → List Bool
all_values has_bit variables bits = bits_before has_bit (length variables) variables bits

pub length-all_values : (has_bit : Order → Bool) (variables : List Variable) (bits : Bits) → length (all_values has_bit variables bits) ≡ count_of has_bit variables
length-all_values has_bit variables bits = length-bits_before has_bit (length variables) variables bits ∙ rank_of_all has_bit variables

module _ (content : Content Sign) (at : ℕ → ℕ) (wide : List Variable) (distinct : HaveDistinctNumbers wide) (stands : StandsAmong content at wide) where
  abbrev vs : List Variable
  vs = content.variables

  -- the bits of the others, as bits of the variables of the content
  abbrev pub read : Bits → Bits
  read bits = λ place. bits (at place)

  module _ (has_bit : Order → Bool) where
    -- first bits and free ones, given to the variables of the content
    partly : (level : ℕ) (first free : Bits) (place : ℕ) (v : Variable) → slice_get vs place ≡ Some v → IsTrue (has_bit v.order)
        → with_free_bits has_bit wide (values has_bit wide distinct level first) vs (read free) place ≡ read (below_from level first free) place
    partly level first free place v held holds =
        ap (λ found. unwrap_or (option_and_then (λ (w : Variable). given_bit has_bit wide (values has_bit wide distinct level first) w.name) found) (read free place)) held
        ∙ given_from has_bit wide distinct level first (at place) v (stands.leads place v held) holds free

    -- and all bits
    wholly : (bits : Bits) → bits_for has_bit wide (all_values has_bit wide bits) vs ≡ all_values has_bit vs (read bits)
    wholly bits = own_bits has_bit wide (all_values has_bit wide bits) vs (all_values has_bit vs (read bits))
        (λ place v held holds.
        let there = stands.leads place v held in
        given_below has_bit wide distinct (length wide) bits (at place) v there holds (slice_get_within wide (at place) v there)
        ∙ sym (bit_before has_bit (length vs) vs (read bits) place v (slice_get_within vs place v held) held holds))
        (length-all_values has_bit vs (read bits))

    -- a reference leads by what is given where the bits lead from which it comes
    module _ (root : Ref) (is : IsFollowed content has_bit root) where
      pub agree : (one two : Bits) → ((place : ℕ) (v : Variable) → slice_get vs place ≡ Some v → IsTrue (has_bit v.order) → one place ≡ two place)
          → leaf_of content.nodes root one ≡ leaf_of content.nodes root two
      agree one two same = leaf_of-tested content.nodes stands.ordered root one two is.valid (λ place tested. let found = is.tests place tested in same place found.0 found.1 found.2)

      pub leads_partly : (level : ℕ) (first free : Bits)
          → leaf_of content.nodes root (with_free_bits has_bit wide (values has_bit wide distinct level first) vs (read free)) ≡ leaf_of content.nodes root (read (below_from level first free))
      leads_partly level first free =
          agree (with_free_bits has_bit wide (values has_bit wide distinct level first) vs (read free)) (read (below_from level first free)) (partly level first free)

      -- where nothing is free, all bits lead to one state
      pub leads_to_one : (level : ℕ) (first : Bits) → count_of has_bit wide ≤ length (values has_bit wide distinct level first) → (free other : Bits)
          → leaf_of content.nodes root (read (below_from level first free)) ≡ leaf_of content.nodes root (read (below_from level first other))
      leads_to_one level first full free other = agree (read (below_from level first free)) (read (below_from level first other))
          (λ place v held holds. none_free has_bit wide distinct level first (at place) v (stands.leads place v held) holds full free other)

  -- all truth values lead where their bits lead
  pub state_first : (bits : Bits) → state_at content wide (record { truth = all_values is_truth_value wide bits; letters = [] }) ≡ leaf_of content.nodes content.start (read bits)
  state_first bits =
      ap (first_state content) (wholly is_truth_value bits)
      ∙ leaf_of_all is_truth_value vs stands.distinct content.nodes stands.ordered content.start stands.closed.start.valid stands.closed.start.tests (read bits)

  next_found : (s : ℕ) (found : Option (StateOf Sign)) → slice_get content.states s ≡ found → (bits : Bits)
      → next_from content found (all_values is_in_letters vs (read bits)) ≡ next_at content found (read bits)
  next_found s None held bits = refl
  next_found s (Some state) held bits =
      let is = followed content [] stands.closed s state held in
      leaf_of_all is_in_letters vs stands.distinct content.nodes stands.ordered state.next is.valid is.tests (read bits)

  -- and so does a letter behind a word
  pub state_next : (word : Word) (bits : Bits)
      → state_at content wide (record { truth = word.truth; letters = word.letters ++ all_values is_in_letters wide bits ∷ [] })
      ≡ next_at content (slice_get content.states (state_at content wide word)) (read bits)
  state_next word bits =
      let letter = all_values is_in_letters wide bits in
      let own : List Bool → List Bool = λ other. bits_for is_in_letters wide other vs in
      let start = first_state content (bits_for is_truth_value wide word.truth vs) in
      let s = state_at content wide word in
      ap (λ letters. state_after content start letters) (map-append own word.letters (letter ∷ []))
      ∙ state_after-append content start (map own word.letters) (own letter ∷ [])
      ∙ ap (next_state content s) (wholly is_in_letters bits)
      ∙ next_found s (slice_get content.states s) refl bits

  -- first truth values leave what first bits leave of the start
  pub left_first : (level : ℕ) (first free : Bits)
      → left_by content wide (some_truth_values (values is_truth_value wide distinct level first)) (read free) ≡ leaf_of content.nodes content.start (read (below_from level first free))
  left_first level first free = leads_partly is_truth_value content.start stands.closed.start level first free

  left_found : (s : ℕ) (found : Option (StateOf Sign)) → slice_get content.states s ≡ found → (level : ℕ) (first free : Bits)
      → next_at content found (with_free_bits is_in_letters wide (values is_in_letters wide distinct level first) vs (read free)) ≡ next_at content found (read (below_from level first free))
  left_found s None held level first free = refl
  left_found s (Some state) held level first free = leads_partly is_in_letters state.next (followed content [] stands.closed s state held) level first free

  -- and first bits of a letter what they leave of a state
  pub left_next : (word : Word) (level : ℕ) (first free : Bits)
      → left_by content wide (part_of_letter word (values is_in_letters wide distinct level first)) (read free)
      ≡ next_at content (slice_get content.states (state_at content wide word)) (read (below_from level first free))
  left_next word level first free = (let s = state_at content wide word in left_found s (slice_get content.states s) refl level first free)

  -- where nothing is free, one state is led to
  pub one_first : (level : ℕ) (first : Bits) → count_of is_truth_value wide ≤ length (values is_truth_value wide distinct level first) → (free other : Bits)
      → leaf_of content.nodes content.start (read (below_from level first free)) ≡ leaf_of content.nodes content.start (read (below_from level first other))
  one_first level first full free other = leads_to_one is_truth_value content.start stands.closed.start level first full free other

  one_found : (s : ℕ) (found : Option (StateOf Sign)) → slice_get content.states s ≡ found → (level : ℕ) (first : Bits)
      → count_of is_in_letters wide ≤ length (values is_in_letters wide distinct level first) → (free other : Bits)
      → next_at content found (read (below_from level first free)) ≡ next_at content found (read (below_from level first other))
  one_found s None held level first full free other = refl
  one_found s (Some state) held level first full free other = leads_to_one is_in_letters state.next (followed content [] stands.closed s state held) level first full free other

  pub one_next : (s level : ℕ) (first : Bits) → count_of is_in_letters wide ≤ length (values is_in_letters wide distinct level first) → (free other : Bits)
      → next_at content (slice_get content.states s) (read (below_from level first free)) ≡ next_at content (slice_get content.states s) (read (below_from level first other))
  one_next s level first full free other = one_found s (slice_get content.states s) refl level first full free other
