-- Words over variables, read over others that are read at their places: what a start leaves, and which words encode assignments.
use Rattle.std.proofs.Common.{◌≡◌, ℕ, zero, suc, ◌+◌, Bool, true, false, IsTrue, if◌then◌else◌, List, [], ◌∷◌, length, map, slice_get, slice_index, Option, Some, None, unwrap_or, refl, sym, ap, subst, ◌∙◌, arith}
use Rattle.std.specs.Option.{option_and_then}
use Rattle.std.proofs.lemmas.List.{map-append}
use Rattle.std.proofs.lemmas.Option.{none-some, same_Some, slice_get_within, get_or_from_slice_get}
use Rattle.ms_list.specs.declared.word.Word.{Word}
use Rattle.ms_arena.specs.declared.node.Ref.{Ref}
use Rattle.ms_arena.specs.Diagram.{Bits, IsOrdered, leaf_of}
use Rattle.ms_arena.proofs.ReachLemmas.{leaf_of-tested}
use Rattle.ms_diagram.specs.Bring.{read_through}
use Rattle.ms_dfa.specs.Narrow.{ReadsThrough, gathered, narrowed, narrowed_letter}
use Rattle.ms_dfa.proofs.CoveredLemmas.{covered_encodes}
use Rattle.ms_dfa.proofs.GatheredLemmas.{gathered_at}
use Rattle.ms_dfa.proofs.NarrowLemmas.{narrowed_assigned, narrowed_encodes, narrowed_over}
use Rattle.ms_logic.specs.Assignment.{Env, Variable, value_at}
use Rattle.ms_logic.specs.declared.mode.Mode.{Mode}
use Rattle.ms_logic.specs.declared.mode.Order.{Order}
use Rattle.ms_logic_measures.specs.Starts.{IsStartOver, Start, given_bit, left_by, next_at, part_of_letter, some_truth_values, whole_word, with_free_bits}
use Rattle.ms_logic_measures.proofs.Runs.{state_after-append}
use Rattle.ms_logic_starts.specs.ContentStarts.{HaveDistinctNumbers}
use Rattle.ms_logic_starts.specs.inner.Ranks.{rank}
use Rattle.ms_logic_starts.proofs.RankLemmas.{bit_before, given_at, padded_at}
use Rattle.ms_logic_starts.proofs.RisingLemmas.{rising_distinct}
use Rattle.ms_logic_words.specs.Content.{Content, IsClosed, IsFollowed, IsWordOver, StateOf, bits_at, first_state, is_in_letters, is_truth_value, last_state, next_from, padded, state_after}
use Rattle.ms_logic_words.specs.Word.{IsEncoding}
use Rattle.ms_logic_words.specs.declared.sign.Sign.{Sign}
use Rattle.ms_product.proofs.WidenedLemmas.{followed}
use Rattle.ms_calls.proofs.Expanded.{AreReadAt, spread, spread_at, spread_fewer}
use Rattle.ms_calls.proofs.Given.{all_values}
use Rattle.ms_calls.proofs.Own.{narrowed_own, word_of}

-- first bits, and free ones behind them, by the rank of a variable
free_at : (has_bit : Order → Bool) (vs : List Variable) (bits : List Bool) (rest : Bits) (place : ℕ) (v : Variable) → HaveDistinctNumbers vs → slice_get vs place ≡ Some v
    → IsTrue (has_bit v.order) → with_free_bits has_bit vs bits vs rest place ≡ unwrap_or (slice_get bits (rank has_bit place vs)) (rest place)
free_at has_bit vs bits rest place v own held holds =
    ap (λ found. unwrap_or (option_and_then (λ (w : Variable). given_bit has_bit vs bits w.name) found) (rest place)) held
    ∙ ap (λ found. unwrap_or found (rest place)) (given_at has_bit vs bits place v own held holds)

-- all bits, padded over the places
all_at : (has_bit : Order → Bool) (vs : List Variable) (bits : Bits) (place : ℕ) (v : Variable) → slice_get vs place ≡ Some v → IsTrue (has_bit v.order)
    → bits_at (padded has_bit vs (all_values has_bit vs bits)) place ≡ bits place
all_at has_bit vs bits place v held holds =
    let all = all_values has_bit vs bits in
    padded_at has_bit vs all place v held holds
    ∙ get_or_from_slice_get all (rank has_bit place vs) (bits place) false (bit_before has_bit (length vs) vs bits place v (slice_get_within vs place v held) held holds)

module _ (narrow wide : List Variable) (places : List ℕ) (are : AreReadAt narrow wide places) where
  -- a start over the wide variables, as one over the narrow ones
  abbrev pub start_over : Start → Start
  start_over (some_truth_values values) = some_truth_values (spread is_truth_value narrow wide places are values)
  start_over (whole_word word) = whole_word (narrowed places narrow wide word)
  start_over (part_of_letter word bits) = part_of_letter (narrowed places narrow wide word) (spread is_in_letters narrow wide places are bits)

  pub is_start_over : (start : Start) → IsStartOver wide start → IsStartOver narrow (start_over start)
  is_start_over (some_truth_values values) less = spread_fewer is_truth_value narrow wide places are values less
  is_start_over (whole_word word) over = narrowed_over places narrow wide word
  is_start_over (part_of_letter word bits) over = (narrowed_over places narrow wide word, spread_fewer is_in_letters narrow wide places are bits over.1)

  -- the bits of a word over the wide variables, some of which are free, as the narrow ones have them
  module _ (has_bit : Order → Bool) (bits : List Bool) (rest : Bits) where
    abbrev whole : List Bool
    whole = all_values has_bit wide (with_free_bits has_bit wide bits wide rest)

    bit_same : (place : ℕ) (v : Variable) → slice_get narrow place ≡ Some v → IsTrue (has_bit v.order)
        → with_free_bits has_bit narrow (spread has_bit narrow wide places are bits) narrow (read_through places rest) place
        ≡ bits_at (padded has_bit narrow (gathered has_bit 0 narrow (read_through places (bits_at (padded has_bit wide whole))))) place
    bit_same place v held holds =
        let w = are.stands place v held in
        let at = slice_index places place in
        let holds_there : IsTrue (has_bit w.0.order) = subst (λ o. IsTrue (has_bit o)) (sym w.2) holds in
        let here : 0 + place ≡ place = omega arith in
        let read = read_through places (bits_at (padded has_bit wide whole)) in
        free_at has_bit narrow (spread has_bit narrow wide places are bits) (read_through places rest) place v are.own held holds
        ∙ ap (λ found. unwrap_or found (rest at)) (spread_at has_bit narrow wide places are bits place v held holds)
        ∙ sym (free_at has_bit wide bits rest at w.0 (rising_distinct wide are.rising) w.1 holds_there)
        ∙ sym (all_at has_bit wide (with_free_bits has_bit wide bits wide rest) at w.0 w.1 holds_there)
        ∙ ap read (sym here)
        ∙ sym (gathered_at has_bit narrow read 0 place v held holds)

  -- the bit of one narrow variable
  one_gathered : (has_bit : Order → Bool) (v : Variable) (one two : Bits) → (IsTrue (has_bit v.order) → one 0 ≡ two 0)
      → gathered has_bit 0 (v ∷ []) one ≡ gathered has_bit 0 (v ∷ []) two
  one_gathered has_bit v one two same = by_test (has_bit v.order) same
    where
      by_test : (test : Bool) → (IsTrue test → one 0 ≡ two 0) → (if test then one 0 ∷ [] else []) ≡ (if test then two 0 ∷ [] else [])
      by_test true equal = ap (λ (bit : Bool). bit ∷ []) (equal refl)
      by_test false equal = refl

  module _ (at : ℕ) (v : Variable) (held : slice_get narrow at ≡ Some v) where
    one_read : (has_bit : Order → Bool) (bits : List Bool)
        → gathered has_bit 0 (v ∷ [])
        (read_through (at ∷ []) (bits_at (padded has_bit narrow (gathered has_bit 0 narrow (read_through places (bits_at (padded has_bit wide bits)))))))
        ≡ gathered has_bit 0 (v ∷ []) (read_through (slice_index places at ∷ []) (bits_at (padded has_bit wide bits)))
    one_read has_bit bits =
        let all = bits_at (padded has_bit wide bits) in
        let read = read_through places all in
        one_gathered has_bit v (read_through (at ∷ []) (bits_at (padded has_bit narrow (gathered has_bit 0 narrow read)))) (read_through (slice_index places at ∷ []) all) (λ holds.
        let here : 0 + at ≡ at = omega arith in
        gathered_at has_bit narrow read 0 at v held holds ∙ ap read here)

    letters_read : (letters : List (List Bool))
        → map (narrowed_letter (at ∷ []) (v ∷ []) narrow) (map (narrowed_letter places narrow wide) letters)
        ≡ map (narrowed_letter (slice_index places at ∷ []) (v ∷ []) wide) letters
    letters_read [] = refl
    letters_read (letter ∷ letters) =
        let first = one_read is_in_letters letter in
        let more = letters_read letters in
        λ i. first i ∷ more i

    -- a word that is read twice
    word_read : (word : Word) → narrowed (at ∷ []) (v ∷ []) narrow (narrowed places narrow wide word) ≡ narrowed (slice_index places at ∷ []) (v ∷ []) wide word
    word_read word =
        let truth = one_read is_truth_value word.truth in
        let letters = letters_read word.letters in
        λ i. record { truth = truth i; letters = letters i }

    one_reads : (e : Env) → ReadsThrough (at ∷ []) (v ∷ []) narrow e e
    one_reads e = record { universe = refl; values = given }
      where
        given : (place : ℕ) (u : Variable) → slice_get (v ∷ []) place ≡ Some u
            → (w : Variable) × (slice_get narrow (slice_index (at ∷ []) place) ≡ Some w) × (w.order ≡ u.order) × (value_at u.order u.name e ≡ value_at w.order w.name e)
        given zero u is =
            let same : v ≡ u = same_Some v u is in
            (v, held, ap (λ (w : Variable). w.order) same, ap (λ (w : Variable). value_at w.order w.name e) (sym same))
        given (suc place) u is = absurd (none-some u is)

  -- where the word that is read encodes an assignment, the word does
  pub encodes_wide : (mode : Mode) (word : Word) → IsWordOver wide word → IsEncoding mode narrow (narrowed places narrow wide word) → IsEncoding mode wide word
  encodes_wide mode word over encoding = covered_encodes mode wide word are.rising over (λ place w there number.
      let found = are.all place w there in
      let at = found.0 in
      let v = found.1 in
      let reads = one_reads at v found.2 encoding.0 in
      let stands = are.stands at v found.2 in
      let same : stands.0 ≡ w = same_Some stands.0 w (sym stands.1 ∙ ap (slice_get wide) found.3 ∙ there) in
      record {
        map = slice_index places at ∷ [];
        narrow = v ∷ [];
        rising = (tt, tt);
        encoding = subst (IsEncoding mode (v ∷ [])) (word_read at v found.2 word) (
          encoding.0,
          narrowed_assigned (at ∷ []) (v ∷ []) narrow encoding.0 encoding.0 reads mode encoding.1,
          narrowed_encodes (at ∷ []) (v ∷ []) narrow encoding.0 encoding.0 reads (narrowed places narrow wide word) encoding.2,
        );
        own = 0;
        variable = v;
        there = refl;
        number = sym stands.2 ∙ ap (λ (u : Variable). u.order) same ∙ number;
        leads = found.3;
      })

module _ (content : Content Sign) (ordered : IsOrdered content.nodes) (closed : IsClosed content) (wide : List Variable) (places : List ℕ)
    (are : AreReadAt content.variables wide places) where
  abbrev vs : List Variable
  vs = content.variables

  abbrev read_word : Word → Word
  read_word word = narrowed places vs wide word

  -- a reference leads by what is given where it leads by the bits of the word that is read
  leaf_same : (has_bit : Order → Bool) (root : Ref) → IsFollowed content has_bit root → (bits : List Bool) (rest : Bits)
      → leaf_of content.nodes root (with_free_bits has_bit vs (spread has_bit vs wide places are bits) vs (read_through places rest))
      ≡ leaf_of content.nodes root
      (bits_at (padded has_bit vs (gathered has_bit 0 vs (read_through places (bits_at (padded has_bit wide (whole vs wide places are has_bit bits rest)))))))
  leaf_same has_bit root is bits rest =
      leaf_of-tested content.nodes ordered root (with_free_bits has_bit vs (spread has_bit vs wide places are bits) vs (read_through places rest))
      (bits_at (padded has_bit vs (gathered has_bit 0 vs (read_through places (bits_at (padded has_bit wide (whole vs wide places are has_bit bits rest))))))) is.valid
      (λ place tested. let at = is.tests place tested in bit_same vs wide places are has_bit bits rest place at.0 at.1 at.2)

  next_same : (s : ℕ) (found : Option (StateOf Sign)) → slice_get content.states s ≡ found → (bits : List Bool) (rest : Bits)
      → next_at content found (with_free_bits is_in_letters vs (spread is_in_letters vs wide places are bits) vs (read_through places rest))
      ≡ next_from content found (narrowed_letter places vs wide (whole vs wide places are is_in_letters bits rest))
  next_same s None held bits rest = refl
  next_same s (Some state) held bits rest = leaf_same is_in_letters state.next (followed content [] closed s state held) bits rest

  -- what a start leaves with free bits is where the word that is read leads
  pub left_is_read : (start : Start) (rest : Bits) → left_by content vs (start_over vs wide places are start) (read_through places rest)
      ≡ last_state content (read_word (word_of wide start rest))
  left_is_read (some_truth_values values) rest = leaf_same is_truth_value content.start closed.start values rest
  left_is_read (whole_word word) rest = ap (last_state content) (narrowed_own vs (read_word word) are.own (narrowed_over places vs wide word))
  left_is_read (part_of_letter word bits) rest =
      let letter = whole vs wide places are is_in_letters bits rest in
      let read_letter = narrowed_letter places vs wide in
      let begin = first_state content (read_word word).truth in
      let s = last_state content (read_word word) in
      let given = with_free_bits is_in_letters vs (spread is_in_letters vs wide places are bits) vs (read_through places rest) in
      ap (λ other. next_at content (slice_get content.states (last_state content other)) given) (narrowed_own vs (read_word word) are.own (narrowed_over places vs wide word))
      ∙ next_same s (slice_get content.states s) refl bits rest
      ∙ sym (state_after-append content begin (map read_letter word.letters) (read_letter letter ∷ []))
      ∙ ap (state_after content begin) (sym (map-append read_letter word.letters (letter ∷ [])))
