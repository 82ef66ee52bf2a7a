-- An automaton over more variables has its states fixed by what it says over its own variables and by which words over all variables
-- encode an assignment.
use Rattle.std.proofs.Common.{◌≡◌, ◌≢◌, ℕ, ◌+◌, ◌<◌, ◌↔◌, ⊎_elim, Bool, false, IsTrue, List, [], ◌∷◌, ◌++◌, length, map, slice_get, slice_index, Option, Some, None, refl, sym, ap, subst, ◌∙◌, arith}
use Rattle.std.proofs.lemmas.List.{length-map, length-replicate, map-append}
use Rattle.std.proofs.lemmas.Option.{same_Some, slice_get_within}
use Rattle.ms_arena.specs.declared.node.Ref.{Ref}
use Rattle.ms_arena.specs.Diagram.{Bits, IsOrdered, leaf_of}
use Rattle.ms_arena.proofs.Lists.{slice_get-held}
use Rattle.ms_arena.proofs.ReachLemmas.{leaf_of-tested}
use Rattle.ms_build_parts.specs.Labels.{IsOrigin, behind, behind_state}
use Rattle.ms_build_parts.proofs.Labels.{root_of}
use Rattle.ms_dfa.specs.Automaton.{IsAutomaton}
use Rattle.ms_dfa.specs.Narrow.{gathered, narrowed, narrowed_letter}
use Rattle.ms_dfa.proofs.EncodingLemmas.{encoding_or_not}
use Rattle.ms_dfa.proofs.GatheredLemmas.{gathered_at, length-gathered}
use Rattle.ms_dfa.proofs.NarrowLemmas.{leaf_of-gathered}
use Rattle.ms_dfa.proofs.OwnMeaningLemmas.{last_within, sign_outside}
use Rattle.ms_dfa_explore.specs.Explored.{Origin}
use Rattle.ms_dfa_explore.specs.Tracks.{place_of, places_among}
use Rattle.ms_dfa_explore.proofs.AmongLemmas.{leads_to}
use Rattle.ms_diagram.specs.Bring.{read_through}
use Rattle.ms_list.specs.declared.word.Word.{Word}
use Rattle.ms_logic.specs.Assignment.{Variable}
use Rattle.ms_logic.specs.Lists.{AreRising, IsAmong}
use Rattle.ms_logic.specs.declared.mode.Order.{Order}
use Rattle.ms_logic_words.specs.Content.{AreLetters, Content, IsClosed, IsFollowed, IsWordOver, bits_at, count_of, first_state, is_in_letters, is_truth_value, last_state, letter_bits, next_from, next_state, padded, sign_at, sign_of, state_after, with_zero_letter, zero_letter}
use Rattle.ms_logic_words.specs.Word.{IsEncoding}
use Rattle.ms_logic_words.specs.declared.sign.Sign.{Sign}
use Rattle.ms_logic_words.specs.declared.sign.Sign.TheVariants.{Outside}
use Rattle.ms_logic_words.proofs.WordLaws.{encoding_is_over}
use Rattle.ms_logic_words.specs.Residual.{AreReached, HaveDifferentResiduals, HaveEqualResiduals}
use Rattle.ms_minim.proofs.LettersLemmas.{over-with_letters, sign_of-with_letters, state_after-append, with_letters}
use Rattle.ms_product.specs.Widened.{behind_through}
use Rattle.ms_product.proofs.WidenedLemmas.{IsRisingMap-among, first_narrowed, followed, next_narrowed}
use Rattle.ms_wider_parts.specs.Fixed.{Follower, IsFixedBy, bit_or_zero, index_in, led_to, spread}
use Rattle.ms_wider_parts.proofs.Encodings.{zeros_keep}
use Rattle.ms_wider_parts.proofs.Readings.{residuals_fix, rising_keep}
use Rattle.ms_wider_parts.proofs.Spread.{spread_keep}
use Rattle.ms_build_steps.proofs.SpreadWords.{filled_encodes, filled_over, filled_word, first_filled, index_is, marked, marked_spread, own_encodes, spread_letter, spread_truth, spread_word, unfilled_letters, whole_word}

-- letters, and one more behind them: the first of all these, and the others
abbrev first_of : List Bool → List (List Bool) → List Bool
first_of last [] = last
first_of last (letter ∷ letters) = letter

abbrev others_of : List Bool → List (List Bool) → List (List Bool)
others_of last [] = []
others_of last (letter ∷ letters) = letters ++ last ∷ []

first_and_others : (before letters : List (List Bool)) (last : List Bool) → (before ++ letters) ++ last ∷ [] ≡ before ++ first_of last letters ∷ others_of last letters
first_and_others [] [] last = refl
first_and_others [] (letter ∷ letters) last = refl
first_and_others (own ∷ before) letters last = ap (λ (more : List (List Bool)). own ∷ more) (first_and_others before letters last)

-- an automaton that says, at words that encode an assignment of its variables, what a content over some of these says; and a content over
-- more variables that tells which words encode an assignment of these
pub record IsSaidBy (wide left right : Content Sign) : Type 0 where
  pub automaton : IsAutomaton wide
  pub reached : AreReached wide
  pub differ : HaveDifferentResiduals wide
  pub left_ordered : IsOrdered left.nodes
  pub left_closed : IsClosed left
  pub left_rising : AreRising left.variables
  pub left_among : (v : Variable) → IsAmong left.variables v → IsAmong wide.variables v
  pub right_ordered : IsOrdered right.nodes
  pub right_closed : IsClosed right
  pub right_rising : AreRising right.variables
  pub right_among : (v : Variable) → IsAmong wide.variables v → IsAmong right.variables v
  pub says :
      (word : Word) → IsEncoding wide.mode wide.variables word
      → sign_of wide word ≡ sign_of left (narrowed (places_among left.variables wide.variables) left.variables wide.variables word)
  pub tells : (word : Word) → IsWordOver right.variables word → IsEncoding wide.mode right.variables word ↔ (sign_of right word ≢ Some Outside)

module _ (wide left right : Content Sign) (is : IsSaidBy wide left right) where
  abbrev vs : List Variable
  vs = wide.variables

  abbrev us : List Variable
  us = left.variables

  abbrev ws : List Variable
  ws = right.variables

  abbrev inner : List ℕ
  inner = places_among us vs

  abbrev outer : List ℕ
  outer = places_among vs ws

  -- a word that leads to a state
  abbrev reaching : (state : ℕ) → state < length wide.states → Word
  reaching state within = (is.reached state within).0

  -- the word that leads where the bits lead from an origin
  abbrev word_behind : (origin : Origin) → IsOrigin wide origin → Bits → Word
  word_behind None within bits = record { truth = gathered is_truth_value 0 vs bits; letters = [] }
  word_behind (Some state) within bits = with_letters (reaching state within) (gathered is_in_letters 0 vs bits ∷ [])

  word_over : (origin : Origin) (within : IsOrigin wide origin) (bits : Bits) → IsWordOver vs (word_behind origin within bits)
  word_over None within bits = record { truth = length-gathered is_truth_value vs bits 0; letters = tt }
  word_over (Some state) within bits =
      over-with_letters vs (reaching state within) (gathered is_in_letters 0 vs bits ∷ []) (is.reached state within).1 (length-gathered is_in_letters vs bits 0, tt)

  wide_led : (origin : Origin) (within : IsOrigin wide origin) (bits : Bits) → behind wide origin bits ≡ last_state wide (word_behind origin within bits)
  wide_led None within bits =
      let start = is.automaton.closed.start in
      sym (leaf_of-gathered wide.nodes is_truth_value vs wide.start bits is.automaton.ordered start.valid start.tests)
  wide_led (Some state) within bits =
      let letter = gathered is_in_letters 0 vs bits in
      let word = reaching state within in
      let held = slice_get-held wide.states state within in
      let next = followed wide [] is.automaton.closed state held.0 held.1 in
      ap (λ found. behind_state wide found bits) held.1
      ∙ sym (leaf_of-gathered wide.nodes is_in_letters vs held.0.next bits is.automaton.ordered next.valid next.tests)
      ∙ ap (λ found. next_from wide found letter) (sym held.1)
      ∙ ap (λ s. next_state wide s letter) (sym (is.reached state within).2)
      ∙ sym (state_after-append wide (first_state wide word.truth) word.letters (letter ∷ []))

  -- the content over fewer variables goes by the word read over these
  abbrev narrow : Word → Word
  narrow word = narrowed inner us vs word

  left_leads : (place : ℕ) (v : Variable) → slice_get us place ≡ Some v → slice_get vs (slice_index inner place) ≡ Some v
  left_leads = leads_to us vs is.left_rising is.automaton.rising is.left_among

  abbrev left_origin : (origin : Origin) → IsOrigin wide origin → Origin
  left_origin None within = None
  left_origin (Some state) within = Some (last_state left (narrow (reaching state within)))

  left_within : (origin : Origin) (within : IsOrigin wide origin) → IsOrigin left (left_origin origin within)
  left_within None within = tt
  left_within (Some state) within = last_within left is.left_closed (narrow (reaching state within))

  abbrev first : Follower wide left
  first = record {
    ordered = is.left_ordered;
    read = read_through inner;
    keeps = rising_keep (length us) inner (IsRisingMap-among us vs is.left_rising is.automaton.rising is.left_among);
    root = λ origin within. (root_of left is.left_closed (left_origin origin within) (left_within origin within)).root;
    valid = λ origin within. (root_of left is.left_closed (left_origin origin within) (left_within origin within)).followed.valid;
    tests = λ origin within var tested.
        let at = (root_of left is.left_closed (left_origin origin within) (left_within origin within)).followed.tests var tested in slice_get_within us var at.0 at.1;
    states = λ origin within. (root_of left is.left_closed (left_origin origin within) (left_within origin within)).followed.states;
  }

  read_gathered : (has_value : Order → Bool) (root : Ref) → IsFollowed left has_value root → (bits : Bits)
      → leaf_of left.nodes root (read_through inner bits) ≡ leaf_of left.nodes root (read_through inner (bits_at (padded has_value vs (gathered has_value 0 vs bits))))
  read_gathered has_value root follows bits =
      leaf_of-tested left.nodes is.left_ordered root (read_through inner bits) (read_through inner (bits_at (padded has_value vs (gathered has_value 0 vs bits)))) follows.valid (λ var tested.
      let at = follows.tests var tested in
      let same : 0 + slice_index inner var ≡ slice_index inner var = omega arith in
      sym (gathered_at has_value vs bits 0 (slice_index inner var) at.0 (left_leads var at.0 at.1) at.2 ∙ ap bits same))

  left_led : (origin : Origin) (within : IsOrigin wide origin) (bits : Bits) → led_to wide left first origin within bits ≡ last_state left (narrow (word_behind origin within bits))
  left_led None within bits =
      sym ((root_of left is.left_closed None (left_within None within)).leads (read_through inner bits))
      ∙ read_gathered is_truth_value left.start is.left_closed.start bits
      ∙ first_narrowed left inner vs is.left_ordered is.left_closed left_leads (gathered is_truth_value 0 vs bits)
  left_led (Some state) within bits =
      let letter = gathered is_in_letters 0 vs bits in
      let word = reaching state within in
      let there = last_state left (narrow word) in
      let below = last_within left is.left_closed (narrow word) in
      let held = slice_get-held left.states there below in
      let next = followed left [] is.left_closed there held.0 held.1 in
      let narrow_letter = narrowed_letter inner us vs in
      sym ((root_of left is.left_closed (Some there) (left_within (Some state) within)).leads (read_through inner bits))
      ∙ ap (λ found. behind_state left found (read_through inner bits)) held.1
      ∙ read_gathered is_in_letters held.0.next next bits
      ∙ ap (λ found. behind_through left inner found (letter_bits vs letter)) (sym held.1)
      ∙ next_narrowed left inner vs is.left_ordered is.left_closed left_leads there below letter
      ∙ sym (state_after-append left (first_state left (narrow word).truth) (narrow word).letters (narrow_letter letter ∷ []))
      ∙ ap (state_after left (first_state left (narrow word).truth)) (sym (map-append narrow_letter word.letters (letter ∷ [])))

  -- and the content over more variables by the word spread over these
  abbrev right_origin : (origin : Origin) → IsOrigin wide origin → Origin
  right_origin None within = None
  right_origin (Some state) within = Some (last_state right (spread_word vs ws (reaching state within)))

  right_within : (origin : Origin) (within : IsOrigin wide origin) → IsOrigin right (right_origin origin within)
  right_within None within = tt
  right_within (Some state) within = last_within right is.right_closed (spread_word vs ws (reaching state within))

  abbrev second : Follower wide right
  second = record {
    ordered = is.right_ordered;
    read = spread outer;
    keeps = spread_keep (length ws) (length vs) outer (IsRisingMap-among vs ws is.automaton.rising is.right_rising is.right_among);
    root = λ origin within. (root_of right is.right_closed (right_origin origin within) (right_within origin within)).root;
    valid = λ origin within. (root_of right is.right_closed (right_origin origin within) (right_within origin within)).followed.valid;
    tests = λ origin within var tested.
        let at = (root_of right is.right_closed (right_origin origin within) (right_within origin within)).followed.tests var tested in slice_get_within ws var at.0 at.1;
    states = λ origin within. (root_of right is.right_closed (right_origin origin within) (right_within origin within)).followed.states;
  }

  right_leads : (place : ℕ) (v : Variable) → slice_get vs place ≡ Some v → slice_get ws (slice_index outer place) ≡ Some v
  right_leads = leads_to vs ws is.automaton.rising is.right_rising is.right_among

  spread_gathered : (has_value : Order → Bool) (bits : Bits) (place : ℕ) (w : Variable) → slice_get ws place ≡ Some w → IsTrue (has_value w.order)
      → spread outer bits place ≡ spread outer (bits_at (padded has_value vs (gathered has_value 0 vs bits))) place
  spread_gathered has_value bits place w there with_value = by (index_in outer place) refl
    where
      by : (found : Option ℕ) → index_in outer place ≡ found → bit_or_zero bits found ≡ bit_or_zero (bits_at (padded has_value vs (gathered has_value 0 vs bits))) found
      by None found = refl
      by (Some i) found =
          let at = index_is outer place i found in
          let within = at.0 in
          let long = length-map vs (λ (v : Variable). place_of v.name ws) in
          let held = slice_get-held vs i (omega (arith, within, long)) in
          let same : held.0 ≡ w = same_Some held.0 w (sym (right_leads i held.0 held.1) ∙ ap (slice_get ws) at.1 ∙ there) in
          let here : 0 + i ≡ i = omega arith in
          sym (gathered_at has_value vs bits 0 i held.0 held.1 (subst (λ (v : Variable). IsTrue (has_value v.order)) (sym same) with_value) ∙ ap bits here)

  read_spread : (has_value : Order → Bool) (root : Ref) → IsFollowed right has_value root → (bits : Bits)
      → leaf_of right.nodes root (spread outer bits)
      ≡ leaf_of right.nodes root (bits_at (padded has_value ws (gathered has_value 0 ws (marked vs ws false (bits_at (padded has_value vs (gathered has_value 0 vs bits)))))))
  read_spread has_value root follows bits =
      let own : Bits = bits_at (padded has_value vs (gathered has_value 0 vs bits)) in
      leaf_of-tested right.nodes is.right_ordered root (spread outer bits) (marked vs ws false own) follows.valid (λ var tested.
      let at = follows.tests var tested in
      spread_gathered has_value bits var at.0 at.1 at.2 ∙ sym (marked_spread vs ws own var))
      ∙ sym (leaf_of-gathered right.nodes has_value ws root (marked vs ws false own) is.right_ordered follows.valid follows.tests)

  right_led : (origin : Origin) (within : IsOrigin wide origin) (bits : Bits)
      → led_to wide right second origin within bits ≡ last_state right (spread_word vs ws (word_behind origin within bits))
  right_led None within bits =
      sym ((root_of right is.right_closed None (right_within None within)).leads (spread outer bits))
      ∙ read_spread is_truth_value right.start is.right_closed.start bits
  right_led (Some state) within bits =
      let letter = gathered is_in_letters 0 vs bits in
      let word = reaching state within in
      let there = last_state right (spread_word vs ws word) in
      let below = last_within right is.right_closed (spread_word vs ws word) in
      let held = slice_get-held right.states there below in
      let next = followed right [] is.right_closed there held.0 held.1 in
      sym ((root_of right is.right_closed (Some there) (right_within (Some state) within)).leads (spread outer bits))
      ∙ ap (λ found. behind_state right found (spread outer bits)) held.1
      ∙ read_spread is_in_letters held.0.next next bits
      ∙ ap (λ found. next_from right found (spread_letter vs ws false letter)) (sym held.1)
      ∙ sym (state_after-append right (first_state right (spread_truth vs ws word.truth)) (unfilled_letters vs ws word.letters) (spread_letter vs ws false letter ∷ []))
      ∙ ap (state_after right (first_state right (spread_truth vs ws word.truth))) (sym (map-append (spread_letter vs ws false) word.letters (letter ∷ [])))

  -- where a word and letters lead, by the state to which the spread word leads
  module _ (letters : List (List Bool)) (are : AreLetters vs letters) where
    abbrev last : List Bool
    last = zero_letter vs

    abbrev filled : List (List Bool)
    filled = first_filled vs ws (first_of last letters) (others_of last letters)

    abbrev tells_at : ℕ → Type 0
    tells_at state = sign_at right (state_after right state filled) ≢ Some Outside

    one_more : (word : Word) → with_zero_letter vs (with_letters word letters) ≡ whole_word vs ws word (first_of last letters) (others_of last letters)
    one_more word = let all = first_and_others word.letters letters last in λ i. record { truth = word.truth; letters = all i }

    told : (word : Word) → sign_of right (filled_word vs ws word (first_of last letters) (others_of last letters))
        ≡ sign_at right (state_after right (last_state right (spread_word vs ws word)) filled)
    told word = sign_of-with_letters right (spread_word vs ws word) filled

    encodes_tells : (word : Word) → IsEncoding wide.mode vs (with_letters word letters) → tells_at (last_state right (spread_word vs ws word))
    encodes_tells word encoding =
        let more = subst (IsEncoding wide.mode vs) (one_more word) ((zeros_keep wide.mode vs (with_letters word letters) is.automaton.rising).0 encoding) in
        let over = encoding_is_over vs (whole_word vs ws word (first_of last letters) (others_of last letters)) more.0 more.2 in
        let all = filled_encodes vs ws is.automaton.rising is.right_rising is.right_among wide.mode word (first_of last letters) (others_of last letters) over more in
        let wide_over = encoding_is_over ws (filled_word vs ws word (first_of last letters) (others_of last letters)) all.0 all.2 in
        subst (λ sign. sign ≢ Some Outside) (told word) ((is.tells (filled_word vs ws word (first_of last letters) (others_of last letters)) wide_over).0 all)

    zero_over : (word : Word) → IsWordOver vs (with_letters word letters) → IsWordOver vs (with_zero_letter vs (with_letters word letters))
    zero_over word over = over-with_letters vs (with_letters word letters) (last ∷ []) over (length-replicate (count_of is_in_letters vs) false, tt)

    tells_encodes : (word : Word) → IsWordOver vs (with_letters word letters) → tells_at (last_state right (spread_word vs ws word)) → IsEncoding wide.mode vs (with_letters word letters)
    tells_encodes word over tells =
        let made = filled_word vs ws word (first_of last letters) (others_of last letters) in
        let whole_over = subst (IsWordOver vs) (one_more word) (zero_over word over) in
        let all = (is.tells made (filled_over vs ws is.automaton.rising is.right_rising is.right_among word (first_of last letters) (others_of last letters))).1
        (subst (λ sign. sign ≢ Some Outside) (sym (told word)) tells) in
        let more = own_encodes vs ws is.automaton.rising is.right_rising is.right_among wide.mode word (first_of last letters) (others_of last letters) whole_over all in
        (zeros_keep wide.mode vs (with_letters word letters) is.automaton.rising).1 (subst (IsEncoding wide.mode vs) (sym (one_more word)) more)

    abbrev left_sign : ℕ → Option Sign
    left_sign state = sign_at left (state_after left state (map (narrowed_letter inner us vs) letters))

    left_says : (word : Word) → IsEncoding wide.mode vs (with_letters word letters) → sign_of wide (with_letters word letters) ≡ left_sign (last_state left (narrow word))
    left_says word encoding =
        is.says (with_letters word letters) encoding
        ∙ ap (λ ls. sign_at left (state_after left (first_state left (narrow word).truth) ls)) (map-append (narrowed_letter inner us vs) word.letters letters)
        ∙ sign_of-with_letters left (narrow word) (map (narrowed_letter inner us vs) letters)

    -- words that lead both contents to the same states have one sign behind the letters
    same_signs : (one other : Word) → IsWordOver vs (with_letters one letters) → IsWordOver vs (with_letters other letters)
        → last_state left (narrow one) ≡ last_state left (narrow other) → last_state right (spread_word vs ws one) ≡ last_state right (spread_word vs ws other)
        → sign_of wide (with_letters one letters) ≡ sign_of wide (with_letters other letters)
    same_signs one other over also same_left same_right = ⊎_elim
        (λ encoding.
        let encodes = tells_encodes other also (subst tells_at same_right (encodes_tells one encoding)) in
        left_says one encoding ∙ ap left_sign same_left ∙ sym (left_says other encodes))
        (λ outside.
        sign_outside wide is.automaton (with_letters one letters) over outside
        ∙ sym (sign_outside wide is.automaton (with_letters other letters) also (λ encoding.
        outside (tells_encodes one over (subst tells_at (sym same_right) (encodes_tells other encoding))))))
        (encoding_or_not wide.mode vs (with_letters one letters) is.automaton.rising over)

  residuals : (one other : Origin) (is_one : IsOrigin wide one) (is_other : IsOrigin wide other) (bits bits' : Bits)
      → led_to wide left first one is_one bits ≡ led_to wide left first other is_other bits'
      → led_to wide right second one is_one bits ≡ led_to wide right second other is_other bits'
      → HaveEqualResiduals wide (behind wide one bits) (behind wide other bits')
  residuals one other is_one is_other bits bits' same_left same_right letters are =
      let here = word_behind one is_one bits in
      let there = word_behind other is_other bits' in
      ap (λ s. sign_at wide (state_after wide s letters)) (wide_led one is_one bits)
      ∙ sym (sign_of-with_letters wide here letters)
      ∙ same_signs letters are here there
      (over-with_letters vs here letters (word_over one is_one bits) are)
      (over-with_letters vs there letters (word_over other is_other bits') are)
      (sym (left_led one is_one bits) ∙ same_left ∙ left_led other is_other bits')
      (sym (right_led one is_one bits) ∙ same_right ∙ right_led other is_other bits')
      ∙ sign_of-with_letters wide there letters
      ∙ ap (λ s. sign_at wide (state_after wide s letters)) (sym (wide_led other is_other bits'))

  -- the two contents fix its states
  pub said_fixes : IsFixedBy wide left right
  said_fixes = residuals_fix wide left right is.automaton.ordered is.automaton.closed is.reached is.differ first second residuals
