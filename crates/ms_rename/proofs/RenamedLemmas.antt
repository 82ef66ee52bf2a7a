-- An automaton with the images of another's diagrams has its signs at the values that are read through the map.
use Rattle.std.proofs.Common.{◌≡◌, ◌≢◌, ℕ, zero, suc, ◌<◌, inl, inr, ⊎_elim, Bool, true, false, List, [], ◌∷◌, length, slice_get, slice_index, Some, Result, Ok, Err, IfOk, refl, sym, ap, subst, ◌∙◌, arith}
use Rattle.std.specs.Prelude.{map as map_list}
use Rattle.std.specs.Option.{option_map}
use Rattle.std.proofs.lemmas.Option.{none-some, same_Some, slice_get-map, slice_get_within, get_or_from_slice_get}
use Rattle.ms_list.specs.declared.fault.StepFault.{StepFault}
use Rattle.ms_list.specs.declared.word.Word.{Word}
use Rattle.ms_arena.specs.declared.node.Ref.{Ref}
use Rattle.ms_arena.specs.Bits.{with_bit}
use Rattle.ms_arena.specs.Diagram.{leaf_of, IsOrdered, IsReduced}
use Rattle.ms_arena.proofs.Needs.{Implies}
use Rattle.ms_arena.proofs.BitsLemmas.{with_bit-other}
use Rattle.ms_arena.proofs.Lists.{slice_get-held}
use Rattle.ms_arena.proofs.ReachLemmas.{leaf_of-tested}
use Rattle.ms_diagram.specs.Bring.{read_through}
use Rattle.ms_dfa.specs.Automaton.{IsAutomaton}
use Rattle.ms_logic.specs.declared.mode.Order.{Order}
use Rattle.ms_logic.specs.declared.mode.Order.TheVariants.{Zero, One, Two}
use Rattle.ms_logic_words.specs.declared.sign.Sign.{Sign}
use Rattle.ms_logic.specs.declared.assignment.Value.TheVariants.{Truth, Number, Set}
use Rattle.ms_logic.specs.Assignment.{Env, Variable, IsAssignment, value_at}
use Rattle.ms_logic_words.specs.Content.{StateOf, Content, HasValueAt, IsClosed, IsFollowed, IsWordOver, is_truth_value, is_in_letters, first_state, next_from, next_state, state_after, last_state, sign_at, sign_of, truth_bits, letter_bits}
use Rattle.ms_logic.specs.Lists.{AreRising}
use Rattle.ms_logic_words.specs.Word.{Encodes, IsEncoding}
use Rattle.ms_logic_words.specs.WordSign.{IsOutside}
use Rattle.ms_logic_words.proofs.WordLaws.{encoding_is_over}
use Rattle.ms_dfa.specs.Narrow.{narrowed, narrowed_truth, narrowed_letter, ReadsThrough}
use Rattle.ms_dfa.specs.Values.{Meaning, IsMeaning, HasValues, own_meaning}
use Rattle.ms_dfa.proofs.CoveredLemmas.{covered_encodes}
use Rattle.ms_dfa.proofs.FunctionLemmas.{TestsOnly-by_function}
use Rattle.ms_dfa.proofs.HasValueAtLemmas.{HasValueAt-or_not}
use Rattle.ms_dfa.proofs.NarrowLemmas.{leaf_of-gathered, narrowed_encodes, narrowed_assigned, narrowed_over}
use Rattle.ms_dfa.proofs.OwnMeaningLemmas.{next_within, sign_outside, HasValues-own, IsMeaning-own}
use Rattle.ms_dfa.proofs.ValuesLemmas.{IsAutomaton-by_values}
use Rattle.ms_dfa_explore.specs.Tracks.{distinct, place_of, places_among}
use Rattle.ms_dfa_explore.proofs.AmongLemmas.{among_at, held_among, one_place}
use Rattle.ms_dfa_explore.proofs.TracksLemmas.{distinct-rising, place_of-among}
use Rattle.ms_basic.specs.Operands.{HaveOneOrder}
use Rattle.ms_basic.proofs.DistinctLemmas.{among-distinct, distinct-among}
use Rattle.ms_product.specs.Widened.{behind_through, widened_findings}
use Rattle.ms_product.proofs.WidenedLemmas.{followed}
use Rattle.ms_rename.proofs.OwnPlaces.{read_same}
use Rattle.ms_rename.specs.inner.Image.{IsImage, IsRenamedBy}
use Rattle.ms_rename.specs.Renamed.{renamed, read_by, renamed_meaning, renamed_places}

-- a variable at a place, and the one that the map has for it
pub renamed-at : (names : List ℕ) (vs : List Variable) (place : ℕ) (v : Variable) → length names ≡ length vs → slice_get vs place ≡ Some v
    → slice_get (renamed names vs) place ≡ Some (record { name = slice_index names place; order = v.order })
renamed-at names [] place v long held = absurd (none-some v held)
renamed-at [] (u ∷ vs) place v long held = absurd (omega (arith, long))
renamed-at (name ∷ names) (u ∷ vs) zero v long held = ap (λ (w : Variable). Some (record { name = name; order = w.order })) (same_Some u v held)
renamed-at (name ∷ names) (u ∷ vs) (suc place) v long held = renamed-at names vs place v (omega (arith, long)) held

-- and the other way round
pub renamed-of : (names : List ℕ) (vs : List Variable) (place : ℕ) (w : Variable) → slice_get (renamed names vs) place ≡ Some w
    → (v : Variable) × (slice_get vs place ≡ Some v) × (w.order ≡ v.order)
renamed-of [] vs place w held = absurd (none-some w held)
renamed-of (name ∷ names) [] place w held = absurd (none-some w held)
renamed-of (name ∷ names) (u ∷ vs) zero w held =
    let same = same_Some (record { name = name; order = u.order }) w held in (u, refl, sym (ap (λ (x : Variable). x.order) same))
renamed-of (name ∷ names) (u ∷ vs) (suc place) w held = renamed-of names vs place w held

module _ (names : List ℕ) (content : Content Sign) (automaton : IsAutomaton content) (long : length names ≡ length content.variables)
    (orders : HaveOneOrder (renamed names content.variables)) where
  abbrev narrow : List Variable
  narrow = content.variables

  abbrev wide : List Variable
  wide = distinct (renamed names narrow)

  abbrev places : List ℕ
  places = renamed_places names narrow

  wide-rising : AreRising wide
  wide-rising = distinct-rising (renamed names narrow)

  -- each variable leads to the one that the map has for it
  abbrev target_for : ℕ → Variable → Variable
  target_for place v = record { name = slice_index names place; order = v.order }

  place_for : (place : ℕ) (v : Variable) → slice_get narrow place ≡ Some v → slice_index places place ≡ place_of (slice_index names place) wide
  place_for place v held =
      get_or_from_slice_get places place (place_of (slice_index names place) wide) 0
      (slice_get-map (λ (u : Variable). place_of u.name wide) (renamed names narrow) place
      ∙ ap (option_map (λ (u : Variable). place_of u.name wide)) (renamed-at names narrow place v long held))

  pub leads : (place : ℕ) (v : Variable) → slice_get narrow place ≡ Some v → slice_get wide (slice_index places place) ≡ Some (target_for place v)
  leads place v held =
      ap (slice_get wide) (place_for place v held)
      ∙ place_of-among wide (target_for place v) wide-rising
      (among-distinct (renamed names narrow) (target_for place v) orders (among_at (renamed names narrow) place (target_for place v) (renamed-at names narrow place v long held)))

  -- what e gives the variables of the map, the variables have when it is read by the map
  value_read : (o : Order) (x place : ℕ) (e : Env) → place_of x narrow ≡ place → value_at o x (read_by names narrow e) ≡ value_at o (slice_index names place) e
  value_read Zero x place e is = ap (λ p. Truth (e.truth (slice_index names p))) is
  value_read One x place e is = ap (λ p. Number (e.number (slice_index names p))) is
  value_read Two x place e is = ap (λ p. Set (e.set (slice_index names p))) is

  own_place : (place : ℕ) (v : Variable) → slice_get narrow place ≡ Some v → place_of v.name narrow ≡ place
  own_place place v held =
      one_place narrow automaton.rising (place_of v.name narrow) place v (place_of-among narrow v automaton.rising (among_at narrow place v held)) held

  reads : (e : Env) → ReadsThrough places narrow wide (read_by names narrow e) e
  reads e = record {
    universe = refl;
    values = λ place v held. (target_for place v, leads place v held, refl, value_read v.order v.name place e (own_place place v held));
  }

  module _ (made : Content Sign) (mode_is : made.mode ≡ content.mode) (variables_are : made.variables ≡ wide) (is : IsRenamedBy places content made)
      (ordered : IsOrdered made.nodes) (reduced : IsReduced made.nodes) where
    -- images lead to states, by the variables that matter
    image_followed : (has_value : Order → Bool) (root image : Ref) → IsFollowed content has_value root → IsImage made.nodes content.nodes places root image
        → IsFollowed (record made { variables = wide }) has_value image
    image_followed has_value root image followed image_is = record {
      valid = image_is.valid;
      states = λ bits. (let below = followed.states (read_through places bits) in let same = image_is.leaves bits in let counted = is.long in omega (arith, below, same, counted));
      tests = TestsOnly-by_function made.nodes (leaf_of made.nodes image) (HasValueAt wide has_value) image ordered reduced (λ bits. refl) (λ var. ⊎_elim inl
          (λ absent. inr (λ bits. image_is.leaves (with_bit bits var false)
          ∙ leaf_of-tested content.nodes automaton.ordered root (read_through places (with_bit bits var false)) (read_through places (with_bit bits var true)) followed.valid (λ own tested.
          let at = followed.tests own tested in
          let apart : slice_index places own ≢ var = λ same. absent (subst (HasValueAt wide has_value) same (target_for own at.0, leads own at.0 at.1, at.2)) in
          with_bit-other bits var false (slice_index places own) apart ∙ sym (with_bit-other bits var true (slice_index places own) apart))
          ∙ sym (image_is.leaves (with_bit bits var true))))
          (HasValueAt-or_not wide has_value var));
    }

    state_followed : (number : ℕ) (was : StateOf Sign) → slice_get content.states number ≡ Some was → IsFollowed content is_in_letters was.next
    state_followed number was held =
        subst (λ (s : StateOf Sign). IsFollowed content is_in_letters s.next) (get_or_from_slice_get content.states number was was held)
        (automaton.closed.next number was (slice_get_within content.states number was held))

    closed_wide : IsClosed (record made { variables = wide })
    closed_wide = record {
      start = image_followed is_truth_value content.start made.start automaton.closed.start is.start;
      next = λ number other within.
          let counted = is.long in
          let held = slice_get-held made.states number within in
          let was = slice_get-held content.states number (omega (arith, within, counted)) in
          subst (λ (s : StateOf Sign). IsFollowed (record made { variables = wide }) is_in_letters s.next) (sym (get_or_from_slice_get made.states number held.0 other held.1))
          (image_followed is_in_letters was.0.next held.0.next (state_followed number was.0 was.1) (is.states number was.0 held.0 was.1 held.1).1);
    }

    -- with the variables of the map in their place
    abbrev over : Content Sign
    over = record made { variables = wide }

    first_as : (truth : List Bool) → first_state over truth ≡ first_state content (narrowed_truth places narrow wide truth)
    first_as truth =
        is.start.leaves (truth_bits wide truth)
        ∙ sym (leaf_of-gathered content.nodes is_truth_value narrow content.start (read_through places (truth_bits wide truth)) automaton.ordered automaton.closed.start.valid automaton.closed.start.tests)

    next_as : (state : ℕ) → state < length content.states → (letter : List Bool) → next_state over state letter ≡ next_state content state (narrowed_letter places narrow wide letter)
    next_as state within letter =
        let counted = is.long in
        let held = slice_get-held made.states state (omega (arith, within, counted)) in
        let was = slice_get-held content.states state within in
        let followed = state_followed state was.0 was.1 in
        ap (λ found. next_from over found letter) held.1
        ∙ (is.states state was.0 held.0 was.1 held.1).1.leaves (letter_bits wide letter)
        ∙ sym (leaf_of-gathered content.nodes is_in_letters narrow was.0.next (read_through places (letter_bits wide letter)) automaton.ordered followed.valid followed.tests)
        ∙ sym (ap (λ found. next_from content found (narrowed_letter places narrow wide letter)) was.1)

    after_as : (state : ℕ) (letters : List (List Bool)) → state < length content.states
        → (state_after over state letters ≡ state_after content state (map_list (narrowed_letter places narrow wide) letters)) × (state_after over state letters < length content.states)
    after_as state [] within = (refl, within)
    after_as state (letter ∷ letters) within =
        let same = next_as state within letter in
        let inside = next_within content automaton.closed state (narrowed_letter places narrow wide letter) within in
        let rest = after_as (next_state content state (narrowed_letter places narrow wide letter)) letters inside in (
          ap (λ s. state_after over s letters) same ∙ rest.0,
          subst (λ s. state_after over s letters < length content.states) (sym same) rest.1,
        )

    -- each word has the sign of the word read over the variables of the automaton
    sign_as : (word : Word) → sign_of over word ≡ sign_of content (narrowed places narrow wide word)
    sign_as word =
        let start = first_as word.truth in
        let begins = automaton.closed.start.states (truth_bits narrow (narrowed_truth places narrow wide word.truth)) in
        let after = after_as (first_state content (narrowed_truth places narrow wide word.truth)) word.letters begins in
        let last : last_state over word ≡ last_state content (narrowed places narrow wide word) = ap (λ s. state_after over s word.letters) start ∙ after.0 in
        let inside : last_state over word < length content.states = subst (λ s. state_after over s word.letters < length content.states) (sym start) after.1 in
        let counted = is.long in
        let held = slice_get-held made.states (last_state over word) (omega (arith, inside, counted)) in
        let was = slice_get-held content.states (last_state over word) inside in
        ap (option_map (λ (found : StateOf Sign). found.sign)) held.1
        ∙ ap Some (is.states (last_state over word) was.0 held.0 was.1 held.1).0
        ∙ sym (ap (option_map (λ (found : StateOf Sign). found.sign)) was.1)
        ∙ ap (sign_at content) last

    assigned_narrow : (e : Env) → IsAssignment content.mode wide e → IsAssignment content.mode narrow (read_by names narrow e)
    assigned_narrow e assigned = narrowed_assigned places narrow wide (read_by names narrow e) e (reads e) content.mode assigned

    -- where the word over its own variables encodes an assignment, the word does
    encodes_wide : (word : Word) → IsWordOver wide word → IsEncoding content.mode narrow (narrowed places narrow wide word) → IsEncoding content.mode wide word
    encodes_wide word over_word encoding = covered_encodes content.mode wide word wide-rising over_word (λ place w there number.
        let among = distinct-among (renamed names narrow) w (among_at wide place w there) in
        let held = held_among (renamed names narrow) w among in
        let from = renamed-of names narrow held.0 w held.1 in
        let leads_there = leads held.0 from.0 from.1 in
        let same : target_for held.0 from.0 ≡ w = same_Some (target_for held.0 from.0) w (sym (renamed-at names narrow held.0 from.0 long from.1) ∙ held.1) in
        record {
          map = places;
          narrow = narrow;
          rising = automaton.rising;
          encoding = encoding;
          own = held.0;
          variable = from.0;
          there = from.1;
          number = sym from.2 ∙ number;
          leads = one_place wide wide-rising (slice_index places held.0) place w (leads_there ∙ ap Some same) there;
        })

    HasValues-over : HasValues (renamed_meaning names narrow (own_meaning content)) over
    HasValues-over = record {
      right = λ word e assigned encodes.
          let assigned_here = subst (λ mode. IsAssignment mode wide e) mode_is assigned in
          let found = (HasValues-own content automaton).right (narrowed places narrow wide word) (read_by names narrow e) (assigned_narrow e assigned_here)
          (narrowed_encodes places narrow wide (read_by names narrow e) e (reads e) word encodes) in
          (found.0, sign_as word ∙ found.1, found.2);
      outside = λ word over_word outside.
          let none : IsOutside content.mode wide word = subst (λ mode. IsOutside mode wide word) mode_is outside in
          sign_as word
          ∙ sign_outside content automaton (narrowed places narrow wide word) (narrowed_over places narrow wide word) (λ encoding. none (encodes_wide word over_word encoding));
    }

    IsMeaning-over : IsMeaning content.mode wide (renamed_meaning names narrow (own_meaning content))
    IsMeaning-over =
        let own = IsMeaning-own content automaton in
        record {
          one = λ e first second assigned. own.one (read_by names narrow e) first second (assigned_narrow e assigned);
          inside = λ e assigned. own.inside (read_by names narrow e) (assigned_narrow e assigned);
        }

    pub HasValues-renamed : HasValues (renamed_meaning names narrow (own_meaning content)) made
    HasValues-renamed = subst (λ vs. HasValues (renamed_meaning names narrow (own_meaning content)) (record made { variables = vs })) (sym variables_are) HasValues-over

    -- and it is an automaton
    pub IsAutomaton-renamed : IsAutomaton made
    IsAutomaton-renamed =
        subst (λ vs. IsAutomaton (record made { variables = vs })) (sym variables_are)
        (IsAutomaton-by_values (renamed_meaning names narrow (own_meaning content)) over
        (subst (λ mode. IsMeaning mode wide (renamed_meaning names narrow (own_meaning content))) (sym mode_is) IsMeaning-over) HasValues-over ordered reduced closed_wide wide-rising
        (let few = automaton.few_states in let counted = is.long in omega (arith, few, counted)))

-- contents with the same signs have the values of one meaning
pub HasValues-same : (meaning : Meaning) (content other : Content Sign) → other.mode ≡ content.mode → other.variables ≡ content.variables
    → ((word : Word) → IsWordOver content.variables word → sign_of other word ≡ sign_of content word) → HasValues meaning content → HasValues meaning other
HasValues-same meaning content other mode_is variables_are signs values = record {
  right = λ word e assigned encodes.
      let assigned_here = subst (λ vs. IsAssignment content.mode vs e) variables_are (subst (λ mode. IsAssignment mode other.variables e) mode_is assigned) in
      let encodes_here = subst (λ vs. Encodes vs word e) variables_are encodes in
      let found = values.right word e assigned_here encodes_here in
      (found.0, signs word (encoding_is_over content.variables word e encodes_here) ∙ found.1, found.2);
  outside = λ word over outside.
      let over_here = subst (λ vs. IsWordOver vs word) variables_are over in
      signs word over_here ∙ values.outside word over_here (subst (λ vs. IsOutside content.mode vs word) variables_are (subst (λ mode. IsOutside mode other.variables word) mode_is outside));
}

-- over its own variables the renamed automaton leads where the automaton leads over those of the map
module _ (content made : Content Sign) (places : List ℕ) (made_is : IsAutomaton made) (is : IsRenamedBy places content made) where
  abbrev own : List ℕ
  own = places_among made.variables made.variables

  pub start_as : Implies (widened_findings made own).starts (widened_findings content places).starts
  start_as bits number right = right ∙ read_same made made_is is_truth_value made.start made_is.closed.start bits ∙ is.start.leaves bits

  pub step_as : (state : ℕ) → state < length made.states → Implies ((widened_findings made own).steps state) ((widened_findings content places).steps state)
  step_as state within bits number right =
      let counted = is.long in
      let held = slice_get-held made.states state within in
      let was = slice_get-held content.states state (omega (arith, within, counted)) in
      let images = (is.states state was.0 held.0 was.1 held.1).1 in
      right
      ∙ ap (λ found. behind_through made own found bits) held.1
      ∙ read_same made made_is is_in_letters held.0.next (followed made own made_is.closed state held.0 held.1) bits
      ∙ images.leaves bits
      ∙ sym (ap (λ found. behind_through content places found bits) was.1)

-- what has the signs of a content has its values, where there is an answer
pub values_same : (meaning : Meaning) (content : Content Sign) (result : Result (Content Sign) StepFault) → IfOk result (λ made. made.mode ≡ content.mode)
    → IfOk result (λ made. made.variables ≡ content.variables)
    → IfOk result (λ made. (word : Word) → IsWordOver content.variables word → sign_of made word ≡ sign_of content word) → HasValues meaning content → IfOk result (HasValues meaning)
values_same meaning content (Ok made) mode_is variables_are signs values = HasValues-same meaning content made mode_is variables_are signs values
values_same meaning content (Err fault) mode_is variables_are signs values = tt
