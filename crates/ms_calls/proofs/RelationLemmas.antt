-- The automaton of a relation has the signs of the full content in which each place has a variable of its own, at the words that are read by
-- place. So starts lead it to no more references than that content has states and nodes.
use Rattle.std.proofs.Common.{◌≡◌, ℕ, ◌<◌, ◌≤◌, ◌↔◌, Bool, List, [], length, map, slice_index_or, Some, sym, ap, subst, ◌∙◌, arith}
use Rattle.std.proofs.lemmas.List.{get_or-map, length-map, map-append}
use Rattle.ms_list.specs.declared.word.Word.{Word}
use Rattle.ms_dfa.specs.Narrow.{ReadsThrough, narrowed, narrowed_letter}
use Rattle.ms_dfa.specs.Values.{HasValues, core_meaning}
use Rattle.ms_dfa.proofs.NarrowLemmas.{narrowed_assigned, narrowed_encodes, narrowed_over}
use Rattle.ms_dfa.proofs.OwnMeaningLemmas.{last_within}
use Rattle.ms_dfa.proofs.ValuesLemmas.{IsMeaning-core}
use Rattle.ms_diagram.specs.Bring.{read_through}
use Rattle.ms_logic.specs.Assignment.{Env, IsAssignment, Variable}
use Rattle.ms_logic.specs.OrderLaws.{GiveSameValues}
use Rattle.ms_logic_core.specs.CoreForm.{Holds, basic}
use Rattle.ms_logic_core.specs.Operands.{at_places, variables_of_basic}
use Rattle.ms_logic_core.specs.declared.core_formula.Basic.{Basic}
use Rattle.ms_logic_measures.specs.CallMeasures.{HasReachedParts, LeaveSame}
use Rattle.ms_logic_measures.specs.FullContent.{HasValueOn, part_count}
use Rattle.ms_logic_measures.specs.Starts.{IsStartOver, Start}
use Rattle.ms_logic_starts.specs.AtLeast.{IsAtLeastNumber}
use Rattle.ms_logic_starts.proofs.AtLeastLemmas.{at_most_count}
use Rattle.ms_logic_starts.proofs.ReachedPartsLemmas.{canonical_reached}
use Rattle.ms_logic_words.specs.Canonical.{IsCanonical}
use Rattle.ms_logic_words.specs.Content.{AreLetters, Content, IsWordOver, last_state, sign_at, sign_of, state_after}
use Rattle.ms_logic_words.specs.Residual.{HaveDifferentResiduals, HaveEqualResiduals}
use Rattle.ms_logic_words.specs.Word.{Encodes}
use Rattle.ms_logic_words.specs.declared.sign.Sign.{Sign}
use Rattle.ms_logic_words.specs.declared.sign.Sign.TheVariants.{Yes, No, Undefined, Outside}
use Rattle.ms_logic_words.proofs.WordLaws.{encoding_is_unique}
use Rattle.ms_minim.specs.SignReading.{IsRead}
use Rattle.ms_minim.proofs.LettersLemmas.{over-with_letters, sign_of-with_letters, with_letters}
use Rattle.ms_minim_canonical.proofs.ContentLemmas.{IsClosed-content}
use Rattle.ms_calls.specs.Relations.{RelationsHaveFewParts}
use Rattle.ms_calls.proofs.Expanded.{AreReadAt}
use Rattle.ms_calls.proofs.Own.{as_read, left_is, word_of, word_of-over}
use Rattle.ms_calls.proofs.Parts.{leave_same}
use Rattle.ms_calls.proofs.PlaceOrder.{given_by_place, in_order, place_variables_read, places, values_by_place, values_read}
use Rattle.ms_calls.proofs.PlaceValues.{GivesByPlace, holds_by_place}
use Rattle.ms_calls.proofs.PlaceWords.{encodes_wide, is_start_over, left_is_read, start_over}

-- an automaton no two states of which are alike, with the signs of a canonical content over variables that are read at places of its own
module _ (made full : Content Sign) (is : IsRead made) (canonical : IsCanonical full) (read_at : List ℕ) (are : AreReadAt full.variables made.variables read_at)
    (differ : HaveDifferentResiduals made) where
  abbrev read_word : Word → Word
  read_word word = narrowed read_at full.variables made.variables word

  abbrev read_letters : List (List Bool) → List (List Bool)
  read_letters letters = map (narrowed_letter read_at full.variables made.variables) letters

  abbrev over_places : Start → Start
  over_places start = start_over full.variables made.variables read_at are start

  abbrev HaveSignsRead : Type 0
  HaveSignsRead = (word : Word) → IsWordOver made.variables word → sign_of made word ≡ sign_of full (read_word word)

  module _ (signs : HaveSignsRead) where
    behind_word : (word : Word) → IsWordOver made.variables word → (letters : List (List Bool)) → AreLetters made.variables letters
        → sign_at made (state_after made (last_state made word) letters) ≡ sign_at full (state_after full (last_state full (read_word word)) (read_letters letters))
    behind_word word over letters letters_are =
        sym (sign_of-with_letters made word letters)
        ∙ signs (with_letters word letters) (over-with_letters made.variables word letters over letters_are)
        ∙ ap (λ more. sign_of full (record { truth = (read_word word).truth; letters = more }))
        (map-append (narrowed_letter read_at full.variables made.variables) word.letters letters)
        ∙ sign_of-with_letters full (read_word word) (read_letters letters)

    -- starts that leave the same of the content leave the same of the automaton
    same_left : (one two : Start) → IsStartOver made.variables one → IsStartOver made.variables two
        → LeaveSame full full.variables (over_places one) (over_places two) → LeaveSame made made.variables one two
    same_left one two is_one is_two alike rest =
        let closed = IsClosed-content full canonical.rules in
        let ordered = canonical.rules.ordered in
        let first = word_of made.variables one rest in
        let second = word_of made.variables two rest in
        let state : last_state full (read_word first) ≡ last_state full (read_word second) =
        sym (left_is_read full ordered closed made.variables read_at are one rest) ∙ alike (read_through read_at rest)
        ∙ left_is_read full ordered closed made.variables read_at are two rest in
        let residuals : HaveEqualResiduals made (last_state made first) (last_state made second) = λ letters letters_are.
        behind_word first (word_of-over made.variables one rest is_one) letters letters_are
        ∙ ap (λ s. sign_at full (state_after full s (read_letters letters))) state
        ∙ sym (behind_word second (word_of-over made.variables two rest is_two) letters letters_are) in
        left_is made is one rest is_one
        ∙ differ (last_state made first) (last_state made second) (last_within made is.closed first) (last_within made is.closed second) residuals
        ∙ sym (left_is made is two rest is_two)

    few : (n : ℕ) → HasReachedParts made n → n ≤ part_count full
    few n mine =
        let chosen = mine.chosen in
        let long = length-map chosen over_places in
        let at : (i : ℕ) (default : Start) → i < length chosen → slice_index_or (map over_places chosen) i default ≡ over_places (slice_index_or chosen i default)
        = λ i default within. get_or-map over_places chosen i default default within in
        let apart : IsAtLeastNumber (LeaveSame full full.variables) (IsStartOver full.variables) n = record {
          chosen = map over_places chosen;
          items = λ i default within.
              let below : i < length chosen = omega (arith, within, long) in
              subst (IsStartOver full.variables) (sym (at i default below))
              (is_start_over full.variables made.variables read_at are (slice_index_or chosen i default) (mine.items i default below));
          different = λ i j default before within alike.
              let later : j < length chosen = omega (arith, within, long) in
              let below : i < length chosen = omega (arith, before, later) in
              mine.different i j default before later
              (same_left (slice_index_or chosen i default) (slice_index_or chosen j default) (mine.items i default below) (mine.items j default later)
              (subst (λ (start : Start). LeaveSame full full.variables start (over_places (slice_index_or chosen j default))) (at i default below)
              (subst (λ (start : Start). LeaveSame full full.variables (slice_index_or (map over_places chosen) i default) start) (at j default later) alike)));
          count = (let all = mine.count in omega (arith, all, long));
        } in
        at_most_count (LeaveSame full full.variables) (IsStartOver full.variables) (leave_same full full.variables) n (part_count full) apart
        (canonical_reached full canonical are.own)

-- the full content of a relation by place, over the variables that it has
module _ (b : Basic) (made full : Content Sign) where
  abbrev vs : List Variable
  vs = variables_of_basic b

  abbrev by_place : Basic
  by_place = at_places b

  -- what is right of the relation is right by place
  right_by_place : (e f : Env) → (Holds b e ↔ Holds (at_places b) f) → (sign : Sign) → core_meaning [] (basic b) e sign → core_meaning [] (basic by_place) f sign
  right_by_place e f same Yes right = same.0 right
  right_by_place e f same No right = λ holds. right (same.1 holds)
  right_by_place e f same Undefined right = absurd (right.1 right.0)
  right_by_place e f same Outside right = right

  module _ (are : AreReadAt full.variables made.variables (places vs)) (reads : (e : Env) → ReadsThrough (places vs) full.variables made.variables (values_by_place vs e) e)
      (same_values : (e f : Env) → GiveSameValues full.variables f (values_by_place vs e) → GivesByPlace vs e f) (values : HasValues (core_meaning [] (basic b)) made) where
    abbrev read : Word → Word
    read word = narrowed (places vs) full.variables made.variables word

    module _ (word : Word) (over : IsWordOver made.variables word) where
      -- a sign that is right at the assignment of the word that is read is that of the word
      inside : (value : Sign) (f : Env) → IsAssignment made.mode full.variables f → Encodes full.variables (read word) f → core_meaning [] (basic by_place) f value
          → sign_of made word ≡ Some value
      inside value f assigned encodes right =
          let found = encodes_wide full.variables made.variables (places vs) are made.mode word over (f, assigned, encodes) in
          let e = found.0 in
          let own = values.right word e found.1 found.2 in
          let given = values_by_place vs e in
          let given_assigned = narrowed_assigned (places vs) full.variables made.variables given e (reads e) made.mode found.1 in
          let given_encodes = narrowed_encodes (places vs) full.variables made.variables given e (reads e) word found.2 in
          let same = encoding_is_unique made.mode full.variables (read word) f given assigned given_assigned encodes given_encodes in
          let also = right_by_place e f (holds_by_place e f same.0 b (same_values e f same.1)) own.0 own.2 in
          own.1 ∙ ap Some ((IsMeaning-core made.mode full.variables [] (basic by_place)).one f own.0 value assigned also right)

      sign_by_value : (value : Sign) → HasValueOn [] made.mode full.variables (basic by_place) (read word) value → sign_of made word ≡ Some value
      sign_by_value Yes has = inside Yes has.0 has.1 has.2 has.3
      sign_by_value No has = inside No has.0 has.1 has.2 has.3
      sign_by_value Undefined has = inside Undefined has.0 has.1 has.2 has.3
      sign_by_value Outside has = values.outside word over (λ encoding.
          let e = encoding.0 in
          let given = values_by_place vs e in
          has (
            given,
            narrowed_assigned (places vs) full.variables made.variables given e (reads e) made.mode encoding.1,
            narrowed_encodes (places vs) full.variables made.variables given e (reads e) word encoding.2,
          ))

pub relations_have_few_parts : RelationsHaveFewParts
relations_have_few_parts mode b made orders is m r measure n counted =
    let vs = variables_of_basic b in
    let full = measure.made.0 in
    let content = measure.made.1 in
    let parts = measure.made.2 in
    let Read : List Variable → List Variable → Type 0 = λ narrow wide.
    AreReadAt narrow wide (places vs) × ((e : Env) → ReadsThrough (places vs) narrow wide (values_by_place vs e) e)
    × ((e f : Env) → GiveSameValues narrow f (values_by_place vs e) → GivesByPlace vs e f) in
    let read : Read full.variables made.variables =
    subst (λ narrow. Read narrow made.variables) (sym content.same_variables)
    (subst (Read (in_order vs)) (sym is.variables) (place_variables_read vs orders, values_read vs orders, given_by_place vs)) in
    let signs : (word : Word) → IsWordOver made.variables word → sign_of made word ≡ sign_of full (narrowed (places vs) full.variables made.variables word) = λ word over.
    let there = narrowed (places vs) full.variables made.variables word in
    let found = content.values there (subst (λ us. IsWordOver us there) content.same_variables (narrowed_over (places vs) full.variables made.variables word)) in
    let has : HasValueOn [] made.mode full.variables (basic (at_places b)) there found.0 =
    subst (λ us. HasValueOn [] made.mode us (basic (at_places b)) there found.0) (sym content.same_variables)
    (subst (λ universe. HasValueOn [] universe (in_order vs) (basic (at_places b)) there found.0) (sym is.universe) found.2) in
    sign_by_value b made full read.0 read.1 read.2 is.values word over found.0 has ∙ sym found.1 in
    let less = few made full (as_read made is.automaton) content.canonical (places vs) read.0 is.differ signs n counted in
    omega (arith, less, parts)
