-- The content by which a file is measured runs as the file's own content does.
use Rattle.std.proofs.Common.{◌≡◌, ℕ, Bool, List, [], ◌∷◌, map, slice_get, Option, Some, None, refl, sym, ap, subst, ◌∙◌, arith}
use Rattle.std.specs.Option.{option_map}
use Rattle.std.proofs.lemmas.List.{length-map}
use Rattle.std.proofs.lemmas.Option.{get_or_from_slice_get, slice_get-map, slice_get_within}
use Rattle.ms_arena.specs.declared.node.Ref.{Ref}
use Rattle.ms_arena.proofs.Lists.{slice_get-held}
use Rattle.ms_rename.proofs.LeastLemmas.{last_same, over}
use Rattle.ms_dfa.specs.Files.{content_of_file, file_states_of}
use Rattle.ms_dfa.specs.declared.plain.FileSign.{FileSign}
use Rattle.ms_dfa.specs.declared.plain.FileState.{FileState}
use Rattle.ms_dfa.specs.declared.plain.FileVar.{FileVar}
use Rattle.ms_dfa.specs.declared.plain.Plain.{Plain}
use Rattle.ms_dfafile.specs.File.{IsFile}
use Rattle.ms_dfafile_adopt.specs.Readings.{own_variables}
use Rattle.ms_dfafile_adopt.proofs.VariableLemmas.{by_place-at}
use Rattle.ms_list.specs.declared.word.Word.{Word}
use Rattle.ms_logic.specs.Assignment.{Variable}
use Rattle.ms_logic.specs.Truth.{Answer}
use Rattle.ms_logic.specs.declared.checked.MapPair.{MapPair}
use Rattle.ms_logic.specs.declared.mode.Order.{Order}
use Rattle.ms_logic_words.specs.Content.{Content, HasValueAt, IsClosed, IsFollowed, StateOf, first_state, is_in_letters, is_truth_value, last_state, next_from, next_state, state_after}
use Rattle.ms_minim_canonical.proofs.ContentLemmas.{IsClosed-content}
use Rattle.ms_dfafile_adopt_parts.specs.Files.{answering, content_for, paired}
use Rattle.ms_dfafile_adopt_parts.proofs.Naming.{same_orders}

abbrev as_filed : FileState → StateOf FileSign
as_filed state = record { sign = state.sign; next = state.next }

module _ (plain : Plain) (pairs : List MapPair) where
  abbrev filed : Content FileSign
  filed = content_of_file plain

  abbrev measured : Content Answer
  measured = content_for pairs plain

  abbrev us : List Variable
  us = map (paired pairs) plain.variables

  -- the same content, over the variables by their own places
  abbrev own : Content Answer
  own = over plain.mode (own_variables plain) measured

  next_alike : (found : Option FileState) (letter : List Bool) → next_from filed (option_map as_filed found) letter ≡ next_from own (option_map answering found) letter
  next_alike None letter = refl
  next_alike (Some state) letter = refl

  after_alike : (letters : List (List Bool)) (state : ℕ) → state_after filed state letters ≡ state_after own state letters
  after_alike [] state = refl
  after_alike (letter ∷ letters) state =
      after_alike letters (next_state filed state letter)
      ∙ ap (λ s. state_after own s letters)
      (ap (λ found. next_from filed found letter) (slice_get-map as_filed plain.states state)
      ∙ next_alike (slice_get plain.states state) letter
      ∙ ap (λ found. next_from own found letter) (sym (slice_get-map answering plain.states state)))

  pub run_alike : (word : Word) → last_state filed word ≡ last_state measured word
  run_alike word = after_alike word.letters (first_state filed word.truth) ∙ last_same measured plain.mode (own_variables plain) (sym (same_orders plain pairs)) word

  module _ (file : IsFile plain) where
    closed : IsClosed filed
    closed = IsClosed-content filed file.content

    value_there : (has_value : Order → Bool) (place : ℕ) → HasValueAt (own_variables plain) has_value place → HasValueAt us has_value place
    value_there has_value place at =
        let orders = map (λ (variable : FileVar). variable.order) plain.variables in
        let here = (by_place-at 0 orders place at.0 at.1).1 in
        let within = slice_get_within orders place at.0.order here in
        let long = length-map plain.variables (λ (variable : FileVar). variable.order) in
        let held = slice_get-held plain.variables place (omega (arith, within, long)) in
        let same : at.0.order ≡ held.0.order = (
        let found : Some at.0.order ≡ Some held.0.order = sym here ∙ slice_get-map (λ (variable : FileVar). variable.order) plain.variables place ∙ ap (option_map (λ (variable : FileVar). variable.order)) held.1 in cc) in (
          paired pairs held.0,
          slice_get-map (paired pairs) plain.variables place ∙ ap (option_map (paired pairs)) held.1,
          subst (λ o. has_value o ≡ has_value at.0.order) same refl ∙ at.2,
        )

    followed : (has_value : Order → Bool) (reference : Ref) → IsFollowed filed has_value reference → IsFollowed measured has_value reference
    followed has_value reference follows = record {
      valid = follows.valid;
      states = λ bits. (
          let leads = follows.states bits in
          let one = length-map plain.states as_filed in
          let other = length-map plain.states answering in
          omega (arith, leads, one, other));
      tests = λ var tested. value_there has_value var (follows.tests var tested);
    }

    pub measured_closed : IsClosed measured
    measured_closed = record {
      start = followed is_truth_value plain.start closed.start;
      next = λ k d within.
          let long = length-map plain.states answering in
          let held = slice_get-held plain.states k (omega (arith, within, long)) in
          let here = slice_get-map as_filed plain.states k ∙ ap (option_map as_filed) held.1 in
          let there = slice_get-map answering plain.states k ∙ ap (option_map answering) held.1 in
          let own = subst (λ (s : StateOf FileSign). IsFollowed filed is_in_letters s.next) (get_or_from_slice_get (file_states_of plain.states) k (as_filed held.0) (as_filed held.0) here)
          (closed.next k (as_filed held.0) (slice_get_within (file_states_of plain.states) k (as_filed held.0) here)) in
          subst (λ (s : StateOf Answer). IsFollowed measured is_in_letters s.next) (sym (get_or_from_slice_get (map answering plain.states) k (answering held.0) d there)) (followed is_in_letters held.0.next own);
    }
