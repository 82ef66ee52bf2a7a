-- The import of a file has a measure, so a limit that is at least each of its budgets is not below it.
use Rattle.std.proofs.Common.{◌≡◌, ℕ, List, [], length, map, slice_get, sym, subst, ◌∙◌, arith}
use Rattle.std.proofs.lemmas.List.{length-map}
use Rattle.std.proofs.lemmas.Option.{get_or_from_slice_get, slice_get_within}
use Rattle.ms_arena.specs.declared.node.Ref.{Ref}
use Rattle.ms_arena.specs.declared.node.Ref.TheVariants.{Leaf, Inner}
use Rattle.ms_dfa.specs.Files.{content_of_file}
use Rattle.ms_dfa.specs.declared.plain.FileSign.{FileSign}
use Rattle.ms_dfa.specs.declared.plain.FileState.{FileState}
use Rattle.ms_dfa.specs.declared.plain.FileVar.{FileVar}
use Rattle.ms_dfa.specs.declared.plain.Plain.{Plain}
use Rattle.ms_dfafile.specs.File.{IsFile}
use Rattle.ms_dfafile_adopt.proofs.MapLemmas.{is_item, was_item}
use Rattle.ms_dfafile_adopt.proofs.VariableLemmas.{length-by_place}
use Rattle.ms_dfafile_adopt_parts.specs.Files.{answering, content_for, paired}
use Rattle.ms_dfafile_adopt_parts.proofs.Filed.{measured_closed}
use Rattle.ms_logic.specs.Assignment.{Variable}
use Rattle.ms_logic.specs.Truth.{Answer, Import}
use Rattle.ms_logic.specs.declared.checked.MapPair.{MapPair}
use Rattle.ms_logic.specs.declared.mode.Mode.{Mode}
use Rattle.ms_logic_readers.specs.Scoped.{AreDistinct}
use Rattle.ms_logic_contents.proofs.FullContents.{full_contents_exist}
use Rattle.ms_logic_core.specs.CoreForm.{truth}
use Rattle.ms_logic_core.specs.Spread.{variables_of_import}
use Rattle.ms_logic_counts.proofs.CallLemmas.{adopts_are_measured}
use Rattle.ms_logic_measures.specs.Budgets.{IsMeasureOf, pair_variables}
use Rattle.ms_logic_measures.specs.FullContent.{HasValueOn, IsFullContent}
use Rattle.ms_logic_measures.specs.Steps.{import_of_source}
use Rattle.ms_logic_words.specs.Content.{Content, IsContent, IsFollowed, NamesPart, StateOf, is_in_letters}
use Rattle.ms_logic_words.specs.declared.sign.Sign.{Sign}
use Rattle.ms_logic_words.specs.declared.sign.Sign.TheVariants.{Yes, No, Undefined, Outside}
use Rattle.ms_list.specs.declared.word.Word.{Word}
use Rattle.ms_dfafile_adopt_parts.specs.Laws.{EnoughIsNotBelowImport}
use Rattle.ms_logic_readers.proofs.Places.{by_place_distinct}

abbrev as_filed : FileState → StateOf FileSign
as_filed state = record { sign = state.sign; next = state.next }

-- the content by which a file is measured has the rules of a content
module _ (plain : Plain) (pairs : List MapPair) (file : IsFile plain) where
  abbrev filed : Content FileSign
  filed = content_of_file plain

  abbrev measured : Content Answer
  measured = content_for pairs plain

  states_long : length measured.states ≡ length filed.states
  states_long = length-map plain.states answering ∙ sym (length-map plain.states as_filed)

  variables_long : length measured.variables ≡ length filed.variables
  variables_long =
      length-map plain.variables (paired pairs)
      ∙ sym (length-map plain.variables (λ (variable : FileVar). variable.order))
      ∙ sym (length-by_place 0 (map (λ (variable : FileVar). variable.order) plain.variables))

  named_alike : (reference : Ref) → NamesPart filed reference → NamesPart measured reference
  named_alike (Leaf state) named = let long = states_long in omega (arith, named, long)
  named_alike (Inner place) named = named

  content_rules : IsContent measured
  content_rules = record {
    some_state = (let long = states_long in let some = file.content.some_state in omega (arith, long, some));
    ordered = file.content.ordered;
    start_named = named_alike plain.start file.content.start_named;
    next_named = λ i state held.
        let was = was_item answering plain.states i state held in
        subst (λ (s : StateOf Answer). NamesPart measured s.next) was.2
        (named_alike was.0.next (file.content.next_named i (as_filed was.0) (is_item as_filed plain.states i was.0 was.1)));
    low_named = λ place node held. named_alike node.low (file.content.low_named place node held);
    high_named = λ place node held. named_alike node.high (file.content.high_named place node held);
    variables = λ place node held. (let long = variables_long in let below = file.content.variables place node held in omega (arith, long, below));
    start_tests = (measured_closed plain pairs file).start.tests;
    next_tests = λ i state held.
        (subst (λ (s : StateOf Answer). IsFollowed measured is_in_letters s.next) (get_or_from_slice_get measured.states i state state held)
        ((measured_closed plain pairs file).next i state (slice_get_within measured.states i state held))).tests;
  }

-- the full content of `true`, which reads no imports
module _ (imports : List Import) (mode : Mode) (variables : List Variable) where
  truth_alike : (word : Word) (value : Sign) → HasValueOn [] mode variables truth word value → HasValueOn imports mode variables truth word value
  truth_alike word Yes is = is
  truth_alike word No is = is
  truth_alike word Undefined is = is
  truth_alike word Outside is = is

  encodings_exist : AreDistinct variables → (content : Content Sign) × IsFullContent imports mode variables truth content
  encodings_exist distinct =
      let made = full_contents_exist [] mode [] variables truth tt distinct tt in (
        made.0,
        record {
          covers = made.1.covers;
          canonical = made.1.canonical;
          same_mode = made.1.same_mode;
          same_variables = made.1.same_variables;
          values = λ word over. let found = made.1.values word over in (found.0, found.1, truth_alike word found.0 found.2);
        },
      )

pair_variables_distinct : (imports : List Import) (i : ℕ) → AreDistinct (pair_variables imports i)
pair_variables_distinct imports i = by_place_distinct 0 (map (λ (v : Variable). v.order) (variables_of_import (slice_get imports i)))

pub enough_is_not_below_import : EnoughIsNotBelowImport
enough_is_not_below_import imports mode files i plain pairs limit file same held enough below =
    let encodings = encodings_exist imports mode (pair_variables imports i) (pair_variables_distinct imports i) in
    adopts_are_measured (content_for pairs plain) encodings.0 (content_rules plain pairs file) encodings.1.canonical.rules
    (λ found.
    let measure : IsMeasureOf imports mode files (import_of_source i) found.0 found.1 = (content_for pairs plain, encodings.0, held, encodings.1, found.2) in
    let within = enough found.0 found.1 measure in
    let above = below imports files i found.0 found.1 same held measure in
    omega (arith, within, above))
