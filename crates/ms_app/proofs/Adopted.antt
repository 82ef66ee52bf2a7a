-- The automata that imports have become are lent to a source, and give the answers of its imports.
use Rattle.std.proofs.Common.{◌≡◌, ℕ, ◌+◌, List, [], ◌∷◌, map, sym, subst}
use Rattle.ms_dfafile_adopt.specs.Import.{adopted_meaning, answer_of_file}
use Rattle.ms_dfafile_adopt.proofs.LawLemmas.{answers_as_file}
use Rattle.ms_build.proofs.WholeLemmas.{rising-by_place}
use Rattle.ms_dfa.specs.declared.plain.Plain.{Plain}
use Rattle.ms_dfafile_imports.specs.Adopted.{AreAdopted, IsAdopted}
use Rattle.ms_dfafile_imports.specs.Imports.{answers_by}
use Rattle.ms_logic.specs.declared.assignment.Value.{Value}
use Rattle.ms_logic.specs.declared.checked.ImportUse.{ImportUse}
use Rattle.ms_logic.specs.declared.mode.Mode.{Mode}
use Rattle.ms_logic.specs.declared.mode.Order.{Order}
use Rattle.ms_logic_words.specs.declared.sign.Sign.{Sign}
use Rattle.ms_logic.specs.Assignment.{Universe, AreValuesOf, Variable, IsUniverseOf}
use Rattle.ms_logic_words.specs.Content.{Content, variables_by_place, variables_from}
use Rattle.ms_logic.specs.Lists.{AreRising}
use Rattle.ms_build_source.specs.Imported.{AreAnswersOf, AreLentFor, IsAnswerOf, orders_of_pairs}
use Rattle.ms_dfa.specs.Values.{HasValues}

pub are_lent : (limit : ℕ) (mode : Mode) (uses : List ImportUse) (plains : List Plain) (contents : List (Content Sign)) → AreAdopted limit mode uses plains contents → AreLentFor mode uses contents
are_lent limit mode [] [] [] are = tt
are_lent limit mode [] [] (content ∷ contents) are = absurd are
are_lent limit mode [] (plain ∷ plains) contents are = absurd are
are_lent limit mode (used ∷ uses) [] contents are = absurd are
are_lent limit mode (used ∷ uses) (plain ∷ plains) [] are = absurd are
are_lent limit mode (used ∷ uses) (plain ∷ plains) (content ∷ contents) are = (record { mode_is = are.0.mode_is; variables = are.0.variables_are }, are_lent limit mode uses plains contents are.1)

values_over : (universe : Universe) (k : ℕ) (orders : List Order) (values : List Value) → AreValuesOf universe orders values → AreValuesOf universe (map (λ v. v.order) (variables_from k orders)) values
values_over universe k [] [] are = tt
values_over universe k [] (value ∷ values) are = absurd are
values_over universe k (order ∷ orders) [] are = absurd are
values_over universe k (order ∷ orders) (value ∷ values) are = (are.0, values_over universe (k + 1) orders values are.1)

module _ (limit : ℕ) (mode : Mode) (used : ImportUse) (plain : Plain) (content : Content Sign) (is : IsAdopted limit mode used plain content) where
  abbrev names : List (List ℕ)
  names = map (λ pair. pair.name) used.pairs

  gives_answer : IsAnswerOf mode used (answer_of_file plain names) content
  gives_answer universe values is_universe are =
      let over : content.variables ≡ variables_by_place (orders_of_pairs used) = is.variables_are in
      let V : List Variable → Type 0 = λ vs. AreValuesOf universe (map (λ v. v.order) vs) values in
      let M : List Variable → Type 0 = λ vs. HasValues (adopted_meaning plain names vs) content in
      let said =
      answers_as_file plain names content (subst AreRising (sym over) (rising-by_place 0 (orders_of_pairs used))) (subst M (sym over) is.values) universe values
      (subst (λ m. IsUniverseOf m universe) (sym is.mode_is) is_universe) (subst V (sym over) (values_over universe 0 (orders_of_pairs used) values are)) in
      sym said

pub are_answers : (limit : ℕ) (mode : Mode) (uses : List ImportUse) (plains : List Plain) (contents : List (Content Sign)) → AreAdopted limit mode uses plains contents → AreAnswersOf mode uses (answers_by uses plains) contents
are_answers limit mode [] [] [] are = tt
are_answers limit mode [] [] (content ∷ contents) are = absurd are
are_answers limit mode [] (plain ∷ plains) contents are = absurd are
are_answers limit mode (used ∷ uses) [] contents are = absurd are
are_answers limit mode (used ∷ uses) (plain ∷ plains) [] are = absurd are
are_answers limit mode (used ∷ uses) (plain ∷ plains) (content ∷ contents) are = (gives_answer limit mode used plain content are.0, are_answers limit mode uses plains contents are.1)
