-- What an adopted file answers as an import.
use Rattle.std.specs.Prelude.{◌≡◌, ℕ, List, map}
use Rattle.ms_logic.specs.declared.assignment.Value.{Value}
use Rattle.ms_logic_words.specs.declared.sign.Sign.{Sign}
use Rattle.ms_logic.specs.Assignment.{Universe, AreValuesOf, IsUniverseOf}
use Rattle.ms_logic_words.specs.Content.{Content, answer_of}
use Rattle.ms_logic.specs.Lists.{AreRising}
use Rattle.ms_dfa.specs.declared.plain.Plain.{Plain}
use Rattle.ms_dfa.specs.Values.{HasValues}
use Rattle.ms_dfafile_adopt.specs.Import.{adopted_meaning, answer_of_file}
use Rattle.ms_logic_words.specs.Signs.{answer_for}

-- a content over rising variables with the values of a file answers what the file says, at all values of its variables
abbrev pub AnswersAsFile : Type 0
AnswersAsFile =
    (plain : Plain) (names : List (List ℕ)) (content : Content Sign) → AreRising content.variables → HasValues (adopted_meaning plain names content.variables) content
    → (universe : Universe) (values : List Value) → IsUniverseOf content.mode universe → AreValuesOf universe (map (λ v. v.order) content.variables) values
    → answer_of answer_for content universe values ≡ answer_of_file plain names universe values
