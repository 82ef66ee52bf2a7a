-- The automata that are lent for the imports of a source, and the answers that they stand for.
use Rattle.std.specs.Prelude.{◌≡◌, List, [], ◌∷◌, map}
use Rattle.ms_logic.specs.declared.assignment.Value.{Value}
use Rattle.ms_logic.specs.declared.checked.ImportUse.{ImportUse}
use Rattle.ms_logic.specs.declared.mode.Mode.{Mode}
use Rattle.ms_logic.specs.declared.mode.Order.{Order}
use Rattle.ms_logic_words.specs.declared.sign.Sign.{Sign}
use Rattle.ms_logic.specs.Assignment.{Universe, AreValuesOf, IsUniverseOf}
use Rattle.ms_logic_words.specs.Content.{Content, answer_of, variables_by_place}
use Rattle.ms_logic_words.specs.Signs.{answer_for}
use Rattle.ms_logic.specs.Truth.{Answer}
use Rattle.ms_logic.specs.View.{Answers}

-- the orders of the variables that an import names, in the order of its pairs
abbrev pub orders_of_pairs : ImportUse → List Order
orders_of_pairs used = map (λ pair. pair.order) used.pairs

-- an automaton of the source's mode over the variables of an import, by their places
pub record IsLentFor (mode : Mode) (used : ImportUse) (content : Content Sign) : Type 0 where
  pub mode_is : content.mode ≡ mode
  pub variables : content.variables ≡ variables_by_place (orders_of_pairs used)

-- one for each import
abbrev pub AreLentFor : Mode → List ImportUse → List (Content Sign) → Type 0
AreLentFor mode [] [] = Unit {0}
AreLentFor mode [] (content ∷ contents) = ⊥
AreLentFor mode (used ∷ uses) [] = ⊥
AreLentFor mode (used ∷ uses) (content ∷ contents) = IsLentFor mode used content × AreLentFor mode uses contents

-- the answer of an import is that of the automaton, at all values of the orders of its variables
abbrev pub IsAnswerOf : Mode → ImportUse → (Universe → List Value → Answer) → Content Sign → Type 0
IsAnswerOf mode used answer content =
    (universe : Universe) (values : List Value) → IsUniverseOf mode universe → AreValuesOf universe (orders_of_pairs used) values
    → answer universe values ≡ answer_of answer_for content universe values

-- one for each import
abbrev pub AreAnswersOf : Mode → List ImportUse → Answers → List (Content Sign) → Type 0
AreAnswersOf mode [] [] [] = Unit {0}
AreAnswersOf mode (used ∷ uses) (answer ∷ answers) (content ∷ contents) = IsAnswerOf mode used answer content × AreAnswersOf mode uses answers contents
AreAnswersOf mode uses answers contents = ⊥
