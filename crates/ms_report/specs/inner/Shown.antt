-- What is shown of an answer, as code writes it: a head, and then the lines, in one of two spellings.
use Rattle.std.specs.Prelude.{ℕ, List, [], ◌∷◌, ◌++◌, codes, Option, Some, None}
use Rattle.std.specs.Fmt.{decimal}
use Rattle.ms_logic.specs.declared.assignment.Assignment.{Assignment}
use Rattle.ms_logic.specs.declared.assignment.Value.{Value}
use Rattle.ms_logic.specs.FiniteSet.{IsRising}
use Rattle.ms_logic.specs.Lists.{Each}
use Rattle.ms_report.specs.declared.shown_text.Spelling.{Spelling}
use Rattle.ms_report.specs.declared.shown_text.Spelling.TheVariants.{AsValue, AsNumber}
use Rattle.ms_report.specs.declared.found.Answer.{Answer}
use Rattle.ms_report.specs.Numbers.{AreSets, members_of, number_answer_of, number_of_set, number_report_of, number_text, numbers_in, numbers_text}
use Rattle.ms_report.specs.Report.{answer_text, assignment_text, value_text}

-- the word for the length
abbrev pub measure_of : Spelling → List ℕ
measure_of AsValue = codes " length "
measure_of AsNumber = codes " digits "

-- a value is spelled by itself, or by the number of its set
abbrev pub spelled : Spelling → Value → List ℕ
spelled AsValue value = value_text value
spelled AsNumber value = number_text (number_of_set (members_of value))

-- the line on the length, or that there is nothing
abbrev pub head_text : List ℕ → List ℕ → Option Assignment → List ℕ
head_text word measure None = codes "no " ++ word ++ 10 ∷ []
head_text word measure (Some found) = word ++ measure ++ decimal found.length ++ 10 ∷ []

abbrev pub shown_text : Spelling → List ℕ → List (List ℕ) → Option Assignment → List ℕ
shown_text AsValue word names found = assignment_text word names found
shown_text AsNumber word names found = numbers_text word names (numbers_in found)

-- the verdict, the example and the counterexample
abbrev pub block_text : Spelling → List (List ℕ) → Answer → List ℕ
block_text AsValue names answer = answer_text names answer
block_text AsNumber names answer = number_report_of names (number_answer_of answer)

-- what can be spelled so: any value, and a set whose members rise
abbrev pub IsSpelled : Spelling → Value → Type 0
IsSpelled AsValue value = Unit {0}
IsSpelled AsNumber value = IsRising (members_of value)

abbrev pub AreSpelled : Spelling → List Value → Type 0
AreSpelled AsValue values = Unit {0}
AreSpelled AsNumber values = Each (λ value. IsRising (members_of value)) values

abbrev pub IsShown : Spelling → Option Assignment → Type 0
IsShown AsValue found = Unit {0}
IsShown AsNumber found = AreSets found

abbrev pub IsBlock : Spelling → Answer → Type 0
IsBlock AsValue answer = Unit {0}
IsBlock AsNumber answer = AreSets answer.example × AreSets answer.counterexample
