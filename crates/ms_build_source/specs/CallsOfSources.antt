-- What the calls of a source stand for.
use Rattle.std.specs.Prelude.{List, length, map}
use Rattle.ms_logic_core.specs.Calls.{Calls}
use Rattle.ms_logic.specs.declared.assignment.Value.{Value}
use Rattle.ms_logic.specs.declared.checked.Checked.{Checked}
use Rattle.ms_logic.specs.declared.checked.ImportUse.{ImportUse}
use Rattle.ms_logic.specs.Assignment.{Universe}
use Rattle.ms_logic.specs.Truth.{Answer, answer_undefined}
use Rattle.ms_logic.specs.View.{problem_of, Answers}
use Rattle.ms_lower.specs.Calling.{calls_of}

-- an import that answers nothing
abbrev pub silent : ImportUse → Universe → List Value → Answer
silent used universe values = answer_undefined

abbrev pub silent_answers : Checked → Answers
silent_answers checked = map silent checked.imports

-- what calls stand for is the same whatever the imports answer
abbrev pub source_calls : Checked → Calls
source_calls checked = calls_of (length checked.globals) (problem_of checked (silent_answers checked)).given
