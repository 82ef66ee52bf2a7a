-- The report of a decision (docs/FORMATS.md, "Report"): for each question the verdict, the example and the counterexample; and the
-- counts where they are asked for. The same of a formula of temporal logic, and the summary of a generated source.
use Rattle.std.specs.Prelude.{ℕ, Bool, true, false, List, [], ◌∷◌, ◌++◌, codes, Option, Some, None}
use Rattle.std.specs.List.{flat_map}
use Rattle.std.specs.Fmt.{decimal}
use Rattle.ms_logic.specs.declared.assignment.Value.{Value}
use Rattle.ms_logic.specs.declared.assignment.Value.TheVariants.{Truth, Number, Set}
use Rattle.ms_logic.specs.declared.assignment.Assignment.{Assignment}
use Rattle.ms_report.specs.declared.found.Verdict.{Verdict}
use Rattle.ms_report.specs.declared.found.Verdict.TheVariants.{Valid, Unsatisfiable, Contingent, Vacuous}
use Rattle.ms_report.specs.declared.found.Stats.{Stats}
use Rattle.ms_report.specs.declared.found.Answer.{Answer}
use Rattle.ms_report.specs.declared.found.GoalAnswer.{GoalAnswer}
use Rattle.ms_report.specs.declared.found.Found.{Found}

abbrev pub verdict_text : Verdict → List ℕ
verdict_text Valid = codes "valid"
verdict_text Unsatisfiable = codes "unsatisfiable"
verdict_text Contingent = codes "contingent"
verdict_text Vacuous = codes "vacuous"

-- a further member of a set
abbrev pub further_member : ℕ → List ℕ
further_member member = codes ", " ++ decimal member

-- the members with a comma and a blank between them
abbrev pub members_text : List ℕ → List ℕ
members_text [] = []
members_text (first ∷ further) = decimal first ++ flat_map further_member further

abbrev pub truth_text : Bool → List ℕ
truth_text true = codes "true"
truth_text false = codes "false"

abbrev pub value_text : Value → List ℕ
value_text (Truth value) = truth_text value
value_text (Number n) = decimal n
value_text (Set members) = codes "{" ++ members_text members ++ codes "}"

-- a line for each name: the name, and what stands for it
abbrev pub lines_text : {A : Type 0} → (A → List ℕ) → List (List ℕ) → List A → List ℕ
lines_text spelled [] items = []
lines_text spelled (name ∷ names) [] = []
lines_text spelled (name ∷ names) (item ∷ items) = name ++ codes " = " ++ spelled item ++ 10 ∷ [] ++ lines_text spelled names items

-- a line for each global: its name and its value
abbrev pub values_text : List (List ℕ) → List Value → List ℕ
values_text names values = lines_text value_text names values

-- the example or the counterexample, by the word for it
abbrev pub assignment_text : List ℕ → List (List ℕ) → Option Assignment → List ℕ
assignment_text word names None = codes "no " ++ word ++ 10 ∷ []
assignment_text word names (Some found) = word ++ codes " length " ++ decimal found.length ++ 10 ∷ [] ++ values_text names found.values

-- one line of counts
abbrev pub count_line : List ℕ → ℕ → List ℕ
count_line word count = word ++ 32 ∷ [] ++ decimal count ++ 10 ∷ []

abbrev pub stats_text : Option Stats → List ℕ
stats_text None = []
stats_text (Some stats) =
    count_line (codes "files") stats.files ++ count_line (codes "size") stats.size ++ count_line (codes "depth") stats.depth
    ++ count_line (codes "states") stats.states ++ count_line (codes "nodes") stats.nodes

-- the answer to a question, over the names of the globals
abbrev pub answer_text : List (List ℕ) → Answer → List ℕ
answer_text globals answer =
    verdict_text answer.verdict ++ 10 ∷ []
    ++ assignment_text (codes "example") globals answer.example
    ++ assignment_text (codes "counterexample") globals answer.counterexample

-- the answer to the main value, where that is asked for
abbrev pub main_text : List (List ℕ) → Option Answer → List ℕ
main_text globals None = []
main_text globals (Some answer) = answer_text globals answer

-- a goal: a line with its title, and the answer to it
abbrev pub goal_text : List (List ℕ) → GoalAnswer → List ℕ
goal_text globals goal = codes "goal " ++ goal.title ++ 10 ∷ [] ++ answer_text globals goal.answer

abbrev pub report_of : Found → List ℕ
report_of found = main_text found.globals found.main ++ flat_map (goal_text found.globals) found.goals ++ stats_text found.stats

-- the report on a formula of temporal logic, over the names of its propositions: the verdict, a trace on which it holds and one on which it
-- does not
abbrev pub trace_report_of : List (List ℕ) → Answer → List ℕ
trace_report_of names answer =
    verdict_text answer.verdict ++ 10 ∷ []
    ++ assignment_text (codes "trace") names answer.example
    ++ assignment_text (codes "countertrace") names answer.counterexample

-- the length of the example or of the counterexample, by the word for it
abbrev pub length_text : List ℕ → Option Assignment → List ℕ
length_text word None = codes "no " ++ word ++ 10 ∷ []
length_text word (Some found) = word ++ codes " length " ++ decimal found.length ++ 10 ∷ []

-- how many states and nodes there are, where that was counted
abbrev pub size_text : Option Stats → List ℕ
size_text None = []
size_text (Some stats) = count_line (codes "states") stats.states ++ count_line (codes "nodes") stats.nodes

-- the summary of the generated source with a number, whose text has so many bytes, by the answer to its main value
abbrev pub summary_of : ℕ → ℕ → Answer → Option Stats → List ℕ
summary_of number bytes main stats =
    count_line (codes "generated") number ++ count_line (codes "bytes") bytes
    ++ verdict_text main.verdict ++ 10 ∷ []
    ++ length_text (codes "example") main.example
    ++ length_text (codes "counterexample") main.counterexample
    ++ size_text stats
