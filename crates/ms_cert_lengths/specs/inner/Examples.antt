-- What is proved and shown of `var2 P, Q; P sub Q`, for the worked example.
use Rattle.std.specs.Prelude.{ℕ, List, [], ◌∷◌, Option, Some}
use Rattle.ms_cert.specs.declared.cert.Proven.{Proven}
use Rattle.ms_logic.specs.declared.assignment.Assignment.{Assignment}
use Rattle.ms_logic.specs.declared.assignment.Value.TheVariants.{Set}
use Rattle.ms_report.specs.declared.found.Answer.{Answer}
use Rattle.ms_report.specs.declared.found.Verdict.TheVariants.{Contingent}

-- of an automaton with two states
abbrev pub proven : Option ℕ → Option ℕ → Proven
proven plus minus = record { states = 2; plus = plus; minus = minus }

-- P with these members, and Q empty, at this length
abbrev pub only_P : ℕ → List ℕ → Assignment
only_P length members = record { length = length; values = Set members ∷ Set [] ∷ [] }

abbrev pub subset_answer : Answer
subset_answer = record { verdict = Contingent; example = Some (only_P 0 []); counterexample = Some (only_P 1 (0 ∷ [])) }
