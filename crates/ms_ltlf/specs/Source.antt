-- The source of strings for a formula over propositions with these names.
use Rattle.std.specs.Prelude.{ℕ, List, [], ◌∷◌, length}
use Rattle.ms_logic.specs.declared.checked.Checked.{Checked}
use Rattle.ms_logic.specs.declared.mode.Mode.TheVariants.{M2lStr}
use Rattle.ms_logic.specs.Tree.{Form}
use Rattle.ms_logic.specs.Verdict.{Problem}
use Rattle.ms_ltlf.specs.Tree.{Temporal}
use Rattle.ms_ltlf.specs.Strings.{string_form, some_position, at_the_start}
use Rattle.ms_translation.specs.Source.{IsSourceOver, problem_over}
pub use Rattle.ms_translation.specs.Source.{global_of, start}

-- there is a position, and the formula holds at the first
abbrev pub string_formulas : ℕ → Temporal → List Form
string_formulas x f = some_position x ∷ at_the_start x (string_form f x) ∷ []

abbrev pub IsStringSource : List (List ℕ) → Temporal → Checked → Type 0
IsStringSource names f made = IsSourceOver M2lStr names (string_formulas (length names) f) made

-- the question that it asks
abbrev pub string_problem : List (List ℕ) → Temporal → Problem
string_problem names f = problem_over M2lStr names (string_formulas (length names) f)
