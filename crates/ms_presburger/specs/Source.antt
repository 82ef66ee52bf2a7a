-- The source of WS1S for a formula with these free names.
use Rattle.std.specs.Prelude.{ℕ, suc, if◌then◌else◌, List, [], ◌∷◌, length}
use Rattle.std.specs.Str.{bytes_eq}
use Rattle.ms_logic.specs.declared.checked.Checked.{Checked}
use Rattle.ms_logic.specs.declared.mode.Mode.TheVariants.{Ws1s}
use Rattle.ms_logic.specs.Tree.{Form}
use Rattle.ms_logic.specs.Verdict.{Problem}
use Rattle.ms_presburger.specs.Sets.{Scope, set_form}
use Rattle.ms_presburger.specs.Tree.{Arithmetic}
use Rattle.ms_translation.specs.Source.{IsSourceOver, problem_over}
pub use Rattle.ms_translation.specs.Source.{global_of, start}

-- the first place of a name in a list
abbrev pub place_of : List (List ℕ) → Scope
place_of [] other = 0
place_of (name ∷ names) other = if bytes_eq name other then 0 else suc (place_of names other)

-- what the formula says of the sets for the free names
abbrev pub main_form : List (List ℕ) → Arithmetic → Form
main_form names f = set_form f (place_of names) (length names)

abbrev pub IsSetSource : List (List ℕ) → Arithmetic → Checked → Type 0
IsSetSource names f made = IsSourceOver Ws1s names (main_form names f ∷ []) made

-- the question that it asks
abbrev pub set_problem : List (List ℕ) → Arithmetic → Problem
set_problem names f = problem_over Ws1s names (main_form names f ∷ [])
