-- When a text by itself is accepted.
use Rattle.std.specs.Prelude.{◌≡◌, ℕ, ◌≤◌, List, [], None, map}
use Rattle.ms_include.specs.Load.{IsLoadedText}
use Rattle.ms_logic.specs.declared.checked.Checked.{Checked}
use Rattle.ms_logic.specs.declared.source.Loaded.{Loaded}
use Rattle.ms_logic_core.specs.Size.{depth_of_source, size_of_source}
use Rattle.ms_logic.specs.View.{goals_in, problem_of}
use Rattle.ms_names_rules.specs.Declarations.{first_fault_of}
use Rattle.ms_names_rules.specs.TypedSource.{IsTyped}
use Rattle.ms_parse_grammar.specs.View.{declared_of}

-- a checked source imports and exports nothing, has no goals, and is within the limits of depth and size
pub record IsAloneWithinLimits (checked : Checked) : Type 0 where
  pub imports : checked.imports ≡ []
  pub exports : checked.exports ≡ []
  pub goals : goals_in checked ≡ []
  pub depth : depth_of_source (problem_of checked []) ≤ 300
  pub size : size_of_source (problem_of checked []) ≤ 1000000

-- nothing is wrong with a loaded source
abbrev pub HasNoFault : Loaded → Type 0
HasNoFault loaded = first_fault_of loaded.mode (map declared_of loaded.items) ≡ None

-- The text reads as a source without includes in which nothing is wrong, and which becomes a checked source that stands alone and
-- is within the limits.
pub record IsAccepted (name bytes : List ℕ) : Type 0 where
  pub loaded : Loaded
  pub is_loaded : IsLoadedText name bytes loaded
  pub no_fault : HasNoFault loaded
  pub checked : Checked
  pub is_typed : IsTyped loaded checked
  pub within : IsAloneWithinLimits checked
