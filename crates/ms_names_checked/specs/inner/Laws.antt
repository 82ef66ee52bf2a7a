-- What a typed source promises.
use Rattle.std.specs.Prelude.{◌≡◌, map, None}
use Rattle.ms_logic.specs.declared.checked.Checked.{Checked}
use Rattle.ms_logic.specs.declared.source.Loaded.{Loaded}
use Rattle.ms_names_rules.specs.Declarations.{first_fault_of}
use Rattle.ms_logic.specs.Lists.{Each}
use Rattle.ms_parse_grammar.specs.Tree.{Declared}
use Rattle.ms_names_rules.specs.TypedSource.{IsTyped}
use Rattle.ms_parse_grammar.specs.View.{declared_of}
use Rattle.ms_names_checked.specs.Checked.{MeetsRules}
use Rattle.ms_names_checked.specs.Spellings.{DeclaresNames, HasNames}

-- the typed tree of a source without a fault meets the rules
abbrev pub TypedSourcesMeetRules : Type 0
TypedSourcesMeetRules =
    (loaded : Loaded) (checked : Checked) → IsTyped loaded checked → first_fault_of loaded.mode (map declared_of loaded.items) ≡ None → MeetsRules checked

-- the names in it are names of the language, where those of the source are
abbrev pub TypedSourcesHaveNames : Type 0
TypedSourcesHaveNames =
    (loaded : Loaded) (checked : Checked) → IsTyped loaded checked → Each (λ (d : Declared). DeclaresNames d.declaration) (map declared_of loaded.items) → HasNames checked
