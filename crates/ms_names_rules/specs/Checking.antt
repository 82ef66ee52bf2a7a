-- The check of a whole source.
use Rattle.std.specs.Prelude.{◌≡◌, map, Some}
use Rattle.ms_edge.specs.declared.refusal.Refusal.{Refusal}
use Rattle.ms_logic.specs.declared.source.Loaded.{Loaded}
use Rattle.ms_names_rules.specs.declared.fault.Fault.{Fault}
use Rattle.ms_names_rules.specs.Declarations.{first_fault_of}
use Rattle.ms_names_rules.specs.Fault.{refusal_of}
use Rattle.ms_parse_grammar.specs.View.{declared_of}

-- the refusal tells the first fault of the source
abbrev pub IsFirstFault : Loaded → Refusal → Type 0
IsFirstFault loaded refusal =
    (f : Fault) × (first_fault_of loaded.mode (map declared_of loaded.items) ≡ Some f) × (refusal ≡ refusal_of f)
