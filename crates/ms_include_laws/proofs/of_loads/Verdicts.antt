-- A source without a fault passes the check, and one within the limits is measured.
use Rattle.std.proofs.Common.{◌≡◌, ◌≤◌, map, Some, None, sym, ◌∙◌, arith}
use Rattle.ms_edge.specs.declared.refusal.Refusal.{Refusal}
use Rattle.ms_logic.specs.declared.checked.Checked.{Checked}
use Rattle.ms_logic.specs.declared.source.Loaded.{Loaded}
use Rattle.ms_logic_core.specs.Size.{depth_of_source, size_of_source}
use Rattle.ms_logic.specs.View.{problem_of, Answers}
use Rattle.ms_lower.specs.Measure.{IsDepthRefusal, IsSizeRefusal}
use Rattle.ms_names_rules.specs.declared.fault.Fault.{Fault}
use Rattle.ms_names_rules.specs.Checking.{IsFirstFault}
use Rattle.ms_names_rules.specs.Declarations.{first_fault_of}
use Rattle.ms_parse_grammar.specs.View.{declared_of}

none_is_some : (fault : Fault) → None ≡ Some fault → ⊥
none_is_some fault same = cc

pub no_first_fault : (loaded : Loaded) (refusal : Refusal) → first_fault_of loaded.mode (map declared_of loaded.items) ≡ None → IsFirstFault loaded refusal → ⊥
no_first_fault loaded refusal right is = none_is_some is.0 (sym right ∙ is.1)

pub not_too_deep : (checked : Checked) (answers : Answers) (refusal : Refusal) → depth_of_source (problem_of checked answers) ≤ 300 → IsDepthRefusal checked answers refusal → ⊥
not_too_deep checked answers refusal within is = omega (arith, within, is.too_deep)

pub not_too_large : (checked : Checked) (answers : Answers) (refusal : Refusal) → size_of_source (problem_of checked answers) ≤ 1000000 → IsSizeRefusal checked answers refusal → ⊥
not_too_large checked answers refusal within is = omega (arith, within, is.too_large)
