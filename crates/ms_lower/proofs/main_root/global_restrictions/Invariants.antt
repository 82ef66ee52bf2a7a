use Rattle.std.proofs.Common.{◌≡◌, [], map, take}
use Rattle.ms_logic_core.specs.CoreForm.{core_form_of}
use Rattle.ms_logic_core.specs.Spread.{own_names, restrictions_of}
use Rattle.ms_logic.specs.View.{globals_from}
use Rattle.ms_lower.specs.Callees.{callees_in}
use Rattle.ms_lower.specs.Numbering.{numbering_of, renumbered}
use Rattle.ms_lower.proofs.main_root.global_restrictions.Given as goal

abbrev pub invariant-loop-global : goal.invariant-loop-global
invariant-loop-global l = record {
  cores :
      map core_form_of l.cores
      ≡ map (renumbered (numbering_of l.tables)) (restrictions_of (callees_in l.tables) (globals_from 0 (take l.global-index l.globals)) own_names l.free);
  scope : l.scope ≡ [];
}
