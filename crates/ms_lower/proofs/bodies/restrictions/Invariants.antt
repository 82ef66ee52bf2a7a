use Rattle.std.proofs.Common.{◌≡◌, map, take}
use Rattle.ms_logic_core.specs.CoreForm.{core_form_of}
use Rattle.ms_logic_core.specs.Spread.{restrictions_of}
use Rattle.ms_logic.specs.View.{declaration_of}
use Rattle.ms_lower.specs.Callees.{callees_in}
use Rattle.ms_lower.specs.Numbering.{numbering_of, renumbered}
use Rattle.ms_lower.specs.inner.Scope.{names_in}
use Rattle.ms_lower.proofs.bodies.restrictions.Given as goal

abbrev pub invariant-loop-param : goal.invariant-loop-param
invariant-loop-param l = record {
  cores :
      map core_form_of l.cores
      ≡ map (renumbered (numbering_of l.tables)) (restrictions_of (callees_in l.tables) (map declaration_of (take l.param-index l.params)) (names_in l.initial.scope) l.free);
  scope : l.scope ≡ l.initial.scope;
}
