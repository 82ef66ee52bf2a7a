use Rattle.std.proofs.Common.{◌≡◌, ◌+◌, ◌∷◌, [], ◌++◌, drop, map, take}
use Rattle.std.specs.Option.{option_map}
use Rattle.ms_logic_core.specs.CoreForm.{core_form_of}
use Rattle.ms_logic_core.specs.Size.{extent_of_argument, extent_under, extents_of_arguments, extents_of_each, extents_of_restriction}
use Rattle.ms_logic_core.specs.Spread.{spread_each, truth_values}
use Rattle.ms_logic.specs.View.{argument_of, arguments, binding_of, formula_of, forms, restriction}
use Rattle.ms_lower.specs.Callees.{callees_in}
use Rattle.ms_lower.specs.inner.Given.{EntersBefore, values_of, variables_of}
use Rattle.ms_lower.specs.inner.Left.{extents_in, left_at}
use Rattle.ms_lower.specs.Numbering.{numbering_of, renumbered}
use Rattle.ms_lower.specs.inner.Scope.{names_in}
use Rattle.ms_lower.proofs.formulas.+formulas.Given as goal

-- what is left to lower; at a level each call comes before those that it makes there

abbrev pub decreases-formula : goal.decreases-formula
decreases-formula l = left_at l.tables.now (extent_under (extents_in l.tables.now) (formula_of l.source.now) ∷ []) + 4

abbrev pub decreases-each : goal.decreases-each
decreases-each l = left_at l.tables.now (extents_of_each (extents_in l.tables.now) (forms (map formula_of l.operands.now))) + 5

abbrev pub decreases-domain_of : goal.decreases-domain_of
decreases-domain_of l = left_at l.tables.now (extents_of_restriction (extents_in l.tables.now) (restriction (option_map formula_of l.domain.now))) + 5

abbrev pub decreases-bind : goal.decreases-bind
decreases-bind l =
    left_at l.tables.now
    (extents_of_restriction (extents_in l.tables.now) (restriction (option_map formula_of l.domain.now)) ++ extent_under (extents_in l.tables.now) (formula_of l.body.now) ∷ [])
    + 8

abbrev pub decreases-where_let : goal.decreases-where_let
decreases-where_let l =
    left_at l.tables.now
    (extents_of_arguments (extents_in l.tables.now) (arguments (map (λ b. b.1) (map binding_of l.bindings.now))) ++ extent_under (extents_in l.tables.now) (formula_of l.body.now) ∷ [])
    + 8

abbrev pub decreases-call_with : goal.decreases-call_with
decreases-call_with l = left_at l.tables.now (extents_of_arguments (extents_in l.tables.now) (arguments (map argument_of l.given.now))) + 8

abbrev pub decreases-default : goal.decreases-default
decreases-default l = left_at l.tables.now ((extents_in l.tables.now).default l.predicate ∷ []) + 3

abbrev pub decreases-truth : goal.decreases-truth
decreases-truth l = left_at l.tables.now (extent_of_argument (extents_in l.tables.now) (argument_of l.value.now) ∷ []) + 5

abbrev pub decreases-truth_arguments : goal.decreases-truth_arguments
decreases-truth_arguments l = left_at l.tables.now (extents_of_arguments (extents_in l.tables.now) (arguments (values_of l.arguments.now))) + 6

abbrev pub decreases-enter_arguments : goal.decreases-enter_arguments
decreases-enter_arguments l = left_at l.tables.now (extents_of_arguments (extents_in l.tables.now) (arguments (values_of l.arguments.now))) + 7

abbrev pub invariant-each-loop-operand : goal.invariant-each-loop-operand
invariant-each-loop-operand l = record {
  cores :
      map core_form_of l.cores
      ≡ map (renumbered (numbering_of l.tables)) (spread_each (callees_in l.tables) (forms (map formula_of (take l.operand-index l.operands))) (names_in l.initial.scope) l.free);
  scope : l.scope ≡ l.initial.scope;
}

abbrev pub invariant-truth_arguments-loop-i : goal.invariant-truth_arguments-loop-i
invariant-truth_arguments-loop-i l = record {
  entered :
      EntersBefore (numbering_of l.tables) (truth_values (callees_in l.tables) (variables_of l.arguments) (arguments (values_of l.arguments)) (names_in l.initial.scope))
      (truth_values (callees_in l.tables) (drop l.i (variables_of l.arguments)) (arguments (drop l.i (values_of l.arguments))) (names_in l.initial.scope)) l.free l.entered;
  scope : l.scope ≡ l.initial.scope;
}
