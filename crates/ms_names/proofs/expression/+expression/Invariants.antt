use Rattle.std.proofs.Common.{◌≡◌, ◌+◌, ◌*◌, map, max, take}
use Rattle.std.specs.Option.{option_map}
use Rattle.ms_logic.proofs.source.Expr.TheLaws.{the_size}
use Rattle.ms_logic.specs.View.{declaration_of}
use Rattle.ms_names_rules.specs.Before.{after_all, after_parts}
use Rattle.ms_names_rules.specs.inner.Binder.{restricted_variables, typed_sides, sides_of}
use Rattle.ms_names_rules.specs.inner.Lists.{forms_of, terms_of, arguments_of}
use Rattle.ms_names_rules.specs.Order.{formula_wanted, number_wanted}
use Rattle.ms_names_rules.specs.Occurrence.{inside_arguments, inside_parts}
use Rattle.ms_names_rules.specs.Typed.{typed_arguments, typed_formulas, typed_numbers}
use Rattle.ms_parse_grammar.specs.View.{variables_of, parts_of, expressions_of}
use Rattle.ms_names_scopes.specs.inner.Found.{after_restrictions, passed}
use Rattle.ms_names.proofs.Operands.{AreRead}
use Rattle.ms_names.proofs.expression.+expression.Given as goal

-- what stands inside is less deep; at a level each call comes before those that it makes there

abbrev pub decreases-expression : goal.decreases-expression
decreases-expression l = 4 * (goal.size-expression l) + 1

abbrev pub decreases-form : goal.decreases-form
decreases-form l = 4 * (goal.size-form l)

abbrev pub decreases-of_one : goal.decreases-of_one
decreases-of_one l = 4 * (goal.size-of_one l) + 2

abbrev pub decreases-of_two : goal.decreases-of_two
decreases-of_two l = 4 * (max (the_size l.left.now) (the_size l.right.now)) + 2

abbrev pub decreases-of_all : goal.decreases-of_all
decreases-of_all l = 4 * (goal.size-of_all l) + 2

abbrev pub decreases-literal_of : goal.decreases-literal_of
decreases-literal_of l = 4 * (goal.size-literal_of l) + 2

abbrev pub decreases-related : goal.decreases-related
decreases-related l = 4 * (max (the_size l.left.now) (the_size l.right.now)) + 2

abbrev pub decreases-shifted : goal.decreases-shifted
decreases-shifted l = 4 * (goal.size-shifted l) + 2

abbrev pub decreases-call_of : goal.decreases-call_of
decreases-call_of l = 4 * (goal.size-call_of l) + 3

abbrev pub decreases-arguments_for : goal.decreases-arguments_for
decreases-arguments_for l = 4 * (goal.size-arguments_for l) + 2

abbrev pub decreases-binder : goal.decreases-binder
decreases-binder l = 4 * (max (goal.size-binder l) (the_size l.body.now)) + 3

abbrev pub decreases-under_variables : goal.decreases-under_variables
decreases-under_variables l = 4 * (goal.size-under_variables l) + 2

abbrev pub decreases-variables : goal.decreases-variables
decreases-variables l = 4 * (goal.size-variables l) + 1

abbrev pub decreases-one_variable : goal.decreases-one_variable
decreases-one_variable l = 4 * (goal.size-one_variable l)

abbrev pub decreases-let_in : goal.decreases-let_in
decreases-let_in l = 4 * (max (goal.size-let_in l) (the_size l.body.now)) + 3

abbrev pub decreases-under_names : goal.decreases-under_names
decreases-under_names l = 4 * (goal.size-under_names l) + 2

abbrev pub decreases-right_sides : goal.decreases-right_sides
decreases-right_sides l = 4 * (goal.size-right_sides l) + 2

abbrev pub decreases-export : goal.decreases-export
decreases-export l = 4 * (goal.size-export l) + 2

-- what is found so far

abbrev pub invariant-arguments_for-loop-i : goal.invariant-arguments_for-loop-i
invariant-arguments_for-loop-i l = record {
  state :
      l.checker
      ≡ passed l.initial.checker (inside_arguments l.initial.checker.scope l.initial.checker.before l.parameters (expressions_of (take l.i l.arguments)))
      (after_all l.initial.checker.before (expressions_of (take l.i l.arguments)));
  value :
      option_map arguments_of l.made
      ≡ typed_arguments l.initial.checker.scope l.initial.checker.before l.parameters (expressions_of (take l.i l.arguments));
}

abbrev pub invariant-variables-loop-bound : goal.invariant-variables-loop-bound
invariant-variables-loop-bound l = record {
  state : l.checker ≡ after_restrictions l.initial.checker l.first (variables_of (take l.bound-index l.bounds));
  value :
      option_map (λ ps. map declaration_of ps.items) l.made
      ≡ restricted_variables l.takes_defaults l.initial.checker.scope l.first l.initial.checker.before (variables_of (take l.bound-index l.bounds));
  number : l.x ≡ l.first + l.bound-index;
}

abbrev pub invariant-of_all-loop-operand : goal.invariant-of_all-loop-operand
invariant-of_all-loop-operand l = AreRead l.initial.checker formula_wanted typed_formulas (expressions_of (take l.operand-index l.operands)) l.checker (option_map forms_of l.made)

abbrev pub invariant-literal_of-loop-element : goal.invariant-literal_of-loop-element
invariant-literal_of-loop-element l = AreRead l.initial.checker number_wanted typed_numbers (expressions_of (take l.element-index l.elements)) l.checker (option_map terms_of l.made)

abbrev pub invariant-right_sides-loop-part : goal.invariant-right_sides-loop-part
invariant-right_sides-loop-part l = record {
  state :
      l.checker
      ≡ passed l.initial.checker (inside_parts l.initial.checker.scope l.initial.checker.before l.order (parts_of (take l.part-index l.parts)))
      (after_parts l.initial.checker.before (parts_of (take l.part-index l.parts)));
  value :
      option_map sides_of l.made
      ≡ typed_sides l.initial.checker.scope l.first l.initial.checker.before l.order (parts_of (take l.part-index l.parts));
  number : l.x ≡ l.first + l.part-index;
}
