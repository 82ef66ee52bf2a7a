use Rattle.std.proofs.Common.{sym, ap, ◌∙◌}
use Rattle.std.specs.Option.{option_map, option_and_then}
use Rattle.ms_logic.specs.Tree.{truth_argument, number_argument, set_argument}
use Rattle.ms_logic.specs.View.{argument_of}
use Rattle.ms_names_rules.specs.Typed.{of_order}
use Rattle.ms_names_rules.proofs.Lists.{of_order-zero, of_order-one, of_order-two}
use Rattle.ms_names_typing.proofs.order.in_order.Goals as goal

pub returns-in-Zero : goal.returns-in-Zero
returns-in-Zero c =
    c.of_formula.ensures ∙ (ap (option_map (λ f. truth_argument f)) c.formula_in.ensures ∙ (of_order-zero (option_map argument_of c.args.value)
    ∙ ap (λ o. option_and_then (of_order o) (option_map argument_of c.args.value)) (sym c.in-Zero.is)))

pub returns-in-One : goal.returns-in-One
returns-in-One c =
    c.of_number.ensures ∙ (ap (option_map (λ t. number_argument t)) c.number_in.ensures ∙ (of_order-one (option_map argument_of c.args.value)
    ∙ ap (λ o. option_and_then (of_order o) (option_map argument_of c.args.value)) (sym c.in-One.is)))

pub returns-in-Two : goal.returns-in-Two
returns-in-Two c =
    c.of_set.ensures ∙ (ap (option_map (λ s. set_argument s)) c.set_in.ensures ∙ (of_order-two (option_map argument_of c.args.value)
    ∙ ap (λ o. option_and_then (of_order o) (option_map argument_of c.args.value)) (sym c.in-Two.is)))
