use Rattle.std.proofs.Common.{length, map, sym, ◌∙◌}
use Rattle.std.specs.Option.{option_map}
use Rattle.ms_logic.specs.View.{argument_of, declaration_of}
use Rattle.ms_parse_grammar.specs.View.{variables_of, expression_of}
use Rattle.ms_names_rules.proofs.Lists.{count_of_bounds-length}
use Rattle.ms_names.proofs.Declaring.{predicate-passed, predicate-typed}
use Rattle.ms_names.proofs.declaration.predicate_parts.Goals as goal

pub returns-clause-state : goal.returns-clause-state
returns-clause-state c =
    let vs = c.args.bounds.now in
    let counted = sym (count_of_bounds-length vs) in
    predicate-passed c.args.checker.now c.number_names.new.self c.forbid_exports-allowed.new.self c.variables.new.checker c.expression.new.checker c.unbind.new.self c.allow_exports.new.self
    (variables_of vs) (expression_of c.args.body.now) c.in_ok-first.first (length vs) (length vs) c.forbid_exports-allowed.result
    c.in_ok-first.ensures.first counted counted c.in_ok-first.ensures.state c.forbid_exports-allowed.ensures.was c.forbid_exports-allowed.ensures.state
    c.in_ok-params.ensures.state c.in_ok-body.ensures.state c.unbind.ensures c.allow_exports.ensures

pub returns-clause-value : goal.returns-clause-value
returns-clause-value c =
    let vs = c.args.bounds.now in
    c.predicate.ensures
    ∙ predicate-typed c.args.checker.now c.number_names.new.self c.forbid_exports-allowed.new.self c.variables.new.checker
    (variables_of vs) (expression_of c.args.body.now) c.in_ok-first.first (length vs)
    (option_map (λ ps. map declaration_of ps.items) c.in_ok-params.params) (option_map argument_of c.in_ok-body.body)
    c.in_ok-first.ensures.first (sym (count_of_bounds-length vs)) c.in_ok-first.ensures.state c.forbid_exports-allowed.ensures.state
    c.in_ok-params.ensures.state c.in_ok-params.ensures.value c.in_ok-body.ensures.value
