use Rattle.std.proofs.Common.{◌≡◌, IfOk, Option, subst}
use Rattle.std.specs.Option.{option_map}
use Rattle.ms_logic.specs.Tree as tree
use Rattle.ms_logic.specs.View.{argument_of, predicate_of}
use Rattle.ms_parse_grammar.specs.View.{expression_of}
use Rattle.ms_names.proofs.Declaring.{default-passed, default-typed}
use Rattle.ms_names.proofs.Walk.{on_ok}
use Rattle.ms_names.proofs.declaration.default_parts.Goals as goal

pub returns-clause-state : goal.returns-clause-state
returns-clause-state c =
    on_ok c.default_predicate.result
    (default-passed c.args.checker.now c.number_names.new.self c.forbid_exports-allowed.new.self c.bind.new.self c.expression.new.checker c.unbind.new.self c.allow_exports.new.self
    c.args.order c.args.name.now (expression_of c.args.body.now) c.in_ok-x.x c.forbid_exports-allowed.result
    c.in_ok-x.ensures.first c.in_ok-x.ensures.state c.forbid_exports-allowed.ensures.was c.forbid_exports-allowed.ensures.state
    c.in_ok-bind.ensures c.in_ok-body.ensures.state c.unbind.ensures c.allow_exports.ensures)

pub returns-clause-value : goal.returns-clause-value
returns-clause-value c =
    let value =
    default-typed c.args.checker.now c.number_names.new.self c.forbid_exports-allowed.new.self c.bind.new.self
    c.args.order c.args.name.now (expression_of c.args.body.now) c.in_ok-x.x (option_map argument_of c.in_ok-body.body)
    c.in_ok-x.ensures.first c.in_ok-x.ensures.state c.forbid_exports-allowed.ensures.state c.in_ok-bind.ensures c.in_ok-body.ensures.value in
    let P : Option tree.Predicate → Type 0 = λ there. IfOk c.default_predicate.result (λ made. option_map predicate_of made ≡ there) in
    subst P value c.default_predicate.ensures
