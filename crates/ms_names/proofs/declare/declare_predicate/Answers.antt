use Rattle.std.proofs.Common.{refl, ap, ◌∙◌}
use Rattle.ms_names_rules.specs.Declarations.{next_predicate, orders_of_bounds}
use Rattle.ms_names_rules.specs.TypedSource.{typed_predicate}
use Rattle.ms_parse_grammar.specs.View.{variables_of, expression_of}
use Rattle.ms_names_scopes.specs.inner.Declaration.{read_through}
use Rattle.ms_names_scopes.specs.inner.Found.{Found}
use Rattle.ms_names.proofs.Told.{predicate-told}
use Rattle.ms_names.proofs.declare.declare_predicate.Goals as goal

pub returns-clause-state : goal.returns-clause-state
returns-clause-state c = λ count taken is_pred.
    let t = c.predicate_parts.new.checker in
    let orders = orders_of_bounds (variables_of c.args.bounds.now) in
    predicate-told c.args.checker.now c.check_declared.new.self c.check_bounds.new.self t (read_through t) c.name_predicate.new.self count taken is_pred
    c.args.at c.args.name.now (variables_of c.args.bounds.now) (expression_of c.args.body.now) (next_predicate t.scope) orders
    c.requires c.in_ok-check_declared.ensures c.in_ok-check_bounds.ensures c.in_ok-made.ensures.state
    refl refl refl c.in_ok-name_predicate.ensures

pub returns-clause-value : goal.returns-clause-value
returns-clause-value c =
    let F = λ (there : Found). typed_predicate there.scope there.before (variables_of c.args.bounds.now) (expression_of c.args.body.now) in
    c.in_ok-made.ensures.value ∙ (ap F c.in_ok-check_bounds.ensures ∙ ap F c.in_ok-check_declared.ensures)
