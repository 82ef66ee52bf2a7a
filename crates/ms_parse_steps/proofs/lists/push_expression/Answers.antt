use Rattle.std.proofs.Common.{◌≡◌, ◌++◌, ◌∷◌, [], ap, ◌∙◌}
use Rattle.ms_parse_grammar.specs.Tree.{no_expressions, and_expression}
use Rattle.ms_parse_grammar.specs.View.{expression_of, expressions_of}
use Rattle.ms_parse_steps.proofs.Pushes.{on_ok, expressions_push}
use Rattle.ms_parse_steps.proofs.lists.push_expression.Goals as goal

pub returns-clause-ok : goal.returns-clause-ok
returns-clause-ok c =
    on_ok c.push.result (c.push.new.list ≡ c.args.list.now ++ c.args.expr ∷ []) (expressions_of c.push.new.list ≡ and_expression (expressions_of c.args.list.now) (expression_of c.args.expr))
    (λ same. ap expressions_of same ∙ expressions_push expression_of no_expressions c.args.list.now c.args.expr) c.push.ensures.ok
