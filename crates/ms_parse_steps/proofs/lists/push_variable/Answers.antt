use Rattle.std.proofs.Common.{◌≡◌, ◌++◌, ◌∷◌, [], ap, ◌∙◌}
use Rattle.ms_parse_grammar.specs.Tree.{no_variables, and_variable}
use Rattle.ms_parse_grammar.specs.View.{Variable, variables_of, variable_of, domain_of}
use Rattle.ms_parse_steps.proofs.Pushes.{on_ok, variables_push}
use Rattle.ms_parse_steps.proofs.lists.push_variable.Goals as goal

pub returns-clause-ok : goal.returns-clause-ok
returns-clause-ok c =
    on_ok c.push.result (c.push.new.list ≡ c.args.list.now ++ c.bound_of-one.result ∷ []) (variables_of c.push.new.list ≡ and_variable (variables_of c.args.list.now) c.args.variable.at c.args.order c.args.variable.name (domain_of c.args.domain))
    (λ same. ap variables_of same ∙ variables_push variable_of no_variables c.args.list.now c.bound_of-one.result ∙ ap (λ (x : Variable). and_variable (variables_of c.args.list.now) x.at x.order x.name x.domain) c.bound_of-one.ensures) c.push.ensures.ok
