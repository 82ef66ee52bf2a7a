use Rattle.std.proofs.Common.{rules, ◌≡◌, ◌++◌, ◌∷◌, [], ap, ◌∙◌, arith, take}
use Rattle.ms_logic.specs.declared.source.Bound.{out-Bound}
use Rattle.ms_logic.specs.declared.source.Form.{the_lemmas}
use Rattle.ms_names_rules.specs.Declarations.{orders_of_bounds}
use Rattle.ms_parse_grammar.specs.View.{variable_of, variables_of}
use Rattle.ms_names_scopes.proofs.predicate.orders_of.Goals as goal
use Rattle.std.proofs.lemmas.List.{take_all}
use Rattle.ms_names_rules.proofs.Operands.{variables-more}

pub loop-bound-init : goal.loop-bound-init
loop-bound-init c = c.new-orders.ensures

pub loop-bound-preserved : goal.loop-bound-preserved
loop-bound-preserved c =
    let vs = c.args.bounds.now in
    let i = c.loop-bound.bound-index in
    let v = c.bound-item.result in
    let order : (out-Bound v).order ≡ (variable_of v).order = search (rules, the_lemmas) in
    c.in_ok-push.ensures.ok
    ∙ (ap (λ made. made ++ (out-Bound v).order ∷ []) c.loop-bound.invariant
    ∙ (ap (λ o. orders_of_bounds (variables_of (take i vs)) ++ o ∷ []) order
    ∙ ap orders_of_bounds (variables-more vs i v (omega arith) c.bound-item.is)))

pub returns : goal.returns
returns c =
    c.loop-bound.invariant ∙ ap (λ vs. orders_of_bounds (variables_of vs)) (take_all c.loop-bound.bound-index c.args.bounds.now (omega arith))
