use Rattle.ms_dfa.specs.Automaton.{variable_of}
use Rattle.std.proofs.Common.{◌≡◌, inl, inr, Some, [], ◌∷◌, ◌++◌, rules}
use Rattle.ms_logic_words.specs.Content.{variables_by_place, Content}
use Rattle.ms_project.specs.Always.{domain_or_always}
use Rattle.ms_project.specs.Projection as projections
use Rattle.ms_build.specs.Short.{ChildLacks, QuantifierLacks}
use Rattle.ms_build.proofs.RefusalLemmas.{fault_more, refused_more}
use Rattle.ms_build.specs.Built.{entries_of, imports_for}
use Rattle.ms_build.proofs.BinderLemmas.{IsDomainFor-part, bound_among, bound_last, within_by}
use Rattle.ms_build.proofs.quantified.within.Goals as goal
use Rattle.ms_logic_words.specs.declared.sign.Sign.{Sign}

pub project_within-requires-clause-domain : goal.project_within-requires-clause-domain
project_within-requires-clause-domain c =
    let plan = c.args.plan.now in
    let inside = c.args.orders.now ++ c.args.quantifier.track.order ∷ [] in
    IsDomainFor-part (imports_for plan) (entries_of plan) plan.mode c.args.orders.now (variable_of c.args.quantifier.track) c.requires.bound c.args.scope.body.now c.in_ok-whole.whole c.states.ensures.automaton
    c.in_ok-whole.ensures.body c.args.scope.domain.now c.in-Ok.domain (c.in-Ok.ensures.part inside c.requires.domain_read)

pub project_within-requires-clause-bound : goal.project_within-requires-clause-bound
project_within-requires-clause-bound c =
    let plan = c.args.plan.now in
    bound_among (imports_for plan) (entries_of plan) plan.mode c.args.orders.now (variable_of c.args.quantifier.track) c.requires.bound c.args.scope.body.now c.in_ok-whole.whole c.states.ensures.automaton
    c.in_ok-whole.ensures.body

pub project_within-requires-clause-last : goal.project_within-requires-clause-last
project_within-requires-clause-last c =
    let plan = c.args.plan.now in
    bound_last (imports_for plan) (entries_of plan) plan.mode c.args.orders.now (variable_of c.args.quantifier.track) c.requires.bound c.args.scope.body.now c.in_ok-whole.whole c.states.ensures.automaton
    c.in_ok-whole.ensures.body

pub returns-clause-quantified : goal.returns-clause-quantified
returns-clause-quantified c =
    let plan = c.args.plan.now in
    let inside = c.args.orders.now ++ c.args.quantifier.track.order ∷ [] in
    within_by (imports_for plan) (entries_of plan) plan.mode c.args.orders.now (variable_of c.args.quantifier.track) c.requires.bound c.args.scope.body.now c.in_ok-whole.whole c.states.ensures.automaton
    c.in_ok-whole.ensures.body c.args.quantifier.quant c.args.scope.domain.now c.in-Ok.domain c.states-2.ensures.automaton (c.in-Ok.ensures.part inside c.requires.domain_read) c.project_within.result
    c.project_within.ensures.mode c.project_within.ensures.variables c.project_within.ensures.values

pub returns-in_err-whole-clause-nodes : goal.returns-in_err-whole-clause-nodes
returns-in_err-whole-clause-nodes c =
    let plan = c.args.plan.now in
    fault_more (Content Sign) (λ refused. ChildLacks plan c.args.scope.body.now (variables_by_place (c.args.orders.now ++ c.args.quantifier.track.order ∷ [])))
    (λ refused. QuantifierLacks plan c.args.orders.now (variable_of c.args.quantifier.track) (Some c.args.scope.domain.now) c.args.scope.body.now) c.in_err-whole.field-0.0 c.from_residual.result (search rules) (λ refused short. inl short) c.in_err-whole.ensures.nodes

pub returns-clause-nodes : goal.returns-clause-nodes
returns-clause-nodes c =
    let plan = c.args.plan.now in
    let whole = c.in_ok-whole.whole in
    refused_more (λ refused. (refused ≡ plan.limit) × projections.NeedsAtLeast plan.limit whole (domain_or_always whole.mode (Some c.in-Ok.domain)) c.args.quantifier.track.variable)
    (λ refused. QuantifierLacks plan c.args.orders.now (variable_of c.args.quantifier.track) (Some c.args.scope.domain.now) c.args.scope.body.now) c.project_within.result
    (λ refused why.
    inr (record {
      whole = whole;
      automaton = c.states.ensures.automaton;
      range = (Some c.in-Ok.domain);
      is_least = c.in_ok-whole.ensures.least;
      is_whole = c.in_ok-whole.ensures.body;
      is_range = c.in-Ok.ensures.operand;
      short = why.1;
    }))
    c.project_within.ensures.nodes
