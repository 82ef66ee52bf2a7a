use Rattle.std.proofs.Common.{◌≡◌, inl, inr, None, [], ◌∷◌, ◌++◌, rules}
use Rattle.ms_logic_words.specs.Content.{variables_by_place, Content}
use Rattle.ms_project.specs.Always.{domain_or_always}
use Rattle.ms_project.specs.Projection as projections
use Rattle.ms_build.specs.Short.{ChildLacks, QuantifierLacks}
use Rattle.ms_build.proofs.RefusalLemmas.{fault_more, refused_more}
use Rattle.ms_dfa.specs.Automaton.{variable_of}
use Rattle.ms_build.specs.Built.{entries_of, imports_for}
use Rattle.ms_build.proofs.BinderLemmas.{bound_among, over_all_by}
use Rattle.ms_build.proofs.quantified.by_projection.Goals as goal
use Rattle.ms_logic_words.specs.declared.sign.Sign.{Sign}

pub project-requires-clause-bound : goal.project-requires-clause-bound
project-requires-clause-bound c =
    let plan = c.args.plan.now in
    bound_among (imports_for plan) (entries_of plan) plan.mode c.args.orders.now (variable_of c.args.quantifier.track) c.requires.bound c.args.body.now c.in_ok-whole.whole c.states.ensures.automaton
    c.in_ok-whole.ensures.body

pub returns-clause-quantified : goal.returns-clause-quantified
returns-clause-quantified c =
    let plan = c.args.plan.now in
    over_all_by (imports_for plan) (entries_of plan) plan.mode c.args.orders.now (variable_of c.args.quantifier.track) c.requires.bound c.args.body.now c.in_ok-whole.whole c.states.ensures.automaton
    c.in_ok-whole.ensures.body c.args.quantifier.quant c.project.result c.project.ensures.mode c.project.ensures.variables c.project.ensures.values

pub returns-in_err-whole-clause-nodes : goal.returns-in_err-whole-clause-nodes
returns-in_err-whole-clause-nodes c =
    let plan = c.args.plan.now in
    fault_more (Content Sign) (λ refused. ChildLacks plan c.args.body.now (variables_by_place (c.args.orders.now ++ c.args.quantifier.track.order ∷ [])))
    (λ refused. QuantifierLacks plan c.args.orders.now (variable_of c.args.quantifier.track) None c.args.body.now) c.in_err-whole.field-0.0 c.from_residual.result (search rules) (λ refused short. inl short) c.in_err-whole.ensures.nodes

pub returns-clause-nodes : goal.returns-clause-nodes
returns-clause-nodes c =
    let plan = c.args.plan.now in
    let whole = c.in_ok-whole.whole in
    refused_more (λ refused. (refused ≡ plan.limit) × projections.NeedsAtLeast plan.limit whole (domain_or_always whole.mode None) c.args.quantifier.track.variable)
    (λ refused. QuantifierLacks plan c.args.orders.now (variable_of c.args.quantifier.track) None c.args.body.now) c.project.result
    (λ refused why.
    inr (record {
      whole = whole;
      automaton = c.states.ensures.automaton;
      range = None;
      is_least = c.in_ok-whole.ensures.least;
      is_whole = c.in_ok-whole.ensures.body;
      is_range = tt;
      short = why.1;
    }))
    c.project.ensures.nodes
