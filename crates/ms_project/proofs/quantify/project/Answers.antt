use Rattle.std.proofs.Common.{◌≡◌, None, IfOk, sym, ap, subst}
use Rattle.std.specs.Option.{option_copied}
use Rattle.ms_dfa.specs.Automaton.{variable_of}
use Rattle.ms_logic_words.specs.declared.sign.Sign.{Sign}
use Rattle.ms_logic_words.specs.declared.sign.Sign.TheVariants.{Yes}
use Rattle.ms_logic_words.specs.Content.{Content}
use Rattle.ms_dfa.specs.Values.{HasValues, own_meaning}
use Rattle.ms_project.specs.Quantified.{IsMetBy, quantified}
use Rattle.ms_project.proofs.AlwaysLemmas.{HasValues-all}
use Rattle.ms_project.proofs.AssemblyLemmas.{IfOk-implies}
use Rattle.ms_project.specs.Always.{always, domain_or_always}
use Rattle.ms_project.specs.Projection.{NeedsAtLeast}
use Rattle.ms_project.proofs.SearchLemmas.{needs_refused}
use Rattle.ms_dfa_explore.specs.Explored.{OnRefused}
use Rattle.ms_project.proofs.quantify.project.Goals as goal

pub project_within-requires-clause-domain : goal.project_within-requires-clause-domain
project_within-requires-clause-domain c = c.requires.domain c.in-Some.domain.now (ap option_copied c.in-Some.is)

pub returns-in-Ok-clause-values : goal.returns-in-Ok-clause-values
returns-in-Ok-clause-values c =
    let q = c.args.quantifier.quant in
    let own = variable_of c.args.quantifier.track in
    let body = own_meaning c.args.body.now in
    let outcome = c.project_within-in-None.result in
    let values = subst (λ (all : Content Sign). IfOk outcome (HasValues (quantified q own (λ e. own_meaning all e Yes) body))) c.in-Ok.ensures c.project_within-in-None.ensures.values in
    subst (λ d. IfOk outcome (HasValues (quantified q own (IsMetBy (option_copied d)) body))) (sym c.in-None.is)
    (IfOk-implies outcome (HasValues (quantified q own (λ e. own_meaning (always c.mode.result) e Yes) body)) (HasValues (quantified q own (IsMetBy None) body)) (HasValues-all q own body c.mode.result) values)

pub returns-in-Some-clause-nodes : goal.returns-in-Some-clause-nodes
returns-in-Some-clause-nodes c =
    let body = c.args.body.now in
    let limit = c.args.limit in
    let name = c.args.quantifier.track.variable in
    subst (λ d. OnRefused c.project_within.result (λ refused. (refused ≡ limit) × NeedsAtLeast limit body (domain_or_always body.mode (option_copied d)) name)) (sym c.in-Some.is)
    (needs_refused (Content Sign) limit body c.in-Some.domain.now name c.project_within.result c.project_within.ensures.nodes)
