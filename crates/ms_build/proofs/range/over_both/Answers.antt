use Rattle.std.proofs.Common.{sym, subst}
use Rattle.ms_dfa.specs.Automaton.{variable_of}
use Rattle.ms_dfa.specs.Values.{HasValues, own_meaning}
use Rattle.ms_product.specs.Combined.{combined}
use Rattle.ms_product.specs.declared.op.Op.{Op}
use Rattle.ms_build.proofs.RangeLemmas.{domain_orders, mode_by, own_in_few, values_by, variables_by}
use Rattle.ms_build.proofs.range.over_both.Goals as goal

pub combine-requires-clause-mode : goal.combine-requires-clause-mode
combine-requires-clause-mode c = sym c.requires.domain.mode

pub combine-requires-clause-orders : goal.combine-requires-clause-orders
combine-requires-clause-orders c =
    domain_orders c.args.body.now c.args.domain.now c.states.ensures.automaton c.states-2.ensures.automaton c.requires.domain (variable_of c.args.quantifier.track) c.requires.bound

pub project-requires-clause-bound : goal.project-requires-clause-bound
project-requires-clause-bound c =
    own_in_few c.args.body.now c.args.domain.now c.in_ok-both.both c.in-Ok.few c.states.ensures.automaton c.states-2.ensures.automaton c.states-3.ensures.automaton c.states-4.ensures.automaton c.requires.domain
    (variable_of c.args.quantifier.track) c.requires.bound c.in_ok-both.ensures.mode c.in_ok-both.ensures.variables c.in-Ok.ensures.mode c.in-Ok.ensures.variables

pub returns-clause-mode : goal.returns-clause-mode
returns-clause-mode c =
    mode_by c.args.body.now c.args.domain.now c.in_ok-both.both c.in-Ok.few c.states.ensures.automaton c.states-2.ensures.automaton c.states-3.ensures.automaton c.states-4.ensures.automaton c.requires.domain
    (variable_of c.args.quantifier.track) c.requires.bound c.in_ok-both.ensures.mode c.in_ok-both.ensures.variables c.in-Ok.ensures.mode c.in-Ok.ensures.variables c.project.result c.project.ensures.mode
    c.project.ensures.variables

pub returns-clause-variables : goal.returns-clause-variables
returns-clause-variables c =
    variables_by c.args.body.now c.args.domain.now c.in_ok-both.both c.in-Ok.few c.states.ensures.automaton c.states-2.ensures.automaton c.states-3.ensures.automaton c.states-4.ensures.automaton c.requires.domain
    (variable_of c.args.quantifier.track) c.requires.bound c.in_ok-both.ensures.mode c.in_ok-both.ensures.variables c.in-Ok.ensures.mode c.in-Ok.ensures.variables c.project.result c.project.ensures.mode
    c.project.ensures.variables

pub returns-clause-values : goal.returns-clause-values
returns-clause-values c =
    values_by c.args.body.now c.args.domain.now c.in_ok-both.both c.in-Ok.few c.states.ensures.automaton c.states-2.ensures.automaton c.states-3.ensures.automaton c.states-4.ensures.automaton c.requires.domain
    (variable_of c.args.quantifier.track) c.requires.bound c.in_ok-both.ensures.mode c.in_ok-both.ensures.variables c.in-Ok.ensures.mode c.in-Ok.ensures.variables c.requires.last c.requires.body_defined
    c.requires.domain_defined c.args.quantifier.quant
    (subst (λ (op : Op). HasValues (combined op (own_meaning c.args.domain.now) (own_meaning c.args.body.now)) c.in_ok-both.both) c.op_within-op.ensures c.in_ok-both.ensures.values) c.in-Ok.ensures.signs c.project.result
    c.project.ensures.mode c.project.ensures.variables c.project.ensures.values
