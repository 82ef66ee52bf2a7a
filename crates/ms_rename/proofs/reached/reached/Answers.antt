use Rattle.ms_rename.proofs.BesideLemmas.{beside_signs, beside_variables, own_orders}
use Rattle.ms_rename.proofs.reached.reached.Goals as goal

pub combine-requires-clause-orders : goal.combine-requires-clause-orders
combine-requires-clause-orders c = own_orders c.args.a.now c.states.ensures.automaton

pub returns-clause-variables : goal.returns-clause-variables
returns-clause-variables c = beside_variables c.args.a.now c.combine.result c.combine.ensures.variables

pub returns-clause-signs : goal.returns-clause-signs
returns-clause-signs c = beside_signs c.args.a.now c.states.ensures.automaton c.combine.result c.combine.ensures.mode c.combine.ensures.variables c.combine.ensures.values
