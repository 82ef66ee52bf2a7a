use Rattle.ms_build.proofs.RefusalLemmas.{step_refused}
use Rattle.ms_build.proofs.built.build_each.Goals as goal

pub returns-in-Err-clause-refused : goal.returns-in-Err-clause-refused
returns-in-Err-clause-refused c =
    step_refused (Unit {0}) c.args.plan.now c.loop-step.step c.loop-step.automata.items c.in-Err.fault c.loop-step.invariant.1 c.refusal.result c.refusal.ensures c.in-Err.ensures.nodes
