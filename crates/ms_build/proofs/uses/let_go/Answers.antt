use Rattle.std.proofs.Common.{arith}
use Rattle.ms_build.proofs.UsesLemmas.{let_go_of}
use Rattle.ms_build.proofs.uses.let_go.Goals as goal

pub returns-in-Ok-clause-built : goal.returns-in-Ok-clause-built
returns-in-Ok-clause-built c =
    let_go_of c.args.plan.now c.args.last.now c.args.automata.now.items c.args.node c.in-Ok.small c.requires.last c.requires.built c.requires.some c.requires.few (omega arith) (omega arith)
