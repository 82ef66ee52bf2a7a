use Rattle.std.proofs.Common.{arith}
use Rattle.std.proofs.Math.Logic.{⊎_map}
use Rattle.ms_parse_stack.proofs.Faults.{refused}
use Rattle.ms_presburger_parse.proofs.Faults.{problem_fault}
use Rattle.ms_presburger_parse.proofs.Readings.{recognises}
use Rattle.ms_presburger_parse.proofs.read.read_problem.Goals as goal

pub loop-i-init : goal.loop-i-init
loop-i-init c = c.nothing_begun-begun.ensures c.args.tokens.now

pub returns-in-Err-clause-refused : goal.returns-in-Err-clause-refused
returns-in-Err-clause-refused c =
    ⊎_map (λ memory. memory) problem_fault
    (refused recognises c.args.file c.args.tokens.now c.loop-i.i c.in-Err.stop c.refusal_at.result (omega (arith, c.loop-i-test.true)) c.in-Err.ensures.err c.refusal_at.ensures)
