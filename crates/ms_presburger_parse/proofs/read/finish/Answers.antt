use Rattle.std.proofs.Common.{ap, sym, ◌∙◌, subst, inr, arith}
use Rattle.ms_presburger.specs.View.{arithmetic_of}
use Rattle.ms_presburger_parse.specs.Refused.{IsProblemFault}
use Rattle.ms_presburger_parse.specs.Symbol.{symbols, symbol_of}
use Rattle.ms_presburger_parse.specs.inner.Reached.{reached}
use Rattle.ms_presburger_parse.specs.inner.States.{IsMeasured, state_of}
use Rattle.ms_presburger_parse.proofs.Faults.{problem_fault}
use Rattle.ms_presburger_parse.proofs.Readings.{reads_done, recognises}
use Rattle.ms_parse_stack.proofs.Faults.{ends_here}
use Rattle.ms_parse_stack.proofs.Tokens.{front-whole}
use Rattle.ms_presburger_parse.proofs.read.finish.Goals as goal

pub problem_of-requires-clause-read : goal.problem_of-requires-clause-read
problem_of-requires-clause-read c =
    let lexed = c.args.tokens.now in
    let state = ap reached (sym (front-whole symbol_of lexed)) ∙ c.requires.here.state ∙ ap (state_of c.args.begun) c.in-Done.is in
    reads_done (symbols lexed) (arithmetic_of c.in-Done.whole.formula) state (omega (arith, c.in-Done.whole.measured, c.in-Done.whole.bounded))

pub returns-in-Within-clause-refused : goal.returns-in-Within-clause-refused
returns-in-Within-clause-refused c =
    let begun = c.args.begun in
    let deep = subst (IsMeasured begun) c.in-Within.is c.requires.here.measured in
    inr (subst (IsProblemFault c.args.file c.args.tokens.now) (sym c.refusal_at_end.ensures) (problem_fault (ends_here recognises c.args.file c.args.tokens.now begun _ (c.requires.here.state ∙ ap (state_of begun) c.in-Within.is) tt deep)))
