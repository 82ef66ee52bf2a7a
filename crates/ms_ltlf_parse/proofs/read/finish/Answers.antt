use Rattle.std.proofs.Common.{ap, sym, ◌∙◌, subst, arith}
use Rattle.ms_ltlf_parse.specs.Symbol.{symbol_of}
use Rattle.ms_ltlf_parse.specs.Reading.{first_sights}
use Rattle.ms_ltlf_parse.specs.Refused.{IsTraceFault}
use Rattle.ms_ltlf_parse.specs.inner.Reached.{reached}
use Rattle.ms_ltlf_parse.specs.inner.States.{IsMeasured, state_of}
use Rattle.ms_ltlf_parse.proofs.Faults.{trace_fault, trace_read, trace_well_formed}
use Rattle.ms_parse_stack.proofs.Faults.{ends_here}
use Rattle.ms_parse_stack.proofs.Tokens.{front-whole}
use Rattle.ms_ltlf_parse.proofs.Readings.{recognises}
use Rattle.ms_ltlf_parse.proofs.read.finish.Goals as goal

pub returns-in-Done-clause-read : goal.returns-in-Done-clause-read
returns-in-Done-clause-read c =
    let lexed = c.args.tokens.now in
    let state = ap reached (sym (front-whole symbol_of lexed)) ∙ c.requires.here.state ∙ ap (state_of c.args.reader.begun) c.in-Done.is in
    let names = c.requires.here.names ∙ ap first_sights (front-whole symbol_of lexed) in
    trace_read lexed (record { names = c.args.reader.sights.names; formula = c.in-Done.whole.formula }) state names (omega (arith, c.in-Done.whole.measured, c.in-Done.whole.bounded))

pub returns-in-Done-clause-well_formed : goal.returns-in-Done-clause-well_formed
returns-in-Done-clause-well_formed c =
    trace_well_formed c.args.tokens.now (record { names = c.args.reader.sights.names; formula = c.in-Done.whole.formula }) (returns-in-Done-clause-read c) c.requires.few

pub returns-in-Wanted-clause-refused : goal.returns-in-Wanted-clause-refused
returns-in-Wanted-clause-refused c =
    let begun = c.args.reader.begun in
    let deep = subst (IsMeasured begun) c.in-Wanted.is c.requires.here.measured in
    subst (IsTraceFault c.args.file c.args.tokens.now) (sym c.refusal_at_end.ensures) (trace_fault (ends_here recognises c.args.file c.args.tokens.now begun _ (c.requires.here.state ∙ ap (state_of begun) c.in-Wanted.is) tt deep))

pub returns-clause-refused : goal.returns-clause-refused
returns-clause-refused c =
    let begun = c.args.reader.begun in
    let deep = subst (IsMeasured begun) c.in-Holding.is c.requires.here.measured in
    subst (IsTraceFault c.args.file c.args.tokens.now) (sym c.refusal_at_end-in-Holding.ensures) (trace_fault (ends_here recognises c.args.file c.args.tokens.now begun _ (c.requires.here.state ∙ ap (state_of begun) c.in-Holding.is) tt deep))
