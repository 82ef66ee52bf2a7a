use Rattle.std.proofs.Common.{⊎_elim}
use Rattle.ms_ltlf.specs.View.{temporal_of}
use Rattle.ms_ltlf_decide.specs.Formula.{no_memory, unsolved}
use Rattle.ms_ltlf_decide.proofs.decide.decide_formula.Goals as goal

pub returns-in-Err-clause-refused : goal.returns-in-Err-clause-refused
returns-in-Err-clause-refused g c = c.in-Err.ensures.refused c.args.limit

pub returns-in-Err-formula_answer-clause-refused : goal.returns-in-Err-formula_answer-clause-refused
returns-in-Err-formula_answer-clause-refused g c =
    let trace = c.in-Ok.trace in
    ⊎_elim (λ memory. no_memory memory)
    (λ why. unsolved trace.names (temporal_of trace.formula) c.in-Ok.ensures.formula why c.in-Ok.ensures.noted) c.in-Err-formula_answer.ensures.refused
