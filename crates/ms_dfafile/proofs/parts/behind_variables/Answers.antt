use Rattle.ms_dfafile.proofs.LineLemmas.{state-one_form}
use Rattle.ms_dfafile.proofs.PartsLemmas.{behind_states_fault, states_fault}
use Rattle.ms_dfafile.proofs.parts.behind_variables.Goals as goal

pub lines-requires : goal.lines-requires
lines-requires c = state-one_form

pub returns-in-Err : goal.returns-in-Err
returns-in-Err c = states_fault c.args.bytes.now c.in-Some.start c.in-Some.rest.now c.in-Some.ensures c.in-Err.fault c.in-Err.ensures

pub returns-in-Err-ending : goal.returns-in-Err-ending
returns-in-Err-ending c =
    behind_states_fault c.args.bytes.now c.in-Some.start c.in-Some.rest.now c.in-Some.ensures c.in-Err-ending.fault c.in-Ok.found.0 c.in-Ok.found.1.now c.in-Ok.ensures c.in-Err-ending.ensures
