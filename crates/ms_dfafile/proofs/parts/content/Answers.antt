use Rattle.ms_dfafile.proofs.LineLemmas.{variable-one_form}
use Rattle.ms_dfafile.proofs.PartsLemmas.{behind_variables_fault}
use Rattle.ms_dfafile.proofs.parts.content.Goals as goal

pub lines-requires : goal.lines-requires
lines-requires c = variable-one_form

pub returns-in-Err-behind_variables : goal.returns-in-Err-behind_variables
returns-in-Err-behind_variables c =
    behind_variables_fault c.args.bytes.now c.in-Some.head c.in-Some.rest.now c.in-Some.ensures c.in-Err-behind_variables.fault c.in-Ok.found.0 c.in-Ok.found.1.now c.in-Ok.ensures c.in-Err-behind_variables.ensures
