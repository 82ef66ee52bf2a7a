use Rattle.ms_dfafile_outside.proofs.ExampleLemmas.{number_marks, set_marks, undefined_fails}
use Rattle.ms_dfafile_outside.proofs.examples.worked_outside.Goals as goal

pub returns-clause-number : goal.returns-clause-number
returns-clause-number c = number_marks

pub returns-clause-undefined : goal.returns-clause-undefined
returns-clause-undefined c = undefined_fails

pub returns-clause-set : goal.returns-clause-set
returns-clause-set c = set_marks
