use Rattle.ms_gen.proofs.Worked.{one, unclosed}
use Rattle.ms_gen.proofs.accepted_examples.worked_texts.Goals as goal

pub returns-clause-one : goal.returns-clause-one
returns-clause-one c = one

pub returns-clause-unclosed : goal.returns-clause-unclosed
returns-clause-unclosed c = unclosed
