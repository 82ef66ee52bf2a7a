use Rattle.ms_presburger_decide.proofs.Firsts.{one, short}
use Rattle.ms_presburger_decide.proofs.laws.laws_of_answers.Goals as goal

pub returns-clause-short : goal.returns-clause-short
returns-clause-short c = short

pub returns-clause-one : goal.returns-clause-one
returns-clause-one c = one
