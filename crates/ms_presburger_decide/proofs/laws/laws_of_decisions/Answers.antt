use Rattle.ms_presburger_decide.proofs.Lines.{lines}
use Rattle.ms_presburger_decide.proofs.Solved.{solved}
use Rattle.ms_presburger_decide.proofs.laws.laws_of_decisions.Goals as goal

pub returns-clause-lines : goal.returns-clause-lines
returns-clause-lines c = lines

pub returns-clause-solved : goal.returns-clause-solved
returns-clause-solved c = solved
