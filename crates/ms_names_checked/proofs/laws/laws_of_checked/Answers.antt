use Rattle.ms_names_checked.proofs.CheckedSource.{meets-rules}
use Rattle.ms_names_checked.proofs.CheckedSpellings.{have-names}
use Rattle.ms_names_checked.proofs.laws.laws_of_checked.Goals as goal

pub returns-clause-rules : goal.returns-clause-rules
returns-clause-rules c = meets-rules

pub returns-clause-names : goal.returns-clause-names
returns-clause-names c = have-names
