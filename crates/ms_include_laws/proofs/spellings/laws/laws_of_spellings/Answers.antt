use Rattle.ms_include_laws.proofs.of_spellings.Loads.{loaded-sources, loaded-texts}
use Rattle.ms_include_laws.proofs.spellings.laws.laws_of_spellings.Goals as goal

pub returns-clause-sources : goal.returns-clause-sources
returns-clause-sources c = loaded-sources

pub returns-clause-texts : goal.returns-clause-texts
returns-clause-texts c = loaded-texts
