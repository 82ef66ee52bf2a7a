use Rattle.ms_include_laws.proofs.of_loads.Loads.{one_text, text_or_refused}
use Rattle.ms_include_laws.proofs.loads.laws.laws_of_texts.Goals as goal

pub returns-clause-load : goal.returns-clause-load
returns-clause-load c = one_text

pub returns-clause-loadable : goal.returns-clause-loadable
returns-clause-loadable c = text_or_refused
