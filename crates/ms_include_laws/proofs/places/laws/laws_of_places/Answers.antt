use Rattle.ms_include_laws.proofs.of_places.FirstFaults.{first-faults}
use Rattle.ms_include_laws.proofs.of_places.Loads.{loaded-sources, loaded-texts, refused-loads, refused-texts}
use Rattle.ms_include_laws.proofs.of_places.Occurrences.{expressions-inside}
use Rattle.ms_include_laws.proofs.of_places.TypedSources.{typed-sources}
use Rattle.ms_include_laws.proofs.places.laws.laws_of_places.Goals as goal

pub returns-clause-inside : goal.returns-clause-inside
returns-clause-inside c = expressions-inside

pub returns-clause-sources : goal.returns-clause-sources
returns-clause-sources c = loaded-sources

pub returns-clause-texts : goal.returns-clause-texts
returns-clause-texts c = loaded-texts

pub returns-clause-typed : goal.returns-clause-typed
returns-clause-typed c = typed-sources

pub returns-clause-refused_loads : goal.returns-clause-refused_loads
returns-clause-refused_loads c = refused-loads

pub returns-clause-refused_texts : goal.returns-clause-refused_texts
returns-clause-refused_texts c = refused-texts

pub returns-clause-first_faults : goal.returns-clause-first_faults
returns-clause-first_faults c = first-faults
