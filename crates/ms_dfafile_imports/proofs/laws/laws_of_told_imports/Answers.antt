use Rattle.ms_dfafile_imports.proofs.Told.{imported-once, imported-refused}
use Rattle.ms_dfafile_imports.proofs.laws.laws_of_told_imports.Goals as goal

pub returns-clause-contents : goal.returns-clause-contents
returns-clause-contents c = imported-once

pub returns-clause-room : goal.returns-clause-room
returns-clause-room c = imported-refused
