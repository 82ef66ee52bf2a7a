use Rattle.ms_dfafile_imports.proofs.Worked.{two-contents, two-files}
use Rattle.ms_dfafile_imports.proofs.examples.worked_contents.Goals as goal

pub returns-clause-two_contents : goal.returns-clause-two_contents
returns-clause-two_contents c = two-contents

pub returns-clause-two_files : goal.returns-clause-two_files
returns-clause-two_files c = two-files
