use Rattle.ms_dfafile_imports.proofs.EnoughImports.{enough_imports_are_taken}
use Rattle.ms_dfafile_imports.proofs.ImportContents.{files_are_contents_of_imports}
use Rattle.ms_dfafile_imports.proofs.enough.laws_of_enough.Goals as goal

pub returns : goal.returns
returns c = record { contents = files_are_contents_of_imports; taken = enough_imports_are_taken }
