use Rattle.ms_dfafile_adopt.proofs.LawLemmas.{answers_as_file}
use Rattle.ms_dfafile_adopt.proofs.laws.laws_of_imports.Goals as goal

pub returns : goal.returns
returns c = answers_as_file
