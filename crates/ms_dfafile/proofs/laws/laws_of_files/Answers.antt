use Rattle.ms_dfafile.proofs.FileLemmas.{one_content, one_file}
use Rattle.ms_dfafile.proofs.laws.laws_of_files.Goals as goal

pub returns-clause-one : goal.returns-clause-one
returns-clause-one c = one_content

pub returns-clause-whole : goal.returns-clause-whole
returns-clause-whole c = λ bytes more one other is_one is_other. (one_file bytes more one other is_one is_other).1
