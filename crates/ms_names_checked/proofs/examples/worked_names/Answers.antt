use Rattle.ms_names_checked.proofs.Worked.{file-twice, global-twice, left-twice, names-differ, right-twice, variable-twice}
use Rattle.ms_names_checked.proofs.examples.worked_names.Goals as goal

pub returns : goal.returns
returns c = record { differ = names-differ; file_twice = file-twice; global_twice = global-twice; variable_twice = variable-twice; left_name_twice = left-twice; right_name_twice = right-twice }
