use Rattle.ms_include_laws.proofs.of_spellings.Worked.{import, import-of-word-refused, name, nothing-refused, word-refused}
use Rattle.ms_include_laws.proofs.spellings.examples.worked_declarations.Goals as goal

pub returns-clause-name : goal.returns-clause-name
returns-clause-name c = name

pub returns-clause-word : goal.returns-clause-word
returns-clause-word c = word-refused

pub returns-clause-nothing : goal.returns-clause-nothing
returns-clause-nothing c = nothing-refused

pub returns-clause-import : goal.returns-clause-import
returns-clause-import c = import

pub returns-clause-import_of_word : goal.returns-clause-import_of_word
returns-clause-import_of_word c = import-of-word-refused

pub returns-clause-goal : goal.returns-clause-goal
returns-clause-goal c = import

pub returns-clause-goal_of_word : goal.returns-clause-goal_of_word
returns-clause-goal_of_word c = import-of-word-refused
