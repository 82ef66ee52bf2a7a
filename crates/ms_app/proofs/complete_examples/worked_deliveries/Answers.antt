use Rattle.ms_app.proofs.ExampleFiles.{generated_first, no_such_number, other_text, something_written}
use Rattle.ms_app.proofs.complete_examples.worked_deliveries.Goals as goal

pub returns-clause-generated : goal.returns-clause-generated
returns-clause-generated c = generated_first

pub returns-clause-other_text : goal.returns-clause-other_text
returns-clause-other_text c = other_text

pub returns-clause-no_number : goal.returns-clause-no_number
returns-clause-no_number c = no_such_number

pub returns-clause-written : goal.returns-clause-written
returns-clause-written c = something_written
