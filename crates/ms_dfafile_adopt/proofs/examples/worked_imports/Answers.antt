use Rattle.ms_dfafile_adopt.proofs.ExampleLemmas.{first_open, open_is, other_order, too_few, too_many, turned_round}
use Rattle.ms_dfafile_adopt.proofs.examples.worked_imports.Goals as goal

pub returns-clause-turned_round : goal.returns-clause-turned_round
returns-clause-turned_round c = turned_round

pub returns-clause-too_few : goal.returns-clause-too_few
returns-clause-too_few c = too_few

pub returns-clause-too_many : goal.returns-clause-too_many
returns-clause-too_many c = too_many

pub returns-clause-other_order : goal.returns-clause-other_order
returns-clause-other_order c = other_order

pub returns-clause-is_open : goal.returns-clause-is_open
returns-clause-is_open c = open_is

pub returns-clause-first_word : goal.returns-clause-first_word
returns-clause-first_word c = first_open
