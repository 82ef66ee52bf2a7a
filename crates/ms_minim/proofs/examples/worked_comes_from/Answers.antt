use Rattle.std.proofs.Common.{arith}
use Rattle.ms_minim.specs.inner.Examples.{three_states}
use Rattle.ms_minim.proofs.ExampleOrigins.{comes_from_root, letter_leads, letters_lead, start_leads, start_leads_to_no_node}
use Rattle.ms_minim.proofs.examples.worked_comes_from.Goals as goal

pub returns-clause-start : goal.returns-clause-start
returns-clause-start c = comes_from_root three_states 0

pub returns-clause-letter : goal.returns-clause-letter
returns-clause-letter c = letter_leads

pub returns-clause-node : goal.returns-clause-node
returns-clause-node c = comes_from_root three_states 1

pub returns-clause-later : goal.returns-clause-later
returns-clause-later c = comes_from_root three_states 2

pub returns-clause-not_by_start : goal.returns-clause-not_by_start
returns-clause-not_by_start c comes = let never = start_leads 1 comes in omega (arith, never)

pub returns-clause-not_by_letter : goal.returns-clause-not_by_letter
returns-clause-not_by_letter c comes = let never = letters_lead 2 comes in omega (arith, never)

pub returns-clause-one_leaf_only : goal.returns-clause-one_leaf_only
returns-clause-one_leaf_only c = start_leads_to_no_node
