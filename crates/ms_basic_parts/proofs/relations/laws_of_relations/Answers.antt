use Rattle.ms_basic_parts.proofs.BitsStates.{bits_need_states}
use Rattle.ms_basic_parts.proofs.Budgets.{relations_are_within_budget}
use Rattle.ms_basic_parts.proofs.Measures.{relations_are_within_measure}
use Rattle.ms_basic_parts.proofs.NumberStates.{numbers_need_states, sums_need_states}
use Rattle.ms_basic_parts.proofs.ShiftStates.{shifts_down_need_states, shifts_up_need_states}
use Rattle.ms_basic_parts.proofs.relations.laws_of_relations.Goals as goal

pub returns-clause-numbers : goal.returns-clause-numbers
returns-clause-numbers c = numbers_need_states

pub returns-clause-sums : goal.returns-clause-sums
returns-clause-sums c = sums_need_states

pub returns-clause-shifts_up : goal.returns-clause-shifts_up
returns-clause-shifts_up c = shifts_up_need_states

pub returns-clause-shifts_down : goal.returns-clause-shifts_down
returns-clause-shifts_down c = shifts_down_need_states

pub returns-clause-bits : goal.returns-clause-bits
returns-clause-bits c = bits_need_states

pub returns-clause-budget : goal.returns-clause-budget
returns-clause-budget c = relations_are_within_budget

pub returns-clause-measure : goal.returns-clause-measure
returns-clause-measure c = relations_are_within_measure
