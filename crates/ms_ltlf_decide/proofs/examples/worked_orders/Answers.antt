use Rattle.std.proofs.Common.{inl, inr, refl, arith}
use Rattle.ms_ltlf_decide.proofs.examples.worked_orders.Goals as goal

pub returns-clause-shorter : goal.returns-clause-shorter
returns-clause-shorter c = inl (omega arith)

pub returns-clause-longer : goal.returns-clause-longer
returns-clause-longer c = λ before. elim before [ inl shorter ↦ omega (arith, shorter) | inr (same, lower) ↦ omega (arith, same) ]

pub returns-clause-earlier_position : goal.returns-clause-earlier_position
returns-clause-earlier_position c = inr (refl, tt)

pub returns-clause-earlier_proposition : goal.returns-clause-earlier_proposition
returns-clause-earlier_proposition c = inr (refl, tt)

pub returns-clause-later_proposition : goal.returns-clause-later_proposition
returns-clause-later_proposition c = λ before. elim before [ inl shorter ↦ omega (arith, shorter) | inr (same, lower) ↦ lower ]

pub returns-clause-itself : goal.returns-clause-itself
returns-clause-itself c = λ before. elim before [ inl shorter ↦ omega (arith, shorter) | inr (same, lower) ↦ lower ]

pub returns-clause-shown : goal.returns-clause-shown
returns-clause-shown c = refl
