use Rattle.std.proofs.Common.{◌/◌, ◌%◌, inl, inr, ⊎_elim, refl, arith}
use Rattle.std.proofs.lemmas.Bool.{cases_lt}
use Rattle.ms_presburger.proofs.examples.worked_truth.Goals as goal

pub returns-clause-even_or_odd : goal.returns-clause-even_or_odd
returns-clause-even_or_odd c = λ n. (n / 2, ⊎_elim (λ even. inl (omega (arith, even))) (λ odd. inr (inl (omega (arith, odd)))) (cases_lt (n % 2) 1))

pub returns-clause-not_all_even : goal.returns-clause-not_all_even
returns-clause-not_all_even c = λ all. let half = all 1 in omega (arith, half.1)

pub returns-clause-four_times_six : goal.returns-clause-four_times_six
returns-clause-four_times_six c = (4, refl)

pub returns-clause-no_sixth_of_four : goal.returns-clause-no_sixth_of_four
returns-clause-no_sixth_of_four c = λ some. omega (arith, some.1)

pub returns-clause-no_sixth_of_fourteen : goal.returns-clause-no_sixth_of_fourteen
returns-clause-no_sixth_of_fourteen c = λ some. omega (arith, some.1)

pub returns-clause-hides_outer : goal.returns-clause-hides_outer
returns-clause-hides_outer c = (5, refl)

pub returns-clause-outer_again : goal.returns-clause-outer_again
returns-clause-outer_again c = ((5, refl), (refl, tt))

pub returns-clause-not_outside : goal.returns-clause-not_outside
returns-clause-not_outside c = λ both. omega (arith, both.1.0)

pub returns-clause-inner_and_outer : goal.returns-clause-inner_and_outer
returns-clause-inner_and_outer c = (3, (refl, ((5, refl), tt)))

pub returns-clause-named_twice : goal.returns-clause-named_twice
returns-clause-named_twice c = (0, (5, refl))

pub returns-clause-last_binds : goal.returns-clause-last_binds
returns-clause-last_binds c = λ all. omega (arith, all 5 0)
