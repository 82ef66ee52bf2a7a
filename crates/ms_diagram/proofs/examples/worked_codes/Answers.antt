use Rattle.std.proofs.Common.{inl, inr, ⊎_elim, arith}
use Rattle.ms_diagram.proofs.examples.worked_codes.Goals as goal

pub returns-clause-greatest : goal.returns-clause-greatest
returns-clause-greatest c = ((omega arith, omega arith), tt)

pub returns-clause-too_great : goal.returns-clause-too_great
returns-clause-too_great c = λ short. let below = short.0.1 in omega (arith, below)

pub returns-clause-long_node : goal.returns-clause-long_node
returns-clause-long_node c = inl (omega arith)

pub returns-clause-long_leaf : goal.returns-clause-long_leaf
returns-clause-long_leaf c = inr (omega arith)

pub returns-clause-short_pair : goal.returns-clause-short_pair
returns-clause-short_pair c = λ long. ⊎_elim (λ left. omega (arith, left)) (λ right. omega (arith, right)) long
