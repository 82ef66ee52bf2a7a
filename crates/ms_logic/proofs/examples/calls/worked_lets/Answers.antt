use Rattle.std.proofs.Common.{true, [], ◌∷◌, refl, inr, rules}
use Rattle.ms_logic.specs.declared.assignment.Value.TheVariants.{Truth, Number}
use Rattle.ms_logic.proofs.examples.calls.worked_lets.Goals as goal

pub returns-clause-yes : goal.returns-clause-yes
returns-clause-yes c = (Number 2 ∷ [], (refl, tt), search rules)

pub returns-clause-no : goal.returns-clause-no
returns-clause-no c = inr (Number 2 ∷ [], (refl, tt), search rules)

pub returns-clause-defined_right_side : goal.returns-clause-defined_right_side
returns-clause-defined_right_side c = (Truth true ∷ [], (refl, tt), search rules)

pub returns-clause-bound_at_once : goal.returns-clause-bound_at_once
returns-clause-bound_at_once c = (Number 1 ∷ Number 3 ∷ [], (refl, (refl, tt)), search rules)
