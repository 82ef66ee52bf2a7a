use Rattle.std.proofs.Common.{[], ◌∷◌, refl, inr, rules}
use Rattle.ms_logic.specs.declared.assignment.Value.TheVariants.{Number}
use Rattle.ms_logic_spread.proofs.examples.worked_lets.Goals as goal

pub returns-clause-yes : goal.returns-clause-yes
returns-clause-yes c = (Number 1 ∷ Number 3 ∷ [], (refl, (refl, tt)), search rules)

pub returns-clause-no : goal.returns-clause-no
returns-clause-no c = inr (Number 3 ∷ Number 1 ∷ [], (refl, (refl, tt)), search rules)
