use Rattle.std.proofs.Common.{rules}
use Rattle.ms_logic.specs.declared.assignment.Value.TheVariants.{Number}
use Rattle.ms_logic_spread.proofs.examples.worked_names.Goals as goal

pub returns-clause-yes : goal.returns-clause-yes
returns-clause-yes c = (Number 1, (tt, tt), search rules)

pub returns-clause-core_yes : goal.returns-clause-core_yes
returns-clause-core_yes c = (Number 1, (tt, tt), search rules)
