-- What a checked source promises by itself, beside what its numbers stand for.
use Rattle.ms_logic.specs.declared.checked.Checked.{Checked}
use Rattle.ms_names_checked.specs.Constants.{HasConstantsInRange}
use Rattle.ms_names_checked.specs.Exports.{ListsFreeVariables}
use Rattle.ms_names_checked.specs.Names.{NamesDiffer}
use Rattle.ms_names_checked.specs.Orders.{HasOneOrder}

pub record MeetsRules (checked : Checked) : Type 0 where
  -- exports stand where they may, and list the free variables of what they export
  pub exports : ListsFreeVariables checked
  pub names : NamesDiffer checked
  -- variables of one number have one order
  pub orders : HasOneOrder checked
  -- and each relation stands between terms of the orders that it is for
  pub constants : HasConstantsInRange checked
