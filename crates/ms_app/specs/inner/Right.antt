-- What the later steps need of a checked source.
use Rattle.ms_names_checked.specs.Checked.{MeetsRules}
use Rattle.ms_names_checked.specs.Spellings.{HasNames}
use Rattle.ms_logic.specs.declared.checked.Checked.{Checked}
use Rattle.ms_names_rules.specs.Numbers.{IsWellNumbered}

-- its numbers are in order, it meets the rules, and its names are names of the language
pub record IsRight (checked : Checked) : Type 0 where
  pub numbered : IsWellNumbered checked
  pub meets_rules : MeetsRules checked
  pub names : HasNames checked
