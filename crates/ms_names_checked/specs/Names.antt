-- The names in a checked source.
use Rattle.std.specs.Prelude.{◌≢◌, ℕ, AllPairs, List, map}
use Rattle.ms_logic.specs.declared.checked.Checked.{Checked}
use Rattle.ms_logic.specs.declared.checked.ExportUse.{ExportUse}
use Rattle.ms_logic.specs.declared.checked.Global.{Global}
use Rattle.ms_logic.specs.declared.checked.ImportUse.{ImportUse}
use Rattle.ms_logic.specs.declared.checked.MapPair.{MapPair}
use Rattle.ms_logic.specs.Lists.{Each}
use Rattle.ms_names_rules.specs.Scope.{Bytes}

-- some names are all different
abbrev pub AreDifferent : List Bytes → Type 0
AreDifferent names = AllPairs (λ n m. n ≢ m) names

-- no two names of the file of an import stand for one variable
abbrev pub HasDifferentRights : ImportUse → Type 0
HasDifferentRights used = AllPairs (λ (x : ℕ) y. x ≢ y) (map (λ (pair : MapPair). pair.variable) used.pairs)

-- Names differ: those of the globals, those of the variables of one export, those that one import reads in its file, and the
-- variables for which they stand, and those of the files that are exported.
pub record NamesDiffer (checked : Checked) : Type 0 where
  pub globals : AreDifferent (map (λ (g : Global). g.name) checked.globals)
  pub exports : Each (λ (used : ExportUse). AreDifferent used.names) checked.exports
  pub imports : Each (λ (used : ImportUse). AreDifferent (map (λ (pair : MapPair). pair.name) used.pairs)) checked.imports
  pub imported : Each HasDifferentRights checked.imports
  pub files : AreDifferent (map (λ (used : ExportUse). used.name) checked.exports)
