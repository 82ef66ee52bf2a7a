-- The first declaration of a source that is too deep.
use Rattle.std.specs.Prelude.{◌≡◌, ℕ, ◌<◌, ◌≤◌, ◌⊎◌, List, [], ◌∷◌, ◌++◌, Result, Ok, Err, Some, map}
use Rattle.std.specs.Option.{option_map}
use Rattle.ms_list.specs.declared.at.At.{At}
use Rattle.ms_logic.specs.declared.checked.Checked.{Checked}
use Rattle.ms_logic.specs.declared.checked.Global.{Global}
use Rattle.ms_logic.specs.declared.checked.Placed.{Placed}
use Rattle.ms_logic_core.specs.Size.{Extent, Extents, extent_under, extents_of, extents_of_restriction, greatest_depth}
use Rattle.ms_logic.specs.View.{formula_of, predicate_of, restriction}
use Rattle.ms_lower.specs.declared.counted.Counted.{Counted}
use Rattle.ms_lower.specs.declared.source_extents.Deep.{Deep}
use Rattle.ms_lower.specs.Counted.{counted, deepest}

-- a declaration of a formula, or a global of a declaration: the number of the declaration, its place, and the extents of what
-- counts of it
pub record Part : Type 0 where
  pub item : ℕ
  pub at : At
  pub extents : List Extent

abbrev pub part_of_global : Extents → Global → Part
part_of_global x g = record { item = g.item; at = g.at; extents = extents_of_restriction x (restriction (option_map formula_of g.domain)) }

abbrev pub part_of_formula : Extents → Placed → Part
part_of_formula x placed = record { item = placed.item; at = placed.at; extents = extent_under x (formula_of placed.formula) ∷ [] }

-- the globals, and then the formulas
abbrev pub parts_under : Extents → List Global → List Placed → List Part
parts_under x globals formulas = map (part_of_global x) globals ++ map (part_of_formula x) formulas

abbrev pub parts_of : Checked → List Part
parts_of checked = parts_under (extents_of (map predicate_of checked.predicates)) checked.globals checked.formulas

-- a part makes the source too deep
abbrev pub IsTooDeep : Part → Type 0
IsTooDeep part = deepest < greatest_depth part.extents

-- some part of the declaration with this number, at this place, is too deep
abbrev pub HasTooDeep : ℕ → At → List Part → Type 0
HasTooDeep item at [] = ⊥
HasTooDeep item at (part ∷ more) = ((part.item ≡ item) × (part.at ≡ at) × IsTooDeep part) ⊎ HasTooDeep item at more

-- no part of an earlier declaration is too deep
abbrev pub NoneBefore : ℕ → List Part → Type 0
NoneBefore item [] = Unit {0}
NoneBefore item (part ∷ more) = (IsTooDeep part → item ≤ part.item) × NoneBefore item more

-- the first declaration, by its number, with a part that is too deep stands at this place
pub record IsFirstTooDeep (parts : List Part) (at : At) : Type 0 where
  pub item : ℕ
  pub deep : HasTooDeep item at parts
  pub first : NoneBefore item parts

abbrev pub extents_of_parts : List Part → List Extent
extents_of_parts [] = []
extents_of_parts (part ∷ more) = part.extents ++ extents_of_parts more

-- what is found of some parts: their count, or the first declaration that is too deep
abbrev pub IsFound : List Part → Result Counted Deep → Type 0
IsFound parts (Ok c) = counted deepest (extents_of_parts parts) ≡ Some c
IsFound parts (Err d) = HasTooDeep d.item d.at parts × NoneBefore d.item parts
