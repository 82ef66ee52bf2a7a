-- What the numbers of the answer keep.
use Rattle.std.specs.Prelude.{◌≡◌, ℕ, ◌-◌, ◌%◌, ◌≤◌, List, min, slice_get}
use Rattle.ms_logic.specs.declared.mode.Order.{Order}
use Rattle.ms_logic.specs.Lists.{AreRising}
use Rattle.ms_logic_core.specs.Roots.{Root, first_free}
use Rattle.ms_logic_core.specs.SameUpToBound.{SameRoot}
use Rattle.ms_logic_core.specs.Spread.{variables_of_import}
use Rattle.ms_logic.specs.Truth.{Import}
use Rattle.ms_lower.specs.Numbering.{Numbering, number_at, with_new_numbers}
use Rattle.ms_logic_core.specs.Orders.{order_of_rank}
use Rattle.ms_logic_core.specs.Stands.{Stands}

-- the numbers of the answer for a root, in a source with so many globals and these imports
abbrev pub numbering_in : ℕ → List Import → Root → Numbering
numbering_in globals imports root = record {
  number = number_at (min globals (first_free root.variables)) globals;
  imported = λ i. variables_of_import (slice_get imports i);
}

-- a root in which each variable stands in its scope is the same, up to the numbers of bound variables, with the numbers of the answer
abbrev pub NumbersKeepRoots : Type 0
NumbersKeepRoots =
    (globals : ℕ) (imports : List Import) (root : Root) → AreRising root.variables → Stands imports root.variables root.formula
    → SameRoot imports globals root (with_new_numbers (numbering_in globals imports root) root)

-- with the numbers of the answer each variable stands in its scope too, and a bound variable has a greater number than those in scope
abbrev pub NumbersKeepScopes : Type 0
NumbersKeepScopes =
    (globals : ℕ) (imports : List Import) (root : Root) → Stands imports root.variables root.formula
    → Stands imports
    (with_new_numbers (numbering_in globals imports root) root).variables
    (with_new_numbers (numbering_in globals imports root) root).formula

-- a number behind those of the globals has the order of its variable
abbrev pub NumbersHaveOrders : Type 0
NumbersHaveOrders =
    (kept globals : ℕ) (o : Order) (x : ℕ) → kept ≤ x
    → (globals ≤ number_at kept globals o x) × (order_of_rank ((number_at kept globals o x - globals) % 3) ≡ o)
