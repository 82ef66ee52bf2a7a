-- A set that is another one moved.
use Rattle.std.specs.Prelude.{ℕ}
use Rattle.ms_logic_core.specs.declared.core_formula.Basic.{Basic}
use Rattle.ms_logic_core.specs.declared.core_formula.Basic.TheVariants as basic
use Rattle.ms_basic.specs.declared.moved.Direction.{Direction}
use Rattle.ms_basic.specs.declared.moved.Direction.TheVariants.{Up, Down}

-- S = T + n, or S = T - n
abbrev pub moved_form : Direction → ℕ → ℕ → ℕ → Basic
moved_form Up s t n = basic.Up s t n
moved_form Down s t n = basic.Down s t n
