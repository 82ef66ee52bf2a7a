-- A relation of sets to one another, by its operands.
use Rattle.std.specs.Prelude.{ℕ, Bool, false, ◌==◌, ◌&&◌}
use Rattle.ms_logic_core.specs.declared.core_formula.Basic.{Basic}
use Rattle.ms_logic_core.specs.declared.core_formula.Basic.TheVariants as basic
use Rattle.ms_basic.specs.declared.sets.SetRelation.{SetRelation}
use Rattle.ms_basic.specs.declared.sets.SetRelation.TheVariants.{Sub, Union, Inter, Diff}

-- the relation as a basic one; of an inclusion there is no third set
abbrev pub sets_form : SetRelation → ℕ → ℕ → ℕ → Basic
sets_form Sub s t u = basic.Sub s t
sets_form Union s t u = basic.Union s t u
sets_form Inter s t u = basic.Inter s t u
sets_form Diff s t u = basic.Diff s t u

-- whether the operands are one set, and each set has the relation to itself
abbrev pub is_of_itself : SetRelation → ℕ → ℕ → ℕ → Bool
is_of_itself Sub s t u = s == t
is_of_itself Union s t u = s == t && t == u
is_of_itself Inter s t u = s == t && t == u
is_of_itself Diff s t u = false
