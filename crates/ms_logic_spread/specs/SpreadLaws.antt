-- The spread keeps the value of a formula.
use Rattle.std.specs.Prelude.{◌≡◌, ◌↔◌, ℕ, ◌<◌, List}
use Rattle.ms_logic.specs.declared.mode.Mode.{Mode}
use Rattle.ms_logic.specs.Assignment.{Env, Variable, value_at, IsValueOf, IsAssignment}
use Rattle.ms_logic_core.specs.CoreForm.{CoreForm, CoreYes, CoreNo}
use Rattle.ms_logic.specs.FreeVariables.{IsFree, IsListed}
use Rattle.ms_logic_core.specs.Roots.{first_free}
use Rattle.ms_logic_core.specs.Spread.{Names, spread, own_names}
use Rattle.ms_logic.specs.Tree.{Form}
use Rattle.ms_logic.specs.Truth.{Given, Yes, No}

-- a formula at e, and a core formula at c, are Yes, No or Undefined alike
abbrev pub HaveOneValue : Given → Form → Env → CoreForm → Env → Type 0
HaveOneValue given f e g c = (Yes given f e ↔ CoreYes given.imports g c) × (No given f e ↔ CoreNo given.imports g c)

-- Under their names, the variables in scope have at c the values that they have at e, which are values of their orders; and their
-- names are below a number.
pub record AreNamed (InScope : Variable → Type 0) (names : Names) (free : ℕ) (e c : Env) : Type 0 where
  pub universe : c.universe ≡ e.universe
  pub below : (w : Variable) → InScope w → names w.order w.name < free
  pub values : (w : Variable) → InScope w → value_at w.order (names w.order w.name) c ≡ value_at w.order w.name e
  pub valid : (w : Variable) → InScope w → IsValueOf w.order e.universe (value_at w.order w.name e)

-- a formula has the value of its spread, whatever its free variables are named
abbrev pub SpreadKeepsValueUnderNames : Type 0
SpreadKeepsValueUnderNames =
    (given : Given) (f : Form) (names : Names) (free : ℕ) (e c : Env)
    → AreNamed (IsFree given f) names free e c → HaveOneValue given f e (spread given f names free) c

-- at each assignment of variables with its free ones among them, a formula has the value of its spread
abbrev pub SpreadKeepsEachValue : Type 0
SpreadKeepsEachValue =
    (given : Given) (mode : Mode) (variables : List Variable) (f : Form) (e : Env)
    → IsAssignment mode variables e → ((w : Variable) → IsFree given f w → IsListed variables w)
    → HaveOneValue given f e (spread given f own_names (first_free variables)) e
