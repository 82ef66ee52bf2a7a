-- Laws of truth.
use Rattle.std.specs.Prelude.{ℕ, ◌↔◌}
use Rattle.ms_logic.specs.declared.mode.Order.{Order}
use Rattle.ms_logic.specs.declared.mode.Quant.TheVariants.{Ex, All}
use Rattle.ms_logic.specs.Assignment.{Env}
use Rattle.ms_logic.specs.Tree.{Form, negation, quantified, Restriction}
use Rattle.ms_logic.specs.Truth.{Given, Yes, No}

-- two formulas have one value everywhere
abbrev pub HaveSameValue : Given → Form → Form → Type 0
HaveSameValue given f g = (e : Env) → (Yes given f e ↔ Yes given g e) × (No given f e ↔ No given g e)

-- no formula is both Yes and No
abbrev pub YesExcludesNo : Type 0
YesExcludesNo = (given : Given) (f : Form) (e : Env) → Yes given f e → ¬ No given f e

-- ~~f has the value of f
abbrev pub DoubleNegation : Type 0
DoubleNegation = (given : Given) (f : Form) → HaveSameValue given (negation (negation f)) f

-- ~ex x where d: f has the value of all x where d: ~f
abbrev pub ExIsDual : Type 0
ExIsDual =
    (given : Given) (o : Order) (x : ℕ) (d : Restriction) (f : Form)
    → HaveSameValue given (negation (quantified Ex o x d f)) (quantified All o x d (negation f))

-- ~all x where d: f has the value of ex x where d: ~f
abbrev pub AllIsDual : Type 0
AllIsDual =
    (given : Given) (o : Order) (x : ℕ) (d : Restriction) (f : Form)
    → HaveSameValue given (negation (quantified All o x d f)) (quantified Ex o x d (negation f))
