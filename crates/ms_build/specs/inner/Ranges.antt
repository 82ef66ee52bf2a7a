-- A quantifier within a range where nothing is undefined, as one over all values.
use Rattle.std.specs.Prelude.{◌≡◌, ◌≢◌, ◌++◌, ◌∷◌, [], ℕ, List, Some}
use Rattle.ms_logic.specs.Assignment.{Variable}
use Rattle.ms_logic.specs.Lists.{without}
use Rattle.ms_logic.specs.declared.mode.Quant.{Quant}
use Rattle.ms_logic.specs.declared.mode.Quant.TheVariants.{Ex, All}
use Rattle.ms_logic_words.specs.Content.{Content, sign_at}
use Rattle.ms_logic_words.specs.declared.sign.Sign.{Sign}
use Rattle.ms_logic_words.specs.declared.sign.Sign.TheVariants.{Undefined}
use Rattle.ms_product.specs.declared.op.Op.{Op}
use Rattle.ms_product.specs.declared.op.Op.TheVariants.{And, Implies}

-- no state has the sign Undefined
abbrev pub IsDefined : Content Sign → Type 0
IsDefined content = (state : ℕ) → sign_at content state ≢ Some Undefined

-- some value is in the range and has the body, or each has the body if it is in the range
abbrev pub op_within : Quant → Op
op_within Ex = And
op_within All = Implies

-- the variable is the last one
abbrev pub IsLast : List Variable → Variable → Type 0
IsLast variables own = without own.name variables ++ own ∷ [] ≡ variables
