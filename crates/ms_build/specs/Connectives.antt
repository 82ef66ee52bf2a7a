-- The connectives of two values, each given by where it is Yes and where it is No: strict in a value that is lacking.
use Rattle.std.specs.Prelude.{◌⊎◌}
use Rattle.ms_logic.specs.Assignment.{Env}
use Rattle.ms_product.specs.declared.op.Op.{Op}
use Rattle.ms_product.specs.declared.op.Op.TheVariants.{And, Or, Implies, Iff}

abbrev pub Defined : (Env → Type 0) → (Env → Type 0) → Env → Type 0
Defined HoldsYes HoldsNo e = HoldsYes e ⊎ HoldsNo e

module _ (LeftYes LeftNo RightYes RightNo : Env → Type 0) where
  abbrev pub YesOf : Op → Env → Type 0
  YesOf And e = LeftYes e × RightYes e
  YesOf Or e = Defined LeftYes LeftNo e × Defined RightYes RightNo e × (LeftYes e ⊎ RightYes e)
  YesOf Implies e = Defined LeftYes LeftNo e × Defined RightYes RightNo e × (LeftNo e ⊎ RightYes e)
  YesOf Iff e = (LeftYes e × RightYes e) ⊎ (LeftNo e × RightNo e)

  abbrev pub NoOf : Op → Env → Type 0
  NoOf And e = Defined LeftYes LeftNo e × Defined RightYes RightNo e × (LeftNo e ⊎ RightNo e)
  NoOf Or e = LeftNo e × RightNo e
  NoOf Implies e = LeftYes e × RightNo e
  NoOf Iff e = (LeftYes e × RightNo e) ⊎ (LeftNo e × RightYes e)
