-- Signs as answers of imports, and the sign of a state that may be none.
use Rattle.std.specs.Prelude.{Option, Some, None}
use Rattle.ms_logic.specs.Truth.{Answer, answer_yes, answer_no, answer_undefined}
use Rattle.ms_logic_words.specs.declared.sign.Sign.{Sign}
use Rattle.ms_logic_words.specs.declared.sign.Sign.TheVariants.{Yes, No, Undefined, Outside}

-- a sign as an answer
abbrev pub answer_for : Sign → Answer
answer_for Yes = answer_yes
answer_for No = answer_no
answer_for Undefined = answer_undefined
answer_for Outside = answer_undefined

-- the sign of a state, and Outside for a number of no state
abbrev pub sign_or_outside : Option Sign → Sign
sign_or_outside None = Outside
sign_or_outside (Some sign) = sign
