-- The connectives on three values, strict in the third: a formula has no value where a part has none. A word that encodes no
-- assignment keeps its sign.
use Rattle.std.specs.Prelude.{Bool, true, false, not, ◌&&◌, ◌||◌, if◌then◌else◌}
use Rattle.ms_logic_words.specs.declared.sign.Sign.{Sign}
use Rattle.ms_logic_words.specs.declared.sign.Sign.TheVariants.{Yes, No, Undefined, Outside}
use Rattle.ms_product.specs.declared.change.Change.{Change}
use Rattle.ms_product.specs.declared.change.Change.TheVariants.{Negation, Restriction}
use Rattle.ms_product.specs.declared.op.Op.{Op}
use Rattle.ms_product.specs.declared.op.Op.TheVariants.{And, Or, Implies, Iff}

-- the connective of two truth values
abbrev pub connective : Op → Bool → Bool → Bool
connective And left right = left && right
connective Or left right = left || right
connective Implies left right = not left || right
connective Iff left right = if left then right else not right

-- the sign of a truth value
abbrev pub sign_for : Bool → Sign
sign_for truth = if truth then Yes else No

-- the connective of two signs
abbrev pub strict : Op → Sign → Sign → Sign
strict op Yes Yes = sign_for (connective op true true)
strict op Yes No = sign_for (connective op true false)
strict op Yes Undefined = Undefined
strict op Yes Outside = Outside
strict op No Yes = sign_for (connective op false true)
strict op No No = sign_for (connective op false false)
strict op No Undefined = Undefined
strict op No Outside = Outside
strict op Undefined Yes = Undefined
strict op Undefined No = Undefined
strict op Undefined Undefined = Undefined
strict op Undefined Outside = Outside
strict op Outside right = Outside

-- the negation: Yes and No change places
abbrev pub negated : Sign → Sign
negated Yes = No
negated No = Yes
negated Undefined = Undefined
negated Outside = Outside

-- as a restriction: what is not met has no value
abbrev pub restricted : Sign → Sign
restricted Yes = Yes
restricted No = Undefined
restricted Undefined = Undefined
restricted Outside = Outside

-- what becomes of a sign
abbrev pub change_by : Change → Sign → Sign
change_by Negation sign = negated sign
change_by Restriction sign = restricted sign
