-- What is marked of the states of a body and a domain, and the sign that follows from the marks of all that words reach.
use Rattle.std.specs.Prelude.{◌≡◌, ℕ, Bool, true, false, if◌then◌else◌, List, [], ◌∷◌}
use Rattle.ms_logic.specs.declared.mode.Mode.{Mode}
use Rattle.ms_logic.specs.declared.mode.Mode.TheVariants.{Ws1s, M2lStr}
use Rattle.ms_logic.specs.declared.mode.Order.{Order}
use Rattle.ms_logic.specs.declared.mode.Order.TheVariants.{Zero, One, Two}
use Rattle.ms_logic.specs.declared.mode.Quant.{Quant}
use Rattle.ms_logic.specs.declared.mode.Quant.TheVariants.{Ex, All}
use Rattle.ms_logic_words.specs.declared.sign.Sign.{Sign}
use Rattle.ms_logic_words.specs.declared.sign.Sign.TheVariants.{Yes, No, Undefined, Outside}
use Rattle.ms_logic.specs.Assignment.{Variable}
use Rattle.ms_quotient.specs.declared.marks.Marks.{Marks}
use Rattle.ms_quotient.specs.Closure.{no_marks, IsClosure}

abbrev pub is_yes : Sign → Bool
is_yes Yes = true
is_yes No = false
is_yes Undefined = false
is_yes Outside = false

-- the marks of a word: none where it encodes no assignment, and the sign of the body where the domain is Yes
abbrev pub marks_of : Sign → Sign → Marks
marks_of Yes domain = record { yes = is_yes domain; no = false; undefined = false; encoding = true }
marks_of No domain = record { yes = false; no = is_yes domain; undefined = false; encoding = true }
marks_of Undefined domain = record { yes = false; no = false; undefined = is_yes domain; encoding = true }
marks_of Outside domain = no_marks

-- the sign of a quantified body whose range has values with these marks, if it has values at all
abbrev pub range_sign : Quant → Marks → Sign
range_sign Ex met = if met.yes then Yes else (if met.no then No else (if met.undefined then Undefined else No))
range_sign All met = if met.no then No else (if met.yes then Yes else (if met.undefined then Undefined else Yes))

-- the sign where there is no value
abbrev pub empty_sign : Quant → Sign
empty_sign Ex = No
empty_sign All = Yes

-- the sign by all marks: where no word encodes an assignment, there is no value, or the others have none either
abbrev pub sign_by : Quant → Bool → Marks → Sign
sign_by q can_be_empty met = if met.encoding then range_sign q met else (if can_be_empty then empty_sign q else Outside)

abbrev pub is_number : Order → Bool
is_number Zero = false
is_number One = true
is_number Two = false

-- whether no variable is a number
abbrev pub has_no_number : List Variable → Bool
has_no_number [] = true
has_no_number (v ∷ vs) = if is_number v.order then false else has_no_number vs

-- whether words that encode an assignment of the rest can leave no value to the bound variable: on the empty string, on
-- which a number has none, where the rest has no number itself
abbrev pub can_be_empty : Mode → List Variable → Bool
can_be_empty Ws1s rest = false
can_be_empty M2lStr rest = has_no_number rest

-- in WS1S the marks are closed along zeros at the end of a word
abbrev pub AreClosedMarks : Mode → List ℕ → List Marks → List Marks → Type 0
AreClosedMarks Ws1s next marks closed = IsClosure next marks closed
AreClosedMarks M2lStr next marks closed = closed ≡ marks
