-- What a quantifier over an automaton means: the clauses of truth, with the signs of a body and of a domain in place of the
-- values of formulas.
use Rattle.std.specs.Prelude.{◌⊎◌, Option, Some, None}
use Rattle.ms_logic.specs.declared.mode.Quant.{Quant}
use Rattle.ms_logic.specs.declared.mode.Quant.TheVariants.{Ex, All}
use Rattle.ms_logic_words.specs.declared.sign.Sign.{Sign}
use Rattle.ms_logic_words.specs.declared.sign.Sign.TheVariants.{Yes, No}
use Rattle.ms_logic.specs.declared.assignment.Value.{Value}
use Rattle.ms_logic.specs.Assignment.{Env, Variable, assign}
use Rattle.ms_logic.specs.Truth.{InRange, SomeInRange, NoneInRange, IsEmptyRange}
use Rattle.ms_logic_words.specs.Content.{Content}
use Rattle.ms_dfa.specs.Values.{Meaning, meaning_by, own_meaning}

-- the domain is Yes there; without one each value is in the range
abbrev pub IsMetBy : Option (Content Sign) → Env → Type 0
IsMetBy None e = Unit {0}
IsMetBy (Some domain) e = own_meaning domain e Yes

-- the range of the bound variable: the values of its order at which the domain is met
abbrev pub RangeOf : Variable → (Env → Type 0) → Env → Value → Type 0
RangeOf bound IsMet = InRange bound.order bound.name IsMet

-- the body has the sign where the bound variable has the value
abbrev pub BodyAt : Meaning → Variable → Env → Sign → Value → Type 0
BodyAt body bound e sign v = body (assign bound.name v e) sign

abbrev pub QuantifiedYes : Quant → Variable → (Env → Type 0) → Meaning → Env → Type 0
QuantifiedYes Ex bound IsMet body e = SomeInRange (RangeOf bound IsMet e) (BodyAt body bound e Yes)
QuantifiedYes All bound IsMet body e =
    NoneInRange (RangeOf bound IsMet e) (BodyAt body bound e No)
    × (SomeInRange (RangeOf bound IsMet e) (BodyAt body bound e Yes) ⊎ IsEmptyRange (RangeOf bound IsMet e))

abbrev pub QuantifiedNo : Quant → Variable → (Env → Type 0) → Meaning → Env → Type 0
QuantifiedNo Ex bound IsMet body e =
    NoneInRange (RangeOf bound IsMet e) (BodyAt body bound e Yes)
    × (SomeInRange (RangeOf bound IsMet e) (BodyAt body bound e No) ⊎ IsEmptyRange (RangeOf bound IsMet e))
QuantifiedNo All bound IsMet body e = SomeInRange (RangeOf bound IsMet e) (BodyAt body bound e No)

-- the value of the quantified body
abbrev pub quantified : Quant → Variable → (Env → Type 0) → Meaning → Meaning
quantified q bound IsMet body = meaning_by (QuantifiedYes q bound IsMet body) (QuantifiedNo q bound IsMet body)
