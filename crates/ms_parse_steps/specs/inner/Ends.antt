-- Symbols behind an expression: the `in` that ends a right side of a `let`, and operators.
use Rattle.std.specs.Prelude.{◌≡◌, Bool, true, false, ◌&&◌}
use Rattle.ms_parse_grammar.specs.Grammar.{is_in}
use Rattle.ms_parse_grammar.specs.Symbol.{Symbol, infix_operator, joining, sign}

-- `in`, where a right side of a `let` has been begun and no bracket in it
abbrev pub ends_part : Bool → Symbol → Bool
ends_part inside (infix_operator op) = inside && is_in op
ends_part inside _ = false

-- the expression does not go on with an operator
abbrev pub IsEnd : Bool → Symbol → Type 0
IsEnd inside (infix_operator op) = (inside && is_in op) ≡ true
IsEnd inside (joining op) = ⊥
IsEnd inside (sign minus) = ⊥
IsEnd inside _ = Unit {0}

-- it goes on with one
abbrev pub IsOperator : Bool → Symbol → Type 0
IsOperator inside (infix_operator op) = (inside && is_in op) ≡ false
IsOperator inside (joining op) = Unit {0}
IsOperator inside (sign minus) = Unit {0}
IsOperator inside _ = ⊥
