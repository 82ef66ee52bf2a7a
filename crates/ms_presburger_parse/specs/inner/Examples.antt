-- Symbols and formulas for worked examples.
use Rattle.std.specs.Prelude.{ℕ, zero, suc, List, [], ◌∷◌, ◌++◌, codes}
use Rattle.ms_logic.specs.declared.mode.Quant.TheVariants.{Ex, All}
use Rattle.ms_logic.specs.declared.mode.Rel.TheVariants.{Equal, Less}
use Rattle.ms_presburger.specs.declared.linear.Part.TheVariants.{Number, Var}
use Rattle.ms_presburger.specs.Tree.{Arithmetic, comparison, brackets, Arithmetics, no_arithmetics, more_arithmetics}
use Rattle.ms_presburger_parse.specs.Symbol.{Symbol, name, number, quantifier, infix_operator, joining, relation, open_bracket, close_bracket, semicolon}
use Rattle.ms_presburger_parse.specs.declared.operator.Binary.TheVariants.{Equivalence, Implication}
use Rattle.ms_parse_stack.specs.inner.Examples.{repeated}
use Rattle.ms_parse_stack.specs.declared.junction.Junction.TheVariants.{Conjunction, Disjunction}

-- names

abbrev pub x : List ℕ
x = codes "x"

abbrev pub y : List ℕ
y = codes "y"

abbrev pub z : List ℕ
z = codes "z"

-- symbols, as they are written

abbrev pub ex : Symbol
ex = quantifier Ex

abbrev pub all : Symbol
all = quantifier All

abbrev pub implies : Symbol
implies = infix_operator Implication

abbrev pub iff : Symbol
iff = infix_operator Equivalence

abbrev pub and : Symbol
and = joining Conjunction

abbrev pub or : Symbol
or = joining Disjunction

abbrev pub equals : Symbol
equals = relation Equal

abbrev pub less : Symbol
less = relation Less

-- the first comparisons, and their symbols

-- x = 1
abbrev pub first : Arithmetic
first = comparison Equal (Var x ∷ []) (Number 1 ∷ [])

-- y = 2
abbrev pub second : Arithmetic
second = comparison Equal (Var y ∷ []) (Number 2 ∷ [])

-- z = 3
abbrev pub third : Arithmetic
third = comparison Equal (Var z ∷ []) (Number 3 ∷ [])

abbrev pub a : List Symbol
a = name x ∷ equals ∷ number 1 ∷ []

abbrev pub b : List Symbol
b = name y ∷ equals ∷ number 2 ∷ []

abbrev pub c : List Symbol
c = name z ∷ equals ∷ number 3 ∷ []

-- two names that are equal
abbrev pub same : List ℕ → List ℕ → Arithmetic
same one other = comparison Equal (Var one ∷ []) (Var other ∷ [])

abbrev pub two : Arithmetic → Arithmetic → Arithmetics
two f g = more_arithmetics f (more_arithmetics g no_arithmetics)

abbrev pub three : Arithmetic → Arithmetic → Arithmetic → Arithmetics
three f g h = more_arithmetics f (two g h)

-- these symbols in so many brackets, and a semicolon
abbrev pub bracketed : ℕ → List Symbol → List Symbol
bracketed n inner = repeated n open_bracket (inner ++ repeated n close_bracket (semicolon ∷ []))

-- so many brackets around a formula
abbrev pub in_brackets : ℕ → Arithmetic → Arithmetic
in_brackets zero f = f
in_brackets (suc n) f = brackets (in_brackets n f)
