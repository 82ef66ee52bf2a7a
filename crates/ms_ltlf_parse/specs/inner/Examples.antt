-- Symbols, formulas and texts for worked examples.
use Rattle.std.specs.Prelude.{ℕ, zero, suc, List, [], ◌∷◌, codes}
use Rattle.ms_text.specs.TokenList.{Lexed}
use Rattle.ms_ltlf.specs.Tree.{Temporal, proposition, brackets, Temporals, no_temporals, more_temporals}
use Rattle.ms_ltlf_parse.specs.Grammar.{Names}
use Rattle.ms_ltlf_parse.specs.Symbol.{Symbol, name, prefix_operator, infix_operator, joining, open_bracket, close_bracket, semicolon}
use Rattle.ms_ltlf_parse.specs.declared.operator.Binary.TheVariants.{Equivalence, Implication, Until, Release}
use Rattle.ms_parse_stack.specs.inner.Examples.{repeated, behind_brackets}
use Rattle.ms_parse_stack.specs.declared.junction.Junction.TheVariants.{Conjunction, Disjunction}
use Rattle.ms_ltlf_parse.specs.declared.operator.Prefix.TheVariants.{Negation, Next, WeakNext, Eventually, Always}

-- symbols, as they are written

abbrev pub a : Symbol
a = name (codes "a")

abbrev pub b : Symbol
b = name (codes "b")

abbrev pub c : Symbol
c = name (codes "c")

abbrev pub negated : Symbol
negated = prefix_operator Negation

abbrev pub X : Symbol
X = prefix_operator Next

abbrev pub WX : Symbol
WX = prefix_operator WeakNext

abbrev pub F : Symbol
F = prefix_operator Eventually

abbrev pub G : Symbol
G = prefix_operator Always

abbrev pub U : Symbol
U = infix_operator Until

abbrev pub R : Symbol
R = infix_operator Release

abbrev pub implies : Symbol
implies = infix_operator Implication

abbrev pub iff : Symbol
iff = infix_operator Equivalence

abbrev pub and : Symbol
and = joining Conjunction

abbrev pub or : Symbol
or = joining Disjunction

-- the first names, and their propositions

abbrev pub only_a : Names
only_a = codes "a" ∷ []

abbrev pub a_b : Names
a_b = codes "a" ∷ codes "b" ∷ []

abbrev pub a_b_c : Names
a_b_c = codes "a" ∷ codes "b" ∷ codes "c" ∷ []

abbrev pub first : Temporal
first = proposition 0

abbrev pub second : Temporal
second = proposition 1

abbrev pub third : Temporal
third = proposition 2

abbrev pub two : Temporal → Temporal → Temporals
two f g = more_temporals f (more_temporals g no_temporals)

abbrev pub three : Temporal → Temporal → Temporal → Temporals
three f g h = more_temporals f (two g h)

-- `a;` in so many brackets
abbrev pub bracketed : ℕ → List Symbol
bracketed n = repeated n open_bracket (a ∷ repeated n close_bracket (semicolon ∷ []))

-- so many brackets around the first proposition
abbrev pub in_brackets : ℕ → Temporal
in_brackets zero = first
in_brackets (suc n) = brackets (in_brackets n)

-- the text of so many brackets
abbrev pub open_brackets : ℕ → Lexed
open_brackets n = behind_brackets n [] []
