-- What stands before an expression in the text: names that are bound, imports and exports. They are numbered in the order
-- of the text.
use Rattle.std.specs.Prelude.{ℕ, ◌+◌}
use Rattle.ms_parse_grammar.specs.Tree.{Atom, truth, falsity, whole, empty_set, named, numeral, pconst, imported, Expression, atom, prefixed, binary, joined, shifted, enclosed, listed, quantified, let_in, Expressions, no_expressions, and_expression, Variables, no_variables, and_variable, Domain, unrestricted, restricted, Parts, no_parts, and_part}
use Rattle.ms_parse_grammar.specs.declared.operator.Bracket.{Bracket}
use Rattle.ms_parse_grammar.specs.declared.operator.Bracket.TheVariants.{Parentheses, Emptiness, Restriction, Export}
use Rattle.ms_names_rules.specs.Scope.{count_of_bounds, count_of_parts, count}

pub record Before : Type 0 where
  -- the number of the next name that is bound
  pub next : ℕ
  -- how many imports there are
  pub imports : ℕ
  -- how many exports there are
  pub exports : ℕ

abbrev pub with_names : Before → ℕ → Before
with_names b count = record b { next = b.next + count }

abbrev pub with_import : Before → Before
with_import b = record b { imports = b.imports + 1 }

abbrev pub with_export : Before → Before
with_export b = record b { exports = b.exports + 1 }

abbrev pub after_atom : Before → Atom → Before
after_atom b truth = b
after_atom b falsity = b
after_atom b whole = b
after_atom b empty_set = b
after_atom b (named n) = b
after_atom b (numeral n) = b
after_atom b (pconst i) = b
after_atom b (imported file rs) = with_import b

-- what stands before the expression in a bracket
abbrev pub opened : Before → Bracket → Before
opened b Parentheses = b
opened b Emptiness = b
opened b Restriction = b
opened b (Export text_at file) = with_export b

-- what stands before the text that follows an expression
abbrev mutual
  pub after : Before → Expression → Before
  after b (atom at a) = after_atom b a
  after b (prefixed at op e) = after b e
  after b (binary at op e f) = after (after b e) f
  after b (joined at op es) = after_all b es
  after b (shifted at e i) = after b e
  after b (enclosed at k e) = after (opened b k) e
  after b (listed at l es) = after_all b es
  -- the names of a list are numbered before what is bound in their restrictions and right sides
  after b (quantified at q o vs e) = after (after_bounds (with_names b (count_of_bounds vs)) vs) e
  after b (let_in at o ps e) = after (after_parts (with_names b (count_of_parts ps)) ps) e

  pub after_all : Before → Expressions → Before
  after_all b no_expressions = b
  after_all b (and_expression es e) = after (after_all b es) e

  -- after the restrictions of a list of variables
  pub after_bounds : Before → Variables → Before
  after_bounds b no_variables = b
  after_bounds b (and_variable vs at o n d) = after_domain (after_bounds b vs) d

  pub after_domain : Before → Domain → Before
  after_domain b unrestricted = b
  after_domain b (restricted e) = after b e

  -- after the right sides of a `let`
  pub after_parts : Before → Parts → Before
  after_parts b no_parts = b
  after_parts b (and_part ps at n e) = after (after_parts b ps) e
