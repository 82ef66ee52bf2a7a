-- How many parts a tree has: declarations, expressions, names in lists of variables, parameters and parts of a `let`, and
-- pairs of imports.
use Rattle.std.specs.Prelude.{ℕ, suc, ◌+◌, List, [], ◌∷◌, length, map}
use Rattle.ms_logic.specs.declared.source.Item.{Item}
use Rattle.ms_parse_grammar.specs.Tree.{Atom, truth, falsity, whole, empty_set, named, numeral, pconst, imported}
use Rattle.ms_parse_grammar.specs.Tree.{Expression, atom, prefixed, binary, joined, shifted, enclosed, listed, quantified, let_in, Expressions, no_expressions, and_expression, Variables, no_variables, and_variable, unrestricted, restricted, Parts, no_parts, and_part}
use Rattle.ms_parse_grammar.specs.Tree.{Declaration, variables, constant, predicate, included, default_restriction, formula, goal, Declared}
use Rattle.ms_parse_grammar.specs.View.{declared_of}

abbrev pub pairs_in : Atom → ℕ
pairs_in truth = 0
pairs_in falsity = 0
pairs_in whole = 0
pairs_in empty_set = 0
pairs_in (named n) = 0
pairs_in (numeral n) = 0
pairs_in (pconst n) = 0
pairs_in (imported file pairs) = length pairs

abbrev mutual
  pub size : Expression → ℕ
  size (atom at a) = suc (pairs_in a)
  size (prefixed at op e) = suc (size e)
  size (binary at op l r) = suc (size l + size r)
  size (joined at op es) = suc (size_of_all es)
  size (shifted at e n) = suc (size e)
  size (enclosed at b e) = suc (size e)
  size (listed at l es) = suc (size_of_all es)
  size (quantified at q o vs body) = suc (size_of_variables vs + size body)
  size (let_in at o parts body) = suc (size_of_parts parts + size body)

  pub size_of_all : Expressions → ℕ
  size_of_all no_expressions = 0
  size_of_all (and_expression before e) = size_of_all before + size e

  pub size_of_variables : Variables → ℕ
  size_of_variables no_variables = 0
  size_of_variables (and_variable before at o n unrestricted) = suc (size_of_variables before)
  size_of_variables (and_variable before at o n (restricted d)) = suc (size_of_variables before + size d)

  pub size_of_parts : Parts → ℕ
  size_of_parts no_parts = 0
  size_of_parts (and_part before at n value) = suc (size_of_parts before + size value)

abbrev pub size_of_declaration : Declaration → ℕ
size_of_declaration (variables vs) = suc (size_of_variables vs)
size_of_declaration (constant at n sum) = 1
size_of_declaration (predicate is_pred at n parameters body) = suc (size_of_variables parameters + size body)
size_of_declaration (included at file) = 1
size_of_declaration (default_restriction o n body) = suc (size body)
size_of_declaration (formula e) = suc (size e)
size_of_declaration (goal at title e) = suc (size e)

abbrev pub size_of_declarations : List Declared → ℕ
size_of_declarations [] = 0
size_of_declarations (d ∷ ds) = size_of_declaration d.declaration + size_of_declarations ds

-- the parts of a list of declarations as the code has them
abbrev pub size_of_items : List Item → ℕ
size_of_items items = size_of_declarations (map declared_of items)
