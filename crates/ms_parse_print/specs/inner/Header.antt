-- The one expression whose symbols, at the beginning of a source, are read as the header: `m2l - str`.
use Rattle.std.specs.Prelude.{◌≡◌, List, [], ◌∷◌, ℕ, true, codes}
use Rattle.ms_parse_grammar.specs.Symbol.{name}
use Rattle.ms_parse_grammar.specs.Reads.{int_symbol}
use Rattle.ms_parse_grammar.specs.Tree.{Atom, truth, falsity, whole, empty_set, named, numeral, pconst, imported}
use Rattle.ms_parse_grammar.specs.Tree.{Expression, atom, prefixed, binary, joined, shifted, enclosed, listed, quantified, let_in, Declaration, variables, constant, predicate, included, default_restriction, formula, goal, Declared}

abbrev pub IsNameOf : List ℕ → Atom → Type 0
IsNameOf n (named m) = m ≡ n
IsNameOf n truth = ⊥
IsNameOf n falsity = ⊥
IsNameOf n whole = ⊥
IsNameOf n empty_set = ⊥
IsNameOf n (numeral m) = ⊥
IsNameOf n (pconst m) = ⊥
IsNameOf n (imported file pairs) = ⊥

abbrev pub IsNamed : List ℕ → Expression → Type 0
IsNamed n (atom at a) = IsNameOf n a
IsNamed n (prefixed at op e) = ⊥
IsNamed n (binary at op l r) = ⊥
IsNamed n (joined at op es) = ⊥
IsNamed n (shifted at e m) = ⊥
IsNamed n (enclosed at b e) = ⊥
IsNamed n (listed at l es) = ⊥
IsNamed n (quantified at q o vs body) = ⊥
IsNamed n (let_in at o parts body) = ⊥

abbrev pub IsHeaderLike : Expression → Type 0
IsHeaderLike (atom at a) = ⊥
IsHeaderLike (prefixed at op e) = ⊥
IsHeaderLike (binary at op l r) = ⊥
IsHeaderLike (joined at op es) = ⊥
IsHeaderLike (shifted at e n) = IsNamed (codes "m2l") e × (n.minus ≡ true) × (int_symbol n.value ≡ name (codes "str"))
IsHeaderLike (enclosed at b e) = ⊥
IsHeaderLike (listed at l es) = ⊥
IsHeaderLike (quantified at q o vs body) = ⊥
IsHeaderLike (let_in at o parts body) = ⊥

abbrev pub IsHeaderFormula : Declaration → Type 0
IsHeaderFormula (variables vs) = ⊥
IsHeaderFormula (constant at n sum) = ⊥
IsHeaderFormula (predicate is_pred at n parameters body) = ⊥
IsHeaderFormula (included at file) = ⊥
IsHeaderFormula (default_restriction o n body) = ⊥
IsHeaderFormula (formula e) = IsHeaderLike e
IsHeaderFormula (goal at title e) = ⊥

-- the first declaration, with its semicolon, would be read as the header
abbrev pub BeginsLikeHeader : List Declared → Type 0
BeginsLikeHeader [] = ⊥
BeginsLikeHeader (d ∷ ds) = IsHeaderFormula d.declaration
