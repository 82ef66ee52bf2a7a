-- When some text reads as a tree, said of the tree alone.
use Rattle.std.specs.Prelude.{◌≢◌, List, [], ◌∷◌, codes, true, Option, Some, None}
use Rattle.std.specs.List.{flat_map}
use Rattle.ms_list.specs.declared.at.At.{At}
use Rattle.ms_logic.specs.declared.mode.Mode.{Mode}
use Rattle.ms_logic.specs.declared.source.PlacedInt.{PlacedInt}
use Rattle.ms_parse_grammar.specs.Symbol.{Symbol, name, sign, semicolon}
use Rattle.ms_parse_grammar.specs.Tree.{Declaration, variables, constant, predicate, included, default_restriction, formula, goal, Declared, Document}
use Rattle.ms_parse_grammar.specs.Grammar.{IsVariableList, AreOfOrder}
use Rattle.ms_parse_grammar.specs.Declarations.{IsDeclaration}
use Rattle.ms_parse_print.specs.inner.Printed.{AreSpellable, first_order, single, printed_declaration, printed_declared}

-- at least one number or constant
abbrev pub HasSummand : List PlacedInt → Type 0
HasSummand [] = ⊥
HasSummand (n ∷ ns) = Unit {0}

-- at least one variable and one order, at least one summand
abbrev pub IsFormed : Declaration → Type 0
IsFormed (variables vs) = IsVariableList vs × AreOfOrder (first_order vs) vs
IsFormed (constant at n sum) = HasSummand sum
IsFormed (predicate is_pred at n parameters body) = Unit {0}
IsFormed (included at file) = Unit {0}
IsFormed (default_restriction o n body) = Unit {0}
IsFormed (formula e) = Unit {0}
IsFormed (goal at title e) = Unit {0}

-- each symbol of the declaration can be said, and they read as the declaration
abbrev pub IsPrintable : Declaration → Type 0
IsPrintable d = AreSpellable (printed_declaration single d) × IsFormed d × IsDeclaration d

abbrev pub ArePrintable : List Declared → Type 0
ArePrintable [] = Unit {0}
ArePrintable (d ∷ ds) = IsPrintable d.declaration × ArePrintable ds

-- the symbols do not begin with `m2l-str;`
abbrev pub BeginWithNoHeader : List Symbol → Type 0
BeginWithNoHeader ss = (more : List Symbol) → ss ≢ name (codes "m2l") ∷ sign true ∷ name (codes "str") ∷ semicolon ∷ more

-- where there is no header, what follows is not read as one
abbrev pub IsClear : Option (At × Mode) → List Declared → Type 0
IsClear None ds = BeginWithNoHeader (flat_map (printed_declared single) ds)
IsClear (Some header) ds = Unit {0}

pub record IsPrintableDocument (d : Document) : Type 0 where
  pub header : IsClear d.header d.declarations
  pub declarations : ArePrintable d.declarations
