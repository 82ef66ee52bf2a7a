-- What holds of each place in a source.
use Rattle.std.specs.Prelude.{ℕ, ◌+◌, ◌<◌, ◌≤◌, List, length}
use Rattle.ms_list.specs.declared.at.At.{At}
use Rattle.ms_edge.specs.declared.refusal.Refusal.{Refusal}
use Rattle.ms_edge.specs.Refusal.{IsPlaced, place_of}
use Rattle.ms_logic.specs.declared.checked.Checked.{Checked}
use Rattle.ms_logic.specs.declared.checked.ExportUse.{ExportUse}
use Rattle.ms_logic.specs.declared.checked.Global.{Global}
use Rattle.ms_logic.specs.declared.checked.ImportUse.{ImportUse}
use Rattle.ms_logic.specs.declared.checked.Placed as code
use Rattle.ms_logic.specs.declared.source.Item.{Item}
use Rattle.ms_logic.specs.declared.source.Loaded.{Loaded}
use Rattle.ms_logic.specs.declared.source.PlacedInt.{PlacedInt}
use Rattle.ms_logic.specs.declared.source.Rename.{Rename}
use Rattle.ms_report.specs.Line.{HasLine}
use Rattle.ms_logic.specs.Lists.{Each}
use Rattle.ms_parse_grammar.specs.Tree.{pconst, imported, Expression, atom, prefixed, binary, joined, shifted, enclosed, listed, quantified, let_in, Expressions, no_expressions, and_expression, Variables, no_variables, and_variable, Domain, unrestricted, restricted, Parts, no_parts, and_part, Atom, Declaration, variables, constant, predicate, included, default_restriction, formula, goal, Declared}
use Rattle.ms_parse_grammar.specs.declared.operator.Bracket.TheVariants.{Export}
use Rattle.ms_parse_grammar.specs.View.{declared_of}
use Rattle.ms_parse_grammar.specs.declared.operator.Bracket.{Bracket}

-- P holds of each place of an import's pairs
abbrev pub EachPlaceInRenames : (At → Type 0) → List Rename → Type 0
EachPlaceInRenames P rs = Each (λ (r : Rename). P r.at × P r.at_right) rs

-- P holds of each place in an atom, beside its own
abbrev pub EachPlaceInAtom : (At → Type 0) → Atom → Type 0
EachPlaceInAtom P (pconst i) = P i.at
EachPlaceInAtom P (imported file rs) = EachPlaceInRenames P rs
EachPlaceInAtom P _ = Unit {0}

-- P holds of each place in what opens a bracket, beside its own
abbrev pub EachPlaceInBracket : (At → Type 0) → Bracket → Type 0
EachPlaceInBracket P (Export text_at file) = P text_at
EachPlaceInBracket P _ = Unit {0}

-- P holds of each place in an expression
abbrev mutual
  pub EachPlaceIn : (At → Type 0) → Expression → Type 0
  EachPlaceIn P (atom at a) = P at × EachPlaceInAtom P a
  EachPlaceIn P (prefixed at op e) = P at × EachPlaceIn P e
  EachPlaceIn P (binary at op e f) = P at × EachPlaceIn P e × EachPlaceIn P f
  EachPlaceIn P (joined at op es) = P at × EachPlaceInAll P es
  EachPlaceIn P (shifted at e i) = P at × EachPlaceIn P e × P i.at
  EachPlaceIn P (enclosed at k e) = P at × EachPlaceInBracket P k × EachPlaceIn P e
  EachPlaceIn P (listed at l es) = P at × EachPlaceInAll P es
  EachPlaceIn P (quantified at q o vs e) = P at × EachPlaceInBounds P vs × EachPlaceIn P e
  EachPlaceIn P (let_in at o ps e) = P at × EachPlaceInParts P ps × EachPlaceIn P e

  pub EachPlaceInAll : (At → Type 0) → Expressions → Type 0
  EachPlaceInAll P no_expressions = Unit {0}
  EachPlaceInAll P (and_expression es e) = EachPlaceInAll P es × EachPlaceIn P e

  pub EachPlaceInBounds : (At → Type 0) → Variables → Type 0
  EachPlaceInBounds P no_variables = Unit {0}
  EachPlaceInBounds P (and_variable vs at o n d) = EachPlaceInBounds P vs × P at × EachPlaceInDomain P d

  pub EachPlaceInDomain : (At → Type 0) → Domain → Type 0
  EachPlaceInDomain P unrestricted = Unit {0}
  EachPlaceInDomain P (restricted e) = EachPlaceIn P e

  pub EachPlaceInParts : (At → Type 0) → Parts → Type 0
  EachPlaceInParts P no_parts = Unit {0}
  EachPlaceInParts P (and_part ps at n e) = EachPlaceInParts P ps × P at × EachPlaceIn P e

-- P holds of each place of numbers and constants
abbrev pub EachPlaceInSum : (At → Type 0) → List PlacedInt → Type 0
EachPlaceInSum P is = Each (λ (i : PlacedInt). P i.at) is

-- P holds of each place in a declaration
abbrev pub EachPlaceInDeclaration : (At → Type 0) → Declaration → Type 0
EachPlaceInDeclaration P (variables vs) = EachPlaceInBounds P vs
EachPlaceInDeclaration P (constant at n is) = P at × EachPlaceInSum P is
EachPlaceInDeclaration P (predicate is_pred at n vs e) = P at × EachPlaceInBounds P vs × EachPlaceIn P e
EachPlaceInDeclaration P (included at file) = P at
EachPlaceInDeclaration P (default_restriction o n e) = EachPlaceIn P e
EachPlaceInDeclaration P (formula e) = EachPlaceIn P e
EachPlaceInDeclaration P (goal at title e) = P at × EachPlaceIn P e

-- P holds of the place of a declaration and of each place in it
abbrev pub EachPlaceInDeclared : (At → Type 0) → Declared → Type 0
EachPlaceInDeclared P d = P d.at × EachPlaceInDeclaration P d.declaration

abbrev pub EachPlaceInItem : (At → Type 0) → Item → Type 0
EachPlaceInItem P item = EachPlaceInDeclared P (declared_of item)

-- the place is in one of so many files, which are numbered from `base` on
abbrev pub IsAmongFiles : ℕ → ℕ → At → Type 0
IsAmongFiles base count at = (base ≤ at.file) × (at.file < base + count)

-- each place in the declarations of a loaded source is in one of its files, which are numbered from `base` on
abbrev pub HasPlacesInFiles : ℕ → Loaded → Type 0
HasPlacesInFiles base loaded = Each (EachPlaceInItem (IsAmongFiles base (length loaded.files))) loaded.items

-- the places that a checked source has kept, of globals, formulas, imports and exports, are in its files
pub record KeepsPlacesInFiles (base : ℕ) (checked : Checked) : Type 0 where
  pub globals : Each (λ (g : Global). IsAmongFiles base (length checked.files) g.at) checked.globals
  pub formulas : Each (λ (f : code.Placed). IsAmongFiles base (length checked.files) f.at) checked.formulas
  pub imports : Each (λ (used : ImportUse). IsAmongFiles base (length checked.files) used.at) checked.imports
  pub exports : Each (λ (used : ExportUse). IsAmongFiles base (length checked.files) used.at) checked.exports

-- a line of the refusal can be written over these files
abbrev pub IsToldOver : List (List ℕ) → Refusal → Type 0
IsToldOver files refusal = HasLine refusal × IsPlaced (place_of refusal) files
