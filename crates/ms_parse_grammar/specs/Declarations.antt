-- Which symbols a source is read from: a header or none, and declarations.
use Rattle.std.specs.Prelude.{◌≡◌, ℕ, Bool, true, false, ◌⊎◌, List, [], ◌∷◌, codes, Option, Some, None}
use Rattle.ms_list.specs.declared.at.At.{At}
use Rattle.ms_text.specs.TokenList.{Lexed, IsTokenList}
use Rattle.ms_logic.specs.declared.mode.Mode.{Mode}
use Rattle.ms_logic.specs.declared.mode.Mode.TheVariants.{Ws1s, M2lStr}
use Rattle.ms_logic.specs.declared.mode.Order.{Order}
use Rattle.ms_logic.specs.declared.mode.Rel.TheVariants.{Equal}
use Rattle.ms_logic.specs.declared.source.PlacedInt.{PlacedInt}
use Rattle.ms_logic.specs.declared.source.Source.{Source}
use Rattle.ms_parse_grammar.specs.Symbol.{name, text, infix_operator, sign, kind, predicate_word, default_word, word_const, word_include, word_ws1s, open_round, close_round, comma, semicolon, Placed, placed, symbols}
use Rattle.ms_parse_grammar.specs.Tree.{Relation, Variables, no_variables, and_variable, unrestricted, restricted}
use Rattle.ms_parse_grammar.specs.Tree.{Declaration, variables, constant, predicate, included, default_restriction, formula, goal, Declared, Document}
use Rattle.ms_parse_grammar.specs.View.{document_of}
use Rattle.ms_parse_grammar.specs.Grammar.{AreOfOrder, IsExpression}
use Rattle.ms_parse_grammar.specs.Reads.{IsAt, Starts, Follows, ReadsInt, ReadsExpression, ReadsDomain, ReadsVariables}

-- the kind of a parameter, which may be missing where it is that of the parameter before
abbrev pub ReadsKind : Order → Order → List Placed → List Placed → Type 0
ReadsKind before o from behind = Follows (kind o) from behind ⊎ ((o ≡ before) × (from ≡ behind))

-- one or more parameters with commas between them
abbrev pub ReadsParameters : Bool → Variables → List Placed → List Placed → Type 0
ReadsParameters exact no_variables from behind = ⊥
ReadsParameters exact (and_variable no_variables at o n d) from behind =
    (f1 f2 : List Placed) × Follows (kind o) from f1 × Starts exact (name n) at f1 f2 × ReadsDomain exact d f2 behind
ReadsParameters exact (and_variable (and_variable before at' o' n' d') at o n d) from behind =
    (f1 f2 f3 f4 : List Placed) × ReadsParameters exact (and_variable before at' o' n' d') from f1 × Follows comma f1 f2
    × ReadsKind o' o f2 f3 × Starts exact (name n) at f3 f4 × ReadsDomain exact d f4 behind

-- the parameters of a predicate in brackets; where there are none, the brackets may be missing
abbrev pub ReadsParameterList : Bool → Variables → List Placed → List Placed → Type 0
ReadsParameterList exact no_variables from behind =
    (from ≡ behind) ⊎ ((f1 : List Placed) × Follows open_round from f1 × Follows close_round f1 behind)
ReadsParameterList exact (and_variable before at o n d) from behind =
    (f1 f2 : List Placed) × Follows open_round from f1 × ReadsParameters exact (and_variable before at o n d) f1 f2
    × Follows close_round f2 behind

-- `+ n` or `- n` for each number or constant
abbrev pub ReadsFurther : Bool → List PlacedInt → List Placed → List Placed → Type 0
ReadsFurther exact [] from behind = from ≡ behind
ReadsFurther exact (n ∷ ns) from behind =
    (f1 f2 : List Placed) × Follows (sign n.minus) from f1 × ReadsInt exact n f1 f2 × ReadsFurther exact ns f2 behind

-- a sum of numbers and constants, of which the first has no sign
abbrev pub ReadsSum : Bool → List PlacedInt → List Placed → List Placed → Type 0
ReadsSum exact [] from behind = ⊥
ReadsSum exact (n ∷ ns) from behind = (f1 : List Placed) × (n.minus ≡ false) × ReadsInt exact n from f1 × ReadsFurther exact ns f1 behind

-- a declaration, without its semicolon
abbrev pub ReadsDeclaration : Bool → Declaration → List Placed → List Placed → Type 0
ReadsDeclaration exact (variables vs) from behind =
    (o : Order) × (f1 : List Placed) × Follows (kind o) from f1 × AreOfOrder o vs × ReadsVariables exact vs f1 behind
ReadsDeclaration exact (constant at n sum) from behind =
    (f1 f2 f3 : List Placed) × Follows word_const from f1 × Starts exact (name n) at f1 f2 × Follows (infix_operator (Relation Equal)) f2 f3
    × ReadsSum exact sum f3 behind
ReadsDeclaration exact (predicate is_pred at n parameters body) from behind =
    (f1 f2 f3 f4 : List Placed) × Follows (predicate_word is_pred) from f1 × Starts exact (name n) at f1 f2
    × ReadsParameterList exact parameters f2 f3 × Follows (infix_operator (Relation Equal)) f3 f4 × ReadsExpression exact body f4 behind
ReadsDeclaration exact (included at file) from behind =
    (f1 : List Placed) × Follows word_include from f1 × Starts exact (text file) at f1 behind
ReadsDeclaration exact (default_restriction o n body) from behind =
    (f1 f2 f3 f4 f5 : List Placed) × Follows (default_word o) from f1 × Follows open_round f1 f2
    × Follows (name n) f2 f3 × Follows close_round f3 f4 × Follows (infix_operator (Relation Equal)) f4 f5
    × ReadsExpression exact body f5 behind
ReadsDeclaration exact (formula e) from behind = ReadsExpression exact e from behind
ReadsDeclaration exact (goal at title e) from behind =
    (f1 f2 : List Placed) × Follows (name (codes "goal")) from f1 × Starts exact (text title) at f1 f2
    × ReadsExpression exact e f2 behind

-- the place of the first symbol
abbrev pub BeginsAt : Bool → At → List Placed → Type 0
BeginsAt exact at [] = ⊥
BeginsAt exact at (placed s there ∷ more) = IsAt exact at there

abbrev pub ReadsDeclarations : Bool → List Declared → List Placed → List Placed → Type 0
ReadsDeclarations exact [] from behind = from ≡ behind
ReadsDeclarations exact (d ∷ ds) from behind =
    (f1 f2 : List Placed) × BeginsAt exact d.at from × ReadsDeclaration exact d.declaration from f1
    × Follows semicolon f1 f2 × ReadsDeclarations exact ds f2 behind

-- `m2l-str;`
abbrev pub ReadsString : Bool → At → List Placed → List Placed → Type 0
ReadsString exact at from behind =
    (f1 f2 f3 : List Placed) × Starts exact (name (codes "m2l")) at from f1 × Follows (sign true) f1 f2
    × Follows (name (codes "str")) f2 f3 × Follows semicolon f3 behind

-- the header or none; `m2l-str;` at the very beginning is always the header
abbrev pub ReadsHeader : Bool → Option (At × Mode) → List Placed → List Placed → Type 0
ReadsHeader exact None from behind =
    (from ≡ behind) × ((at : At) (f : List Placed) → ¬ (ReadsString false at from f))
ReadsHeader exact (Some (at, Ws1s)) from behind =
    (f1 : List Placed) × Starts exact word_ws1s at from f1 × Follows semicolon f1 behind
ReadsHeader exact (Some (at, M2lStr)) from behind = ReadsString exact at from behind

-- the whole list of symbols is a header or none and these declarations
abbrev pub ReadsDocument : Bool → Document → List Placed → Type 0
ReadsDocument exact d all = (f : List Placed) × ReadsHeader exact d.header all f × ReadsDeclarations exact d.declarations f []

-- each restriction is an expression of a source
abbrev pub AreDomains : Variables → Type 0
AreDomains no_variables = Unit {0}
AreDomains (and_variable before at o n unrestricted) = AreDomains before
AreDomains (and_variable before at o n (restricted d)) = AreDomains before × IsExpression d

abbrev pub IsDeclaration : Declaration → Type 0
IsDeclaration (variables vs) = AreDomains vs
IsDeclaration (constant at n sum) = Unit {0}
IsDeclaration (predicate is_pred at n parameters body) = AreDomains parameters × IsExpression body
IsDeclaration (included at file) = Unit {0}
IsDeclaration (default_restriction o n body) = IsExpression body
IsDeclaration (formula e) = IsExpression e
IsDeclaration (goal at title e) = IsExpression e

abbrev pub AreDeclarations : List Declared → Type 0
AreDeclarations [] = Unit {0}
AreDeclarations (d ∷ ds) = IsDeclaration d.declaration × AreDeclarations ds

-- The symbols read as the document.
pub record Reads (exact : Bool) (all : List Placed) (d : Document) : Type 0 where
  pub read : ReadsDocument exact d all
  pub declarations : AreDeclarations d.declarations

-- The tokens of a text, which is the file with this number, read as the source.
abbrev pub ReadsAs : Bool → ℕ → Lexed → Source → Type 0
ReadsAs exact file lexed source = Reads exact (symbols file lexed) (document_of source)

-- some text has tokens that read as the source, places aside
pub record Fits (source : Source) : Type 0 where
  pub lexed : Lexed
  pub tokens : IsTokenList 0 lexed.bytes lexed.tokens
  pub reads : ReadsAs false 0 lexed source
