-- What can stand behind the first symbols of a source.
use Rattle.std.specs.Prelude.{List, [], ◌∷◌, ◌++◌, true}
use Rattle.ms_parse_grammar.specs.Declarations.{ReadsDocument, Reads}
use Rattle.ms_parse_grammar.specs.Grammar.{IsGrammatical, HaveGrammaticalDomains}
use Rattle.ms_parse_grammar.specs.Symbol.{Placed}
use Rattle.ms_parse_grammar.specs.Tree.{Declaration, variables, constant, predicate, included, default_restriction, formula, goal, Declared, Document}

-- some list of symbols that begins so reads as a document
abbrev pub CanFollow : List Placed → Type 0
CanFollow front = (more : List Placed) × (d : Document) × Reads true (front ++ more) d

-- the expressions of a declaration are grammatical, however deep
abbrev pub IsGrammaticalDeclaration : Declaration → Type 0
IsGrammaticalDeclaration (variables vs) = HaveGrammaticalDomains vs
IsGrammaticalDeclaration (constant at n sum) = Unit {0}
IsGrammaticalDeclaration (predicate is_pred at n parameters body) = HaveGrammaticalDomains parameters × IsGrammatical body
IsGrammaticalDeclaration (included at file) = Unit {0}
IsGrammaticalDeclaration (default_restriction o n body) = IsGrammatical body
IsGrammaticalDeclaration (formula e) = IsGrammatical e
IsGrammaticalDeclaration (goal at title e) = IsGrammatical e

abbrev pub AreGrammaticalDeclarations : List Declared → Type 0
AreGrammaticalDeclarations [] = Unit {0}
AreGrammaticalDeclarations (d ∷ ds) = IsGrammaticalDeclaration d.declaration × AreGrammaticalDeclarations ds

-- some list of symbols that begins so would read as a document if the depth had no limit
abbrev pub CanFollowAtAnyDepth : List Placed → Type 0
CanFollowAtAnyDepth front = (more : List Placed) × (d : Document) × ReadsDocument true d (front ++ more) × AreGrammaticalDeclarations d.declarations
