-- Documents whose expressions are no deeper than a limit. At the greatest depth they are those of the grammar.
use Rattle.std.proofs.Common.{ℕ, ◌≤◌, true, List, [], ◌∷◌}
use Rattle.std.specs.Prelude.{◌↔◌}
use Rattle.ms_parse_grammar.specs.Symbol.{Placed}
use Rattle.ms_parse_grammar.specs.Tree.{Expression, Variables, no_variables, and_variable, unrestricted, restricted}
use Rattle.ms_parse_grammar.specs.Tree.{Declaration, variables, constant, predicate, included, default_restriction, formula, goal, Declared, Document}
use Rattle.ms_parse_grammar.specs.Grammar.{IsGrammatical, IsExpression, depth, greatest_depth}
use Rattle.ms_parse_grammar.specs.Declarations.{ReadsDocument, AreDomains, IsDeclaration, AreDeclarations, Reads}

-- a grammatical expression, and not too deep
pub record IsWithin (limit : ℕ) (e : Expression) : Type 0 where
  pub grammatical : IsGrammatical e
  pub shallow : depth e ≤ limit

abbrev pub AreDomainsWithin : ℕ → Variables → Type 0
AreDomainsWithin limit no_variables = Unit {0}
AreDomainsWithin limit (and_variable before at o n unrestricted) = AreDomainsWithin limit before
AreDomainsWithin limit (and_variable before at o n (restricted d)) = AreDomainsWithin limit before × IsWithin limit d

abbrev pub IsDeclarationWithin : ℕ → Declaration → Type 0
IsDeclarationWithin limit (variables vs) = AreDomainsWithin limit vs
IsDeclarationWithin limit (constant at n sum) = Unit {0}
IsDeclarationWithin limit (predicate is_pred at n parameters body) = AreDomainsWithin limit parameters × IsWithin limit body
IsDeclarationWithin limit (included at file) = Unit {0}
IsDeclarationWithin limit (default_restriction o n body) = IsWithin limit body
IsDeclarationWithin limit (formula e) = IsWithin limit e
IsDeclarationWithin limit (goal at title e) = IsWithin limit e

abbrev pub AreDeclarationsWithin : ℕ → List Declared → Type 0
AreDeclarationsWithin limit [] = Unit {0}
AreDeclarationsWithin limit (d ∷ ds) = IsDeclarationWithin limit d.declaration × AreDeclarationsWithin limit ds

-- the symbols read as the document, whose expressions are within the limit
pub record ReadsWithin (limit : ℕ) (all : List Placed) (d : Document) : Type 0 where
  pub read : ReadsDocument true d all
  pub declarations : AreDeclarationsWithin limit d.declarations

-- at the greatest depth it is an expression of the grammar
fits : (e : Expression) → IsExpression e ↔ IsWithin greatest_depth e
fits e = (
  λ good. record { grammatical = good.grammatical; shallow = good.shallow },
  λ good. record { grammatical = good.grammatical; shallow = good.shallow },
)

both : {A A' B B' : Type 0} → A ↔ A' → B ↔ B' → (A × B) ↔ (A' × B')
both same same' = (λ (a, b). (same.0 a, same'.0 b), λ (a, b). (same.1 a, same'.1 b))

alike : {A : Type 0} → A ↔ A
alike = (λ a. a, λ a. a)

domains_fit : (vs : Variables) → AreDomains vs ↔ AreDomainsWithin greatest_depth vs
domains_fit no_variables = alike
domains_fit (and_variable before at o n unrestricted) = domains_fit before
domains_fit (and_variable before at o n (restricted d)) = both (domains_fit before) (fits d)

declaration_fits : (x : Declaration) → IsDeclaration x ↔ IsDeclarationWithin greatest_depth x
declaration_fits (variables vs) = domains_fit vs
declaration_fits (constant at n sum) = alike
declaration_fits (predicate is_pred at n vs body) = both (domains_fit vs) (fits body)
declaration_fits (included at file) = alike
declaration_fits (default_restriction o n body) = fits body
declaration_fits (formula e) = fits e
declaration_fits (goal at title e) = fits e

declarations_fit : (ds : List Declared) → AreDeclarations ds ↔ AreDeclarationsWithin greatest_depth ds
declarations_fit [] = alike
declarations_fit (d ∷ ds) = both (declaration_fits d.declaration) (declarations_fit ds)

-- a document of the grammar is within the greatest depth
pub within : (all : List Placed) (d : Document) → Reads true all d → ReadsWithin greatest_depth all d
within all d reads = record { read = reads.read; declarations = (declarations_fit d.declarations).0 reads.declarations }

-- one within the greatest depth is of the grammar
pub of_grammar : (all : List Placed) (d : Document) → ReadsWithin greatest_depth all d → Reads true all d
of_grammar all d reads = record { read = reads.read; declarations = (declarations_fit d.declarations).1 reads.declarations }
