-- Each grammatical document is within some limit of the depth.
use Rattle.std.proofs.Common.{ℕ, ◌≤◌, max, List, [], ◌∷◌, ◌++◌, arith}
use Rattle.ms_parse_grammar.specs.Symbol.{Placed}
use Rattle.ms_parse_grammar.specs.Tree.{Variables, no_variables, and_variable, unrestricted, restricted}
use Rattle.ms_parse_grammar.specs.Tree.{Declaration, variables, constant, predicate, included, default_restriction, formula, goal, Declared}
use Rattle.ms_parse_grammar.specs.Grammar.{HaveGrammaticalDomains, depth, depth_of_domains, greatest_depth}
use Rattle.ms_parse_grammar.specs.Continuation.{CanFollow, IsGrammaticalDeclaration, AreGrammaticalDeclarations, CanFollowAtAnyDepth}
use Rattle.ms_parse_steps.proofs.Following.{CanFollowWithin}
use Rattle.ms_parse_steps.proofs.Limits.{AreDomainsWithin, IsDeclarationWithin, AreDeclarationsWithin, within, of_grammar}

-- the greatest depth of an expression in a declaration, and in several
abbrev deepest_in : Declaration → ℕ
deepest_in (variables vs) = depth_of_domains vs
deepest_in (constant at n sum) = 0
deepest_in (predicate is_pred at n vs body) = max (depth_of_domains vs) (depth body)
deepest_in (included at file) = 0
deepest_in (default_restriction o n body) = depth body
deepest_in (formula e) = depth e
deepest_in (goal at title e) = depth e

abbrev deepest : List Declared → ℕ
deepest [] = 0
deepest (d ∷ ds) = max (deepest_in d.declaration) (deepest ds)

domains_within : (limit : ℕ) (vs : Variables) → HaveGrammaticalDomains vs → depth_of_domains vs ≤ limit → AreDomainsWithin limit vs
domains_within limit no_variables good deep = tt
domains_within limit (and_variable before at o n unrestricted) good deep = domains_within limit before good deep
domains_within limit (and_variable before at o n (restricted d)) good deep =
    (domains_within limit before good.0 (omega arith), record { grammatical = good.1; shallow = omega arith })

declaration_within : (limit : ℕ) (x : Declaration) → IsGrammaticalDeclaration x → deepest_in x ≤ limit → IsDeclarationWithin limit x
declaration_within limit (variables vs) good deep = domains_within limit vs good deep
declaration_within limit (constant at n sum) good deep = tt
declaration_within limit (predicate is_pred at n vs body) good deep =
    (domains_within limit vs good.0 (omega arith), record { grammatical = good.1; shallow = omega arith })
declaration_within limit (included at file) good deep = tt
declaration_within limit (default_restriction o n body) good deep = record { grammatical = good; shallow = deep }
declaration_within limit (formula e) good deep = record { grammatical = good; shallow = deep }
declaration_within limit (goal at title e) good deep = record { grammatical = good; shallow = deep }

declarations_within : (limit : ℕ) (ds : List Declared) → AreGrammaticalDeclarations ds → deepest ds ≤ limit → AreDeclarationsWithin limit ds
declarations_within limit [] good deep = tt
declarations_within limit (d ∷ ds) good deep =
    (declaration_within limit d.declaration good.0 (omega arith), declarations_within limit ds good.1 (omega arith))

domains_grammatical : (limit : ℕ) (vs : Variables) → AreDomainsWithin limit vs → HaveGrammaticalDomains vs
domains_grammatical limit no_variables good = tt
domains_grammatical limit (and_variable before at o n unrestricted) good = domains_grammatical limit before good
domains_grammatical limit (and_variable before at o n (restricted d)) good = (domains_grammatical limit before good.0, good.1.grammatical)

declaration_grammatical : (limit : ℕ) (x : Declaration) → IsDeclarationWithin limit x → IsGrammaticalDeclaration x
declaration_grammatical limit (variables vs) good = domains_grammatical limit vs good
declaration_grammatical limit (constant at n sum) good = tt
declaration_grammatical limit (predicate is_pred at n vs body) good = (domains_grammatical limit vs good.0, good.1.grammatical)
declaration_grammatical limit (included at file) good = tt
declaration_grammatical limit (default_restriction o n body) good = good.grammatical
declaration_grammatical limit (formula e) good = good.grammatical
declaration_grammatical limit (goal at title e) good = good.grammatical

declarations_grammatical : (limit : ℕ) (ds : List Declared) → AreDeclarationsWithin limit ds → AreGrammaticalDeclarations ds
declarations_grammatical limit [] good = tt
declarations_grammatical limit (d ∷ ds) good = (declaration_grammatical limit d.declaration good.0, declarations_grammatical limit ds good.1)

-- what can follow within a limit can follow at any depth
pub follows_at_any_depth : (limit : ℕ) (front : List Placed) → CanFollowWithin limit front → CanFollowAtAnyDepth front
follows_at_any_depth limit front (more, d, reads) = (more, d, reads.read, declarations_grammatical limit d.declarations reads.declarations)

-- what can follow at any depth can follow within some limit, which is no less than the one of the grammar
pub follows_within : (front : List Placed) → CanFollowAtAnyDepth front → (limit : ℕ) × (greatest_depth ≤ limit) × CanFollowWithin limit front
follows_within front (more, d, reads, good) =
    let limit = max greatest_depth (deepest d.declarations) in
    (limit, omega arith, (more, d, record { read = reads; declarations = declarations_within limit d.declarations good (omega arith) }))

-- what can follow is what can follow within the limit of the grammar
pub follows_grammar : (front : List Placed) → CanFollowWithin greatest_depth front → CanFollow front
follows_grammar front (more, d, reads) = (more, d, of_grammar (front ++ more) d reads)

pub within_grammar : (front : List Placed) → CanFollow front → CanFollowWithin greatest_depth front
within_grammar front (more, d, reads) = (more, d, within (front ++ more) d reads)
