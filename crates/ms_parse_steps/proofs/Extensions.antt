-- Lists that have been read, with one more entry.
use Rattle.std.proofs.Common.{◌≡◌, ℕ, true, List, [], ◌∷◌, ◌++◌, refl, sym, subst}
use Rattle.ms_list.specs.declared.at.At.{At}
use Rattle.ms_logic.specs.declared.mode.Order.{Order}
use Rattle.ms_logic.specs.declared.mode.Rel.TheVariants.{Equal}
use Rattle.ms_logic.specs.declared.source.PlacedInt.{PlacedInt}
use Rattle.ms_logic.specs.declared.source.Rename.{Rename}
use Rattle.ms_parse_grammar.specs.Symbol.{name, infix_operator, sign, kind, comma, semicolon, arrow, Placed}
use Rattle.ms_parse_grammar.specs.declared.operator.Binary.TheVariants.{Relation}
use Rattle.ms_parse_grammar.specs.Tree.{Expression, Expressions, no_expressions, and_expression, Variables, no_variables, and_variable, Domain, unrestricted, Parts, no_parts, and_part, Declared}
use Rattle.ms_parse_grammar.specs.Reads.{Starts, Follows, ReadsInt, ReadsPairs, ReadsExpression, ReadsList, ReadsDomain, ReadsVariables, ReadsParts}
use Rattle.ms_parse_grammar.specs.Declarations.{ReadsKind, ReadsParameters, ReadsFurther, ReadsSum, ReadsDeclaration, BeginsAt, ReadsDeclarations}
use Rattle.ms_parse_steps.proofs.Frames.{EntriesSoFar, VariablesSoFar, PartsSoFar}
use Rattle.ms_parse_steps.proofs.Limits.{AreDomainsWithin, IsDeclarationWithin, AreDeclarationsWithin}

pub entries_extended : (es : Expressions) (e : Expression) (from m ts : List Placed) → EntriesSoFar es from m → ReadsExpression true e m ts → ReadsList true (and_expression es e) from ts
entries_extended no_expressions e from m ts so_far reads = subst (λ f. ReadsExpression true e f ts) (sym so_far) reads
entries_extended (and_expression es d) e from m ts (f, read_es, follow) reads = (f, m, read_es, follow, reads)

pub variables_extended : (vs : Variables) (at : At) (o : Order) (n : List ℕ) (d : Domain) (from g h ts : List Placed) → VariablesSoFar vs from g → Starts true (name n) at g h → ReadsDomain true d h ts
    → ReadsVariables true (and_variable vs at o n d) from ts
variables_extended no_variables at o n d from g h ts so_far starts reads = (h, subst (λ f. Starts true (name n) at f h) (sym so_far) starts, reads)
variables_extended (and_variable vs at' o' n' d') at o n d from g h ts (f, read_vs, follow) starts reads = (f, g, h, read_vs, follow, starts, reads)

pub parts_extended : (parts : Parts) (at : At) (n : List ℕ) (e : Expression) (from g h i ts : List Placed) → PartsSoFar parts from g → Starts true (name n) at g h → Follows (infix_operator (Relation Equal)) h i
    → ReadsExpression true e i ts → ReadsParts true (and_part parts at n e) from ts
parts_extended no_parts at n e from g h i ts so_far starts equal reads = (h, i, subst (λ f. Starts true (name n) at f h) (sym so_far) starts, equal, reads)
parts_extended (and_part parts at' n' e') at n e from g h i ts (f, read_parts, follow) starts equal reads = (f, g, h, i, read_parts, follow, starts, equal, reads)

abbrev pub ParametersSoFar : Variables → List Placed → List Placed → Type 0
ParametersSoFar no_variables from ts = from ≡ ts
ParametersSoFar (and_variable vs at o n d) from ts = (f : List Placed) × ReadsParameters true (and_variable vs at o n d) from f × Follows comma f ts

-- the kind of the next parameter
abbrev pub ParameterKind : Variables → Order → List Placed → List Placed → Type 0
ParameterKind no_variables o from ts = Follows (kind o) from ts
ParameterKind (and_variable vs at before n d) o from ts = ReadsKind before o from ts

pub parameters_extended : (vs : Variables) (at : At) (o : Order) (n : List ℕ) (d : Domain) (from g h i ts : List Placed) → ParametersSoFar vs from g → ParameterKind vs o g h → Starts true (name n) at h i
    → ReadsDomain true d i ts → ReadsParameters true (and_variable vs at o n d) from ts
parameters_extended no_variables at o n d from g h i ts so_far kinds starts reads = (h, i, subst (λ f. Follows (kind o) f h) (sym so_far) kinds, starts, reads)
parameters_extended (and_variable vs at' o' n' d') at o n d from g h i ts (f, read_vs, follow) kinds starts reads = (f, g, h, i, read_vs, follow, kinds, starts, reads)

pub domains_extended : (limit : ℕ) (vs : Variables) (at : At) (o : Order) (n : List ℕ) → AreDomainsWithin limit vs → AreDomainsWithin limit (and_variable vs at o n unrestricted)
domains_extended limit vs at o n good = good

pub pairs_extended : (pairs : List Rename) (p : Rename) (from f1 f2 f3 f4 ts : List Placed) → ReadsPairs true pairs from f1 → Follows comma f1 f2 → Starts true (name p.left) p.at f2 f3
    → Follows arrow f3 f4 → Starts true (name p.right) p.at_right f4 ts → ReadsPairs true (pairs ++ p ∷ []) from ts
pairs_extended [] p from f1 f2 f3 f4 ts so_far follow left arrow_is right = (f2, f3, f4, ts, subst (λ f. Follows comma f f2) (sym so_far) follow, left, arrow_is, right, refl)
pairs_extended (q ∷ qs) p from f1 f2 f3 f4 ts (g1, g2, g3, g4, a, b, c, d, further) follow left arrow_is right =
    (g1, g2, g3, g4, a, b, c, d, pairs_extended qs p g4 f1 f2 f3 f4 ts further follow left arrow_is right)

further_extended : (ns : List PlacedInt) (n : PlacedInt) (from f1 f2 ts : List Placed) → ReadsFurther true ns from f1 → Follows (sign n.minus) f1 f2 → ReadsInt true n f2 ts → ReadsFurther true (ns ++ n ∷ []) from ts
further_extended [] n from f1 f2 ts so_far follow int_is = (f2, ts, subst (λ f. Follows (sign n.minus) f f2) (sym so_far) follow, int_is, refl)
further_extended (k ∷ ks) n from f1 f2 ts (g1, g2, a, b, further) follow int_is = (g1, g2, a, b, further_extended ks n g2 f1 f2 ts further follow int_is)

pub sum_extended : (sum : List PlacedInt) (n : PlacedInt) (from f1 f2 ts : List Placed) → ReadsSum true sum from f1 → Follows (sign n.minus) f1 f2 → ReadsInt true n f2 ts → ReadsSum true (sum ++ n ∷ []) from ts
sum_extended [] n from f1 f2 ts reads follow int_is = absurd reads
sum_extended (k ∷ ks) n from f1 f2 ts (g, plus, first, further) follow int_is = (g, plus, first, further_extended ks n g f1 f2 ts further follow int_is)

pub declarations_extended : (ds : List Declared) (d : Declared) (from f1 f2 ts : List Placed) → ReadsDeclarations true ds from f1 → BeginsAt true d.at f1 → ReadsDeclaration true d.declaration f1 f2
    → Follows semicolon f2 ts → ReadsDeclarations true (ds ++ d ∷ []) from ts
declarations_extended [] d from f1 f2 ts so_far begins reads ends =
    (f2, ts, subst (λ f. BeginsAt true d.at f) (sym so_far) begins, subst (λ f. ReadsDeclaration true d.declaration f f2) (sym so_far) reads, ends, refl)
declarations_extended (x ∷ xs) d from f1 f2 ts (g1, g2, a, b, c, further) begins reads ends =
    (g1, g2, a, b, c, declarations_extended xs d g2 f1 f2 ts further begins reads ends)

pub all_declared : (limit : ℕ) (ds : List Declared) (d : Declared) → AreDeclarationsWithin limit ds → IsDeclarationWithin limit d.declaration → AreDeclarationsWithin limit (ds ++ d ∷ [])
all_declared limit [] d good is = (is, tt)
all_declared limit (x ∷ xs) d good is = (good.0, all_declared limit xs d good.1 is)
