-- A tree has no more parts than symbols.
use Rattle.std.proofs.Common.{◌≡◌, ℕ, suc, ◌+◌, ◌≤◌, Bool, inl, inr, List, [], ◌∷◌, length, Option, Some, None, ap, arith}
use Rattle.ms_list.specs.declared.at.At.{At}
use Rattle.ms_logic.specs.declared.mode.Mode.{Mode}
use Rattle.ms_logic.specs.declared.mode.Mode.TheVariants.{Ws1s, M2lStr}
use Rattle.ms_logic.specs.declared.mode.Order.{Order}
use Rattle.ms_logic.specs.declared.source.PlacedInt.{PlacedInt}
use Rattle.ms_logic.specs.declared.source.Rename.{Rename}
use Rattle.ms_parse_grammar.specs.declared.operator.Bracket.{Bracket}
use Rattle.ms_parse_grammar.specs.declared.operator.Bracket.TheVariants.{Parentheses, Emptiness, Restriction, Export}
use Rattle.ms_parse_grammar.specs.declared.operator.Listing.{Listing}
use Rattle.ms_parse_grammar.specs.declared.operator.Listing.TheVariants.{Literal, Call}
use Rattle.ms_parse_grammar.specs.Symbol.{Symbol, Placed}
use Rattle.ms_parse_grammar.specs.Tree.{Atom, truth, falsity, whole, empty_set, named, numeral, pconst, imported}
use Rattle.ms_parse_grammar.specs.Tree.{Expression, atom, prefixed, binary, joined, shifted, enclosed, listed, quantified, let_in, Expressions, no_expressions, and_expression, Variables, no_variables, and_variable, unrestricted, restricted, Parts, no_parts, and_part}
use Rattle.ms_parse_grammar.specs.Tree.{Declaration, variables, constant, predicate, included, default_restriction, formula, goal, Declared, Document}
use Rattle.ms_parse_grammar.specs.Grammar.{IsGrammatical, AreGrammatical, AreOperands, HaveGrammaticalDomains, HaveGrammaticalValues}
use Rattle.ms_parse_grammar.specs.Reads.{Starts, Follows, ReadsPairs, ReadsAtom, ReadsOpening, ReadsListOpening, ReadsExpression, ReadsSeparated, ReadsList, ReadsDomain, ReadsVariables, ReadsParts}
use Rattle.ms_parse_grammar.specs.Declarations.{ReadsKind, ReadsParameters, ReadsParameterList, ReadsFurther, ReadsSum, ReadsDeclaration, ReadsDeclarations, ReadsHeader, Reads, AreDomains, IsDeclaration, AreDeclarations}
use Rattle.ms_parse_grammar.specs.Size.{size, pairs_in, size_of_all, size_of_variables, size_of_parts, size_of_declaration, size_of_declarations}

starts : (exact : Bool) (s : Symbol) (at : At) (from behind : List Placed) → Starts exact s at from behind → length from ≡ suc (length behind)
starts exact s at from behind (there, is, here) = ap length is

follows : (s : Symbol) (from behind : List Placed) → Follows s from behind → length from ≡ suc (length behind)
follows s from behind (there, is) = ap length is

pairs-fit : (exact : Bool) (pairs : List Rename) (from behind : List Placed) → ReadsPairs exact pairs from behind → length pairs + length behind ≤ length from
pairs-fit exact [] from behind none = omega (arith, ap length none)
pairs-fit exact (pair ∷ pairs) from behind (f1, f2, f3, f4, comma, left, arrow, right, more) =
    omega (arith, follows _ from f1 comma, starts exact _ pair.at f1 f2 left, follows _ f2 f3 arrow, starts exact _ pair.at_right f3 f4 right, pairs-fit exact pairs f4 behind more)

atom-fits : (exact : Bool) (a : Atom) (at : At) (from behind : List Placed) → ReadsAtom exact a at from behind → suc (pairs_in a) + length behind ≤ length from
atom-fits exact truth at from behind reads = omega (arith, starts exact _ at from behind reads)
atom-fits exact falsity at from behind reads = omega (arith, starts exact _ at from behind reads)
atom-fits exact whole at from behind reads = omega (arith, starts exact _ at from behind reads)
atom-fits exact empty_set at from behind reads = omega (arith, starts exact _ at from behind reads)
atom-fits exact (named n) at from behind reads = omega (arith, starts exact _ at from behind reads)
atom-fits exact (numeral n) at from behind reads = omega (arith, starts exact _ at from behind reads)
atom-fits exact (pconst n) at from behind (f1, f2, f3, plus, word, opens, int, closes) =
    omega (arith, starts exact _ at from f1 word, follows _ f1 f2 opens, starts exact _ n.at f2 f3 int, follows _ f3 behind closes)
atom-fits exact (imported file pairs) at from behind (f1, f2, f3, f4, word, opens, texts, more, closes) =
    omega (arith, starts exact _ at from f1 word, follows _ f1 f2 opens, follows _ f2 f3 texts, pairs-fit exact pairs f3 f4 more, follows _ f4 behind closes)

opening-fits : (exact : Bool) (b : Bracket) (at : At) (from behind : List Placed) → ReadsOpening exact b at from behind → suc (length behind) ≤ length from
opening-fits exact Parentheses at from behind reads = omega (arith, starts exact _ at from behind reads)
opening-fits exact Emptiness at from behind (f1, word, opens) = omega (arith, starts exact _ at from f1 word, follows _ f1 behind opens)
opening-fits exact Restriction at from behind (f1, word, opens) = omega (arith, starts exact _ at from f1 word, follows _ f1 behind opens)
opening-fits exact (Export at_text file) at from behind (f1, f2, f3, word, opens, texts, comma) =
    omega (arith, starts exact _ at from f1 word, follows _ f1 f2 opens, starts exact _ at_text f2 f3 texts, follows _ f3 behind comma)

list-opening-fits : (exact : Bool) (l : Listing) (at : At) (from behind : List Placed) → ReadsListOpening exact l at from behind → suc (length behind) ≤ length from
list-opening-fits exact Literal at from behind reads = omega (arith, starts exact _ at from behind reads)
list-opening-fits exact (Call p) at from behind (f1, names, opens) = omega (arith, starts exact _ at from f1 names, follows _ f1 behind opens)

mutual
  expression-fits : (exact : Bool) (e : Expression) (from behind : List Placed) → ReadsExpression exact e from behind → IsGrammatical e → size e + length behind ≤ length from
  expression-fits exact (atom at a) from behind reads good = atom-fits exact a at from behind reads
  expression-fits exact (prefixed at op e) from behind (f1, op_is, reads) (low, good) =
      omega (arith, starts exact _ at from f1 op_is, expression-fits exact e f1 behind reads good)
  expression-fits exact (binary at op l r) from behind (f1, f2, here, left, op_is, right) (low_l, closed, good_l, low_r, good_r) =
      omega (arith, expression-fits exact l from f1 left good_l, follows _ f1 f2 op_is, expression-fits exact r f2 behind right good_r)
  expression-fits exact (joined at op no_expressions) from behind (first, reads) (two, good) = absurd two
  expression-fits exact (joined at op (and_expression no_expressions e)) from behind (first, reads) (two, good) = absurd two
  expression-fits exact (joined at op (and_expression (and_expression before d) e)) from behind (first, (f1, f2, earlier, op_is, last)) (two, (good, closed, low, good_e)) =
      omega (arith, separated-fit exact _ (and_expression before d) _ from f1 earlier good, follows _ f1 f2 op_is, expression-fits exact e f2 behind last good_e)
  expression-fits exact (shifted at e n) from behind (f1, f2, here, reads, sign_is, int) (low, closed, good) =
      omega (arith, expression-fits exact e from f1 reads good, follows _ f1 f2 sign_is, starts exact _ n.at f2 behind int)
  expression-fits exact (enclosed at b e) from behind (f1, f2, opens, reads, closes) good =
      omega (arith, opening-fits exact b at from f1 opens, expression-fits exact e f1 f2 reads good, follows _ f2 behind closes)
  expression-fits exact (listed at l es) from behind (f1, f2, opens, reads, closes) good =
      omega (arith, list-opening-fits exact l at from f1 opens, list-fits exact es f1 f2 reads good, follows _ f2 behind closes)
  expression-fits exact (quantified at q o vs body) from behind (f1, f2, f3, words, reads, colon, reads_body) (some, ordered, good, good_body) =
      omega (arith, starts exact _ at from f1 words, variables-fit exact vs f1 f2 reads good, follows _ f2 f3 colon, expression-fits exact body f3 behind reads_body good_body)
  expression-fits exact (let_in at o parts body) from behind (f1, f2, f3, words, reads, in_is, reads_body) (some, good, good_body) =
      omega (arith, starts exact _ at from f1 words, parts-fit exact parts f1 f2 reads good, follows _ f2 f3 in_is, expression-fits exact body f3 behind reads_body good_body)

  separated-fit : (exact : Bool) (s : Symbol) (es : Expressions) (least : ℕ) (from behind : List Placed) → ReadsSeparated exact s es from behind → AreOperands least es → size_of_all es + length behind ≤ length from
  separated-fit exact s no_expressions least from behind reads good = absurd reads
  separated-fit exact s (and_expression no_expressions e) least from behind reads (none, closed, low, good) = omega (arith, expression-fits exact e from behind reads good)
  separated-fit exact s (and_expression (and_expression before d) e) least from behind (f1, f2, earlier, s_is, last) (good, closed, low, good_e) =
      omega (arith, separated-fit exact s (and_expression before d) least from f1 earlier good, follows _ f1 f2 s_is, expression-fits exact e f2 behind last good_e)

  list-fits : (exact : Bool) (es : Expressions) (from behind : List Placed) → ReadsList exact es from behind → AreGrammatical es → size_of_all es + length behind ≤ length from
  list-fits exact no_expressions from behind none good = omega (arith, ap length none)
  list-fits exact (and_expression no_expressions e) from behind reads (none, good) = omega (arith, expression-fits exact e from behind reads good)
  list-fits exact (and_expression (and_expression before d) e) from behind (f1, f2, earlier, comma, last) (good, good_e) =
      omega (arith, list-fits exact (and_expression before d) from f1 earlier good, follows _ f1 f2 comma, expression-fits exact e f2 behind last good_e)

  variables-fit : (exact : Bool) (vs : Variables) (from behind : List Placed) → ReadsVariables exact vs from behind → HaveGrammaticalDomains vs → size_of_variables vs + length behind ≤ length from
  variables-fit exact no_variables from behind reads good = absurd reads
  variables-fit exact (and_variable no_variables at o n unrestricted) from behind (f1, names, none) good =
      omega (arith, starts exact _ at from f1 names, ap length none)
  variables-fit exact (and_variable no_variables at o n (restricted d)) from behind (f1, names, (f2, where_is, reads)) (good, good_d) =
      omega (arith, starts exact _ at from f1 names, follows _ f1 f2 where_is, expression-fits exact d f2 behind reads good_d)
  variables-fit exact (and_variable (and_variable before at' o' n' d') at o n unrestricted) from behind (f1, f2, f3, earlier, comma, names, none) good =
      omega (arith, variables-fit exact (and_variable before at' o' n' d') from f1 earlier good, follows _ f1 f2 comma, starts exact _ at f2 f3 names, ap length none)
  variables-fit exact (and_variable (and_variable before at' o' n' d') at o n (restricted d)) from behind (f1, f2, f3, earlier, comma, names, (f4, where_is, reads)) (good, good_d) =
      omega (arith, variables-fit exact (and_variable before at' o' n' d') from f1 earlier good, follows _ f1 f2 comma, starts exact _ at f2 f3 names, follows _ f3 f4 where_is, expression-fits exact d f4 behind reads good_d)

  parts-fit : (exact : Bool) (parts : Parts) (from behind : List Placed) → ReadsParts exact parts from behind → HaveGrammaticalValues parts → size_of_parts parts + length behind ≤ length from
  parts-fit exact no_parts from behind reads good = absurd reads
  parts-fit exact (and_part no_parts at n value) from behind (f1, f2, names, equals, reads) (none, quiet, good) =
      omega (arith, starts exact _ at from f1 names, follows _ f1 f2 equals, expression-fits exact value f2 behind reads good)
  parts-fit exact (and_part (and_part before at' n' value') at n value) from behind (f1, f2, f3, f4, earlier, comma, names, equals, reads) (good, quiet, good_v) =
      omega (arith, parts-fit exact (and_part before at' n' value') from f1 earlier good, follows _ f1 f2 comma, starts exact _ at f2 f3 names, follows _ f3 f4 equals, expression-fits exact value f4 behind reads good_v)

-- the restrictions of a declaration
domains-good : (vs : Variables) → AreDomains vs → HaveGrammaticalDomains vs
domains-good no_variables are = tt
domains-good (and_variable before at o n unrestricted) are = domains-good before are
domains-good (and_variable before at o n (restricted d)) (are, is) = (domains-good before are, is.grammatical)

domain-fits : (exact : Bool) (d : Expression) (from behind : List Placed) → ReadsDomain exact (restricted d) from behind → IsGrammatical d → suc (size d) + length behind ≤ length from
domain-fits exact d from behind (f1, where_is, reads) good = omega (arith, follows _ from f1 where_is, expression-fits exact d f1 behind reads good)

kind-fits : (before o : Order) (from behind : List Placed) → ReadsKind before o from behind → length behind ≤ length from
kind-fits before o from behind (inl word) = omega (arith, follows _ from behind word)
kind-fits before o from behind (inr (same, none)) = omega (arith, ap length none)

parameters-fit : (exact : Bool) (vs : Variables) (from behind : List Placed) → ReadsParameters exact vs from behind → HaveGrammaticalDomains vs → size_of_variables vs + length behind ≤ length from
parameters-fit exact no_variables from behind reads good = absurd reads
parameters-fit exact (and_variable no_variables at o n unrestricted) from behind (f1, f2, word, names, none) good =
    omega (arith, follows _ from f1 word, starts exact _ at f1 f2 names, ap length none)
parameters-fit exact (and_variable no_variables at o n (restricted d)) from behind (f1, f2, word, names, domain) (good, good_d) =
    omega (arith, follows _ from f1 word, starts exact _ at f1 f2 names, domain-fits exact d f2 behind domain good_d)
parameters-fit exact (and_variable (and_variable before at' o' n' d') at o n unrestricted) from behind (f1, f2, f3, f4, earlier, comma, word, names, none) good =
    omega (arith, parameters-fit exact (and_variable before at' o' n' d') from f1 earlier good, follows _ f1 f2 comma, kind-fits o' o f2 f3 word, starts exact _ at f3 f4 names, ap length none)
parameters-fit exact (and_variable (and_variable before at' o' n' d') at o n (restricted d)) from behind (f1, f2, f3, f4, earlier, comma, word, names, domain) (good, good_d) =
    omega (arith, parameters-fit exact (and_variable before at' o' n' d') from f1 earlier good, follows _ f1 f2 comma, kind-fits o' o f2 f3 word, starts exact _ at f3 f4 names, domain-fits exact d f4 behind domain good_d)

parameter-list-fits : (exact : Bool) (vs : Variables) (from behind : List Placed) → ReadsParameterList exact vs from behind → HaveGrammaticalDomains vs → size_of_variables vs + length behind ≤ length from
parameter-list-fits exact no_variables from behind (inl none) good = omega (arith, ap length none)
parameter-list-fits exact no_variables from behind (inr (f1, opens, closes)) good = omega (arith, follows _ from f1 opens, follows _ f1 behind closes)
parameter-list-fits exact (and_variable before at o n d) from behind (f1, f2, opens, reads, closes) good =
    omega (arith, follows _ from f1 opens, parameters-fit exact (and_variable before at o n d) f1 f2 reads good, follows _ f2 behind closes)

further-fits : (exact : Bool) (ns : List PlacedInt) (from behind : List Placed) → ReadsFurther exact ns from behind → length behind ≤ length from
further-fits exact [] from behind none = omega (arith, ap length none)
further-fits exact (n ∷ ns) from behind (f1, f2, sign_is, int, more) =
    omega (arith, follows _ from f1 sign_is, starts exact _ n.at f1 f2 int, further-fits exact ns f2 behind more)

sum-fits : (exact : Bool) (ns : List PlacedInt) (from behind : List Placed) → ReadsSum exact ns from behind → length behind ≤ length from
sum-fits exact [] from behind reads = absurd reads
sum-fits exact (n ∷ ns) from behind (f1, plus, int, more) = omega (arith, starts exact _ n.at from f1 int, further-fits exact ns f1 behind more)

-- a declaration may have one part more than symbols, which its semicolon makes up for
declaration-fits : (exact : Bool) (d : Declaration) (from behind : List Placed) → ReadsDeclaration exact d from behind → IsDeclaration d → size_of_declaration d + length behind ≤ suc (length from)
declaration-fits exact (variables vs) from behind (o, f1, word, ordered, reads) are =
    omega (arith, follows _ from f1 word, variables-fit exact vs f1 behind reads (domains-good vs are))
declaration-fits exact (constant at n sum) from behind (f1, f2, f3, word, names, equals, reads) are =
    omega (arith, follows _ from f1 word, starts exact _ at f1 f2 names, follows _ f2 f3 equals, sum-fits exact sum f3 behind reads)
declaration-fits exact (predicate is_pred at n parameters body) from behind (f1, f2, f3, f4, word, names, reads, equals, reads_body) (are, is) =
    omega (arith, follows _ from f1 word, starts exact _ at f1 f2 names, parameter-list-fits exact parameters f2 f3 reads (domains-good parameters are), follows _ f3 f4 equals, expression-fits exact body f4 behind reads_body is.grammatical)
declaration-fits exact (included at file) from behind (f1, word, names) are =
    omega (arith, follows _ from f1 word, starts exact _ at f1 behind names)
declaration-fits exact (default_restriction o n body) from behind (f1, f2, f3, f4, f5, word, opens, names, closes, equals, reads) is =
    omega (arith, follows _ from f1 word, follows _ f1 f2 opens, follows _ f2 f3 names, follows _ f3 f4 closes, follows _ f4 f5 equals, expression-fits exact body f5 behind reads is.grammatical)
declaration-fits exact (formula e) from behind reads is = omega (arith, expression-fits exact e from behind reads is.grammatical)
declaration-fits exact (goal at title e) from behind (f1, f2, word, titled, reads) is =
    omega (arith, follows _ from f1 word, starts exact _ at f1 f2 titled, expression-fits exact e f2 behind reads is.grammatical)

declarations-fit : (exact : Bool) (ds : List Declared) (from behind : List Placed) → ReadsDeclarations exact ds from behind → AreDeclarations ds → size_of_declarations ds + length behind ≤ length from
declarations-fit exact [] from behind none are = omega (arith, ap length none)
declarations-fit exact (d ∷ ds) from behind (f1, f2, begins, reads, ends, more) (is, are) =
    omega (arith, declaration-fits exact d.declaration from f1 reads is, follows _ f1 f2 ends, declarations-fit exact ds f2 behind more are)

header-fits : (exact : Bool) (h : Option (At × Mode)) (from behind : List Placed) → ReadsHeader exact h from behind → length behind ≤ length from
header-fits exact None from behind (none, plain) = omega (arith, ap length none)
header-fits exact (Some (at, Ws1s)) from behind (f1, word, ends) = omega (arith, starts exact _ at from f1 word, follows _ f1 behind ends)
header-fits exact (Some (at, M2lStr)) from behind (f1, f2, f3, first, minus, third, ends) =
    omega (arith, starts exact _ at from f1 first, follows _ f1 f2 minus, follows _ f2 f3 third, follows _ f3 behind ends)

pub document_fits : (exact : Bool) (all : List Placed) (d : Document) → Reads exact all d → size_of_declarations d.declarations ≤ length all
document_fits exact all d reads =
    let f = reads.read.0 in
    omega (arith, header-fits exact d.header all f reads.read.1, declarations-fit exact d.declarations f [] reads.read.2 reads.declarations)
