-- Where each symbol of a name has a name of the language, so has the tree that is read from the symbols.
use Rattle.std.proofs.Common.{true, inl, inr, List, [], ◌∷◌, Option, Some, None, subst}
use Rattle.ms_list.specs.declared.at.At.{At}
use Rattle.ms_names_checked.specs.Spellings.{IsName, ImportsNames, BindsNames, EachBindsNames, BoundsHaveNames, DomainBindsNames, PartsHaveNames, DeclaresNames}
use Rattle.ms_logic.specs.declared.mode.Mode.{Mode}
use Rattle.ms_logic.specs.declared.mode.Mode.TheVariants.{Ws1s, M2lStr}
use Rattle.ms_logic.specs.declared.mode.Order.{Order}
use Rattle.ms_logic.specs.declared.source.PlacedInt.{PlacedInt}
use Rattle.ms_logic.specs.declared.source.Rename.{Rename}
use Rattle.ms_parse_grammar.specs.declared.operator.Bracket.{Bracket}
use Rattle.ms_parse_grammar.specs.declared.operator.Bracket.TheVariants.{Parentheses, Emptiness, Restriction, Export}
use Rattle.ms_parse_grammar.specs.declared.operator.Listing.{Listing}
use Rattle.ms_parse_grammar.specs.declared.operator.Listing.TheVariants.{Literal, Call}
use Rattle.ms_parse_grammar.specs.Symbol.{Symbol, name, Placed, placed}
use Rattle.ms_parse_grammar.specs.Tree.{Atom, truth, falsity, whole, empty_set, named, numeral, pconst, imported, Expression, atom, prefixed, binary, joined, shifted, enclosed, listed, quantified, let_in, Expressions, no_expressions, and_expression, Variables, no_variables, and_variable, Domain, unrestricted, restricted, Parts, no_parts, and_part, Declaration, variables, constant, predicate, included, default_restriction, formula, goal, Declared, Document}
use Rattle.ms_parse_grammar.specs.Reads.{Starts, Follows, ReadsPairs, ReadsAtom, ReadsOpening, ReadsListOpening, ReadsExpression, ReadsSeparated, ReadsList, ReadsDomain, ReadsVariables, ReadsParts}
use Rattle.ms_parse_grammar.specs.Declarations.{ReadsKind, ReadsParameters, ReadsParameterList, ReadsFurther, ReadsSum, ReadsDeclaration, ReadsDeclarations, ReadsString, ReadsHeader, ReadsDocument}
use Rattle.ms_logic.specs.Lists.{Each}
use Rattle.ms_include_laws.proofs.of_spellings.Items.{DeclaredNames}

-- a symbol of a name has a name of the language
abbrev pub SymbolNames : Symbol → Type 0
SymbolNames (name n) = IsName n
SymbolNames _ = Unit {0}

abbrev pub PlacedNames : Placed → Type 0
PlacedNames (placed s at) = SymbolNames s

abbrev pub Names : List Placed → Type 0
Names from = Each PlacedNames from

follows : (s : Symbol) (from behind : List Placed) → Follows s from behind → Names from → SymbolNames s × Names behind
follows s from behind (there, is) h = subst Names is h

past : (s : Symbol) (from behind : List Placed) → Follows s from behind → Names from → Names behind
past s from behind is h = (follows s from behind is h).1

starts : (s : Symbol) (at : At) (from behind : List Placed) → Starts true s at from behind → Names from → SymbolNames s × Names behind
starts s at from behind (there, is, here) h = subst Names is h

pairs-named : (pairs : List Rename) (from behind : List Placed) → ReadsPairs true pairs from behind → Names from → Each (λ (r : Rename). IsName r.left) pairs × Names behind
pairs-named [] from behind none h = (tt, subst Names none h)
pairs-named (pair ∷ pairs) from behind (f1, f2, f3, f4, comma, left, arrow, right, more) h =
    let first = starts _ pair.at f1 f2 left (past _ from f1 comma h) in
    let second = starts _ pair.at_right f3 f4 right (past _ f2 f3 arrow first.1) in
    let rest = pairs-named pairs f4 behind more second.1 in
    ((first.0, rest.0), rest.1)

atom-named : (a : Atom) (at : At) (from behind : List Placed) → ReadsAtom true a at from behind → Names from → ImportsNames a × Names behind
atom-named truth at from behind reads h = (tt, (starts _ at from behind reads h).1)
atom-named falsity at from behind reads h = (tt, (starts _ at from behind reads h).1)
atom-named whole at from behind reads h = (tt, (starts _ at from behind reads h).1)
atom-named empty_set at from behind reads h = (tt, (starts _ at from behind reads h).1)
atom-named (named n) at from behind reads h = (tt, (starts _ at from behind reads h).1)
atom-named (numeral n) at from behind reads h = (tt, (starts _ at from behind reads h).1)
atom-named (pconst n) at from behind (f1, f2, f3, plus, word, opens, int, closes) h =
    let first = starts _ at from f1 word h in
    let second = starts _ n.at f2 f3 int (past _ f1 f2 opens first.1) in
    (tt, past _ f3 behind closes second.1)
atom-named (imported file pairs) at from behind (f1, f2, f3, f4, word, opens, texts, more, closes) h =
    let first = starts _ at from f1 word h in
    let rest = pairs-named pairs f3 f4 more (past _ f2 f3 texts (past _ f1 f2 opens first.1)) in
    (rest.0, past _ f4 behind closes rest.1)

opening-named : (b : Bracket) (at : At) (from behind : List Placed) → ReadsOpening true b at from behind → Names from → Names behind
opening-named Parentheses at from behind reads h = (starts _ at from behind reads h).1
opening-named Emptiness at from behind (f1, word, opens) h = past _ f1 behind opens (starts _ at from f1 word h).1
opening-named Restriction at from behind (f1, word, opens) h = past _ f1 behind opens (starts _ at from f1 word h).1
opening-named (Export at_text file) at from behind (f1, f2, f3, word, opens, texts, comma) h =
    let second = starts _ at_text f2 f3 texts (past _ f1 f2 opens (starts _ at from f1 word h).1) in
    past _ f3 behind comma second.1

list-opening-named : (l : Listing) (at : At) (from behind : List Placed) → ReadsListOpening true l at from behind → Names from → Names behind
list-opening-named Literal at from behind reads h = (starts _ at from behind reads h).1
list-opening-named (Call p) at from behind (f1, names, opens) h = past _ f1 behind opens (starts _ at from f1 names h).1

mutual
  expression-named : (e : Expression) (from behind : List Placed) → ReadsExpression true e from behind → Names from → BindsNames e × Names behind
  expression-named (atom at a) from behind reads h = atom-named a at from behind reads h
  expression-named (prefixed at op e) from behind (f1, op_is, reads) h = expression-named e f1 behind reads (starts _ at from f1 op_is h).1
  expression-named (binary at op l r) from behind (f1, f2, here, left, op_is, right) h =
      let first = expression-named l from f1 left h in
      let rest = expression-named r f2 behind right (past _ f1 f2 op_is first.1) in
      ((first.0, rest.0), rest.1)
  expression-named (joined at op es) from behind (first, reads) h = separated-named es _ from behind reads h
  expression-named (shifted at e n) from behind (f1, f2, here, reads, sign_is, int) h =
      let first = expression-named e from f1 reads h in
      (first.0, (starts _ n.at f2 behind int (past _ f1 f2 sign_is first.1)).1)
  expression-named (enclosed at b e) from behind (f1, f2, opens, reads, closes) h =
      let rest = expression-named e f1 f2 reads (opening-named b at from f1 opens h) in
      (rest.0, past _ f2 behind closes rest.1)
  expression-named (listed at l es) from behind (f1, f2, opens, reads, closes) h =
      let rest = list-named es f1 f2 reads (list-opening-named l at from f1 opens h) in
      (rest.0, past _ f2 behind closes rest.1)
  expression-named (quantified at q o vs body) from behind (f1, f2, f3, words, reads, colon, reads_body) h =
      let second = variables-named vs f1 f2 reads (starts _ at from f1 words h).1 in
      let rest = expression-named body f3 behind reads_body (past _ f2 f3 colon second.1) in
      ((second.0, rest.0), rest.1)
  expression-named (let_in at o parts body) from behind (f1, f2, f3, words, reads, in_is, reads_body) h =
      let second = parts-named parts f1 f2 reads (starts _ at from f1 words h).1 in
      let rest = expression-named body f3 behind reads_body (past _ f2 f3 in_is second.1) in
      ((second.0, rest.0), rest.1)

  separated-named : (es : Expressions) (s : Symbol) (from behind : List Placed) → ReadsSeparated true s es from behind → Names from → EachBindsNames es × Names behind
  separated-named no_expressions s from behind reads h = absurd reads
  separated-named (and_expression no_expressions e) s from behind reads h =
      let all = expression-named e from behind reads h in
      ((tt, all.0), all.1)
  separated-named (and_expression (and_expression before d) e) s from behind (f1, f2, earlier, s_is, last) h =
      let first = separated-named (and_expression before d) s from f1 earlier h in
      let rest = expression-named e f2 behind last (past _ f1 f2 s_is first.1) in
      ((first.0, rest.0), rest.1)

  list-named : (es : Expressions) (from behind : List Placed) → ReadsList true es from behind → Names from → EachBindsNames es × Names behind
  list-named no_expressions from behind none h = (tt, subst Names none h)
  list-named (and_expression no_expressions e) from behind reads h =
      let all = expression-named e from behind reads h in
      ((tt, all.0), all.1)
  list-named (and_expression (and_expression before d) e) from behind (f1, f2, earlier, comma, last) h =
      let first = list-named (and_expression before d) from f1 earlier h in
      let rest = expression-named e f2 behind last (past _ f1 f2 comma first.1) in
      ((first.0, rest.0), rest.1)

  domain-named : (d : Domain) (from behind : List Placed) → ReadsDomain true d from behind → Names from → DomainBindsNames d × Names behind
  domain-named unrestricted from behind none h = (tt, subst Names none h)
  domain-named (restricted d) from behind (f1, where_is, reads) h = expression-named d f1 behind reads (past _ from f1 where_is h)

  variables-named : (vs : Variables) (from behind : List Placed) → ReadsVariables true vs from behind → Names from → BoundsHaveNames vs × Names behind
  variables-named no_variables from behind reads h = absurd reads
  variables-named (and_variable no_variables at o n d) from behind (f1, names, domain) h =
      let first = starts _ at from f1 names h in
      let rest = domain-named d f1 behind domain first.1 in
      ((tt, first.0, rest.0), rest.1)
  variables-named (and_variable (and_variable before at' o' n' d') at o n d) from behind (f1, f2, f3, earlier, comma, names, domain) h =
      let first = variables-named (and_variable before at' o' n' d') from f1 earlier h in
      let second = starts _ at f2 f3 names (past _ f1 f2 comma first.1) in
      let rest = domain-named d f3 behind domain second.1 in
      ((first.0, second.0, rest.0), rest.1)

  parts-named : (parts : Parts) (from behind : List Placed) → ReadsParts true parts from behind → Names from → PartsHaveNames parts × Names behind
  parts-named no_parts from behind reads h = absurd reads
  parts-named (and_part no_parts at n value) from behind (f1, f2, names, equals, reads) h =
      let first = starts _ at from f1 names h in
      let rest = expression-named value f2 behind reads (past _ f1 f2 equals first.1) in
      ((tt, first.0, rest.0), rest.1)
  parts-named (and_part (and_part before at' n' value') at n value) from behind (f1, f2, f3, f4, earlier, comma, names, equals, reads) h =
      let first = parts-named (and_part before at' n' value') from f1 earlier h in
      let second = starts _ at f2 f3 names (past _ f1 f2 comma first.1) in
      let rest = expression-named value f4 behind reads (past _ f3 f4 equals second.1) in
      ((first.0, second.0, rest.0), rest.1)

-- declarations

kind-named : (before o : Order) (from behind : List Placed) → ReadsKind before o from behind → Names from → Names behind
kind-named before o from behind (inl word) h = past _ from behind word h
kind-named before o from behind (inr (same, none)) h = subst Names none h

parameters-named : (vs : Variables) (from behind : List Placed) → ReadsParameters true vs from behind → Names from → BoundsHaveNames vs × Names behind
parameters-named no_variables from behind reads h = absurd reads
parameters-named (and_variable no_variables at o n d) from behind (f1, f2, word, names, domain) h =
    let first = starts _ at f1 f2 names (past _ from f1 word h) in
    let rest = domain-named d f2 behind domain first.1 in
    ((tt, first.0, rest.0), rest.1)
parameters-named (and_variable (and_variable before at' o' n' d') at o n d) from behind (f1, f2, f3, f4, earlier, comma, word, names, domain) h =
    let first = parameters-named (and_variable before at' o' n' d') from f1 earlier h in
    let second = starts _ at f3 f4 names (kind-named o' o f2 f3 word (past _ f1 f2 comma first.1)) in
    let rest = domain-named d f4 behind domain second.1 in
    ((first.0, second.0, rest.0), rest.1)

parameter-list-named : (vs : Variables) (from behind : List Placed) → ReadsParameterList true vs from behind → Names from → BoundsHaveNames vs × Names behind
parameter-list-named no_variables from behind (inl none) h = (tt, subst Names none h)
parameter-list-named no_variables from behind (inr (f1, opens, closes)) h = (tt, past _ f1 behind closes (past _ from f1 opens h))
parameter-list-named (and_variable before at o n d) from behind (f1, f2, opens, reads, closes) h =
    let all = parameters-named (and_variable before at o n d) f1 f2 reads (past _ from f1 opens h) in
    (all.0, past _ f2 behind closes all.1)

further-named : (ns : List PlacedInt) (from behind : List Placed) → ReadsFurther true ns from behind → Names from → Names behind
further-named [] from behind none h = subst Names none h
further-named (n ∷ ns) from behind (f1, f2, sign_is, int, more) h = further-named ns f2 behind more (starts _ n.at f1 f2 int (past _ from f1 sign_is h)).1

sum-named : (ns : List PlacedInt) (from behind : List Placed) → ReadsSum true ns from behind → Names from → Names behind
sum-named [] from behind reads h = absurd reads
sum-named (n ∷ ns) from behind (f1, plus, int, more) h = further-named ns f1 behind more (starts _ n.at from f1 int h).1

declaration-named : (d : Declaration) (from behind : List Placed) → ReadsDeclaration true d from behind → Names from → DeclaresNames d × Names behind
declaration-named (variables vs) from behind (o, f1, word, ordered, reads) h = variables-named vs f1 behind reads (past _ from f1 word h)
declaration-named (constant at n sum) from behind (f1, f2, f3, word, names, equals, reads) h =
    let first = starts _ at f1 f2 names (past _ from f1 word h) in
    (tt, sum-named sum f3 behind reads (past _ f2 f3 equals first.1))
declaration-named (predicate is_pred at n parameters body) from behind (f1, f2, f3, f4, word, names, reads, equals, reads_body) h =
    let first = starts _ at f1 f2 names (past _ from f1 word h) in
    let second = parameter-list-named parameters f2 f3 reads first.1 in
    let rest = expression-named body f4 behind reads_body (past _ f3 f4 equals second.1) in
    ((second.0, rest.0), rest.1)
declaration-named (included at file) from behind (f1, word, texts) h = (tt, (starts _ at f1 behind texts (past _ from f1 word h)).1)
declaration-named (default_restriction o n body) from behind (f1, f2, f3, f4, f5, word, opens, names, closes, equals, reads) h =
    let first = follows _ f2 f3 names (past _ f1 f2 opens (past _ from f1 word h)) in
    let rest = expression-named body f5 behind reads (past _ f4 f5 equals (past _ f3 f4 closes first.1)) in
    ((first.0, rest.0), rest.1)
declaration-named (formula e) from behind reads h = expression-named e from behind reads h
declaration-named (goal at title e) from behind (f1, f2, word, titled, reads) h = expression-named e f2 behind reads (starts _ at f1 f2 titled (past _ from f1 word h)).1

declarations-named : (ds : List Declared) (from behind : List Placed) → ReadsDeclarations true ds from behind → Names from → Each DeclaredNames ds
declarations-named [] from behind none h = tt
declarations-named (d ∷ ds) from behind (f1, f2, begins, reads, ends, more) h =
    let first = declaration-named d.declaration from f1 reads h in
    (first.0, declarations-named ds f2 behind more (past _ f1 f2 ends first.1))

string-named : (at : At) (from behind : List Placed) → ReadsString true at from behind → Names from → Names behind
string-named at from behind (f1, f2, f3, word, minus, str, ends) h =
    past _ f3 behind ends (past _ f2 f3 str (past _ f1 f2 minus (starts _ at from f1 word h).1))

header-named : (header : Option (At × Mode)) (from behind : List Placed) → ReadsHeader true header from behind → Names from → Names behind
header-named None from behind (none, no_string) h = subst Names none h
header-named (Some (at, Ws1s)) from behind (f1, word, ends) h = past _ f1 behind ends (starts _ at from f1 word h).1
header-named (Some (at, M2lStr)) from behind reads h = string-named at from behind reads h

pub document-named : (d : Document) (all : List Placed) → ReadsDocument true d all → Names all → Each DeclaredNames d.declarations
document-named d all (f, header, declarations) h = declarations-named d.declarations f [] declarations (header-named d.header all f header h)
