-- What holds of the place of each symbol holds of each place of the tree that is read from them.
use Rattle.std.proofs.Common.{true, inl, inr, List, [], ◌∷◌, Option, Some, None, sym, subst}
use Rattle.ms_list.specs.declared.at.At.{At}
use Rattle.ms_logic.specs.declared.mode.Mode.{Mode}
use Rattle.ms_logic.specs.declared.mode.Mode.TheVariants.{Ws1s, M2lStr}
use Rattle.ms_logic.specs.declared.mode.Order.{Order}
use Rattle.ms_logic.specs.declared.source.PlacedInt.{PlacedInt}
use Rattle.ms_logic.specs.declared.source.Rename.{Rename}
use Rattle.ms_parse_grammar.specs.declared.operator.Bracket.{Bracket}
use Rattle.ms_parse_grammar.specs.declared.operator.Bracket.TheVariants.{Parentheses, Emptiness, Restriction, Export}
use Rattle.ms_parse_grammar.specs.declared.operator.Listing.{Listing}
use Rattle.ms_parse_grammar.specs.declared.operator.Listing.TheVariants.{Literal, Call}
use Rattle.ms_parse_grammar.specs.Symbol.{Symbol, Placed, placed}
use Rattle.ms_parse_grammar.specs.Tree.{Atom, truth, falsity, whole, empty_set, named, numeral, pconst, imported, Expression, atom, prefixed, binary, joined, shifted, enclosed, listed, quantified, let_in, Expressions, no_expressions, and_expression, Variables, no_variables, and_variable, Domain, unrestricted, restricted, Parts, no_parts, and_part, Declaration, variables, constant, predicate, included, default_restriction, formula, goal, Declared, Document}
use Rattle.ms_parse_grammar.specs.Reads.{Starts, Follows, FirstIsAt, place, ReadsPairs, ReadsAtom, ReadsOpening, ReadsListOpening, ReadsExpression, ReadsSeparated, ReadsList, ReadsDomain, ReadsVariables, ReadsParts}
use Rattle.ms_parse_grammar.specs.Declarations.{BeginsAt, ReadsKind, ReadsParameters, ReadsParameterList, ReadsFurther, ReadsSum, ReadsDeclaration, ReadsDeclarations, ReadsString, ReadsHeader, ReadsDocument}
use Rattle.ms_logic.specs.Lists.{Each}
use Rattle.ms_include_laws.specs.inner.places.Places.{EachPlaceInRenames, EachPlaceInSum}
use Rattle.ms_include_laws.specs.inner.places.Places.{EachPlaceInAtom, EachPlaceInBracket, EachPlaceIn, EachPlaceInAll, EachPlaceInBounds, EachPlaceInDomain, EachPlaceInParts, EachPlaceInDeclaration, EachPlaceInDeclared}

module _ (P : At → Type 0) where
  abbrev pub SymbolAt : Placed → Type 0
  SymbolAt (placed s at) = P at

  abbrev pub SymbolsAt : List Placed → Type 0
  SymbolsAt from = Each SymbolAt from

  starts : (s : Symbol) (at : At) (from behind : List Placed) → Starts true s at from behind → SymbolsAt from → P at × SymbolsAt behind
  starts s at from behind (there, is, here) h = let both = subst SymbolsAt is h in (subst P (sym here) both.0, both.1)

  follows : (s : Symbol) (from behind : List Placed) → Follows s from behind → SymbolsAt from → SymbolsAt behind
  follows s from behind (there, is) h = (subst SymbolsAt is h).1

  pairs-at : (pairs : List Rename) (from behind : List Placed) → ReadsPairs true pairs from behind → SymbolsAt from → EachPlaceInRenames P pairs × SymbolsAt behind
  pairs-at [] from behind none h = (tt, subst SymbolsAt none h)
  pairs-at (pair ∷ pairs) from behind (f1, f2, f3, f4, comma, left, arrow, right, more) h =
      let first = starts _ pair.at f1 f2 left (follows _ from f1 comma h) in
      let second = starts _ pair.at_right f3 f4 right (follows _ f2 f3 arrow first.1) in
      let rest = pairs-at pairs f4 behind more second.1 in
      (((first.0, second.0), rest.0), rest.1)

  atom-at : (a : Atom) (at : At) (from behind : List Placed) → ReadsAtom true a at from behind → SymbolsAt from → P at × EachPlaceInAtom P a × SymbolsAt behind
  atom-at truth at from behind reads h = let all = starts _ at from behind reads h in (all.0, tt, all.1)
  atom-at falsity at from behind reads h = let all = starts _ at from behind reads h in (all.0, tt, all.1)
  atom-at whole at from behind reads h = let all = starts _ at from behind reads h in (all.0, tt, all.1)
  atom-at empty_set at from behind reads h = let all = starts _ at from behind reads h in (all.0, tt, all.1)
  atom-at (named n) at from behind reads h = let all = starts _ at from behind reads h in (all.0, tt, all.1)
  atom-at (numeral n) at from behind reads h = let all = starts _ at from behind reads h in (all.0, tt, all.1)
  atom-at (pconst n) at from behind (f1, f2, f3, plus, word, opens, int, closes) h =
      let first = starts _ at from f1 word h in
      let second = starts _ n.at f2 f3 int (follows _ f1 f2 opens first.1) in
      (first.0, second.0, follows _ f3 behind closes second.1)
  atom-at (imported file pairs) at from behind (f1, f2, f3, f4, word, opens, texts, more, closes) h =
      let first = starts _ at from f1 word h in
      let rest = pairs-at pairs f3 f4 more (follows _ f2 f3 texts (follows _ f1 f2 opens first.1)) in
      (first.0, rest.0, follows _ f4 behind closes rest.1)

  opening-at : (b : Bracket) (at : At) (from behind : List Placed) → ReadsOpening true b at from behind → SymbolsAt from → P at × EachPlaceInBracket P b × SymbolsAt behind
  opening-at Parentheses at from behind reads h = let all = starts _ at from behind reads h in (all.0, tt, all.1)
  opening-at Emptiness at from behind (f1, word, opens) h = let first = starts _ at from f1 word h in (first.0, tt, follows _ f1 behind opens first.1)
  opening-at Restriction at from behind (f1, word, opens) h = let first = starts _ at from f1 word h in (first.0, tt, follows _ f1 behind opens first.1)
  opening-at (Export at_text file) at from behind (f1, f2, f3, word, opens, texts, comma) h =
      let first = starts _ at from f1 word h in
      let second = starts _ at_text f2 f3 texts (follows _ f1 f2 opens first.1) in
      (first.0, second.0, follows _ f3 behind comma second.1)

  list-opening-at : (l : Listing) (at : At) (from behind : List Placed) → ReadsListOpening true l at from behind → SymbolsAt from → P at × SymbolsAt behind
  list-opening-at Literal at from behind reads h = starts _ at from behind reads h
  list-opening-at (Call p) at from behind (f1, names, opens) h = let first = starts _ at from f1 names h in (first.0, follows _ f1 behind opens first.1)

  -- the place of an expression is one of its places
  pub place-at : (e : Expression) → EachPlaceIn P e → P (place e)
  place-at (atom at a) h = h.0
  place-at (prefixed at op e) h = h.0
  place-at (binary at op l r) h = h.0
  place-at (joined at op es) h = h.0
  place-at (shifted at e n) h = h.0
  place-at (enclosed at b e) h = h.0
  place-at (listed at l es) h = h.0
  place-at (quantified at q o vs body) h = h.0
  place-at (let_in at o parts body) h = h.0

  first-at : (at : At) (es : Expressions) → FirstIsAt true at es → EachPlaceInAll P es → P at
  first-at at no_expressions is h = absurd is
  first-at at (and_expression no_expressions e) is h = subst P (sym is) (place-at e h.1)
  first-at at (and_expression (and_expression before d) e) is h = first-at at (and_expression before d) is h.0

  mutual
    pub expression-at : (e : Expression) (from behind : List Placed) → ReadsExpression true e from behind → SymbolsAt from → EachPlaceIn P e × SymbolsAt behind
    expression-at (atom at a) from behind reads h = let all = atom-at a at from behind reads h in ((all.0, all.1), all.2)
    expression-at (prefixed at op e) from behind (f1, op_is, reads) h =
        let first = starts _ at from f1 op_is h in
        let rest = expression-at e f1 behind reads first.1 in
        ((first.0, rest.0), rest.1)
    expression-at (binary at op l r) from behind (f1, f2, here, left, op_is, right) h =
        let first = expression-at l from f1 left h in
        let rest = expression-at r f2 behind right (follows _ f1 f2 op_is first.1) in
        ((subst P (sym here) (place-at l first.0), first.0, rest.0), rest.1)
    expression-at (joined at op es) from behind (first, reads) h =
        let all = separated-at es _ from behind reads h in
        ((first-at at es first all.0, all.0), all.1)
    expression-at (shifted at e n) from behind (f1, f2, here, reads, sign_is, int) h =
        let first = expression-at e from f1 reads h in
        let rest = starts _ n.at f2 behind int (follows _ f1 f2 sign_is first.1) in
        ((subst P (sym here) (place-at e first.0), first.0, rest.0), rest.1)
    expression-at (enclosed at b e) from behind (f1, f2, opens, reads, closes) h =
        let first = opening-at b at from f1 opens h in
        let rest = expression-at e f1 f2 reads first.2 in
        ((first.0, first.1, rest.0), follows _ f2 behind closes rest.1)
    expression-at (listed at l es) from behind (f1, f2, opens, reads, closes) h =
        let first = list-opening-at l at from f1 opens h in
        let rest = list-at es f1 f2 reads first.1 in
        ((first.0, rest.0), follows _ f2 behind closes rest.1)
    expression-at (quantified at q o vs body) from behind (f1, f2, f3, words, reads, colon, reads_body) h =
        let first = starts _ at from f1 words h in
        let second = variables-at vs f1 f2 reads first.1 in
        let rest = expression-at body f3 behind reads_body (follows _ f2 f3 colon second.1) in
        ((first.0, second.0, rest.0), rest.1)
    expression-at (let_in at o parts body) from behind (f1, f2, f3, words, reads, in_is, reads_body) h =
        let first = starts _ at from f1 words h in
        let second = parts-at parts f1 f2 reads first.1 in
        let rest = expression-at body f3 behind reads_body (follows _ f2 f3 in_is second.1) in
        ((first.0, second.0, rest.0), rest.1)

    separated-at : (es : Expressions) (s : Symbol) (from behind : List Placed) → ReadsSeparated true s es from behind → SymbolsAt from → EachPlaceInAll P es × SymbolsAt behind
    separated-at no_expressions s from behind reads h = absurd reads
    separated-at (and_expression no_expressions e) s from behind reads h =
        let all = expression-at e from behind reads h in
        ((tt, all.0), all.1)
    separated-at (and_expression (and_expression before d) e) s from behind (f1, f2, earlier, s_is, last) h =
        let first = separated-at (and_expression before d) s from f1 earlier h in
        let rest = expression-at e f2 behind last (follows _ f1 f2 s_is first.1) in
        ((first.0, rest.0), rest.1)

    list-at : (es : Expressions) (from behind : List Placed) → ReadsList true es from behind → SymbolsAt from → EachPlaceInAll P es × SymbolsAt behind
    list-at no_expressions from behind none h = (tt, subst SymbolsAt none h)
    list-at (and_expression no_expressions e) from behind reads h =
        let all = expression-at e from behind reads h in
        ((tt, all.0), all.1)
    list-at (and_expression (and_expression before d) e) from behind (f1, f2, earlier, comma, last) h =
        let first = list-at (and_expression before d) from f1 earlier h in
        let rest = expression-at e f2 behind last (follows _ f1 f2 comma first.1) in
        ((first.0, rest.0), rest.1)

    domain-at : (d : Domain) (from behind : List Placed) → ReadsDomain true d from behind → SymbolsAt from → EachPlaceInDomain P d × SymbolsAt behind
    domain-at unrestricted from behind none h = (tt, subst SymbolsAt none h)
    domain-at (restricted d) from behind (f1, where_is, reads) h = expression-at d f1 behind reads (follows _ from f1 where_is h)

    variables-at : (vs : Variables) (from behind : List Placed) → ReadsVariables true vs from behind → SymbolsAt from → EachPlaceInBounds P vs × SymbolsAt behind
    variables-at no_variables from behind reads h = absurd reads
    variables-at (and_variable no_variables at o n d) from behind (f1, names, domain) h =
        let first = starts _ at from f1 names h in
        let rest = domain-at d f1 behind domain first.1 in
        ((tt, first.0, rest.0), rest.1)
    variables-at (and_variable (and_variable before at' o' n' d') at o n d) from behind (f1, f2, f3, earlier, comma, names, domain) h =
        let first = variables-at (and_variable before at' o' n' d') from f1 earlier h in
        let second = starts _ at f2 f3 names (follows _ f1 f2 comma first.1) in
        let rest = domain-at d f3 behind domain second.1 in
        ((first.0, second.0, rest.0), rest.1)

    parts-at : (parts : Parts) (from behind : List Placed) → ReadsParts true parts from behind → SymbolsAt from → EachPlaceInParts P parts × SymbolsAt behind
    parts-at no_parts from behind reads h = absurd reads
    parts-at (and_part no_parts at n value) from behind (f1, f2, names, equals, reads) h =
        let first = starts _ at from f1 names h in
        let rest = expression-at value f2 behind reads (follows _ f1 f2 equals first.1) in
        ((tt, first.0, rest.0), rest.1)
    parts-at (and_part (and_part before at' n' value') at n value) from behind (f1, f2, f3, f4, earlier, comma, names, equals, reads) h =
        let first = parts-at (and_part before at' n' value') from f1 earlier h in
        let second = starts _ at f2 f3 names (follows _ f1 f2 comma first.1) in
        let rest = expression-at value f4 behind reads (follows _ f3 f4 equals second.1) in
        ((first.0, second.0, rest.0), rest.1)

  -- declarations

  kind-at : (before o : Order) (from behind : List Placed) → ReadsKind before o from behind → SymbolsAt from → SymbolsAt behind
  kind-at before o from behind (inl word) h = follows _ from behind word h
  kind-at before o from behind (inr (same, none)) h = subst SymbolsAt none h

  parameters-at : (vs : Variables) (from behind : List Placed) → ReadsParameters true vs from behind → SymbolsAt from → EachPlaceInBounds P vs × SymbolsAt behind
  parameters-at no_variables from behind reads h = absurd reads
  parameters-at (and_variable no_variables at o n d) from behind (f1, f2, word, names, domain) h =
      let first = starts _ at f1 f2 names (follows _ from f1 word h) in
      let rest = domain-at d f2 behind domain first.1 in
      ((tt, first.0, rest.0), rest.1)
  parameters-at (and_variable (and_variable before at' o' n' d') at o n d) from behind (f1, f2, f3, f4, earlier, comma, word, names, domain) h =
      let first = parameters-at (and_variable before at' o' n' d') from f1 earlier h in
      let second = starts _ at f3 f4 names (kind-at o' o f2 f3 word (follows _ f1 f2 comma first.1)) in
      let rest = domain-at d f4 behind domain second.1 in
      ((first.0, second.0, rest.0), rest.1)

  parameter-list-at : (vs : Variables) (from behind : List Placed) → ReadsParameterList true vs from behind → SymbolsAt from → EachPlaceInBounds P vs × SymbolsAt behind
  parameter-list-at no_variables from behind (inl none) h = (tt, subst SymbolsAt none h)
  parameter-list-at no_variables from behind (inr (f1, opens, closes)) h = (tt, follows _ f1 behind closes (follows _ from f1 opens h))
  parameter-list-at (and_variable before at o n d) from behind (f1, f2, opens, reads, closes) h =
      let all = parameters-at (and_variable before at o n d) f1 f2 reads (follows _ from f1 opens h) in
      (all.0, follows _ f2 behind closes all.1)

  further-at : (ns : List PlacedInt) (from behind : List Placed) → ReadsFurther true ns from behind → SymbolsAt from → EachPlaceInSum P ns × SymbolsAt behind
  further-at [] from behind none h = (tt, subst SymbolsAt none h)
  further-at (n ∷ ns) from behind (f1, f2, sign_is, int, more) h =
      let first = starts _ n.at f1 f2 int (follows _ from f1 sign_is h) in
      let rest = further-at ns f2 behind more first.1 in
      ((first.0, rest.0), rest.1)

  sum-at : (ns : List PlacedInt) (from behind : List Placed) → ReadsSum true ns from behind → SymbolsAt from → EachPlaceInSum P ns × SymbolsAt behind
  sum-at [] from behind reads h = absurd reads
  sum-at (n ∷ ns) from behind (f1, plus, int, more) h =
      let first = starts _ n.at from f1 int h in
      let rest = further-at ns f1 behind more first.1 in
      ((first.0, rest.0), rest.1)

  declaration-at : (d : Declaration) (from behind : List Placed) → ReadsDeclaration true d from behind → SymbolsAt from → EachPlaceInDeclaration P d × SymbolsAt behind
  declaration-at (variables vs) from behind (o, f1, word, ordered, reads) h = variables-at vs f1 behind reads (follows _ from f1 word h)
  declaration-at (constant at n sum) from behind (f1, f2, f3, word, names, equals, reads) h =
      let first = starts _ at f1 f2 names (follows _ from f1 word h) in
      let rest = sum-at sum f3 behind reads (follows _ f2 f3 equals first.1) in
      ((first.0, rest.0), rest.1)
  declaration-at (predicate is_pred at n parameters body) from behind (f1, f2, f3, f4, word, names, reads, equals, reads_body) h =
      let first = starts _ at f1 f2 names (follows _ from f1 word h) in
      let second = parameter-list-at parameters f2 f3 reads first.1 in
      let rest = expression-at body f4 behind reads_body (follows _ f3 f4 equals second.1) in
      ((first.0, second.0, rest.0), rest.1)
  declaration-at (included at file) from behind (f1, word, texts) h = starts _ at f1 behind texts (follows _ from f1 word h)
  declaration-at (default_restriction o n body) from behind (f1, f2, f3, f4, f5, word, opens, names, closes, equals, reads) h =
      expression-at body f5 behind reads (follows _ f4 f5 equals (follows _ f3 f4 closes (follows _ f2 f3 names (follows _ f1 f2 opens (follows _ from f1 word h)))))
  declaration-at (formula e) from behind reads h = expression-at e from behind reads h
  declaration-at (goal at title e) from behind (f1, f2, word, titled, reads) h =
      let first = starts _ at f1 f2 titled (follows _ from f1 word h) in
      let rest = expression-at e f2 behind reads first.1 in
      ((first.0, rest.0), rest.1)

  begins-at : (at : At) (from : List Placed) → BeginsAt true at from → SymbolsAt from → P at
  begins-at at [] begins h = absurd begins
  begins-at at (placed s there ∷ more) begins h = subst P (sym begins) h.0

  declarations-at : (ds : List Declared) (from behind : List Placed) → ReadsDeclarations true ds from behind → SymbolsAt from → Each (EachPlaceInDeclared P) ds
  declarations-at [] from behind none h = tt
  declarations-at (d ∷ ds) from behind (f1, f2, begins, reads, ends, more) h =
      let first = declaration-at d.declaration from f1 reads h in
      ((begins-at d.at from begins h, first.0), declarations-at ds f2 behind more (follows _ f1 f2 ends first.1))

  string-at : (at : At) (from behind : List Placed) → ReadsString true at from behind → SymbolsAt from → P at × SymbolsAt behind
  string-at at from behind (f1, f2, f3, word, minus, str, ends) h =
      let first = starts _ at from f1 word h in
      (first.0, follows _ f3 behind ends (follows _ f2 f3 str (follows _ f1 f2 minus first.1)))

  -- the place of a header, where there is one
  abbrev pub HeaderAt : Option (At × Mode) → Type 0
  HeaderAt None = Unit {0}
  HeaderAt (Some (at, mode)) = P at

  header-at : (header : Option (At × Mode)) (from behind : List Placed) → ReadsHeader true header from behind → SymbolsAt from → HeaderAt header × SymbolsAt behind
  header-at None from behind (none, no_string) h = (tt, subst SymbolsAt none h)
  header-at (Some (at, Ws1s)) from behind (f1, word, ends) h =
      let first = starts _ at from f1 word h in
      (first.0, follows _ f1 behind ends first.1)
  header-at (Some (at, M2lStr)) from behind reads h = string-at at from behind reads h

  pub document-at : (d : Document) (all : List Placed) → ReadsDocument true d all → SymbolsAt all → HeaderAt d.header × Each (EachPlaceInDeclared P) d.declarations
  document-at d all (f, header, declarations) h =
      let first = header-at d.header all f header h in
      (first.0, declarations-at d.declarations f [] declarations first.1)
