-- Which expression's symbols, with a semicolon behind them, begin with the header.
use Rattle.std.proofs.Common.{◌≡◌, ℕ, ◌⊎◌, inl, inr, Bool, true, false, cond, List, [], ◌∷◌, ◌++◌, codes, not, IsTrue, Option, None, refl, sym, ap, ◌∙◌, subst, append_assoc}
use Rattle.std.specs.List.{flat_map}
use Rattle.std.proofs.lemmas.Bool.{false≢true}
use Rattle.ms_logic.specs.declared.mode.Mode.{Mode}
use Rattle.ms_list.specs.declared.at.At.{At}
use Rattle.ms_logic.specs.declared.mode.Rel.TheVariants.{Equal, Member}
use Rattle.ms_logic.specs.declared.source.Int.{Int}
use Rattle.ms_logic.specs.declared.source.Int.TheVariants.{Number, Constant}
use Rattle.ms_logic.specs.declared.source.Rename.{Rename}
use Rattle.ms_parse_grammar.specs.declared.operator.Binary.{Binary}
use Rattle.ms_parse_grammar.specs.declared.operator.Binary.TheVariants.{Relation}
use Rattle.ms_parse_grammar.specs.declared.operator.Junction.{Junction}
use Rattle.ms_parse_grammar.specs.Declarations.{IsDeclaration}
use Rattle.ms_parse_grammar.specs.declared.operator.Bracket.{Bracket}
use Rattle.ms_parse_grammar.specs.declared.operator.Bracket.TheVariants.{Parentheses, Emptiness, Restriction, Export}
use Rattle.ms_parse_grammar.specs.declared.operator.Listing.{Listing}
use Rattle.ms_parse_grammar.specs.declared.operator.Listing.TheVariants.{Literal, Call}
use Rattle.ms_parse_grammar.specs.Symbol.{Symbol, name, sign, comma, colon, semicolon, close_round, infix_operator, joining, left_out}
use Rattle.ms_parse_grammar.specs.Grammar.{HasTwo, IsGrammatical}
use Rattle.ms_parse_grammar.specs.Reads.{int_symbol, closing}
use Rattle.ms_parse_grammar.specs.Tree.{Atom, truth, falsity, whole, empty_set, named, numeral, pconst, imported}
use Rattle.ms_parse_grammar.specs.Tree.{Expression, atom, prefixed, binary, joined, shifted, enclosed, listed, quantified, let_in, Expressions, no_expressions, and_expression, Variables, no_variables, and_variable, Domain, unrestricted, restricted, Parts, no_parts, and_part}
use Rattle.ms_parse_grammar.specs.Tree.{Declaration, variables, constant, predicate, included, default_restriction, formula, goal, Declared}
use Rattle.ms_parse_print.specs.inner.Header.{IsNameOf, IsNamed, IsHeaderLike, IsHeaderFormula, BeginsLikeHeader}
use Rattle.ms_parse_print.specs.inner.Printable.{ArePrintable, BeginWithNoHeader, IsClear}
use Rattle.ms_parse_print.specs.inner.Printed.{single, printed, printed_all, printed_atom, printed_domain, printed_pair, printed_opening, printed_list_opening, printed_variables, printed_parts, printed_declaration, printed_declared}
use Rattle.ms_parse_print.proofs.Fitting.{string_header, begins_with_name}

-- no semicolon stands in an expression

abbrev IsInner : Symbol → Type 0
IsInner semicolon = ⊥
IsInner _ = Unit {0}

abbrev AreInner : List Symbol → Type 0
AreInner [] = Unit {0}
AreInner (s ∷ ss) = IsInner s × AreInner ss

both : (xs ys : List Symbol) → AreInner xs → AreInner ys → AreInner (xs ++ ys)
both [] ys first second = second
both (x ∷ xs) ys first second = (first.0, both xs ys first.1 second)

int_inner : (v : Int) → IsInner (int_symbol v)
int_inner (Number n) = tt
int_inner (Constant n) = tt

unsigned_inner : (minus : Bool) (v : Int) → IsInner (cond minus (left_out []) (int_symbol v))
unsigned_inner true v = tt
unsigned_inner false v = int_inner v

pairs_inner : (pairs : List Rename) → AreInner (flat_map (printed_pair single) pairs)
pairs_inner [] = tt
pairs_inner (p ∷ ps) = (tt, (tt, (tt, (tt, pairs_inner ps))))

atom_inner : (a : Atom) → AreInner (printed_atom single a)
atom_inner truth = (tt, tt)
atom_inner falsity = (tt, tt)
atom_inner whole = (tt, tt)
atom_inner empty_set = (tt, tt)
atom_inner (named n) = (tt, tt)
atom_inner (numeral n) = (tt, tt)
atom_inner (pconst n) = (tt, (tt, (unsigned_inner n.minus n.value, (tt, tt))))
atom_inner (imported file pairs) = (tt, (tt, (tt, both (flat_map (printed_pair single) pairs) (close_round ∷ []) (pairs_inner pairs) (tt, tt))))

opening_inner : (b : Bracket) → AreInner (printed_opening single b)
opening_inner Parentheses = (tt, tt)
opening_inner Emptiness = (tt, (tt, tt))
opening_inner Restriction = (tt, (tt, tt))
opening_inner (Export at file) = (tt, (tt, (tt, (tt, tt))))

list_opening_inner : (l : Listing) → AreInner (printed_list_opening single l)
list_opening_inner Literal = (tt, tt)
list_opening_inner (Call p) = (tt, (tt, tt))

closing_inner : (l : Listing) → IsInner (closing l)
closing_inner Literal = tt
closing_inner (Call p) = tt

mutual
  inner : (e : Expression) → AreInner (printed single e)
  inner (atom at a) = atom_inner a
  inner (prefixed at op e) = (tt, inner e)
  inner (binary at op l r) = both (printed single l ++ infix_operator op ∷ []) (printed single r) (both (printed single l) (infix_operator op ∷ []) (inner l) (tt, tt)) (inner r)
  inner (joined at op es) = all_inner (joining op) tt es
  inner (shifted at e n) = both (printed single e) (sign n.minus ∷ int_symbol n.value ∷ []) (inner e) (tt, (int_inner n.value, tt))
  inner (enclosed at b e) = both (printed_opening single b ++ printed single e) (close_round ∷ []) (both (printed_opening single b) (printed single e) (opening_inner b) (inner e)) (tt, tt)
  inner (listed at l es) = both (printed_list_opening single l ++ printed_all single comma es) (closing l ∷ []) (both (printed_list_opening single l) (printed_all single comma es) (list_opening_inner l) (all_inner comma tt es)) (closing_inner l, tt)
  inner (quantified at q o vs body) = (tt, both (printed_variables single vs ++ colon ∷ []) (printed single body) (both (printed_variables single vs) (colon ∷ []) (variables_inner vs) (tt, tt)) (inner body))
  inner (let_in at o parts body) =
      (tt, both (printed_parts single parts ++ infix_operator (Relation Member) ∷ []) (printed single body) (both (printed_parts single parts) (infix_operator (Relation Member) ∷ []) (parts_inner parts) (tt, tt)) (inner body))

  all_inner : (s : Symbol) → IsInner s → (es : Expressions) → AreInner (printed_all single s es)
  all_inner s is no_expressions = tt
  all_inner s is (and_expression no_expressions e) = inner e
  all_inner s is (and_expression (and_expression before d) e) =
      both (printed_all single s (and_expression before d) ++ s ∷ []) (printed single e) (both (printed_all single s (and_expression before d)) (s ∷ []) (all_inner s is (and_expression before d)) (is, tt)) (inner e)

  domain_inner : (d : Domain) → AreInner (printed_domain single d)
  domain_inner unrestricted = tt
  domain_inner (restricted d) = (tt, inner d)

  variables_inner : (vs : Variables) → AreInner (printed_variables single vs)
  variables_inner no_variables = tt
  variables_inner (and_variable no_variables at o n d) = (tt, domain_inner d)
  variables_inner (and_variable (and_variable before at' o' n' d') at o n d) =
      both (printed_variables single (and_variable before at' o' n' d') ++ comma ∷ []) (name n ∷ printed_domain single d)
      (both (printed_variables single (and_variable before at' o' n' d')) (comma ∷ []) (variables_inner (and_variable before at' o' n' d')) (tt, tt)) (tt, domain_inner d)

  parts_inner : (parts : Parts) → AreInner (printed_parts single parts)
  parts_inner no_parts = tt
  parts_inner (and_part no_parts at n value) = (tt, (tt, inner value))
  parts_inner (and_part (and_part before at' n' value') at n value) =
      both (printed_parts single (and_part before at' n' value') ++ comma ∷ []) (name n ∷ infix_operator (Relation Equal) ∷ printed single value)
      (both (printed_parts single (and_part before at' n' value')) (comma ∷ []) (parts_inner (and_part before at' n' value')) (tt, tt)) (tt, (tt, inner value))

-- so the header before the first semicolon is the whole of it
whole_header : (xs rest more : List Symbol) → AreInner xs → xs ++ semicolon ∷ rest ≡ string_header more → xs ≡ name (codes "m2l") ∷ sign true ∷ name (codes "str") ∷ []
whole_header [] rest more is e = let never : ⊥ = cc in absurd never
whole_header (a ∷ []) rest more is e = let never : ⊥ = cc in absurd never
whole_header (a ∷ b ∷ []) rest more is e = let never : ⊥ = cc in absurd never
whole_header (a ∷ b ∷ c ∷ []) rest more is e = cc
whole_header (a ∷ b ∷ c ∷ d ∷ xs) rest more is e = let ends : d ≡ semicolon = cc in absurd (subst IsInner ends is.1.1.1.0)

-- which expressions have three symbols, and one symbol

one_inside : (xs ys : List Symbol) (s a : Symbol) → (xs ++ s ∷ []) ++ ys ≡ a ∷ [] → s ≡ a
one_inside [] ys s a e = cc
one_inside (x ∷ []) ys s a e = let never : ⊥ = cc in absurd never
one_inside (x ∷ y ∷ xs) ys s a e = let never : ⊥ = cc in absurd never

three_inside : (xs ys : List Symbol) (s a b c : Symbol) → (xs ++ s ∷ []) ++ ys ≡ a ∷ b ∷ c ∷ [] → (s ≡ a) ⊎ ((s ≡ b) ⊎ (s ≡ c))
three_inside [] ys s a b c e = inl cc
three_inside (x ∷ []) ys s a b c e = inr (inl cc)
three_inside (x ∷ y ∷ []) ys s a b c e = inr (inr cc)
three_inside (x ∷ y ∷ z ∷ []) ys s a b c e = let never : ⊥ = cc in absurd never
three_inside (x ∷ y ∷ z ∷ w ∷ xs) ys s a b c e = let never : ⊥ = cc in absurd never

two_printed : (s : Symbol) (es : Expressions) → HasTwo es → (xs : List Symbol) × (ys : List Symbol) × (printed_all single s es ≡ (xs ++ s ∷ []) ++ ys)
two_printed s no_expressions two = absurd two
two_printed s (and_expression no_expressions e) two = absurd two
two_printed s (and_expression (and_expression before d) e) two = (printed_all single s (and_expression before d), printed single e, refl)

atom_alone : (a : Atom) (n : List ℕ) → printed_atom single a ≡ name n ∷ [] → IsNameOf n a
atom_alone (named m) n e = cc
atom_alone truth n e = let never : ⊥ = cc in absurd never
atom_alone falsity n e = let never : ⊥ = cc in absurd never
atom_alone whole n e = let never : ⊥ = cc in absurd never
atom_alone empty_set n e = let never : ⊥ = cc in absurd never
atom_alone (numeral m) n e = let never : ⊥ = cc in absurd never
atom_alone (pconst m) n e = let never : ⊥ = cc in absurd never
atom_alone (imported file pairs) n e = let never : ⊥ = cc in absurd never

infix_apart : (op : Binary) (n : List ℕ) → infix_operator op ≡ name n → ⊥
infix_apart op n same = cc

joining_apart : (op : Junction) (n : List ℕ) → joining op ≡ name n → ⊥
joining_apart op n same = cc

sign_apart : (m : Bool) (n : List ℕ) → sign m ≡ name n → ⊥
sign_apart m n same = cc

infix_no_sign : (op : Binary) (m : Bool) → infix_operator op ≡ sign m → ⊥
infix_no_sign op m same = cc

joining_no_sign : (op : Junction) (m : Bool) → joining op ≡ sign m → ⊥
joining_no_sign op m same = cc

named_alone : (e : Expression) → IsGrammatical e → (n : List ℕ) → printed single e ≡ name n ∷ [] → IsNamed n e
named_alone (atom at a) g n e = atom_alone a n e
named_alone (prefixed at op x) g n e = let never : ⊥ = cc in absurd never
named_alone (binary at op l r) g n e = infix_apart op n (one_inside (printed single l) (printed single r) (infix_operator op) (name n) e)
named_alone (joined at op es) g n e =
    let pieces = two_printed (joining op) es g.0 in
    joining_apart op n (one_inside pieces.0 pieces.1 (joining op) (name n) (sym pieces.2 ∙ e))
named_alone (shifted at x m) g n e =
    sign_apart m.minus n (one_inside (printed single x) (int_symbol m.value ∷ []) (sign m.minus) (name n) (append_assoc (printed single x) (sign m.minus ∷ []) (int_symbol m.value ∷ []) ∙ e))
named_alone (enclosed at Parentheses x) g n e = let never : ⊥ = cc in absurd never
named_alone (enclosed at Emptiness x) g n e = let never : ⊥ = cc in absurd never
named_alone (enclosed at Restriction x) g n e = let never : ⊥ = cc in absurd never
named_alone (enclosed at (Export a file) x) g n e = let never : ⊥ = cc in absurd never
named_alone (listed at Literal es) g n e = let never : ⊥ = cc in absurd never
named_alone (listed at (Call p) es) g n e = let never : ⊥ = cc in absurd never
named_alone (quantified at q o vs body) g n e = let never : ⊥ = cc in absurd never
named_alone (let_in at o parts body) g n e = let never : ⊥ = cc in absurd never

shift_alone : (xs : List Symbol) (m : Bool) (v : Symbol) (a b : List ℕ) → xs ++ sign m ∷ v ∷ [] ≡ name a ∷ sign true ∷ name b ∷ [] → (xs ≡ name a ∷ []) × (m ≡ true) × (v ≡ name b)
shift_alone [] m v a b e = let never : ⊥ = cc in absurd never
shift_alone (x ∷ []) m v a b e = (cc, cc, cc)
shift_alone (x ∷ y ∷ []) m v a b e = let never : ⊥ = cc in absurd never
shift_alone (x ∷ y ∷ z ∷ []) m v a b e = let never : ⊥ = cc in absurd never
shift_alone (x ∷ y ∷ z ∷ w ∷ xs) m v a b e = let never : ⊥ = cc in absurd never

three_apart : (s : Symbol) (a b : List ℕ) (m : Bool) → (s ≡ name a → ⊥) → (s ≡ sign m → ⊥) → (s ≡ name b → ⊥) → (s ≡ name a) ⊎ ((s ≡ sign m) ⊎ (s ≡ name b)) → ⊥
three_apart s a b m first second third (inl same) = first same
three_apart s a b m first second third (inr (inl same)) = second same
three_apart s a b m first second third (inr (inr same)) = third same

atom_no_header : (a : Atom) (m n : List ℕ) → printed_atom single a ≡ name m ∷ sign true ∷ name n ∷ [] → ⊥
atom_no_header (named k) m n e = cc
atom_no_header truth m n e = cc
atom_no_header falsity m n e = cc
atom_no_header whole m n e = cc
atom_no_header empty_set m n e = cc
atom_no_header (numeral k) m n e = cc
atom_no_header (pconst k) m n e = cc
atom_no_header (imported file pairs) m n e = cc

header_like : (e : Expression) → IsGrammatical e → printed single e ≡ name (codes "m2l") ∷ sign true ∷ name (codes "str") ∷ [] → IsHeaderLike e
header_like (atom at a) g e = atom_no_header a (codes "m2l") (codes "str") e
header_like (prefixed at op x) g e = let never : ⊥ = cc in absurd never
header_like (binary at op l r) g e =
    three_apart (infix_operator op) (codes "m2l") (codes "str") true (infix_apart op (codes "m2l")) (infix_no_sign op true) (infix_apart op (codes "str"))
    (three_inside (printed single l) (printed single r) (infix_operator op) (name (codes "m2l")) (sign true) (name (codes "str")) e)
header_like (joined at op es) g e =
    let pieces = two_printed (joining op) es g.0 in
    three_apart (joining op) (codes "m2l") (codes "str") true (joining_apart op (codes "m2l")) (joining_no_sign op true) (joining_apart op (codes "str"))
    (three_inside pieces.0 pieces.1 (joining op) (name (codes "m2l")) (sign true) (name (codes "str")) (sym pieces.2 ∙ e))
header_like (shifted at x n) g e =
    let parts = shift_alone (printed single x) n.minus (int_symbol n.value) (codes "m2l") (codes "str") e in
    (named_alone x g.2 (codes "m2l") parts.0, parts.1, parts.2)
header_like (enclosed at Parentheses x) g e = let never : ⊥ = cc in absurd never
header_like (enclosed at Emptiness x) g e = let never : ⊥ = cc in absurd never
header_like (enclosed at Restriction x) g e = let never : ⊥ = cc in absurd never
header_like (enclosed at (Export a file) x) g e = let never : ⊥ = cc in absurd never
header_like (listed at Literal es) g e = let never : ⊥ = cc in absurd never
header_like (listed at (Call p) es) g e = let never : ⊥ = cc in absurd never
header_like (quantified at q o vs body) g e = let never : ⊥ = cc in absurd never
header_like (let_in at o parts body) g e = let never : ⊥ = cc in absurd never

pub clear_without : (ds : List Declared) → ArePrintable ds → ¬ (BeginsLikeHeader ds) → BeginWithNoHeader (flat_map (printed_declared single) ds)
clear_without [] are apart more e = let never : ⊥ = cc in absurd never
clear_without (d ∷ ds) are apart more e =
    let rest = flat_map (printed_declared single) ds in
    let grouped : printed_declaration single d.declaration ++ semicolon ∷ flat_map (printed_declared single) ds ≡ string_header more =
    sym (append_assoc (printed_declaration single d.declaration) (semicolon ∷ []) (flat_map (printed_declared single) ds)) ∙ e
    in
    let is = begins_with_name d.declaration rest more grouped in
    let x = is.0 in
    let expression : IsDeclaration (formula x) = subst IsDeclaration is.1 are.0.2 in
    let begins_x : printed single x ++ semicolon ∷ rest ≡ string_header more = subst (λ y. printed_declaration single y ++ semicolon ∷ rest ≡ string_header more) is.1 grouped in
    let like = header_like x expression.grammatical (whole_header (printed single x) rest more (inner x) begins_x) in
    apart (subst IsHeaderFormula (sym is.1) like)

-- and the other way round

named_symbols : (e : Expression) (n : List ℕ) → IsNamed n e → printed single e ≡ name n ∷ []
named_symbols (atom at (named m)) n is = ap (λ k. name k ∷ []) is
named_symbols (atom at truth) n is = absurd is
named_symbols (atom at falsity) n is = absurd is
named_symbols (atom at whole) n is = absurd is
named_symbols (atom at empty_set) n is = absurd is
named_symbols (atom at (numeral m)) n is = absurd is
named_symbols (atom at (pconst m)) n is = absurd is
named_symbols (atom at (imported file pairs)) n is = absurd is
named_symbols (prefixed at op x) n is = absurd is
named_symbols (binary at op l r) n is = absurd is
named_symbols (joined at op es) n is = absurd is
named_symbols (shifted at x m) n is = absurd is
named_symbols (enclosed at b x) n is = absurd is
named_symbols (listed at l es) n is = absurd is
named_symbols (quantified at q o vs body) n is = absurd is
named_symbols (let_in at o parts body) n is = absurd is

like_symbols : (e : Expression) → IsHeaderLike e → printed single e ≡ name (codes "m2l") ∷ sign true ∷ name (codes "str") ∷ []
like_symbols (atom at a) is = absurd is
like_symbols (prefixed at op x) is = absurd is
like_symbols (binary at op l r) is = absurd is
like_symbols (joined at op es) is = absurd is
like_symbols (shifted at x n) is = rw (named_symbols x (codes "m2l") is.0, is.1, is.2) refl
like_symbols (enclosed at b x) is = absurd is
like_symbols (listed at l es) is = absurd is
like_symbols (quantified at q o vs body) is = absurd is
like_symbols (let_in at o parts body) is = absurd is

formula_symbols : (d : Declaration) → IsHeaderFormula d → printed_declaration single d ≡ name (codes "m2l") ∷ sign true ∷ name (codes "str") ∷ []
formula_symbols (variables vs) is = absurd is
formula_symbols (constant at n sum) is = absurd is
formula_symbols (predicate is_pred at n vs body) is = absurd is
formula_symbols (included at file) is = absurd is
formula_symbols (default_restriction o n body) is = absurd is
formula_symbols (formula x) is = like_symbols x is
formula_symbols (goal at title x) is = absurd is

pub not_clear_with : (ds : List Declared) → BeginsLikeHeader ds → ¬ (BeginWithNoHeader (flat_map (printed_declared single) ds))
not_clear_with [] begins clear = begins
not_clear_with (d ∷ ds) begins clear =
    clear (flat_map (printed_declared single) ds) (ap (λ xs. (xs ++ semicolon ∷ []) ++ flat_map (printed_declared single) ds) (formula_symbols d.declaration begins))

pub cleared : (header : Option (At × Mode)) (r : Bool) (ds : List Declared) → header ≡ None → ArePrintable ds → (IsTrue r → BeginsLikeHeader ds) → (BeginsLikeHeader ds → IsTrue r) → (IsTrue (not r) → IsClear header ds) × (IsClear header ds → IsTrue (not r))
cleared header true ds none are there back =
    subst (λ h. (IsTrue (not true) → IsClear h ds) × (IsClear h ds → IsTrue (not true))) (sym none)
    (λ never. absurd (false≢true never), λ clear. absurd (not_clear_with ds (there refl) clear))
cleared header false ds none are there back =
    subst (λ h. (IsTrue (not false) → IsClear h ds) × (IsClear h ds → IsTrue (not false))) (sym none)
    (λ holds. clear_without ds are (λ begins. false≢true (back begins)), λ clear. refl)
