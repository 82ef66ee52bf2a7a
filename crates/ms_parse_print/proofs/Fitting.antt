-- A document that some text reads as can be printed.
use Rattle.std.proofs.Common.{◌≡◌, ℕ, Bool, inl, inr, true, false, cond, List, [], ◌∷◌, ◌++◌, codes, map, Option, Some, None, refl, sym, ap, ◌∙◌, subst, append_assoc}
use Rattle.std.specs.List.{flat_map}
use Rattle.ms_list.specs.declared.at.At.{At}
use Rattle.ms_logic.specs.declared.mode.Mode.{Mode}
use Rattle.ms_logic.specs.declared.mode.Mode.TheVariants.{Ws1s, M2lStr}
use Rattle.ms_logic.specs.declared.mode.Order.{Order}
use Rattle.ms_logic.specs.declared.mode.Rel.TheVariants.{Equal}
use Rattle.ms_logic.specs.declared.source.PlacedInt.{PlacedInt}
use Rattle.ms_logic.specs.declared.source.Source.{Source}
use Rattle.ms_parse_grammar.specs.declared.operator.Binary.TheVariants.{Relation}
use Rattle.ms_parse_grammar.specs.Symbol.{Symbol, name, text, left_out, infix_operator, sign, kind, predicate_word, default_word, word_const, word_include, word_ws1s, open_round, close_round, comma, semicolon, Placed, symbols}
use Rattle.ms_parse_grammar.specs.Tree.{Expression, Variables, no_variables, and_variable}
use Rattle.ms_parse_grammar.specs.Tree.{Declaration, variables, constant, predicate, included, default_restriction, formula, goal, Declared}
use Rattle.ms_parse_grammar.specs.View.{declared_of, document_of}
use Rattle.ms_parse_grammar.specs.Grammar.{IsVariableList, AreOfOrder}
use Rattle.ms_parse_grammar.specs.Reads.{int_symbol, ReadsVariables}
use Rattle.ms_text.specs.TokenList.{Lexed, IsTokenList}
use Rattle.ms_parse_grammar.specs.Declarations.{ReadsAs, ReadsKind, ReadsParameters, ReadsParameterList, ReadsFurther, ReadsSum, ReadsDeclaration, ReadsDeclarations, ReadsString, ReadsHeader, AreDeclarations, Fits}
use Rattle.ms_parse_print.specs.inner.Printable.{HasSummand, IsFormed, ArePrintable, BeginWithNoHeader, IsClear, IsPrintableDocument}
use Rattle.ms_parse_print.specs.inner.Printed.{AreSpellable, first_order, single, printed, printed_domain, printed_variables, printed_parameters, printed_parameter_list, printed_shift, printed_sum, printed_declaration, printed_declared, text_of}
use Rattle.ms_parse_print.proofs.Back.{follows_back, starts_back}
use Rattle.ms_parse_print.proofs.Reading.{follows_said, starts_said, said, domain_said, variables_said}
use Rattle.ms_parse_print.proofs.Sources.{spellable_both, spellable_split, string_said, is_text}
use Rattle.ms_parse_print.proofs.Tokens.{unplaced, all_spellable}

-- these symbols, and those behind, can be said
abbrev Kept : List Symbol → List Placed → Type 0
Kept ss behind = AreSpellable ss × AreSpellable (unplaced behind)

kept : (ss : List Symbol) (from behind : List Placed) → unplaced from ≡ ss ++ unplaced behind → AreSpellable (unplaced from) → Kept ss behind
kept ss from behind e good = spellable_split ss (unplaced behind) (subst AreSpellable e good)

-- parameters

kind_kept : (before o : Order) (from behind : List Placed) → ReadsKind before o from behind → AreSpellable (unplaced from) → AreSpellable (unplaced behind)
kind_kept before o from behind (inl follow) good = (kept (kind o ∷ []) from behind (follows_said (kind o) from behind follow) good).1
kind_kept before o from behind (inr same) good = subst (λ f. AreSpellable (unplaced f)) same.1 good

parameters_kept : (exact : Bool) (vs : Variables) (from behind : List Placed) → ReadsParameters exact vs from behind → AreSpellable (unplaced from) → Kept (printed_parameters single vs) behind
parameters_kept exact no_variables from behind never good = absurd never
parameters_kept exact (and_variable no_variables at o n d) from behind (f1, f2, kinds, starts, domain_is) good =
    let e1 = follows_said (kind o) from f1 kinds in
    let e2 = starts_said exact (name n) at f1 f2 starts in
    kept (kind o ∷ name n ∷ printed_domain single d) from behind (rw (e1, e2, domain_said exact d f2 behind domain_is) refl) good
parameters_kept exact (and_variable (and_variable before at' o' n' d') at o n d) from behind (f1, f2, f3, f4, others, follow, kinds, starts, domain_is) good =
    let a = parameters_kept exact (and_variable before at' o' n' d') from f1 others good in
    let b = kept (comma ∷ []) f1 f2 (follows_said comma f1 f2 follow) a.1 in
    let c = kind_kept o' o f2 f3 kinds b.1 in
    let e1 = starts_said exact (name n) at f3 f4 starts in
    let r = kept (name n ∷ printed_domain single d) f3 behind (rw (e1, domain_said exact d f4 behind domain_is) refl) c in (
      spellable_both (printed_parameters single (and_variable before at' o' n' d') ++ comma ∷ []) (kind o ∷ name n ∷ printed_domain single d)
          (spellable_both (printed_parameters single (and_variable before at' o' n' d')) (comma ∷ []) a.0 (tt, tt)) (tt, r.0),
      r.1,
    )

parameter_list_kept : (exact : Bool) (vs : Variables) (from behind : List Placed) → ReadsParameterList exact vs from behind → AreSpellable (unplaced from) → Kept (printed_parameter_list single vs) behind
parameter_list_kept exact no_variables from behind (inl same) good = (tt, subst (λ f. AreSpellable (unplaced f)) same good)
parameter_list_kept exact no_variables from behind (inr (f1, opens, closes)) good =
    let a = kept (open_round ∷ []) from f1 (follows_said open_round from f1 opens) good in
    (tt, (kept (close_round ∷ []) f1 behind (follows_said close_round f1 behind closes) a.1).1)
parameter_list_kept exact (and_variable before at o n d) from behind (f1, f2, opens, inner, closes) good =
    let a = kept (open_round ∷ []) from f1 (follows_said open_round from f1 opens) good in
    let b = parameters_kept exact (and_variable before at o n d) f1 f2 inner a.1 in
    let c = kept (close_round ∷ []) f2 behind (follows_said close_round f2 behind closes) b.1 in
    ((tt, spellable_both (printed_parameters single (and_variable before at o n d)) (close_round ∷ []) b.0 (tt, tt)), c.1)

-- sums

further_said : (exact : Bool) (ns : List PlacedInt) (from behind : List Placed) → ReadsFurther exact ns from behind → unplaced from ≡ flat_map (printed_shift single) ns ++ unplaced behind
further_said exact [] from behind same = ap unplaced same
further_said exact (n ∷ ns) from behind (f1, f2, sign_is, int_is, others) =
    let e1 = follows_said (sign n.minus) from f1 sign_is in
    let e2 = starts_said exact (int_symbol n.value) n.at f1 f2 int_is in
    rw (e1, e2, further_said exact ns f2 behind others)

sum_said : (exact : Bool) (ns : List PlacedInt) (from behind : List Placed) → ReadsSum exact ns from behind → unplaced from ≡ printed_sum single ns ++ unplaced behind
sum_said exact [] from behind never = absurd never
sum_said exact (n ∷ ns) from behind (f1, plus, int_is, others) =
    let e1 = starts_said exact (int_symbol n.value) n.at from f1 int_is in
    rw (e1, further_said exact ns f1 behind others) (ap (λ m. cond m (left_out []) (int_symbol n.value) ∷ (flat_map (printed_shift single) ns ++ unplaced behind)) (sym plus))

has_summand : (exact : Bool) (ns : List PlacedInt) (from behind : List Placed) → ReadsSum exact ns from behind → HasSummand ns
has_summand exact [] from behind never = never
has_summand exact (n ∷ ns) from behind reads = tt

-- variables

has_variable : (exact : Bool) (vs : Variables) (from behind : List Placed) → ReadsVariables exact vs from behind → IsVariableList vs
has_variable exact no_variables from behind never = never
has_variable exact (and_variable before at o n d) from behind reads = tt

order_is_first : (o : Order) (vs : Variables) → IsVariableList vs → AreOfOrder o vs → first_order vs ≡ o
order_is_first o no_variables some orders = absurd some
order_is_first o (and_variable no_variables at p n d) some orders = orders.1
order_is_first o (and_variable (and_variable before at' p' n' d') at p n d) some orders = order_is_first o (and_variable before at' p' n' d') tt orders.0

declaration_kept : (exact : Bool) (d : Declaration) (from behind : List Placed) → ReadsDeclaration exact d from behind → AreSpellable (unplaced from) → IsFormed d × Kept (printed_declaration single d) behind
declaration_kept exact (variables vs) from behind (o, f1, kinds, orders, bound) good =
    let some = has_variable exact vs f1 behind bound in
    let a = kept (kind o ∷ []) from f1 (follows_said (kind o) from f1 kinds) good in
    let b = kept (printed_variables single vs) f1 behind (variables_said exact vs f1 behind bound) a.1 in
    ((some, subst (λ p. AreOfOrder p vs) (sym (order_is_first o vs some orders)) orders), ((tt, b.0), b.1))
declaration_kept exact (constant at n sum) from behind (f1, f2, f3, const_is, starts, equal_is, sum_is) good =
    let e1 = follows_said word_const from f1 const_is in
    let e2 = starts_said exact (name n) at f1 f2 starts in
    let e3 = follows_said (infix_operator (Relation Equal)) f2 f3 equal_is in
    (has_summand exact sum f3 behind sum_is, kept (word_const ∷ name n ∷ infix_operator (Relation Equal) ∷ printed_sum single sum) from behind (rw (e1, e2, e3, sum_said exact sum f3 behind sum_is) refl) good)
declaration_kept exact (predicate is_pred at n parameters body) from behind (f1, f2, f3, f4, word_is, starts, listed, equal_is, inner) good =
    let e1 = follows_said (predicate_word is_pred) from f1 word_is in
    let e2 = starts_said exact (name n) at f1 f2 starts in
    let a = kept (predicate_word is_pred ∷ name n ∷ []) from f2 (rw (e1, e2) refl) good in
    let b = parameter_list_kept exact parameters f2 f3 listed a.1 in
    let e3 = follows_said (infix_operator (Relation Equal)) f3 f4 equal_is in
    let c = kept (infix_operator (Relation Equal) ∷ printed single body) f3 behind (rw (e3, said exact body f4 behind inner) refl) b.1 in (
      tt,
      (
        subst AreSpellable (sym (append_assoc (predicate_word is_pred ∷ name n ∷ printed_parameter_list single parameters) (infix_operator (Relation Equal) ∷ []) (printed single body)))
            (spellable_both (predicate_word is_pred ∷ name n ∷ printed_parameter_list single parameters) (infix_operator (Relation Equal) ∷ printed single body) (a.0.0, (a.0.1.0, b.0)) c.0),
        c.1,
      ),
    )
declaration_kept exact (included at file) from behind (f1, include_is, starts) good =
    let e1 = follows_said word_include from f1 include_is in
    let e2 = starts_said exact (text file) at f1 behind starts in
    (tt, kept (word_include ∷ text file ∷ []) from behind (rw (e1, e2) refl) good)
declaration_kept exact (default_restriction o n body) from behind (f1, f2, f3, f4, f5, word_is, opens, name_is, closes, equal_is, inner) good =
    let e1 = follows_said (default_word o) from f1 word_is in
    let e2 = follows_said open_round f1 f2 opens in
    let e3 = follows_said (name n) f2 f3 name_is in
    let e4 = follows_said close_round f3 f4 closes in
    let e5 = follows_said (infix_operator (Relation Equal)) f4 f5 equal_is in
    (tt, kept (default_word o ∷ open_round ∷ name n ∷ close_round ∷ infix_operator (Relation Equal) ∷ printed single body) from behind (rw (e1, e2, e3, e4, e5, said exact body f5 behind inner) refl) good)
declaration_kept exact (formula e) from behind reads good = (tt, kept (printed single e) from behind (said exact e from behind reads) good)
declaration_kept exact (goal at title e) from behind (f1, f2, word_is, starts, inner) good =
    let e1 = follows_said (name (codes "goal")) from f1 word_is in
    let e2 = starts_said exact (text title) at f1 f2 starts in
    (tt, kept (name (codes "goal") ∷ text title ∷ printed single e) from behind (rw (e1, e2, said exact e f2 behind inner) refl) good)

declarations_kept : (exact : Bool) (ds : List Declared) (from behind : List Placed) → ReadsDeclarations exact ds from behind → AreSpellable (unplaced from) → AreDeclarations ds → ArePrintable ds
declarations_kept exact [] from behind reads good are = tt
declarations_kept exact (d ∷ ds) from behind (f1, f2, begins, declaration_is, ends, others) good are =
    let a = declaration_kept exact d.declaration from f1 declaration_is good in
    let b = kept (semicolon ∷ []) f1 f2 (follows_said semicolon f1 f2 ends) a.1.1 in
    ((a.1.0, a.0, are.0), declarations_kept exact ds f2 behind others b.1 are.1)

-- the header

abbrev pub string_header : List Symbol → List Symbol
string_header more = name (codes "m2l") ∷ sign true ∷ name (codes "str") ∷ semicolon ∷ more

-- whether a list begins with the header is seen up to its first semicolon
same_beginning : (xs more rest others : List Symbol) → xs ++ semicolon ∷ rest ≡ string_header more → (tail : List Symbol) × (xs ++ semicolon ∷ others ≡ string_header tail)
same_beginning [] more rest others e = let never : ⊥ = cc in absurd never
same_beginning (a ∷ []) more rest others e = let never : ⊥ = cc in absurd never
same_beginning (a ∷ b ∷ []) more rest others e = let never : ⊥ = cc in absurd never
same_beginning (a ∷ b ∷ c ∷ []) more rest others e = (others, cc)
same_beginning (a ∷ b ∷ c ∷ d ∷ xs) more rest others e = (xs ++ semicolon ∷ others, cc)

string_back : (at : At) (from : List Placed) (more : List Symbol) → unplaced from ≡ string_header more → AreSpellable (unplaced from) → (behind : List Placed) × ReadsString false at from behind
string_back at from more e good =
    let a = starts_back (name (codes "m2l")) at from (sign true ∷ name (codes "str") ∷ semicolon ∷ more) e good in
    let b = follows_back (sign true) a.0 (name (codes "str") ∷ semicolon ∷ more) a.2 a.3 in
    let c = follows_back (name (codes "str")) b.0 (semicolon ∷ more) b.2 b.3 in
    let d = follows_back semicolon c.0 more c.2 c.3 in
    (d.0, (a.0, b.0, c.0, a.1, b.1, c.1, d.1))

pub begins_with_name : (d : Declaration) (rest more : List Symbol) → printed_declaration single d ++ semicolon ∷ rest ≡ string_header more → (e : Expression) × (d ≡ formula e)
begins_with_name (variables vs) rest more e = let never : ⊥ = cc in absurd never
begins_with_name (constant at n sum) rest more e = let never : ⊥ = cc in absurd never
begins_with_name (predicate is_pred at n parameters body) rest more e = let never : ⊥ = cc in absurd never
begins_with_name (included at file) rest more e = let never : ⊥ = cc in absurd never
begins_with_name (default_restriction o n body) rest more e = let never : ⊥ = cc in absurd never
begins_with_name (formula x) rest more e = (x, refl)
begins_with_name (goal at title x) rest more e = let never : ⊥ = cc in absurd never

declarations_clear : (exact : Bool) (ds : List Declared) (from behind : List Placed) → ReadsDeclarations exact ds from behind → AreSpellable (unplaced from) → ((at : At) (f : List Placed) → ¬ (ReadsString false at from f)) → BeginWithNoHeader (flat_map (printed_declared single) ds)
declarations_clear exact [] from behind reads good none more e = let never : ⊥ = cc in absurd never
declarations_clear exact (d ∷ ds) from behind (f1, f2, begins, declaration_is, ends, others) good none more e =
    let grouped : printed_declaration single d.declaration ++ semicolon ∷ flat_map (printed_declared single) ds ≡ string_header more =
    sym (append_assoc (printed_declaration single d.declaration) (semicolon ∷ []) (flat_map (printed_declared single) ds)) ∙ e
    in
    let is = begins_with_name d.declaration (flat_map (printed_declared single) ds) more grouped in
    let x = is.0 in
    let reads_x : ReadsDeclaration exact (formula x) from f1 = subst (λ y. ReadsDeclaration exact y from f1) is.1 declaration_is in
    let here : unplaced from ≡ printed single x ++ semicolon ∷ unplaced f2 = said exact x from f1 reads_x ∙ ap (λ y. printed single x ++ y) (follows_said semicolon f1 f2 ends) in
    let begins_x : printed single x ++ semicolon ∷ flat_map (printed_declared single) ds ≡ string_header more = subst (λ y. printed_declaration single y ++ semicolon ∷ flat_map (printed_declared single) ds ≡ string_header more) is.1 grouped in
    let same = same_beginning (printed single x) more (flat_map (printed_declared single) ds) (unplaced f2) begins_x in
    let found = string_back d.at from same.0 (here ∙ same.1) good in
    none d.at found.0 found.1

header_clear : (exact : Bool) (header : Option (At × Mode)) (ds : List Declared) (all f : List Placed) → ReadsHeader exact header all f → ReadsDeclarations exact ds f [] → AreSpellable (unplaced all) → IsClear header ds × AreSpellable (unplaced f)
header_clear exact None ds all f (same, none) reads good =
    let kept_good = subst (λ g. AreSpellable (unplaced g)) same good in
    (declarations_clear exact ds f [] reads kept_good (λ at g is. none at g (subst (λ from. ReadsString false at from g) (sym same) is)), kept_good)
header_clear exact (Some (at, Ws1s)) ds all f (f1, starts, ends) reads good =
    let e1 = starts_said exact word_ws1s at all f1 starts in
    let e2 = follows_said semicolon f1 f ends in
    (tt, (kept (word_ws1s ∷ semicolon ∷ []) all f (rw (e1, e2) refl) good).1)
header_clear exact (Some (at, M2lStr)) ds all f is reads good = (tt, (kept (string_header []) all f (string_said exact at all f is) good).1)

pub read_is_printable : (exact : Bool) (file : ℕ) (lexed : Lexed) (source : Source) → IsTokenList 0 lexed.bytes lexed.tokens → ReadsAs exact file lexed source → IsPrintableDocument (document_of source)
read_is_printable exact file lexed source listed reads =
    let good : AreSpellable (unplaced (symbols file lexed)) = all_spellable file lexed [] lexed.bytes 0 lexed.tokens refl refl listed in
    let d = document_of source in
    let read = reads.read in
    let clear = header_clear exact d.header d.declarations (symbols file lexed) read.0 read.1 read.2 good in
    record { header = clear.0; declarations = declarations_kept exact d.declarations read.0 [] read.2 clear.1 reads.declarations }

pub is_printable : (source : Source) → Fits source → IsPrintableDocument (document_of source)
is_printable source fits = read_is_printable false 0 fits.lexed source fits.tokens fits.reads

pub fits_by_text : (source : Source) → IsPrintableDocument (document_of source) → Fits source
fits_by_text source is =
    let printed_text = is_text source is in
    record { lexed = record { bytes = text_of (document_of source); tokens = printed_text.tokens }; tokens = printed_text.listed; reads = printed_text.reads }

-- the parts that are tested

pub fits_by_parts : (source : Source) → ArePrintable (map declared_of source.items) → IsClear source.header (map declared_of source.items) → Fits source
fits_by_parts source items header = fits_by_text source (record { header = header; declarations = items })

pub parts_of_fit : (source : Source) → Fits source → ArePrintable (map declared_of source.items) × IsClear source.header (map declared_of source.items)
parts_of_fit source fits = let is = is_printable source fits in (is.declarations, is.header)

-- what is read from tokens fits, with its places
pub read_source_fits : (file : ℕ) (lexed : Lexed) (source : Source) → IsTokenList 0 lexed.bytes lexed.tokens → ReadsAs true file lexed source → Fits source
read_source_fits file lexed source listed reads = fits_by_text source (read_is_printable true file lexed source listed reads)
