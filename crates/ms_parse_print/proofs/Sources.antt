-- What is printed for a document has tokens that read as it.
use Rattle.std.proofs.Common.{◌≡◌, Bool, ◌≢◌, ℕ, inl, true, false, List, [], ◌∷◌, ◌++◌, codes, Option, Some, None, refl, sym, ap, ◌∙◌, subst, append_assoc}
use Rattle.std.specs.List.{flat_map}
use Rattle.std.proofs.lemmas.List.{append-nil}
use Rattle.ms_list.specs.declared.at.At.{At}
use Rattle.ms_text.specs.declared.keyword.Keyword.{Keyword}
use Rattle.ms_text.specs.declared.keyword.LeftOutWord.{LeftOutWord}
use Rattle.ms_text.specs.Spelling.{is_identifier, word_spelling, left_out_spelling}
use Rattle.ms_text.specs.TokenList.{Lexed, IsTokenList}
use Rattle.ms_text.proofs.OneReading.{word_spelled, word_spelled-spelling, left_out_spelled, left_out_spelled-spelling}
use Rattle.ms_logic.specs.declared.mode.Mode.{Mode}
use Rattle.ms_logic.specs.declared.mode.Mode.TheVariants.{Ws1s, M2lStr}
use Rattle.ms_logic.specs.declared.mode.Order.{Order}
use Rattle.ms_logic.specs.declared.mode.Rel.TheVariants.{Equal}
use Rattle.ms_logic.specs.declared.source.PlacedInt.{PlacedInt}
use Rattle.ms_logic.specs.declared.source.Source.{Source}
use Rattle.ms_parse_grammar.specs.declared.operator.Binary.TheVariants.{Relation}
use Rattle.ms_parse_grammar.specs.Symbol.{Symbol, name, text, infix_operator, sign, kind, predicate_word, default_word, word_const, word_include, word_ws1s, open_round, close_round, comma, semicolon, Placed, placed, symbols}
use Rattle.ms_parse_grammar.specs.Tree.{Variables, no_variables, and_variable, Domain, unrestricted, restricted}
use Rattle.ms_parse_grammar.specs.Tree.{Declaration, variables, constant, predicate, included, default_restriction, formula, goal, Declared, Document}
use Rattle.ms_parse_grammar.specs.View.{document_of}
use Rattle.ms_parse_grammar.specs.Grammar.{IsVariableList, HaveGrammaticalDomains}
use Rattle.ms_parse_grammar.specs.Reads.{int_symbol}
use Rattle.ms_parse_grammar.specs.Declarations.{ReadsParameters, ReadsParameterList, ReadsFurther, ReadsSum, ReadsDeclaration, BeginsAt, ReadsDeclarations, ReadsString, ReadsHeader, ReadsDocument, AreDomains, IsDeclaration, AreDeclarations}
use Rattle.ms_parse_print.specs.inner.Printable.{HasSummand, IsFormed, ArePrintable, IsClear, IsPrintableDocument}
use Rattle.ms_parse_print.specs.inner.Printed.{IsSpellable, AreSpellable, first_order, spelled, single, printed, printed_domain, printed_variables, printed_parameters, printed_parameter_list, printed_shift, printed_sum, printed_declaration, printed_declared, printed_header, symbols_of, text_of}
use Rattle.ms_parse_print.specs.Text.{IsTextOf}
use Rattle.ms_parse_print.proofs.Back.{Back, follows_back, starts_back, unsigned_back, GoodDomain, back, domain_back, variables_back}
use Rattle.ms_parse_print.proofs.Fused.{fused_document}
use Rattle.ms_parse_print.proofs.Reading.{follows_said, starts_said}
use Rattle.ms_parse_print.proofs.Tokens.{unplaced, tokens_from, tokens_listed, placed_tokens}

pub spellable_both : (xs ys : List Symbol) → AreSpellable xs → AreSpellable ys → AreSpellable (xs ++ ys)
spellable_both [] ys first second = second
spellable_both (x ∷ xs) ys first second = (first.0, spellable_both xs ys first.1 second)

pub spellable_split : (xs ys : List Symbol) → AreSpellable (xs ++ ys) → AreSpellable xs × AreSpellable ys
spellable_split [] ys all = (tt, all)
spellable_split (x ∷ xs) ys all = let rest = spellable_split xs ys all.1 in ((all.0, rest.0), rest.1)

-- parameters

good_domain : (d : Domain) (before : Variables) (at : At) (o : Order) (n : List ℕ) → AreDomains (and_variable before at o n d) → AreDomains before × GoodDomain d
good_domain unrestricted before at o n good = (good, tt)
good_domain (restricted d) before at o n good = (good.0, good.1.grammatical)

domains_grammatical : (vs : Variables) → AreDomains vs → HaveGrammaticalDomains vs
domains_grammatical no_variables good = tt
domains_grammatical (and_variable before at o n unrestricted) good = domains_grammatical before good
domains_grammatical (and_variable before at o n (restricted d)) good = (domains_grammatical before good.0, good.1.grammatical)

parameters_back : (vs : Variables) → IsVariableList vs → AreDomains vs → (from : List Placed) (more : List Symbol) → unplaced from ≡ printed_parameters single vs ++ more → AreSpellable (unplaced from)
    → Back (λ behind. ReadsParameters false vs from behind) more
parameters_back no_variables some g from more e good = absurd some
parameters_back (and_variable no_variables at o n d) some g from more e good =
    let a = follows_back (kind o) from (name n ∷ (printed_domain single d ++ more)) e good in
    let b = starts_back (name n) at a.0 (printed_domain single d ++ more) a.2 a.3 in
    let c = domain_back d (good_domain d no_variables at o n g).1 b.0 more b.2 b.3 in
    (c.0, (a.0, b.0, a.1, b.1, c.1), c.2, c.3)
parameters_back (and_variable (and_variable before at' o' n' d') at o n d) some g from more e good =
    let v = printed_parameters single (and_variable before at' o' n' d') in
    let split = good_domain d (and_variable before at' o' n' d') at o n g in
    let grouped : unplaced from ≡ v ++ (comma ∷ kind o ∷ name n ∷ (printed_domain single d ++ more)) = e ∙ simp append_assoc in
    let r = parameters_back (and_variable before at' o' n' d') tt split.0 from (comma ∷ kind o ∷ name n ∷ (printed_domain single d ++ more)) grouped good in
    let a = follows_back comma r.0 (kind o ∷ name n ∷ (printed_domain single d ++ more)) r.2 r.3 in
    let b = follows_back (kind o) a.0 (name n ∷ (printed_domain single d ++ more)) a.2 a.3 in
    let c = starts_back (name n) at b.0 (printed_domain single d ++ more) b.2 b.3 in
    let x = domain_back d split.1 c.0 more c.2 c.3 in
    (x.0, (r.0, a.0, b.0, c.0, r.1, a.1, inl b.1, c.1, x.1), x.2, x.3)

parameter_list_back : (vs : Variables) → AreDomains vs → (from : List Placed) (more : List Symbol) → unplaced from ≡ printed_parameter_list single vs ++ more → AreSpellable (unplaced from)
    → Back (λ behind. ReadsParameterList false vs from behind) more
parameter_list_back no_variables g from more e good = (from, inl refl, e, good)
parameter_list_back (and_variable before at o n d) g from more e good =
    let v = printed_parameters single (and_variable before at o n d) in
    let a = follows_back open_round from (v ++ (close_round ∷ more)) (e ∙ ap (λ x. open_round ∷ x) (append_assoc v (close_round ∷ []) more)) good in
    let b = parameters_back (and_variable before at o n d) tt g a.0 (close_round ∷ more) a.2 a.3 in
    let c = follows_back close_round b.0 more b.2 b.3 in
    (c.0, (a.0, b.0, a.1, b.1, c.1), c.2, c.3)

-- sums

further_back : (ns : List PlacedInt) (from : List Placed) (more : List Symbol) → unplaced from ≡ flat_map (printed_shift single) ns ++ more → AreSpellable (unplaced from) → Back (λ behind. ReadsFurther false ns from behind) more
further_back [] from more e good = (from, refl, e, good)
further_back (n ∷ ns) from more e good =
    let a = follows_back (sign n.minus) from (int_symbol n.value ∷ (flat_map (printed_shift single) ns ++ more)) e good in
    let b = starts_back (int_symbol n.value) n.at a.0 (flat_map (printed_shift single) ns ++ more) a.2 a.3 in
    let c = further_back ns b.0 more b.2 b.3 in
    (c.0, (a.0, b.0, a.1, b.1, c.1), c.2, c.3)

sum_back : (ns : List PlacedInt) → HasSummand ns → (from : List Placed) (more : List Symbol) → unplaced from ≡ printed_sum single ns ++ more → AreSpellable (unplaced from) → Back (λ behind. ReadsSum false ns from behind) more
sum_back [] some from more e good = absurd some
sum_back (n ∷ ns) some from more e good =
    let a = unsigned_back n from (flat_map (printed_shift single) ns ++ more) e good in
    let b = further_back ns a.1.0 more a.1.2 a.1.3 in
    (b.0, (a.1.0, a.0, a.1.1, b.1), b.2, b.3)

declaration_back : (d : Declaration) → IsFormed d → IsDeclaration d → (from : List Placed) (more : List Symbol) → unplaced from ≡ printed_declaration single d ++ more → AreSpellable (unplaced from)
    → Back (λ behind. ReadsDeclaration false d from behind) more
declaration_back (variables vs) formed is from more e good =
    let a = follows_back (kind (first_order vs)) from (printed_variables single vs ++ more) e good in
    let b = variables_back vs formed.0 (domains_grammatical vs is) a.0 more a.2 a.3 in
    (b.0, (first_order vs, a.0, a.1, formed.1, b.1), b.2, b.3)
declaration_back (constant at n sum) formed is from more e good =
    let a = follows_back word_const from (name n ∷ infix_operator (Relation Equal) ∷ (printed_sum single sum ++ more)) e good in
    let b = starts_back (name n) at a.0 (infix_operator (Relation Equal) ∷ (printed_sum single sum ++ more)) a.2 a.3 in
    let c = follows_back (infix_operator (Relation Equal)) b.0 (printed_sum single sum ++ more) b.2 b.3 in
    let d = sum_back sum formed c.0 more c.2 c.3 in
    (d.0, (a.0, b.0, c.0, a.1, b.1, c.1, d.1), d.2, d.3)
declaration_back (predicate is_pred at n parameters body) formed is from more e good =
    let ps = printed_parameter_list single parameters in
    let tail = infix_operator (Relation Equal) ∷ (printed single body ++ more) in
    let grouped : unplaced from ≡ predicate_word is_pred ∷ name n ∷ (ps ++ (infix_operator (Relation Equal) ∷ (printed single body ++ more))) = e ∙ simp append_assoc in
    let a = follows_back (predicate_word is_pred) from (name n ∷ (ps ++ tail)) grouped good in
    let b = starts_back (name n) at a.0 (ps ++ tail) a.2 a.3 in
    let c = parameter_list_back parameters is.0 b.0 tail b.2 b.3 in
    let d = follows_back (infix_operator (Relation Equal)) c.0 (printed single body ++ more) c.2 c.3 in
    let r = back body is.1.grammatical d.0 more d.2 d.3 in
    (r.0, (a.0, b.0, c.0, d.0, a.1, b.1, c.1, d.1, r.1), r.2, r.3)
declaration_back (included at file) formed is from more e good =
    let a = follows_back word_include from (text file ∷ more) e good in
    let b = starts_back (text file) at a.0 more a.2 a.3 in
    (b.0, (a.0, a.1, b.1), b.2, b.3)
declaration_back (default_restriction o n body) formed is from more e good =
    let a = follows_back (default_word o) from (open_round ∷ name n ∷ close_round ∷ infix_operator (Relation Equal) ∷ (printed single body ++ more)) e good in
    let b = follows_back open_round a.0 (name n ∷ close_round ∷ infix_operator (Relation Equal) ∷ (printed single body ++ more)) a.2 a.3 in
    let c = follows_back (name n) b.0 (close_round ∷ infix_operator (Relation Equal) ∷ (printed single body ++ more)) b.2 b.3 in
    let d = follows_back close_round c.0 (infix_operator (Relation Equal) ∷ (printed single body ++ more)) c.2 c.3 in
    let x = follows_back (infix_operator (Relation Equal)) d.0 (printed single body ++ more) d.2 d.3 in
    let r = back body is.grammatical x.0 more x.2 x.3 in
    (r.0, (a.0, b.0, c.0, d.0, x.0, a.1, b.1, c.1, d.1, x.1, r.1), r.2, r.3)
declaration_back (formula x) formed is from more e good = back x is.grammatical from more e good
declaration_back (goal at title x) formed is from more e good =
    let a = follows_back (name (codes "goal")) from (text title ∷ (printed single x ++ more)) e good in
    let b = starts_back (text title) at a.0 (printed single x ++ more) a.2 a.3 in
    let c = back x is.grammatical b.0 more b.2 b.3 in
    (c.0, (a.0, b.0, a.1, b.1, c.1), c.2, c.3)

begins_anywhere : (at : At) (from : List Placed) (xs : List Symbol) (s : Symbol) (more : List Symbol) → unplaced from ≡ xs ++ s ∷ more → BeginsAt false at from
begins_anywhere at [] [] s more e = let never : ⊥ = cc in absurd never
begins_anywhere at [] (x ∷ xs) s more e = let never : ⊥ = cc in absurd never
begins_anywhere at (placed t there ∷ f) xs s more e = tt

declarations_back : (ds : List Declared) → ArePrintable ds → (from : List Placed) (more : List Symbol) → unplaced from ≡ flat_map (printed_declared single) ds ++ more → AreSpellable (unplaced from)
    → Back (λ behind. ReadsDeclarations false ds from behind) more
declarations_back [] are from more e good = (from, refl, e, good)
declarations_back (d ∷ ds) are from more e good =
    let tail = flat_map (printed_declared single) ds ++ more in
    let grouped : unplaced from ≡ printed_declaration single d.declaration ++ (semicolon ∷ (flat_map (printed_declared single) ds ++ more)) = e ∙ simp append_assoc in
    let a = declaration_back d.declaration are.0.1 are.0.2 from (semicolon ∷ tail) grouped good in
    let b = follows_back semicolon a.0 tail a.2 a.3 in
    let c = declarations_back ds are.1 b.0 more b.2 b.3 in
    (c.0, (a.0, b.0, begins_anywhere d.at from (printed_declaration single d.declaration) semicolon tail grouped, a.1, b.1, c.1), c.2, c.3)

-- what is no word of the language can be said as a name

no_word : (n : List ℕ) → word_spelled n ≡ None → (word : Keyword) → n ≢ word_spelling word
no_word n none word same = let never : Some word ≡ None = sym (word_spelled-spelling word) ∙ ap word_spelled (sym same) ∙ none in cc

not_left_out : (n : List ℕ) → left_out_spelled n ≡ None → (word : LeftOutWord) → n ≢ left_out_spelling word
not_left_out n none word same = let never : Some word ≡ None = sym (left_out_spelled-spelling word) ∙ ap left_out_spelled (sym same) ∙ none in cc

word_said : (n : List ℕ) → is_identifier n ≡ true → word_spelled n ≡ None → left_out_spelled n ≡ None → IsSpellable (name n)
word_said n is none left_out = (is, (λ w. no_word n none w.0 w.1), (λ w. not_left_out n left_out w.0 w.1))

pub goal_said : IsSpellable (name (codes "goal"))
goal_said = word_said (codes "goal") refl refl refl

-- the header

header_spellable : (header : Option (At × Mode)) → AreSpellable (printed_header single header)
header_spellable None = tt
header_spellable (Some (at, Ws1s)) = (tt, (tt, tt))
header_spellable (Some (at, M2lStr)) = (word_said (codes "m2l") refl refl refl, (tt, (word_said (codes "str") refl refl refl, (tt, tt))))

pub string_said : (exact : Bool) (at : At) (from behind : List Placed) → ReadsString exact at from behind → unplaced from ≡ name (codes "m2l") ∷ sign true ∷ name (codes "str") ∷ semicolon ∷ unplaced behind
string_said exact at from behind (f1, f2, f3, starts, minus_is, name_is, ends) =
    let e1 = starts_said exact (name (codes "m2l")) at from f1 starts in
    let e2 = follows_said (sign true) f1 f2 minus_is in
    let e3 = follows_said (name (codes "str")) f2 f3 name_is in
    let e4 = follows_said semicolon f3 behind ends in
    rw (e1, e2, e3, e4)

header_back : (header : Option (At × Mode)) (ds : List Declared) → IsClear header ds → (from : List Placed) → unplaced from ≡ printed_header single header ++ flat_map (printed_declared single) ds → AreSpellable (unplaced from)
    → Back (λ behind. ReadsHeader false header from behind) (flat_map (printed_declared single) ds)
header_back None ds clear from e good = (from, (refl, (λ at f reads. clear (unplaced f) (sym e ∙ string_said false at from f reads))), e, good)
header_back (Some (at, Ws1s)) ds clear from e good =
    let more = flat_map (printed_declared single) ds in
    let a = starts_back word_ws1s at from (semicolon ∷ more) e good in
    let b = follows_back semicolon a.0 more a.2 a.3 in
    (b.0, (a.0, a.1, b.1), b.2, b.3)
header_back (Some (at, M2lStr)) ds clear from e good =
    let more = flat_map (printed_declared single) ds in
    let a = starts_back (name (codes "m2l")) at from (sign true ∷ name (codes "str") ∷ semicolon ∷ more) e good in
    let b = follows_back (sign true) a.0 (name (codes "str") ∷ semicolon ∷ more) a.2 a.3 in
    let c = follows_back (name (codes "str")) b.0 (semicolon ∷ more) b.2 b.3 in
    let d = follows_back semicolon c.0 more c.2 c.3 in
    (d.0, (a.0, b.0, c.0, a.1, b.1, c.1, d.1), d.2, d.3)

declarations_spellable : (ds : List Declared) → ArePrintable ds → AreSpellable (flat_map (printed_declared single) ds)
declarations_spellable [] are = tt
declarations_spellable (d ∷ ds) are =
    spellable_both (printed_declared single d) (flat_map (printed_declared single) ds) (spellable_both (printed_declaration single d.declaration) (semicolon ∷ []) are.0.0 (tt, tt)) (declarations_spellable ds are.1)

declarations_are : (ds : List Declared) → ArePrintable ds → AreDeclarations ds
declarations_are [] are = tt
declarations_are (d ∷ ds) are = (are.0.2, declarations_are ds are.1)

no_symbols : (from : List Placed) → unplaced from ≡ [] → from ≡ []
no_symbols [] e = refl
no_symbols (placed s at ∷ f) e = let never : ⊥ = cc in absurd never

reads_document : (d : Document) → IsPrintableDocument d → (all : List Placed) → unplaced all ≡ symbols_of d → AreSpellable (unplaced all) → ReadsDocument false d all
reads_document d is all e good =
    let a = header_back d.header d.declarations is.header all e good in
    let b = declarations_back d.declarations is.declarations a.0 [] (a.2 ∙ sym (append-nil (flat_map (printed_declared single) d.declarations))) a.3 in
    (a.0, a.1, subst (λ behind. ReadsDeclarations false d.declarations a.0 behind) (no_symbols b.0 b.2) b.1)

pub is_text : (source : Source) → IsPrintableDocument (document_of source) → IsTextOf source (text_of (document_of source))
is_text source is =
    let d = document_of source in
    let ss = symbols_of d in
    let spellable : AreSpellable (symbols_of (document_of source)) =
    spellable_both (printed_header single d.header) (flat_map (printed_declared single) d.declarations) (header_spellable d.header) (declarations_spellable d.declarations is.declarations)
    in
    let bytes_are : text_of d ≡ flat_map spelled ss = fused_document spelled d in
    let lexed : Lexed = record { bytes = text_of d; tokens = tokens_from 0 ss } in
    let said : unplaced (symbols 0 lexed) ≡ symbols_of (document_of source) = placed_tokens lexed [] 0 ss refl bytes_are spellable in
    record {
      tokens = tokens_from 0 ss;
      listed = subst (λ bytes. IsTokenList 0 bytes (tokens_from 0 ss)) (sym bytes_are) (tokens_listed [] 0 ss (λ behind. ([], tt, refl)) spellable);
      reads = record {
        read = reads_document d is (symbols 0 lexed) said (subst AreSpellable (sym said) spellable);
        declarations = declarations_are d.declarations is.declarations;
      };
    }
