-- Symbols that are printed for an expression read as the expression.
use Rattle.std.proofs.Common.{◌≡◌, ℕ, suc, Bool, true, false, cond, List, [], ◌∷◌, ◌++◌, refl, ap, ◌∙◌, subst, append_assoc}
use Rattle.std.specs.List.{flat_map}
use Rattle.ms_list.specs.declared.at.At.{At}
use Rattle.ms_logic.specs.declared.mode.Order.{Order}
use Rattle.ms_logic.specs.declared.mode.Rel.TheVariants.{Equal, Member}
use Rattle.ms_logic.specs.declared.source.Int.{Int}
use Rattle.ms_logic.specs.declared.source.PlacedInt.{PlacedInt}
use Rattle.ms_logic.specs.declared.source.Rename.{Rename}
use Rattle.ms_parse_grammar.specs.declared.operator.Binary.TheVariants.{Relation}
use Rattle.ms_parse_grammar.specs.declared.operator.Bracket.{Bracket}
use Rattle.ms_parse_grammar.specs.declared.operator.Bracket.TheVariants.{Parentheses, Emptiness, Restriction, Export}
use Rattle.ms_parse_grammar.specs.declared.operator.Listing.{Listing}
use Rattle.ms_parse_grammar.specs.declared.operator.Listing.TheVariants.{Literal, Call}
use Rattle.ms_parse_grammar.specs.Symbol.{Symbol, name, number, text, left_out, prefix_operator, infix_operator, joining, sign, quantifier, let_word, word_true, word_false, dollar, word_empty, word_pconst, word_import, word_export, word_restrict, word_where, open_round, close_round, open_curly, comma, colon, arrow, Placed, placed}
use Rattle.ms_parse_grammar.specs.Tree.{Atom, truth, falsity, whole, empty_set, named, numeral, pconst, imported}
use Rattle.ms_parse_grammar.specs.Tree.{Expression, atom, prefixed, binary, joined, shifted, enclosed, listed, quantified, let_in, Expressions, no_expressions, and_expression, Variables, no_variables, and_variable, Domain, unrestricted, restricted, Parts, no_parts, and_part}
use Rattle.ms_parse_grammar.specs.Grammar.{junction_level, IsVariableList, IsPartList, HasTwo, IsGrammatical, AreGrammatical, AreOperands, HaveGrammaticalDomains, HaveGrammaticalValues}
use Rattle.ms_parse_grammar.specs.Reads.{int_symbol, Starts, Follows, ReadsInt, ReadsPairs, ReadsAtom, ReadsOpening, ReadsListOpening, closing, FirstIsAt, ReadsExpression, ReadsSeparated, ReadsList, ReadsDomain, ReadsVariables, ReadsParts}
use Rattle.ms_parse_print.specs.inner.Printed.{IsSpellable, AreSpellable, unsigned, single, printed, printed_all, printed_atom, printed_domain, printed_pair, printed_opening, printed_list_opening, printed_variables, printed_parts}
use Rattle.ms_parse_print.proofs.Spelled.{nothing_left_out}
use Rattle.ms_parse_print.proofs.Tokens.{unplaced}

-- something reads up to a place behind which these symbols stand, all of which can be said
abbrev pub Back : (List Placed → Type 0) → List Symbol → Type 0
Back R more = (behind : List Placed) × R behind × (unplaced behind ≡ more) × AreSpellable (unplaced behind)

pub follows_back : (s : Symbol) (from : List Placed) (more : List Symbol) → unplaced from ≡ s ∷ more → AreSpellable (unplaced from) → Back (λ behind. Follows s from behind) more
follows_back s [] more e good = let never : ⊥ = cc in absurd never
follows_back s (placed t at ∷ f) more e good =
    let same : t ≡ s = cc in
    let tail : unplaced f ≡ more = cc in
    (f, (at, ap (λ x. placed x at ∷ f) same), tail, good.1)

pub starts_back : (s : Symbol) (at : At) (from : List Placed) (more : List Symbol) → unplaced from ≡ s ∷ more → AreSpellable (unplaced from) → Back (λ behind. Starts false s at from behind) more
starts_back s at from more e good = let b = follows_back s from more e good in (b.0, (b.1.0, b.1.1, tt), b.2, b.3)

-- a number that can be said where no sign can stand has no minus
plus : (minus : Bool) (value : Int) → IsSpellable (cond minus (left_out []) (int_symbol value)) → minus ≡ false
plus false value good = refl
plus true value good = absurd (nothing_left_out good)

first_spellable : (s : Symbol) (from : List Placed) (more : List Symbol) → unplaced from ≡ s ∷ more → AreSpellable (unplaced from) → IsSpellable s
first_spellable s from more e good = (subst AreSpellable e good).0

pub unsigned_back : (n : PlacedInt) (from : List Placed) (more : List Symbol) → unplaced from ≡ unsigned n ∷ more → AreSpellable (unplaced from) → (n.minus ≡ false) × Back (λ behind. ReadsInt false n from behind) more
unsigned_back n from more e good =
    let is_plus = plus n.minus n.value (first_spellable (unsigned n) from more e good) in
    let here : unplaced from ≡ int_symbol n.value ∷ more = e ∙ ap (λ m. cond m (left_out []) (int_symbol n.value) ∷ more) is_plus in
    (is_plus, starts_back (int_symbol n.value) n.at from more here good)

-- lists in two, three and four pieces before more

three_before : (a b c more : List Symbol) → (a ++ b ++ c) ++ more ≡ a ++ (b ++ (c ++ more))
three_before a b c more = simp append_assoc

four_before : (a b c d more : List Symbol) → (a ++ b ++ c ++ d) ++ more ≡ a ++ (b ++ (c ++ (d ++ more)))
four_before a b c d more = simp append_assoc

pairs_back : (pairs : List Rename) (from : List Placed) (more : List Symbol) → unplaced from ≡ flat_map (printed_pair single) pairs ++ more → AreSpellable (unplaced from) → Back (λ behind. ReadsPairs false pairs from behind) more
pairs_back [] from more e good = (from, refl, e, good)
pairs_back (p ∷ ps) from more e good =
    let tail = flat_map (printed_pair single) ps ++ more in
    let a = follows_back comma from (name p.left ∷ arrow ∷ name p.right ∷ tail) e good in
    let b = starts_back (name p.left) p.at a.0 (arrow ∷ name p.right ∷ tail) a.2 a.3 in
    let c = follows_back arrow b.0 (name p.right ∷ tail) b.2 b.3 in
    let d = starts_back (name p.right) p.at_right c.0 tail c.2 c.3 in
    let r = pairs_back ps d.0 more d.2 d.3 in
    (r.0, (a.0, b.0, c.0, d.0, a.1, b.1, c.1, d.1, r.1), r.2, r.3)

atom_back : (a : Atom) (at : At) (from : List Placed) (more : List Symbol) → unplaced from ≡ printed_atom single a ++ more → AreSpellable (unplaced from) → Back (λ behind. ReadsAtom false a at from behind) more
atom_back truth at from more e good = starts_back word_true at from more e good
atom_back falsity at from more e good = starts_back word_false at from more e good
atom_back whole at from more e good = starts_back dollar at from more e good
atom_back empty_set at from more e good = starts_back word_empty at from more e good
atom_back (named n) at from more e good = starts_back (name n) at from more e good
atom_back (numeral n) at from more e good = starts_back (number n) at from more e good
atom_back (pconst n) at from more e good =
    let a = starts_back word_pconst at from (open_round ∷ unsigned n ∷ close_round ∷ more) e good in
    let b = follows_back open_round a.0 (unsigned n ∷ close_round ∷ more) a.2 a.3 in
    let c = unsigned_back n b.0 (close_round ∷ more) b.2 b.3 in
    let d = follows_back close_round c.1.0 more c.1.2 c.1.3 in
    (d.0, (a.0, b.0, c.1.0, c.0, a.1, b.1, c.1.1, d.1), d.2, d.3)
atom_back (imported file pairs) at from more e good =
    let ps = flat_map (printed_pair single) pairs in
    let grouped : unplaced from ≡ word_import ∷ open_round ∷ text file ∷ (ps ++ (close_round ∷ more)) = e ∙ ap (λ x. word_import ∷ open_round ∷ text file ∷ x) (append_assoc ps (close_round ∷ []) more) in
    let a = starts_back word_import at from (open_round ∷ text file ∷ (ps ++ (close_round ∷ more))) grouped good in
    let b = follows_back open_round a.0 (text file ∷ (ps ++ (close_round ∷ more))) a.2 a.3 in
    let c = follows_back (text file) b.0 (ps ++ (close_round ∷ more)) b.2 b.3 in
    let d = pairs_back pairs c.0 (close_round ∷ more) c.2 c.3 in
    let r = follows_back close_round d.0 more d.2 d.3 in
    (r.0, (a.0, b.0, c.0, d.0, a.1, b.1, c.1, d.1, r.1), r.2, r.3)

opening_back : (b : Bracket) (at : At) (from : List Placed) (more : List Symbol) → unplaced from ≡ printed_opening single b ++ more → AreSpellable (unplaced from) → Back (λ behind. ReadsOpening false b at from behind) more
opening_back Parentheses at from more e good = starts_back open_round at from more e good
opening_back Emptiness at from more e good =
    let a = starts_back word_empty at from (open_round ∷ more) e good in
    let b = follows_back open_round a.0 more a.2 a.3 in
    (b.0, (a.0, a.1, b.1), b.2, b.3)
opening_back Restriction at from more e good =
    let a = starts_back word_restrict at from (open_round ∷ more) e good in
    let b = follows_back open_round a.0 more a.2 a.3 in
    (b.0, (a.0, a.1, b.1), b.2, b.3)
opening_back (Export at_text file) at from more e good =
    let a = starts_back word_export at from (open_round ∷ text file ∷ comma ∷ more) e good in
    let b = follows_back open_round a.0 (text file ∷ comma ∷ more) a.2 a.3 in
    let c = starts_back (text file) at_text b.0 (comma ∷ more) b.2 b.3 in
    let d = follows_back comma c.0 more c.2 c.3 in
    (d.0, (a.0, b.0, c.0, a.1, b.1, c.1, d.1), d.2, d.3)

list_opening_back : (l : Listing) (at : At) (from : List Placed) (more : List Symbol) → unplaced from ≡ printed_list_opening single l ++ more → AreSpellable (unplaced from) → Back (λ behind. ReadsListOpening false l at from behind) more
list_opening_back Literal at from more e good = starts_back open_curly at from more e good
list_opening_back (Call p) at from more e good =
    let a = starts_back (name p) at from (open_round ∷ more) e good in
    let b = follows_back open_round a.0 more a.2 a.3 in
    (b.0, (a.0, a.1, b.1), b.2, b.3)

abbrev IsSome : Expressions → Type 0
IsSome no_expressions = ⊥
IsSome (and_expression before e) = Unit {0}

two_are_some : (es : Expressions) → HasTwo es → IsSome es
two_are_some no_expressions two = absurd two
two_are_some (and_expression before e) two = tt

first_anywhere : (at : At) (es : Expressions) → IsSome es → FirstIsAt false at es
first_anywhere at no_expressions some = absurd some
first_anywhere at (and_expression no_expressions e) some = tt
first_anywhere at (and_expression (and_expression before d) e) some = first_anywhere at (and_expression before d) tt

abbrev pub GoodDomain : Domain → Type 0
GoodDomain unrestricted = Unit {0}
GoodDomain (restricted d) = IsGrammatical d

domains_split : (before : Variables) (at : At) (o : Order) (n : List ℕ) (d : Domain) → HaveGrammaticalDomains (and_variable before at o n d) → HaveGrammaticalDomains before × GoodDomain d
domains_split before at o n unrestricted good = (good, tt)
domains_split before at o n (restricted d) good = good

mutual
  pub back : (e : Expression) → IsGrammatical e → (from : List Placed) (more : List Symbol) → unplaced from ≡ printed single e ++ more → AreSpellable (unplaced from) → Back (λ behind. ReadsExpression false e from behind) more
  back (atom at a) g from more e good = atom_back a at from more e good
  back (prefixed at op x) g from more e good =
      let a = starts_back (prefix_operator op) at from (printed single x ++ more) e good in
      let b = back x g.1 a.0 more a.2 a.3 in
      (b.0, (a.0, a.1, b.1), b.2, b.3)
  back (binary at op l r) g from more e good =
      let a = back l g.2 from (infix_operator op ∷ (printed single r ++ more)) (e ∙ three_before (printed single l) (infix_operator op ∷ []) (printed single r) more) good in
      let b = follows_back (infix_operator op) a.0 (printed single r ++ more) a.2 a.3 in
      let c = back r g.4 b.0 more b.2 b.3 in
      (c.0, (a.0, b.0, tt, a.1, b.1, c.1), c.2, c.3)
  back (joined at op es) g from more e good =
      let a = separated_back (joining op) (suc (junction_level op)) es g.1 (two_are_some es g.0) from more e good in
      (a.0, (first_anywhere at es (two_are_some es g.0), a.1), a.2, a.3)
  back (shifted at x n) g from more e good =
      let a = back x g.2 from (sign n.minus ∷ int_symbol n.value ∷ more) (e ∙ append_assoc (printed single x) (sign n.minus ∷ int_symbol n.value ∷ []) more) good in
      let b = follows_back (sign n.minus) a.0 (int_symbol n.value ∷ more) a.2 a.3 in
      let c = starts_back (int_symbol n.value) n.at b.0 more b.2 b.3 in
      (c.0, (a.0, b.0, tt, a.1, b.1, c.1), c.2, c.3)
  back (enclosed at b x) g from more e good =
      let a = opening_back b at from (printed single x ++ (close_round ∷ more)) (e ∙ three_before (printed_opening single b) (printed single x) (close_round ∷ []) more) good in
      let c = back x g a.0 (close_round ∷ more) a.2 a.3 in
      let d = follows_back close_round c.0 more c.2 c.3 in
      (d.0, (a.0, c.0, a.1, c.1, d.1), d.2, d.3)
  back (listed at l es) g from more e good =
      let a = list_opening_back l at from (printed_all single comma es ++ (closing l ∷ more)) (e ∙ three_before (printed_list_opening single l) (printed_all single comma es) (closing l ∷ []) more) good in
      let c = list_back es g a.0 (closing l ∷ more) a.2 a.3 in
      let d = follows_back (closing l) c.0 more c.2 c.3 in
      (d.0, (a.0, c.0, a.1, c.1, d.1), d.2, d.3)
  back (quantified at q o vs body) g from more e good =
      let a = starts_back (quantifier q o) at from (printed_variables single vs ++ (colon ∷ (printed single body ++ more)))
      (e ∙ four_before (quantifier q o ∷ []) (printed_variables single vs) (colon ∷ []) (printed single body) more) good in
      let b = variables_back vs g.0 g.2 a.0 (colon ∷ (printed single body ++ more)) a.2 a.3 in
      let c = follows_back colon b.0 (printed single body ++ more) b.2 b.3 in
      let d = back body g.3 c.0 more c.2 c.3 in
      (d.0, (a.0, b.0, c.0, a.1, b.1, c.1, d.1), d.2, d.3)
  back (let_in at o parts body) g from more e good =
      let a = starts_back (let_word o) at from (printed_parts single parts ++ (infix_operator (Relation Member) ∷ (printed single body ++ more)))
      (e ∙ four_before (let_word o ∷ []) (printed_parts single parts) (infix_operator (Relation Member) ∷ []) (printed single body) more) good in
      let b = parts_back parts g.0 g.1 a.0 (infix_operator (Relation Member) ∷ (printed single body ++ more)) a.2 a.3 in
      let c = follows_back (infix_operator (Relation Member)) b.0 (printed single body ++ more) b.2 b.3 in
      let d = back body g.2 c.0 more c.2 c.3 in
      (d.0, (a.0, b.0, c.0, a.1, b.1, c.1, d.1), d.2, d.3)

  separated_back : (s : Symbol) (least : ℕ) (es : Expressions) → AreOperands least es → IsSome es → (from : List Placed) (more : List Symbol) → unplaced from ≡ printed_all single s es ++ more → AreSpellable (unplaced from)
      → Back (λ behind. ReadsSeparated false s es from behind) more
  separated_back s least no_expressions g some from more e good = absurd some
  separated_back s least (and_expression no_expressions x) g some from more e good = back x g.3 from more e good
  separated_back s least (and_expression (and_expression before d) x) g some from more e good =
      let a = separated_back s least (and_expression before d) g.0 tt from (s ∷ (printed single x ++ more)) (e ∙ three_before (printed_all single s (and_expression before d)) (s ∷ []) (printed single x) more) good in
      let b = follows_back s a.0 (printed single x ++ more) a.2 a.3 in
      let c = back x g.3 b.0 more b.2 b.3 in
      (c.0, (a.0, b.0, a.1, b.1, c.1), c.2, c.3)

  list_back : (es : Expressions) → AreGrammatical es → (from : List Placed) (more : List Symbol) → unplaced from ≡ printed_all single comma es ++ more → AreSpellable (unplaced from) → Back (λ behind. ReadsList false es from behind) more
  list_back no_expressions g from more e good = (from, refl, e, good)
  list_back (and_expression no_expressions x) g from more e good = back x g.1 from more e good
  list_back (and_expression (and_expression before d) x) g from more e good =
      let a = list_back (and_expression before d) g.0 from (comma ∷ (printed single x ++ more)) (e ∙ three_before (printed_all single comma (and_expression before d)) (comma ∷ []) (printed single x) more) good in
      let b = follows_back comma a.0 (printed single x ++ more) a.2 a.3 in
      let c = back x g.1 b.0 more b.2 b.3 in
      (c.0, (a.0, b.0, a.1, b.1, c.1), c.2, c.3)

  pub domain_back : (d : Domain) → GoodDomain d → (from : List Placed) (more : List Symbol) → unplaced from ≡ printed_domain single d ++ more → AreSpellable (unplaced from) → Back (λ behind. ReadsDomain false d from behind) more
  domain_back unrestricted g from more e good = (from, refl, e, good)
  domain_back (restricted d) g from more e good =
      let a = follows_back word_where from (printed single d ++ more) e good in
      let b = back d g a.0 more a.2 a.3 in
      (b.0, (a.0, a.1, b.1), b.2, b.3)

  pub variables_back : (vs : Variables) → IsVariableList vs → HaveGrammaticalDomains vs → (from : List Placed) (more : List Symbol) → unplaced from ≡ printed_variables single vs ++ more → AreSpellable (unplaced from)
      → Back (λ behind. ReadsVariables false vs from behind) more
  variables_back no_variables some g from more e good = absurd some
  variables_back (and_variable no_variables at o n d) some g from more e good =
      let a = starts_back (name n) at from (printed_domain single d ++ more) e good in
      let b = domain_back d (domains_split no_variables at o n d g).1 a.0 more a.2 a.3 in
      (b.0, (a.0, a.1, b.1), b.2, b.3)
  variables_back (and_variable (and_variable before at' o' n' d') at o n d) some g from more e good =
      let v = printed_variables single (and_variable before at' o' n' d') in
      let split = domains_split (and_variable before at' o' n' d') at o n d g in
      let a = variables_back (and_variable before at' o' n' d') tt split.0 from (comma ∷ name n ∷ (printed_domain single d ++ more)) (e ∙ three_before v (comma ∷ []) (name n ∷ printed_domain single d) more) good in
      let b = follows_back comma a.0 (name n ∷ (printed_domain single d ++ more)) a.2 a.3 in
      let c = starts_back (name n) at b.0 (printed_domain single d ++ more) b.2 b.3 in
      let r = domain_back d split.1 c.0 more c.2 c.3 in
      (r.0, (a.0, b.0, c.0, a.1, b.1, c.1, r.1), r.2, r.3)

  parts_back : (parts : Parts) → IsPartList parts → HaveGrammaticalValues parts → (from : List Placed) (more : List Symbol) → unplaced from ≡ printed_parts single parts ++ more → AreSpellable (unplaced from)
      → Back (λ behind. ReadsParts false parts from behind) more
  parts_back no_parts some g from more e good = absurd some
  parts_back (and_part no_parts at n value) some g from more e good =
      let a = starts_back (name n) at from (infix_operator (Relation Equal) ∷ (printed single value ++ more)) e good in
      let b = follows_back (infix_operator (Relation Equal)) a.0 (printed single value ++ more) a.2 a.3 in
      let c = back value g.2 b.0 more b.2 b.3 in
      (c.0, (a.0, b.0, a.1, b.1, c.1), c.2, c.3)
  parts_back (and_part (and_part before at' n' value') at n value) some g from more e good =
      let v = printed_parts single (and_part before at' n' value') in
      let a = parts_back (and_part before at' n' value') tt g.0 from (comma ∷ name n ∷ infix_operator (Relation Equal) ∷ (printed single value ++ more))
      (e ∙ three_before v (comma ∷ []) (name n ∷ infix_operator (Relation Equal) ∷ printed single value) more) good in
      let b = follows_back comma a.0 (name n ∷ infix_operator (Relation Equal) ∷ (printed single value ++ more)) a.2 a.3 in
      let c = starts_back (name n) at b.0 (infix_operator (Relation Equal) ∷ (printed single value ++ more)) b.2 b.3 in
      let d = follows_back (infix_operator (Relation Equal)) c.0 (printed single value ++ more) c.2 c.3 in
      let r = back value g.2 d.0 more d.2 d.3 in
      (r.0, (a.0, b.0, c.0, d.0, a.1, b.1, c.1, d.1, r.1), r.2, r.3)
