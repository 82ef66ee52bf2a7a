-- The automaton reads each expression that the grammar reads.
use Rattle.std.proofs.Common.{◌≡◌, ℕ, suc, ◌+◌, ◌≤◌, max, leb, Bool, true, false, cond, ◌&&◌, ◌||◌, List, [], ◌∷◌, ◌++◌, length, refl, sym, ap, ◌∙◌, subst, arith, append_assoc}
use Rattle.std.proofs.lemmas.Bool.{false≢true, le-leb}
use Rattle.std.proofs.lemmas.List.{append-nil}
use Rattle.ms_list.specs.declared.at.At.{At}
use Rattle.ms_logic.specs.declared.mode.Order.{Order}
use Rattle.ms_logic.specs.declared.mode.Quant.{Quant}
use Rattle.ms_logic.specs.declared.mode.Rel.TheVariants.{Equal, Member}
use Rattle.ms_logic.specs.declared.source.Int.{Int}
use Rattle.ms_logic.specs.declared.source.Int.TheVariants.{Number, Constant}
use Rattle.ms_logic.specs.declared.source.Rename.{Rename}
use Rattle.ms_parse_grammar.specs.Symbol.{Symbol, name, number, text, prefix_operator, infix_operator, joining, sign, quantifier, let_word, word_true, word_false, dollar, word_empty, word_pconst, word_import, word_export, word_restrict, word_where, open_round, close_round, open_curly, close_curly, comma, colon, arrow, Placed, placed}
use Rattle.ms_parse_grammar.specs.declared.operator.Binary.TheVariants.{Relation}
use Rattle.ms_parse_grammar.specs.declared.operator.Junction.{Junction}
use Rattle.ms_parse_grammar.specs.declared.operator.Bracket.{Bracket}
use Rattle.ms_parse_grammar.specs.declared.operator.Bracket.TheVariants.{Parentheses, Emptiness, Restriction, Export}
use Rattle.ms_parse_grammar.specs.declared.operator.Listing.{Listing}
use Rattle.ms_parse_grammar.specs.declared.operator.Listing.TheVariants.{Literal, Call}
use Rattle.ms_parse_grammar.specs.Tree.{Atom, truth, falsity, whole, empty_set, named, numeral, pconst, imported}
use Rattle.ms_parse_grammar.specs.Tree.{Expression, atom, prefixed, binary, joined, shifted, enclosed, listed, quantified, let_in, Expressions, no_expressions, and_expression, Variables, no_variables, and_variable, Domain, unrestricted, restricted, Parts, no_parts, and_part, Document}
use Rattle.ms_parse_grammar.specs.Grammar.{binary_level, left_level, right_level, prefix_level, operand_level, junction_level, level, last_ends_open, is_in, has_bare_in, some_bare_in, domain_bare_in, part_bare_in, IsGrammatical, AreGrammatical, AreOperands, HaveGrammaticalDomains, HaveGrammaticalValues, AreOfOrder, depth, depth_of_all, depth_of_domains, depth_of_values}
use Rattle.ms_parse_grammar.specs.Reads.{int_symbol, Starts, Follows, ReadsPairs, ReadsAtom, ReadsOpening, ReadsListOpening, closing, place, FirstIsAt, ReadsExpression, ReadsSeparated, ReadsList, ReadsDomain, ReadsVariables, ReadsParts}
use Rattle.ms_parse_steps.specs.inner.Machine.{Frame, prefix_frame, left_frame, joined_frame, bracket_frame, list_frame, domain_frame, body_frame, part_frame, let_frame, Context, wanted, holding, variable_wanted, part_wanted, pair_wanted, Move, took, misplaced, too_deep, starter, need, in_part, enter, bound, step, Runs, hold, with_room, begin_restrict, begin_export}
use Rattle.ms_parse_steps.proofs.Frames.{chosen_yes}
use Rattle.ms_parse_steps.proofs.Levels.{Yields, yields-zero, yields, tight-infix, tight-joining, tight-sign}
use Rattle.ms_parse_steps.proofs.Moves.{follower, neither, quiet, depth_positive, left_high, list_begins, name_alone, empty_alone, literal_filled, call_filled, infix_step, terminal_step, join_first, join_further}
use Rattle.ms_parse_steps.proofs.Steps.{by_step, Leads, by_lead, ended, entered, at_start, roomy}

-- symbols one after the other
both : (s t : Symbol) (a b : At) (from f1 f2 : List Placed) → from ≡ placed s a ∷ f1 → f1 ≡ placed t b ∷ f2 → from ≡ placed s a ∷ placed t b ∷ f2
both s t a b from f1 f2 e e' = e ∙ ap (λ f. placed s a ∷ f) e'

-- the pairs of an import, behind those that have been read
pairs_read : (limit : ℕ) (c : Context) (st : List Frame) (at : At) (file : List ℕ) (pairs before : List Rename) (from behind more : List Placed) (x : At) (d : Document)
    → ReadsPairs true pairs from behind → behind ≡ placed close_round x ∷ more
    → Runs limit (holding c (atom at (imported file (before ++ pairs))) st) more d → Runs limit (pair_wanted c st at file before) from d
pairs_read limit c st at file [] before from behind more x d reads closes runs =
    by_step limit (pair_wanted c st at file before) from (placed close_round x ∷ more) (holding c (atom at (imported file before)) st) more d (reads ∙ closes) refl
    (subst (λ ps. Runs limit (holding c (atom at (imported file ps)) st) more d) (append-nil before) runs)
pairs_read limit c st at file (p ∷ ps) before from behind more x d (f1, f2, f3, f4, comma_is, left, arrow_is, right, further) closes runs =
    by_step limit (pair_wanted c st at file before) from (placed comma comma_is.0 ∷ placed (name p.left) p.at ∷ placed arrow arrow_is.0 ∷ placed (name p.right) p.at_right ∷ f4)
    (pair_wanted c st at file (before ++ p ∷ [])) f4 d
    (comma_is.1 ∙ ap (λ f. placed comma comma_is.0 ∷ f)
    (at_start (name p.left) p.at f1 f2 left ∙ ap (λ f. placed (name p.left) p.at ∷ f)
    (arrow_is.1 ∙ ap (λ f. placed arrow arrow_is.0 ∷ f) (at_start (name p.right) p.at_right f3 f4 right))))
    refl
    (pairs_read limit c st at file ps (before ++ p ∷ []) f4 behind more x d further closes
    (subst (λ all. Runs limit (holding c (atom at (imported file all)) st) more d) (sym (append_assoc before (p ∷ []) ps)) runs))

pconst_step : (limit : ℕ) (c : Context) (st : List Frame) (at : At) (v : Int) (a x y : At) (behind : List Placed)
    → step limit (wanted c st) (placed word_pconst at ∷ placed open_round x ∷ placed (int_symbol v) a ∷ placed close_round y ∷ behind)
    ≡ took (holding c (atom at (pconst (record { at = a; value = v; minus = false }))) st) behind
pconst_step limit c st at (Number n) a x y behind = refl
pconst_step limit c st at (Constant n) a x y behind = refl

-- an expression that holds no other
atom_read : (limit : ℕ) (a : Atom) (c : Context) (st : List Frame) (at : At) (from more : List Placed) (s : Symbol) (y : At) (d : Document) → follower s ≡ true
    → ReadsAtom true a at from (placed s y ∷ more) → Runs limit (holding c (atom at a) st) (placed s y ∷ more) d → Runs limit (wanted c st) from d
atom_read limit truth c st at from more s y d follows reads runs =
    by_step limit (wanted c st) from (placed word_true at ∷ placed s y ∷ more) (holding c (atom at truth) st) (placed s y ∷ more) d (at_start word_true at from (placed s y ∷ more) reads) refl runs
atom_read limit falsity c st at from more s y d follows reads runs =
    by_step limit (wanted c st) from (placed word_false at ∷ placed s y ∷ more) (holding c (atom at falsity) st) (placed s y ∷ more) d (at_start word_false at from (placed s y ∷ more) reads) refl runs
atom_read limit whole c st at from more s y d follows reads runs =
    by_step limit (wanted c st) from (placed dollar at ∷ placed s y ∷ more) (holding c (atom at whole) st) (placed s y ∷ more) d (at_start dollar at from (placed s y ∷ more) reads) refl runs
atom_read limit empty_set c st at from more s y d follows reads runs =
    by_step limit (wanted c st) from (placed word_empty at ∷ placed s y ∷ more) (holding c (atom at empty_set) st) (placed s y ∷ more) d (at_start word_empty at from (placed s y ∷ more) reads)
    (empty_alone limit c st at s y more follows) runs
atom_read limit (named n) c st at from more s y d follows reads runs =
    by_step limit (wanted c st) from (placed (name n) at ∷ placed s y ∷ more) (holding c (atom at (named n)) st) (placed s y ∷ more) d (at_start (name n) at from (placed s y ∷ more) reads)
    (name_alone limit c st at n s y more follows) runs
atom_read limit (numeral n) c st at from more s y d follows reads runs =
    by_step limit (wanted c st) from (placed (number n) at ∷ placed s y ∷ more) (holding c (atom at (numeral n)) st) (placed s y ∷ more) d (at_start (number n) at from (placed s y ∷ more) reads) refl runs
atom_read limit (pconst n) c st at from more s y d follows (f1, f2, f3, plus, starts, opens, int_is, closes) runs =
    by_step limit (wanted c st) from (placed word_pconst at ∷ placed open_round opens.0 ∷ placed (int_symbol n.value) n.at ∷ placed close_round closes.0 ∷ placed s y ∷ more)
    (holding c (atom at (pconst n)) st) (placed s y ∷ more) d
    (at_start word_pconst at from f1 starts ∙ ap (λ f. placed word_pconst at ∷ f)
    (opens.1 ∙ ap (λ f. placed open_round opens.0 ∷ f) (at_start (int_symbol n.value) n.at f2 f3 int_is ∙ ap (λ f. placed (int_symbol n.value) n.at ∷ f) closes.1)))
    (pconst_step limit c st at n.value n.at opens.0 closes.0 (placed s y ∷ more) ∙ ap (λ m. took (holding c (atom at (pconst (record { at = n.at; value = n.value; minus = m }))) st) (placed s y ∷ more)) (sym plus))
    runs
atom_read limit (imported file pairs) c st at from more s y d follows (f1, f2, f3, f4, starts, opens, text_is, pairs_are, closes) runs =
    by_step limit (wanted c st) from (placed word_import at ∷ placed open_round opens.0 ∷ placed (text file) text_is.0 ∷ f3) (pair_wanted c st at file []) f3 d
    (at_start word_import at from f1 starts ∙ ap (λ f. placed word_import at ∷ f) (opens.1 ∙ ap (λ f. placed open_round opens.0 ∷ f) text_is.1))
    refl
    (pairs_read limit c st at file pairs [] f3 f4 (placed s y ∷ more) closes.0 d pairs_are closes.1 runs)

-- what stands before an expression in brackets
opening_read : (limit : ℕ) (b : Bracket) (c : Context) (st : List Frame) (at : At) (from f1 : List Placed) (d : Document) → suc (suc (length st)) ≤ limit
    → ReadsOpening true b at from f1 → Runs limit (wanted c (bracket_frame at b ∷ st)) f1 d → Runs limit (wanted c st) from d
opening_read limit Parentheses c st at from f1 d room opens runs =
    by_step limit (wanted c st) from (placed open_round at ∷ f1) (wanted c (bracket_frame at Parentheses ∷ st)) f1 d (at_start open_round at from f1 opens)
    (entered limit c (bracket_frame at Parentheses) st _ f1 room (omega arith)) runs
opening_read limit Emptiness c st at from f1 d room (g1, starts, opens) runs =
    by_step limit (wanted c st) from (placed word_empty at ∷ placed open_round opens.0 ∷ f1) (wanted c (bracket_frame at Emptiness ∷ st)) f1 d
    (both word_empty open_round at opens.0 from g1 f1 (at_start word_empty at from g1 starts) opens.1)
    (entered limit c (bracket_frame at Emptiness) st _ f1 room (omega arith)) runs
opening_read limit Restriction c st at from f1 d room (g1, starts, opens) runs =
    by_step limit (wanted c st) from (placed word_restrict at ∷ placed open_round opens.0 ∷ f1) (wanted c (bracket_frame at Restriction ∷ st)) f1 d
    (both word_restrict open_round at opens.0 from g1 f1 (at_start word_restrict at from g1 starts) opens.1)
    (roomy limit st _ (begin_restrict c st at (placed open_round opens.0 ∷ f1)) room) runs
opening_read limit (Export at_text file) c st at from f1 d room (g1, g2, g3, starts, opens, text_is, comma_is) runs =
    by_step limit (wanted c st) from (placed word_export at ∷ placed open_round opens.0 ∷ placed (text file) at_text ∷ placed comma comma_is.0 ∷ f1)
    (wanted c (bracket_frame at (Export at_text file) ∷ st)) f1 d
    (at_start word_export at from g1 starts ∙ ap (λ f. placed word_export at ∷ f)
    (opens.1 ∙ ap (λ f. placed open_round opens.0 ∷ f) (at_start (text file) at_text g2 g3 text_is ∙ ap (λ f. placed (text file) at_text ∷ f) comma_is.1)))
    (roomy limit st _ (begin_export c st at (placed open_round opens.0 ∷ placed (text file) at_text ∷ placed comma comma_is.0 ∷ f1)) room) runs

-- what stands before a list in brackets that holds an expression
list_opening_read : (limit : ℕ) (l : Listing) (c : Context) (st : List Frame) (at : At) (from f1 : List Placed) (d : Document) → suc (suc (length st)) ≤ limit
    → ReadsListOpening true l at from f1 → (s : Symbol) × (a : At) × (more : List Placed) × (f1 ≡ placed s a ∷ more) × (starter s ≡ true)
    → Runs limit (wanted c (list_frame at l no_expressions ∷ st)) f1 d → Runs limit (wanted c st) from d
list_opening_read limit Literal c st at from f1 d room opens first runs =
    by_step limit (wanted c st) from (placed open_curly at ∷ placed first.0 first.1 ∷ first.2) (wanted c (list_frame at Literal no_expressions ∷ st)) (placed first.0 first.1 ∷ first.2) d
    (at_start open_curly at from f1 opens ∙ ap (λ f. placed open_curly at ∷ f) first.3)
    (literal_filled limit c st at first.0 first.1 first.2 first.4 ∙ entered limit c (list_frame at Literal no_expressions) st _ (placed first.0 first.1 ∷ first.2) room (omega arith))
    (subst (λ f. Runs limit (wanted c (list_frame at Literal no_expressions ∷ st)) f d) first.3 runs)
list_opening_read limit (Call p) c st at from f1 d room (g1, starts, opens) first runs =
    by_step limit (wanted c st) from (placed (name p) at ∷ placed open_round opens.0 ∷ placed first.0 first.1 ∷ first.2)
    (wanted c (list_frame at (Call p) no_expressions ∷ st)) (placed first.0 first.1 ∷ first.2) d
    (at_start (name p) at from g1 starts ∙ ap (λ f. placed (name p) at ∷ f) (opens.1 ∙ ap (λ f. placed open_round opens.0 ∷ f) first.3))
    (call_filled limit c st at p opens.0 first.0 first.1 first.2 first.4 ∙ entered limit c (list_frame at (Call p) no_expressions) st _ (placed first.0 first.1 ∷ first.2) room (omega arith))
    (subst (λ f. Runs limit (wanted c (list_frame at (Call p) no_expressions ∷ st)) f d) first.3 runs)

-- an empty list in brackets
empty_list_read : (limit : ℕ) (l : Listing) (c : Context) (st : List Frame) (at : At) (from f1 behind : List Placed) (d : Document)
    → ReadsListOpening true l at from f1 → Follows (closing l) f1 behind → Runs limit (holding c (listed at l no_expressions) st) behind d → Runs limit (wanted c st) from d
empty_list_read limit Literal c st at from f1 behind d opens closes runs =
    by_step limit (wanted c st) from (placed open_curly at ∷ placed close_curly closes.0 ∷ behind) (holding c (listed at Literal no_expressions) st) behind d
    (both open_curly close_curly at closes.0 from f1 behind (at_start open_curly at from f1 opens) closes.1) refl runs
empty_list_read limit (Call p) c st at from f1 behind d (g1, starts, opens) closes runs =
    by_step limit (wanted c st) from (placed (name p) at ∷ placed open_round opens.0 ∷ placed close_round closes.0 ∷ behind) (holding c (listed at (Call p) no_expressions) st) behind d
    (at_start (name p) at from g1 starts ∙ ap (λ f. placed (name p) at ∷ f) (opens.1 ∙ ap (λ f. placed open_round opens.0 ∷ f) closes.1)) refl runs

-- an expression that is not too deep is kept
held : (limit : ℕ) (c : Context) (e : Expression) (st : List Frame) (from ts : List Placed) → depth e ≤ limit → hold limit c e st from ts ≡ took (holding c e st) ts
held limit c e st from ts deep = chosen_yes (leb (depth e) limit) (took (holding c e st) ts) (too_deep from) (le-leb (depth e) limit deep)

-- the bracket behind the last expression of a list
list_closed : (limit : ℕ) (l : Listing) (c : Context) (st : List Frame) (at x : At) (es : Expressions) (e : Expression) (behind : List Placed) → suc (depth_of_all (and_expression es e)) ≤ limit
    → step limit (holding c e (list_frame at l es ∷ st)) (placed (closing l) x ∷ behind) ≡ took (holding c (listed at l (and_expression es e)) st) behind
list_closed limit Literal c st at x es e behind deep = held limit c (listed at Literal (and_expression es e)) st (placed close_curly x ∷ behind) behind deep
list_closed limit (Call p) c st at x es e behind deep = held limit c (listed at (Call p) (and_expression es e)) st (placed close_round x ∷ behind) behind deep

-- a comma, or what stands behind the last variable or part
abbrev pub variable_separator : Bool → Symbol
variable_separator true = comma
variable_separator false = colon

abbrev pub part_separator : Bool → Symbol
part_separator true = comma
part_separator false = infix_operator (Relation Member)

abbrev pub ended_variable : ℕ → Context → List Frame → At → Quant → Order → Variables → Bool → List Placed → List Placed → Move
ended_variable limit c st at q o vs true from ts = took (variable_wanted c st at q o vs) ts
ended_variable limit c st at q o vs false from ts = enter limit c (body_frame at q o vs) st (too_deep from) ts

abbrev pub ended_part : ℕ → Context → List Frame → At → Order → Parts → Bool → List Placed → List Placed → Move
ended_part limit c st at o parts true from ts = took (part_wanted c st at o parts) ts
ended_part limit c st at o parts false from ts = enter limit c (let_frame at o parts) st (too_deep from) ts

variable_follows : (m : Bool) → follower (variable_separator m) ≡ true
variable_follows true = refl
variable_follows false = refl

variable_bound : (p m : Bool) → bound p (variable_separator m) ≡ 0
variable_bound p true = refl
variable_bound p false = refl

part_follows : (m : Bool) → follower (part_separator m) ≡ true
part_follows true = refl
part_follows false = refl

part_bound : (m : Bool) → bound true (part_separator m) ≡ 0
part_bound true = refl
part_bound false = refl

closing_follows : (l : Listing) → follower (closing l) ≡ true
closing_follows Literal = refl
closing_follows (Call p) = refl

closing_bound : (l : Listing) → bound false (closing l) ≡ 0
closing_bound Literal = refl
closing_bound (Call p) = refl

unrestricted_ended : (limit : ℕ) (c : Context) (st : List Frame) (at : At) (q : Quant) (o : Order) (b : Variables) (at_v : At) (n : List ℕ) (m : Bool) (a : At) (ts : List Placed)
    → step limit (variable_wanted c st at q o b) (placed (name n) at_v ∷ placed (variable_separator m) a ∷ ts) ≡ ended_variable limit c st at q o (and_variable b at_v o n unrestricted) m (placed (variable_separator m) a ∷ ts) ts
unrestricted_ended limit c st at q o b at_v n true a ts = refl
unrestricted_ended limit c st at q o b at_v n false a ts = refl

restricted_ended : (limit : ℕ) (c : Context) (st : List Frame) (at : At) (q : Quant) (o : Order) (b : Variables) (at_v : At) (n : List ℕ) (e : Expression) (m : Bool) (a : At) (ts : List Placed)
    → step limit (holding c e (domain_frame at q o b at_v n ∷ st)) (placed (variable_separator m) a ∷ ts) ≡ ended_variable limit c st at q o (and_variable b at_v o n (restricted e)) m (placed (variable_separator m) a ∷ ts) ts
restricted_ended limit c st at q o b at_v n e true a ts = refl
restricted_ended limit c st at q o b at_v n e false a ts = refl

part_ended : (limit : ℕ) (c : Context) (st : List Frame) (at : At) (o : Order) (b : Parts) (at_n : At) (n : List ℕ) (e : Expression) (m : Bool) (a : At) (ts : List Placed)
    → step limit (holding c e (part_frame at o b at_n n ∷ st)) (placed (part_separator m) a ∷ ts) ≡ ended_part limit c st at o (and_part b at_n n e) m (placed (part_separator m) a ∷ ts) ts
part_ended limit c st at o b at_n n e true a ts = refl
part_ended limit c st at o b at_n n e false a ts = refl

abbrev pub GoodDomain : Domain → Type 0
GoodDomain unrestricted = Unit {0}
GoodDomain (restricted e) = IsGrammatical e

abbrev pub domain_depth : Domain → ℕ
domain_depth unrestricted = 0
domain_depth (restricted e) = depth e

abbrev pub domain_in : Domain → Bool
domain_in unrestricted = false
domain_in (restricted e) = has_bare_in e

domain_good : (b : Variables) (at : At) (o : Order) (n : List ℕ) (x : Domain) → HaveGrammaticalDomains (and_variable b at o n x) → HaveGrammaticalDomains b × GoodDomain x
domain_good b at o n unrestricted good = (good, tt)
domain_good b at o n (restricted e) good = good

domain_deep : (b : Variables) (at : At) (o : Order) (n : List ℕ) (x : Domain)
    → (depth_of_domains b ≤ depth_of_domains (and_variable b at o n x)) × (domain_depth x ≤ depth_of_domains (and_variable b at o n x))
domain_deep b at o n unrestricted = (omega arith, omega arith)
domain_deep b at o n (restricted e) = (omega arith, omega arith)

domain_quiet : (b : Variables) (at : At) (o : Order) (n : List ℕ) (x : Domain) → domain_bare_in (and_variable b at o n x) ≡ false
    → (domain_bare_in b ≡ false) × (domain_in x ≡ false)
domain_quiet b at o n unrestricted none = (none, refl)
domain_quiet b at o n (restricted e) none = neither (domain_bare_in b) (has_bare_in e) none

-- the last expression of a list, in the frame that holds those before it
abbrev pub LastRuns : ℕ → Context → List Frame → At → Listing → Expressions → List Placed → Document → Type 0
LastRuns limit c st at l no_expressions ts d = ⊥
LastRuns limit c st at l (and_expression es e) ts d = Runs limit (holding c e (list_frame at l es ∷ st)) ts d

mutual
  pub expression_read : (limit : ℕ) (e : Expression) (c : Context) (st : List Frame) (from ts : List Placed) (s : Symbol) (a : At) (d : Document)
      → IsGrammatical e → need st ≤ level e → length st + depth e ≤ limit → (in_part st ≡ true → has_bare_in e ≡ false)
      → follower s ≡ true → Yields (bound (in_part st) s) e → ReadsExpression true e from (placed s a ∷ ts)
      → Runs limit (holding c e st) (placed s a ∷ ts) d → Runs limit (wanted c st) from d
  expression_read limit (atom at x) c st from ts s a d good low deep bare follows yield reads runs = atom_read limit x c st at from ts s a d follows reads runs
  expression_read limit (prefixed at op e) c st from ts s a d good low deep bare follows yield (f1, starts, read_e) runs =
      by_step limit (wanted c st) from (placed (prefix_operator op) at ∷ f1) (wanted c (prefix_frame at op ∷ st)) f1 d (at_start (prefix_operator op) at from f1 starts)
      (chosen_yes (leb (need st) (prefix_level op)) (enter limit c (prefix_frame at op) st (too_deep (placed (prefix_operator op) at ∷ f1)) f1) (misplaced (placed (prefix_operator op) at ∷ f1)) (le-leb (need st) (prefix_level op) low)
      ∙ entered limit c (prefix_frame at op) st _ f1 (omega (arith, depth_positive e)) (omega (arith, depth_positive e)))
      (expression_read limit e c (prefix_frame at op ∷ st) f1 ts s a d good.1 good.0 (omega arith) bare follows yield.1 read_e
      (ended limit c (prefix_frame at op) e st s a ts d (le-leb (bound (in_part st) s) (operand_level op) yield.0) (omega arith) refl runs))
  expression_read limit (binary at op l r) c st from ts s a d good low deep bare follows yield (f1, f2, at_is, read_l, follow, read_r) runs =
      let no_let : (in_part st && is_in op) ≡ false = quiet (in_part st) (is_in op) (λ p. (neither (is_in op) (has_bare_in l) (neither (is_in op || has_bare_in l) (has_bare_in r) (bare p)).0).0) in
      let held : Runs limit (holding c (binary (place l) op l r) st) (placed s a ∷ ts) d = subst (λ x. Runs limit (holding c (binary x op l r) st) (placed s a ∷ ts) d) at_is runs in
      let right : Runs limit (wanted c (left_frame op l ∷ st)) f2 d =
      expression_read limit r c (left_frame op l ∷ st) f2 ts s a d good.4 good.3 (omega arith)
      (λ p. (neither (is_in op || has_bare_in l) (has_bare_in r) (bare p)).1) follows yield.1 read_r
      (ended limit c (left_frame op l) r st s a ts d (le-leb (bound (in_part st) s) (right_level op) yield.0) (omega arith) refl held)
      in
      expression_read limit l c st from f2 (infix_operator op) follow.0 d good.2 (omega (arith, left_high op, good.0)) (omega arith)
      (λ p. (neither (is_in op) (has_bare_in l) (neither (is_in op || has_bare_in l) (has_bare_in r) (bare p)).0).1) refl
      (subst (λ b. Yields (cond b 0 (suc (binary_level op))) l) (sym no_let) (yields (left_level op) (suc (binary_level op)) (tight-infix op) l good.2 good.1 good.0))
      (subst (λ f. ReadsExpression true l from f) follow.1 read_l)
      (by_step limit (holding c l st) (placed (infix_operator op) follow.0 ∷ f2) (placed (infix_operator op) follow.0 ∷ f2) (wanted c (left_frame op l ∷ st)) f2 d refl
      (infix_step limit c op l st follow.0 f2 low no_let good.0 (omega (arith, depth_positive l)) (omega arith)) right)
  expression_read limit (joined at op no_expressions) c st from ts s a d good low deep bare follows yield reads runs = absurd good.0
  expression_read limit (joined at op (and_expression no_expressions e)) c st from ts s a d good low deep bare follows yield reads runs = absurd good.0
  expression_read limit (joined at op (and_expression (and_expression es x) e)) c st from ts s a d good low deep bare follows yield (first, (f1, f2, read_es, follow, read_e)) runs =
      operands_read limit (and_expression es x) op c st at from f2 follow.0 d low good.1.0 good.1.1 (omega (arith, depth_positive e))
      (λ p. (neither (some_bare_in (and_expression es x)) (has_bare_in e) (bare p)).0) first
      (subst (λ f. ReadsSeparated true (joining op) (and_expression es x) from f) follow.1 read_es)
      (expression_read limit e c (joined_frame at op (and_expression es x) ∷ st) f2 ts s a d good.1.3 good.1.2 (omega arith)
      (λ p. (neither (some_bare_in (and_expression es x)) (has_bare_in e) (bare p)).1) follows yield.1 read_e
      (ended limit c (joined_frame at op (and_expression es x)) e st s a ts d (le-leb (bound (in_part st) s) (junction_level op) yield.0) (omega arith) refl runs))
  expression_read limit (shifted at e n) c st from ts s a d good low deep bare follows yield (f1, f2, at_is, read_e, follow, int_is) runs =
      expression_read limit e c st from f2 (sign n.minus) follow.0 d good.2 (omega (arith, good.0)) (omega arith) bare refl
      (yields 9 10 tight-sign e good.2 good.1 good.0) (subst (λ f. ReadsExpression true e from f) follow.1 read_e)
      (by_step limit (holding c e st) (placed (sign n.minus) follow.0 ∷ f2) (placed (sign n.minus) follow.0 ∷ placed (int_symbol n.value) n.at ∷ placed s a ∷ ts)
      (holding c (shifted (place e) e n) st) (placed s a ∷ ts) d
      (ap (λ f. placed (sign n.minus) follow.0 ∷ f) (at_start (int_symbol n.value) n.at f2 (placed s a ∷ ts) int_is))
      (terminal_step limit c e n st follow.0 (placed s a ∷ ts) low good.0 deep)
      (subst (λ x. Runs limit (holding c (shifted x e n) st) (placed s a ∷ ts) d) at_is runs))
  expression_read limit (enclosed at b e) c st from ts s a d good low deep bare follows yield (f1, f2, opens, read_e, follow) runs =
      opening_read limit b c st at from f1 d (omega (arith, depth_positive e)) opens
      (expression_read limit e c (bracket_frame at b ∷ st) f1 (placed s a ∷ ts) close_round follow.0 d good (omega arith) (omega arith) (λ p. absurd (false≢true p)) refl (yields-zero e)
      (subst (λ f. ReadsExpression true e f1 f) follow.1 read_e)
      (by_step limit (holding c e (bracket_frame at b ∷ st)) (placed close_round follow.0 ∷ placed s a ∷ ts) (placed close_round follow.0 ∷ placed s a ∷ ts)
      (holding c (enclosed at b e) st) (placed s a ∷ ts) d refl (held limit c (enclosed at b e) st (placed close_round follow.0 ∷ placed s a ∷ ts) (placed s a ∷ ts) (omega arith)) runs))
  expression_read limit (listed at l no_expressions) c st from ts s a d good low deep bare follows yield (f1, f2, opens, none, follow) runs =
      empty_list_read limit l c st at from f1 (placed s a ∷ ts) d opens (follow.0, none ∙ follow.1) runs
  expression_read limit (listed at l (and_expression es e)) c st from ts s a d good low deep bare follows yield (f1, f2, opens, read_es, follow) runs =
      list_opening_read limit l c st at from f1 d (omega (arith, depth_positive e)) opens (list_begins true es e f1 f2 read_es)
      (entries_read limit (and_expression es e) l c st at f1 (placed s a ∷ ts) (closing l) follow.0 d good (omega arith) (closing_follows l) (closing_bound l)
      (subst (λ f. ReadsList true (and_expression es e) f1 f) follow.1 read_es)
      (by_step limit (holding c e (list_frame at l es ∷ st)) (placed (closing l) follow.0 ∷ placed s a ∷ ts) (placed (closing l) follow.0 ∷ placed s a ∷ ts)
      (holding c (listed at l (and_expression es e)) st) (placed s a ∷ ts) d refl (list_closed limit l c st at follow.0 es e (placed s a ∷ ts) (omega arith)) runs))
  expression_read limit (quantified at q o vs body) c st from ts s a d good low deep bare follows yield (f1, f2, f3, starts, read_vs, follow, read_body) runs =
      by_step limit (wanted c st) from (placed (quantifier q o) at ∷ f1) (variable_wanted c st at q o no_variables) f1 d (at_start (quantifier q o) at from f1 starts)
      (chosen_yes (leb (need st) 4) (with_room limit st (placed (quantifier q o) at ∷ f1) (took (variable_wanted c st at q o no_variables) f1)) (misplaced (placed (quantifier q o) at ∷ f1)) (le-leb (need st) 4 low)
      ∙ roomy limit st (placed (quantifier q o) at ∷ f1) (took (variable_wanted c st at q o no_variables) f1) (omega (arith, depth_positive body)))
      (variables_read limit vs c st at q o false f1 f3 follow.0 d good.1 good.2 (omega (arith, depth_positive body)) (omega arith)
      (λ p. (neither (domain_bare_in vs) (has_bare_in body) (bare p)).0) (subst (λ f. ReadsVariables true vs f1 f) follow.1 read_vs)
      (subst (λ n. Leads limit n d) (sym (entered limit c (body_frame at q o vs) st (too_deep (placed colon follow.0 ∷ f3)) f3 (omega (arith, depth_positive body)) (omega arith)))
      (expression_read limit body c (body_frame at q o vs ∷ st) f3 ts s a d good.3 (omega arith) (omega arith)
      (λ p. (neither (domain_bare_in vs) (has_bare_in body) (bare p)).1) follows yield.1 read_body
      (ended limit c (body_frame at q o vs) body st s a ts d (le-leb (bound (in_part st) s) 0 yield.0) (omega arith) refl runs))))
  expression_read limit (let_in at o parts body) c st from ts s a d good low deep bare follows yield (f1, f2, f3, starts, read_parts, follow, read_body) runs =
      by_step limit (wanted c st) from (placed (let_word o) at ∷ f1) (part_wanted c st at o no_parts) f1 d (at_start (let_word o) at from f1 starts)
      (chosen_yes (leb (need st) 4) (with_room limit st (placed (let_word o) at ∷ f1) (took (part_wanted c st at o no_parts) f1)) (misplaced (placed (let_word o) at ∷ f1)) (le-leb (need st) 4 low)
      ∙ roomy limit st (placed (let_word o) at ∷ f1) (took (part_wanted c st at o no_parts) f1) (omega (arith, depth_positive body)))
      (parts_read limit parts c st at o false f1 f3 follow.0 d good.1 (omega (arith, depth_positive body)) (omega arith)
      (subst (λ f. ReadsParts true parts f1 f) follow.1 read_parts)
      (subst (λ n. Leads limit n d) (sym (entered limit c (let_frame at o parts) st (too_deep (placed (infix_operator (Relation Member)) follow.0 ∷ f3)) f3 (omega (arith, depth_positive body)) (omega arith)))
      (expression_read limit body c (let_frame at o parts ∷ st) f3 ts s a d good.2 (omega arith) (omega arith)
      (λ p. (neither (part_bare_in parts) (has_bare_in body) (bare p)).1) follows yield.1 read_body
      (ended limit c (let_frame at o parts) body st s a ts d (le-leb (bound (in_part st) s) 0 yield.0) (omega arith) refl runs))))

  -- operands of `&` or `|`, with the operator behind the last of them
  operands_read : (limit : ℕ) (es : Expressions) (op : Junction) (c : Context) (st : List Frame) (at : At) (from ts : List Placed) (y : At) (d : Document)
      → need st ≤ junction_level op → AreOperands (suc (junction_level op)) es → last_ends_open es ≡ false → length st + suc (max (depth_of_all es) 1) ≤ limit
      → (in_part st ≡ true → some_bare_in es ≡ false) → FirstIsAt true at es → ReadsSeparated true (joining op) es from (placed (joining op) y ∷ ts)
      → Runs limit (wanted c (joined_frame at op es ∷ st)) ts d → Runs limit (wanted c st) from d
  operands_read limit no_expressions op c st at from ts y d low good closed deep bare first reads runs = absurd reads
  operands_read limit (and_expression no_expressions x) op c st at from ts y d low good closed deep bare first reads runs =
      expression_read limit x c st from ts (joining op) y d good.3 (omega (arith, good.2)) (omega arith) bare refl
      (yields (suc (junction_level op)) (suc (junction_level op)) (tight-joining op) x good.3 closed good.2) reads
      (by_step limit (holding c x st) (placed (joining op) y ∷ ts) (placed (joining op) y ∷ ts) (wanted c (joined_frame (place x) op (and_expression no_expressions x) ∷ st)) ts d refl
      (join_first limit c op x st y ts low good.2 (omega arith) (omega arith))
      (subst (λ p. Runs limit (wanted c (joined_frame p op (and_expression no_expressions x) ∷ st)) ts d) first runs))
  operands_read limit (and_expression (and_expression es w) x) op c st at from ts y d low good closed deep bare first (f1, f2, read_es, follow, read_x) runs =
      operands_read limit (and_expression es w) op c st at from f2 follow.0 d low good.0 good.1 (omega arith)
      (λ p. (neither (some_bare_in (and_expression es w)) (has_bare_in x) (bare p)).0) first
      (subst (λ f. ReadsSeparated true (joining op) (and_expression es w) from f) follow.1 read_es)
      (expression_read limit x c (joined_frame at op (and_expression es w) ∷ st) f2 ts (joining op) y d good.3 good.2 (omega arith)
      (λ p. (neither (some_bare_in (and_expression es w)) (has_bare_in x) (bare p)).1) refl
      (yields (suc (junction_level op)) (suc (junction_level op)) (tight-joining op) x good.3 closed good.2) read_x
      (by_step limit (holding c x (joined_frame at op (and_expression es w) ∷ st)) (placed (joining op) y ∷ ts) (placed (joining op) y ∷ ts)
      (wanted c (joined_frame at op (and_expression (and_expression es w) x) ∷ st)) ts d refl
      (join_further limit c op at (and_expression es w) x st y ts (omega arith) (omega arith)) runs))

  -- the expressions of a list in brackets
  entries_read : (limit : ℕ) (es : Expressions) (l : Listing) (c : Context) (st : List Frame) (at : At) (from ts : List Placed) (s : Symbol) (y : At) (d : Document)
      → AreGrammatical es → length st + suc (depth_of_all es) ≤ limit → follower s ≡ true → bound false s ≡ 0 → ReadsList true es from (placed s y ∷ ts)
      → LastRuns limit c st at l es (placed s y ∷ ts) d → Runs limit (wanted c (list_frame at l no_expressions ∷ st)) from d
  entries_read limit no_expressions l c st at from ts s y d good deep follows ends_all reads runs = absurd runs
  entries_read limit (and_expression no_expressions e) l c st at from ts s y d good deep follows ends_all reads runs =
      expression_read limit e c (list_frame at l no_expressions ∷ st) from ts s y d good.1 (omega arith) (omega arith) (λ p. absurd (false≢true p)) follows
      (subst (λ b. Yields b e) (sym ends_all) (yields-zero e)) reads runs
  entries_read limit (and_expression (and_expression es x) e) l c st at from ts s y d good deep follows ends_all (f1, f2, read_es, follow, read_e) runs =
      entries_read limit (and_expression es x) l c st at from f2 comma follow.0 d good.0 (omega arith) refl refl
      (subst (λ f. ReadsList true (and_expression es x) from f) follow.1 read_es)
      (by_step limit (holding c x (list_frame at l es ∷ st)) (placed comma follow.0 ∷ f2) (placed comma follow.0 ∷ f2) (wanted c (list_frame at l (and_expression es x) ∷ st)) f2 d refl
      (entered limit c (list_frame at l (and_expression es x)) st _ f2 (omega (arith, depth_positive e)) (omega arith))
      (expression_read limit e c (list_frame at l (and_expression es x) ∷ st) f2 ts s y d good.1 (omega arith) (omega arith) (λ p. absurd (false≢true p)) follows
      (subst (λ b. Yields b e) (sym ends_all) (yields-zero e)) read_e runs))

  -- one variable of a binder, with its restriction
  variable_read : (limit : ℕ) (x : Domain) (c : Context) (st : List Frame) (at : At) (q : Quant) (o : Order) (b : Variables) (at_v : At) (n : List ℕ) (m : Bool) (from f1 ts : List Placed) (a : At) (d : Document)
      → GoodDomain x → suc (suc (length st)) ≤ limit → suc (length st) + depth_of_domains b ≤ limit → suc (length st) + domain_depth x ≤ limit → (in_part st ≡ true → domain_in x ≡ false)
      → Starts true (name n) at_v from f1 → ReadsDomain true x f1 (placed (variable_separator m) a ∷ ts)
      → Leads limit (ended_variable limit c st at q o (and_variable b at_v o n x) m (placed (variable_separator m) a ∷ ts) ts) d → Runs limit (variable_wanted c st at q o b) from d
  variable_read limit unrestricted c st at q o b at_v n m from f1 ts a d good room deep deep_x bare starts reads leads =
      by_lead limit (variable_wanted c st at q o b) from (placed (name n) at_v ∷ placed (variable_separator m) a ∷ ts) (ended_variable limit c st at q o (and_variable b at_v o n unrestricted) m (placed (variable_separator m) a ∷ ts) ts) d
      (at_start (name n) at_v from f1 starts ∙ ap (λ f. placed (name n) at_v ∷ f) reads) (unrestricted_ended limit c st at q o b at_v n m a ts) leads
  variable_read limit (restricted e) c st at q o b at_v n m from f1 ts a d good room deep deep_x bare starts (f2, follow, read_e) leads =
      by_step limit (variable_wanted c st at q o b) from (placed (name n) at_v ∷ placed word_where follow.0 ∷ f2) (wanted c (domain_frame at q o b at_v n ∷ st)) f2 d
      (at_start (name n) at_v from f1 starts ∙ ap (λ f. placed (name n) at_v ∷ f) follow.1)
      (entered limit c (domain_frame at q o b at_v n) st _ f2 room deep)
      (expression_read limit e c (domain_frame at q o b at_v n ∷ st) f2 ts (variable_separator m) a d good (omega arith) (omega arith) bare (variable_follows m)
      (subst (λ x. Yields x e) (sym (variable_bound (in_part st) m)) (yields-zero e)) read_e
      (by_lead limit (holding c e (domain_frame at q o b at_v n ∷ st)) (placed (variable_separator m) a ∷ ts) (placed (variable_separator m) a ∷ ts)
      (ended_variable limit c st at q o (and_variable b at_v o n (restricted e)) m (placed (variable_separator m) a ∷ ts) ts) d refl (restricted_ended limit c st at q o b at_v n e m a ts) leads))

  variables_read : (limit : ℕ) (vs : Variables) (c : Context) (st : List Frame) (at : At) (q : Quant) (o : Order) (m : Bool) (from ts : List Placed) (a : At) (d : Document)
      → AreOfOrder o vs → HaveGrammaticalDomains vs → suc (suc (length st)) ≤ limit → suc (length st) + depth_of_domains vs ≤ limit → (in_part st ≡ true → domain_bare_in vs ≡ false)
      → ReadsVariables true vs from (placed (variable_separator m) a ∷ ts) → Leads limit (ended_variable limit c st at q o vs m (placed (variable_separator m) a ∷ ts) ts) d → Runs limit (variable_wanted c st at q o no_variables) from d
  variables_read limit no_variables c st at q o m from ts a d ordered good room deep bare reads leads = absurd reads
  variables_read limit (and_variable no_variables at_v p n x) c st at q o m from ts a d ordered good room deep bare (f1, starts, read_x) leads =
      variable_read limit x c st at q o no_variables at_v n m from f1 ts a d (domain_good no_variables at_v p n x good).1 room (omega arith)
      (omega (arith, (domain_deep no_variables at_v p n x).1)) (λ y. (domain_quiet no_variables at_v p n x (bare y)).1) starts read_x
      (subst (λ y. Leads limit (ended_variable limit c st at q o (and_variable no_variables at_v y n x) m (placed (variable_separator m) a ∷ ts) ts) d) ordered.1 leads)
  variables_read limit (and_variable (and_variable b at1 p1 n1 x1) at_v p n x) c st at q o m from ts a d ordered good room deep bare (f1, f2, f3, read_b, follow, starts, read_x) leads =
      let b_deep = domain_deep (and_variable b at1 p1 n1 x1) at_v p n x in
      variables_read limit (and_variable b at1 p1 n1 x1) c st at q o true from f2 follow.0 d ordered.0 (domain_good (and_variable b at1 p1 n1 x1) at_v p n x good).0 room
      (omega (arith, b_deep.0)) (λ y. (domain_quiet (and_variable b at1 p1 n1 x1) at_v p n x (bare y)).0)
      (subst (λ f. ReadsVariables true (and_variable b at1 p1 n1 x1) from f) follow.1 read_b)
      (variable_read limit x c st at q o (and_variable b at1 p1 n1 x1) at_v n m f2 f3 ts a d (domain_good (and_variable b at1 p1 n1 x1) at_v p n x good).1 room
      (omega (arith, b_deep.0)) (omega (arith, b_deep.1)) (λ y. (domain_quiet (and_variable b at1 p1 n1 x1) at_v p n x (bare y)).1) starts read_x
      (subst (λ y. Leads limit (ended_variable limit c st at q o (and_variable (and_variable b at1 p1 n1 x1) at_v y n x) m (placed (variable_separator m) a ∷ ts) ts) d) ordered.1 leads))

  parts_read : (limit : ℕ) (parts : Parts) (c : Context) (st : List Frame) (at : At) (o : Order) (m : Bool) (from ts : List Placed) (a : At) (d : Document)
      → HaveGrammaticalValues parts → suc (suc (length st)) ≤ limit → suc (length st) + depth_of_values parts ≤ limit
      → ReadsParts true parts from (placed (part_separator m) a ∷ ts) → Leads limit (ended_part limit c st at o parts m (placed (part_separator m) a ∷ ts) ts) d → Runs limit (part_wanted c st at o no_parts) from d
  parts_read limit no_parts c st at o m from ts a d good room deep reads leads = absurd reads
  parts_read limit (and_part no_parts at_n n value) c st at o m from ts a d good room deep (f1, f2, starts, follow, read_value) leads =
      by_step limit (part_wanted c st at o no_parts) from (placed (name n) at_n ∷ placed (infix_operator (Relation Equal)) follow.0 ∷ f2) (wanted c (part_frame at o no_parts at_n n ∷ st)) f2 d
      (at_start (name n) at_n from f1 starts ∙ ap (λ f. placed (name n) at_n ∷ f) follow.1)
      (entered limit c (part_frame at o no_parts at_n n) st _ f2 room (omega arith))
      (expression_read limit value c (part_frame at o no_parts at_n n ∷ st) f2 ts (part_separator m) a d good.2 (omega arith) (omega arith) (λ y. good.1) (part_follows m)
      (subst (λ x. Yields x value) (sym (part_bound m)) (yields-zero value)) read_value
      (by_lead limit (holding c value (part_frame at o no_parts at_n n ∷ st)) (placed (part_separator m) a ∷ ts) (placed (part_separator m) a ∷ ts)
      (ended_part limit c st at o (and_part no_parts at_n n value) m (placed (part_separator m) a ∷ ts) ts) d refl (part_ended limit c st at o no_parts at_n n value m a ts) leads))
  parts_read limit (and_part (and_part b at1 n1 value1) at_n n value) c st at o m from ts a d good room deep (f1, f2, f3, f4, read_b, separator, starts, follow, read_value) leads =
      parts_read limit (and_part b at1 n1 value1) c st at o true from f2 separator.0 d good.0 room (omega arith)
      (subst (λ f. ReadsParts true (and_part b at1 n1 value1) from f) separator.1 read_b)
      (by_step limit (part_wanted c st at o (and_part b at1 n1 value1)) f2 (placed (name n) at_n ∷ placed (infix_operator (Relation Equal)) follow.0 ∷ f4)
      (wanted c (part_frame at o (and_part b at1 n1 value1) at_n n ∷ st)) f4 d
      (at_start (name n) at_n f2 f3 starts ∙ ap (λ f. placed (name n) at_n ∷ f) follow.1)
      (entered limit c (part_frame at o (and_part b at1 n1 value1) at_n n) st _ f4 room (omega arith))
      (expression_read limit value c (part_frame at o (and_part b at1 n1 value1) at_n n ∷ st) f4 ts (part_separator m) a d good.2 (omega arith) (omega arith) (λ y. good.1) (part_follows m)
      (subst (λ x. Yields x value) (sym (part_bound m)) (yields-zero value)) read_value
      (by_lead limit (holding c value (part_frame at o (and_part b at1 n1 value1) at_n n ∷ st)) (placed (part_separator m) a ∷ ts) (placed (part_separator m) a ∷ ts)
      (ended_part limit c st at o (and_part (and_part b at1 n1 value1) at_n n value) m (placed (part_separator m) a ∷ ts) ts) d refl (part_ended limit c st at o (and_part b at1 n1 value1) at_n n value m a ts) leads)))
