-- Single moves of the automaton, and what expressions begin with.
use Rattle.std.proofs.Common.{◌≡◌, ℕ, suc, ◌+◌, ◌≤◌, leb, Bool, true, false, cond, ◌&&◌, ◌||◌, List, [], ◌∷◌, length, Some, None, refl, sym, ap, ◌∙◌, arith}
use Rattle.std.proofs.lemmas.Bool.{false≢true, le-leb, lt-leb}
use Rattle.ms_list.specs.declared.at.At.{At}
use Rattle.ms_logic.specs.declared.source.Int.{Int}
use Rattle.ms_logic.specs.declared.source.Int.TheVariants.{Number, Constant}
use Rattle.ms_logic.specs.declared.source.PlacedInt.{PlacedInt}
use Rattle.ms_parse_grammar.specs.Symbol.{Symbol, name, number, prefix_operator, infix_operator, joining, sign, quantifier, let_word, word_true, word_false, dollar, word_empty, word_pconst, word_import, word_export, word_restrict, open_round, close_round, open_curly, close_curly, comma, colon, semicolon, Placed, placed}
use Rattle.ms_parse_grammar.specs.declared.operator.Binary.{Binary}
use Rattle.ms_parse_grammar.specs.declared.operator.Binary.TheVariants.{Implication, Equivalence, Relation, Union, Intersection, Difference}
use Rattle.ms_parse_grammar.specs.declared.operator.Junction.{Junction}
use Rattle.ms_parse_grammar.specs.declared.operator.Junction.TheVariants.{Conjunction, Disjunction}
use Rattle.ms_parse_grammar.specs.declared.operator.Bracket.TheVariants.{Parentheses, Emptiness, Restriction, Export}
use Rattle.ms_parse_grammar.specs.declared.operator.Listing.TheVariants.{Literal, Call}
use Rattle.ms_parse_grammar.specs.Tree.{truth, falsity, whole, empty_set, named, numeral, pconst, imported}
use Rattle.ms_parse_grammar.specs.Tree.{Expression, atom, prefixed, binary, joined, shifted, enclosed, listed, quantified, let_in, Expressions, no_expressions, and_expression}
use Rattle.ms_parse_grammar.specs.Grammar.{binary_level, left_level, right_level, operand_level, junction_level, level, is_in, depth, depth_of_all}
use Rattle.ms_parse_grammar.specs.Reads.{int_symbol, place, ReadsExpression, ReadsSeparated, ReadsList}
use Rattle.ms_parse_steps.specs.inner.Machine.{Frame, prefix_frame, left_frame, joined_frame, bracket_frame, list_frame, domain_frame, body_frame, part_frame, let_frame, Context, wanted, holding, need, in_part, enter, collapse, on_top, begin_name, begin_empty, begin_literal, in_at, join, join_new, shift, shift_int, step, Move, took, misplaced, too_deep, enter_list, starter, int_then}
use Rattle.ms_parse_steps.proofs.Frames.{chosen_yes, chosen_no}
use Rattle.ms_parse_steps.proofs.Steps.{entered}

-- a symbol that may stand behind an expression
abbrev pub follower : Symbol → Bool
follower (infix_operator op) = true
follower (joining op) = true
follower (sign minus) = true
follower close_round = true
follower close_curly = true
follower comma = true
follower colon = true
follower semicolon = true
follower _ = false

pub neither : (a b : Bool) → (a || b) ≡ false → (a ≡ false) × (b ≡ false)
neither true b h = absurd (false≢true (sym h))
neither false b h = (refl, h)

pub quiet : (p i : Bool) → (p ≡ true → i ≡ false) → (p && i) ≡ false
quiet false i h = refl
quiet true i h = h refl

pub depth_positive : (e : Expression) → 1 ≤ depth e
depth_positive (atom at a) = omega arith
depth_positive (prefixed at op e) = omega arith
depth_positive (binary at op l r) = omega arith
depth_positive (joined at op es) = omega arith
depth_positive (shifted at e n) = omega arith
depth_positive (enclosed at b e) = omega arith
depth_positive (listed at l es) = omega arith
depth_positive (quantified at q o vs body) = omega arith
depth_positive (let_in at o parts body) = omega arith

pub left_high : (op : Binary) → binary_level op ≤ left_level op
left_high Equivalence = omega arith
left_high Implication = omega arith
left_high (Relation r) = omega arith
left_high Union = omega arith
left_high Intersection = omega arith
left_high Difference = omega arith

-- an operator that is as loose as what is wanted ends no frame
pub stays : (limit : ℕ) (n : ℕ) (e : Expression) (st : List Frame) → need st ≤ n → collapse limit (suc n) e st ≡ Some (e, st)
stays limit n e [] low = refl
stays limit n e (prefix_frame at op ∷ st) low = ap (λ b. cond b (cond (leb (depth (prefixed at op e)) limit) (collapse limit (suc n) (prefixed at op e) st) None) (Some (e, prefix_frame at op ∷ st))) (lt-leb (suc n) (operand_level op) (omega arith))
stays limit n e (left_frame op l ∷ st) low = ap (λ b. cond b (cond (leb (depth (binary (place l) op l e)) limit) (collapse limit (suc n) (binary (place l) op l e) st) None) (Some (e, left_frame op l ∷ st))) (lt-leb (suc n) (right_level op) (omega arith))
stays limit n e (joined_frame at op es ∷ st) low = ap (λ b. cond b (cond (leb (depth (joined at op (and_expression es e))) limit) (collapse limit (suc n) (joined at op (and_expression es e)) st) None) (Some (e, joined_frame at op es ∷ st))) (lt-leb (suc n) (junction_level op) (omega arith))
stays limit n e (bracket_frame at b ∷ st) low = refl
stays limit n e (list_frame at l es ∷ st) low = refl
stays limit n e (domain_frame at q o vs at_v v ∷ st) low = refl
stays limit n e (body_frame at q o vs ∷ st) low = ap (λ b. cond b (cond (leb (depth (quantified at q o vs e)) limit) (collapse limit (suc n) (quantified at q o vs e) st) None) (Some (e, body_frame at q o vs ∷ st))) (lt-leb (suc n) 0 (omega arith))
stays limit n e (part_frame at o parts at_n v ∷ st) low = refl
stays limit n e (let_frame at o parts ∷ st) low = ap (λ b. cond b (cond (leb (depth (let_in at o parts e)) limit) (collapse limit (suc n) (let_in at o parts e) st) None) (Some (e, let_frame at o parts ∷ st))) (lt-leb (suc n) 0 (omega arith))

-- what an expression begins with
mutual
  pub begins : (exact : Bool) (e : Expression) (from behind : List Placed) → ReadsExpression exact e from behind
      → (s : Symbol) × (a : At) × (more : List Placed) × (from ≡ placed s a ∷ more) × (starter s ≡ true)
  begins exact (atom at truth) from behind reads = (word_true, reads.0, behind, reads.1, refl)
  begins exact (atom at falsity) from behind reads = (word_false, reads.0, behind, reads.1, refl)
  begins exact (atom at whole) from behind reads = (dollar, reads.0, behind, reads.1, refl)
  begins exact (atom at empty_set) from behind reads = (word_empty, reads.0, behind, reads.1, refl)
  begins exact (atom at (named n)) from behind reads = (name n, reads.0, behind, reads.1, refl)
  begins exact (atom at (numeral n)) from behind reads = (number n, reads.0, behind, reads.1, refl)
  begins exact (atom at (pconst n)) from behind reads = (word_pconst, reads.4.0, reads.0, reads.4.1, refl)
  begins exact (atom at (imported file pairs)) from behind reads = (word_import, reads.4.0, reads.0, reads.4.1, refl)
  begins exact (prefixed at op e) from behind reads = (prefix_operator op, reads.1.0, reads.0, reads.1.1, refl)
  begins exact (binary at op l r) from behind reads = begins exact l from reads.0 reads.3
  begins exact (joined at op es) from behind reads = separated_begins exact (joining op) es from behind reads.1
  begins exact (shifted at e n) from behind reads = begins exact e from reads.0 reads.3
  begins exact (enclosed at Parentheses e) from behind reads = (open_round, reads.2.0, reads.0, reads.2.1, refl)
  begins exact (enclosed at Emptiness e) from behind reads = (word_empty, reads.2.1.0, reads.2.0, reads.2.1.1, refl)
  begins exact (enclosed at Restriction e) from behind reads = (word_restrict, reads.2.1.0, reads.2.0, reads.2.1.1, refl)
  begins exact (enclosed at (Export at_text file) e) from behind reads = (word_export, reads.2.3.0, reads.2.0, reads.2.3.1, refl)
  begins exact (listed at Literal es) from behind reads = (open_curly, reads.2.0, reads.0, reads.2.1, refl)
  begins exact (listed at (Call p) es) from behind reads = (name p, reads.2.1.0, reads.2.0, reads.2.1.1, refl)
  begins exact (quantified at q o vs body) from behind reads = (quantifier q o, reads.3.0, reads.0, reads.3.1, refl)
  begins exact (let_in at o parts body) from behind reads = (let_word o, reads.3.0, reads.0, reads.3.1, refl)

  separated_begins : (exact : Bool) (between : Symbol) (es : Expressions) (from behind : List Placed) → ReadsSeparated exact between es from behind
      → (s : Symbol) × (a : At) × (more : List Placed) × (from ≡ placed s a ∷ more) × (starter s ≡ true)
  separated_begins exact between no_expressions from behind reads = absurd reads
  separated_begins exact between (and_expression no_expressions e) from behind reads = begins exact e from behind reads
  separated_begins exact between (and_expression (and_expression es d) e) from behind reads = separated_begins exact between (and_expression es d) from reads.0 reads.2

pub list_begins : (exact : Bool) (es : Expressions) (e : Expression) (from behind : List Placed) → ReadsList exact (and_expression es e) from behind
    → (s : Symbol) × (a : At) × (more : List Placed) × (from ≡ placed s a ∷ more) × (starter s ≡ true)
list_begins exact no_expressions e from behind reads = begins exact e from behind reads
list_begins exact (and_expression es d) e from behind reads = list_begins exact es d from reads.0 reads.2

-- a name that no bracket follows, and the word `empty`
pub name_alone : (limit : ℕ) (c : Context) (st : List Frame) (at : At) (n : List ℕ) (s : Symbol) (a : At) (more : List Placed) → follower s ≡ true
    → begin_name limit c st at n (placed s a ∷ more) ≡ took (holding c (atom at (named n)) st) (placed s a ∷ more)
name_alone limit c st at n open_round a more follows = absurd (false≢true follows)
name_alone limit c st at n _ a more follows = refl

pub empty_alone : (limit : ℕ) (c : Context) (st : List Frame) (at : At) (s : Symbol) (a : At) (more : List Placed) → follower s ≡ true
    → begin_empty limit c st at (placed s a ∷ more) ≡ took (holding c (atom at empty_set) st) (placed s a ∷ more)
empty_alone limit c st at open_round a more follows = absurd (false≢true follows)
empty_alone limit c st at _ a more follows = refl

-- brackets with something in them
pub literal_filled : (limit : ℕ) (c : Context) (st : List Frame) (at : At) (s : Symbol) (a : At) (more : List Placed) → starter s ≡ true
    → begin_literal limit c st at (placed s a ∷ more) ≡ enter_list limit c at Literal st (placed s a ∷ more)
literal_filled limit c st at close_curly a more starts = absurd (false≢true starts)
literal_filled limit c st at _ a more starts = refl

pub call_filled : (limit : ℕ) (c : Context) (st : List Frame) (at : At) (n : List ℕ) (x : At) (s : Symbol) (a : At) (more : List Placed) → starter s ≡ true
    → begin_name limit c st at n (placed open_round x ∷ placed s a ∷ more) ≡ enter_list limit c at (Call n) st (placed s a ∷ more)
call_filled limit c st at n x close_round a more starts = absurd (false≢true starts)
call_filled limit c st at n x _ a more starts = refl

-- an operator behind a left operand
pub infix_step : (limit : ℕ) (c : Context) (op : Binary) (l : Expression) (st : List Frame) (x : At) (ts : List Placed) → need st ≤ binary_level op
    → (in_part st && is_in op) ≡ false → left_level op ≤ level l → suc (suc (length st)) ≤ limit → suc (length st) + depth l ≤ limit
    → step limit (holding c l st) (placed (infix_operator op) x ∷ ts) ≡ took (wanted c (left_frame op l ∷ st)) ts
infix_step limit c op l st x ts low no_let high room deep =
    let from = placed (infix_operator op) x ∷ ts in
    ap (λ b. on_top (λ top. cond b (in_at limit c top.0 top.1 from ts) (shift limit c op top from ts)) from (collapse limit (cond b 0 (suc (binary_level op))) l st)) no_let
    ∙ ap (on_top (λ top. shift limit c op top from ts) from) (stays limit (binary_level op) l st low)
    ∙ chosen_yes (leb (left_level op) (level l)) (enter limit c (left_frame op l) st (too_deep from) ts) (misplaced from) (le-leb (left_level op) (level l) high)
    ∙ entered limit c (left_frame op l) st (too_deep from) ts room deep

-- `+` or `-` and an int behind an operand
pub int_read : (minus : Bool) (further : PlacedInt → List Placed → Move) (v : Int) (a : At) (ts : List Placed) → int_then minus further (placed (int_symbol v) a ∷ ts) ≡ further (record { at = a; value = v; minus = minus }) ts
int_read minus further (Number n) a ts = refl
int_read minus further (Constant n) a ts = refl

pub terminal_step : (limit : ℕ) (c : Context) (e : Expression) (n : PlacedInt) (st : List Frame) (x : At) (ts : List Placed) → need st ≤ 9 → 9 ≤ level e → length st + suc (depth e) ≤ limit
    → step limit (holding c e st) (placed (sign n.minus) x ∷ placed (int_symbol n.value) n.at ∷ ts) ≡ took (holding c (shifted (place e) e n) st) ts
terminal_step limit c e n st x ts low high deep =
    let behind = placed (int_symbol n.value) n.at ∷ ts in
    let from = placed (sign n.minus) x ∷ behind in
    let next = int_then n.minus (λ k. took (holding c (shifted (place e) e k) st)) behind in
    ap (on_top (λ top. shift_int limit c n.minus top.0 top.1 from behind) from) (stays limit 9 e st low)
    ∙ chosen_yes (leb 9 (level e)) (cond (leb (length st + suc (depth e)) limit) next (too_deep from)) (misplaced from) (le-leb 9 (level e) high)
    ∙ chosen_yes (leb (length st + suc (depth e)) limit) next (too_deep from) (le-leb (length st + suc (depth e)) limit deep)
    ∙ int_read n.minus (λ k. took (holding c (shifted (place e) e k) st)) n.value n.at ts

-- a second operand of `&` or `|`
first_joined : (limit : ℕ) (c : Context) (op : Junction) (e : Expression) (st : List Frame) (from ts : List Placed) → need st ≤ junction_level op → join limit c op e st from ts ≡ join_new limit c op e st from ts
first_joined limit c Conjunction e [] from ts low = refl
first_joined limit c Disjunction e [] from ts low = refl
first_joined limit c Conjunction e (joined_frame at Conjunction es ∷ st) from ts low = absurd (omega arith)
first_joined limit c Conjunction e (joined_frame at Disjunction es ∷ st) from ts low = refl
first_joined limit c Disjunction e (joined_frame at Conjunction es ∷ st) from ts low = refl
first_joined limit c Disjunction e (joined_frame at Disjunction es ∷ st) from ts low = absurd (omega arith)
first_joined limit c Conjunction e (_ ∷ st) from ts low = refl
first_joined limit c Disjunction e (_ ∷ st) from ts low = refl

pub join_first : (limit : ℕ) (c : Context) (op : Junction) (e : Expression) (st : List Frame) (x : At) (ts : List Placed) → need st ≤ junction_level op → suc (junction_level op) ≤ level e
    → suc (suc (length st)) ≤ limit → suc (length st) + depth e ≤ limit
    → step limit (holding c e st) (placed (joining op) x ∷ ts) ≡ took (wanted c (joined_frame (place e) op (and_expression no_expressions e) ∷ st)) ts
join_first limit c op e st x ts low high room deep =
    let from = placed (joining op) x ∷ ts in
    let f = joined_frame (place e) op (and_expression no_expressions e) in
    ap (on_top (λ top. join limit c op top.0 top.1 from ts) from) (stays limit (junction_level op) e st low)
    ∙ first_joined limit c op e st from ts low
    ∙ chosen_yes (leb (suc (junction_level op)) (level e)) (enter limit c f st (too_deep from) ts) (misplaced from) (le-leb (suc (junction_level op)) (level e) high)
    ∙ entered limit c f st (too_deep from) ts room (omega arith)

-- a further operand
pub further_joined : (limit : ℕ) (c : Context) (op : Junction) (at : At) (es : Expressions) (e : Expression) (st : List Frame) (from ts : List Placed)
    → join limit c op e (joined_frame at op es ∷ st) from ts ≡ enter limit c (joined_frame at op (and_expression es e)) st (too_deep from) ts
further_joined limit c Conjunction at es e st from ts = refl
further_joined limit c Disjunction at es e st from ts = refl

pub join_further : (limit : ℕ) (c : Context) (op : Junction) (at : At) (es : Expressions) (e : Expression) (st : List Frame) (x : At) (ts : List Placed)
    → suc (suc (length st)) ≤ limit → suc (length st) + depth_of_all (and_expression es e) ≤ limit
    → step limit (holding c e (joined_frame at op es ∷ st)) (placed (joining op) x ∷ ts) ≡ took (wanted c (joined_frame at op (and_expression es e) ∷ st)) ts
join_further limit c op at es e st x ts room deep =
    let from = placed (joining op) x ∷ ts in
    let all = joined at op (and_expression es e) in
    ap (on_top (λ top. join limit c op top.0 top.1 from ts) from)
    (chosen_no (leb (suc (junction_level op)) (junction_level op)) (cond (leb (depth all) limit) (collapse limit (suc (junction_level op)) all st) None) (Some (e, joined_frame at op es ∷ st)) (lt-leb (suc (junction_level op)) (junction_level op) (omega arith)))
    ∙ further_joined limit c op at es e st from ts
    ∙ entered limit c (joined_frame at op (and_expression es e)) st (too_deep from) ts room deep
