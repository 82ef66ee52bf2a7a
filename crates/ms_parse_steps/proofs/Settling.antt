-- Where an expression goes on or ends, what the automaton has read is in the grammar.
use Rattle.std.proofs.Common.{◌≡◌, ℕ, suc, ◌+◌, ◌≤◌, leb, Bool, true, false, cond, ◌&&◌, List, [], ◌∷◌, length, codes, refl, sym, ap, ◌∙◌, subst, arith}
use Rattle.std.proofs.lemmas.Bool.{false≢true, leb-true, leb-false}
use Rattle.ms_list.specs.declared.at.At.{At}
use Rattle.ms_logic.specs.declared.mode.Rel.TheVariants.{Equal, Differs, Less, AtMost, Greater, AtLeast, Member, NotMember, Sub}
use Rattle.ms_logic.specs.declared.source.Int.TheVariants.{Number, Constant}
use Rattle.ms_logic.specs.declared.source.PlacedInt.{PlacedInt}
use Rattle.ms_parse_grammar.specs.Symbol.{Symbol, name, number, infix_operator, joining, sign, kind, predicate_word, default_word, close_round, close_curly, comma, colon, semicolon, Placed, placed}
use Rattle.ms_parse_grammar.specs.declared.operator.Binary.{Binary}
use Rattle.ms_parse_grammar.specs.declared.operator.Binary.TheVariants.{Implication, Equivalence, Relation, Union, Intersection, Difference}
use Rattle.ms_parse_grammar.specs.declared.operator.Junction.{Junction}
use Rattle.ms_parse_grammar.specs.declared.operator.Junction.TheVariants.{Conjunction, Disjunction}
use Rattle.ms_parse_grammar.specs.declared.operator.Listing.TheVariants.{Literal, Call}
use Rattle.ms_parse_grammar.specs.Tree.{enclosed, listed}
use Rattle.ms_parse_grammar.specs.Tree.{Expression, shifted, Expressions, no_expressions, and_expression, Variables, and_variable, restricted, and_part}
use Rattle.ms_parse_grammar.specs.Tree.{Declaration, variables, predicate, default_restriction, formula, goal, Document}
use Rattle.ms_parse_grammar.specs.Grammar.{binary_level, left_level, junction_level, level, ends_open, is_in, right_level, operand_level, has_bare_in, some_bare_in, domain_bare_in, depth, IsGrammatical}
use Rattle.ms_parse_grammar.specs.Reads.{Starts, ReadsInt, place, FirstIsAt, ReadsExpression}
use Rattle.ms_parse_grammar.specs.Declarations.{ReadsParameterList, ReadsDeclaration, BeginsAt}
use Rattle.ms_parse_steps.specs.inner.Machine.{Head, Frame, prefix_frame, left_frame, joined_frame, bracket_frame, list_frame, domain_frame, body_frame, part_frame, let_frame, Context, in_formula, in_global, in_parameter, in_predicate, in_default, in_goal, holding, need, enter, ends, bound, shift, join_new, join, took, hold, misplaced, too_deep, int_then, shift_int, declare, body_of, close_round_at, close_curly_at, comma_at, colon_at, in_at, semicolon_at, settle}
use Rattle.ms_parse_steps.proofs.Frames.{Held, InFrames, both_false, Stands, Collapsed, chosen}
use Rattle.ms_parse_steps.proofs.Extensions.{entries_extended, variables_extended, parts_extended, parameters_extended, declarations_extended, all_declared}
use Rattle.ms_parse_steps.proofs.Soundness.{SoFar, InContext, Good, GoodNext, need_small, enter_good}
use Rattle.ms_parse_steps.proofs.Limits.{IsWithin, AreDomainsWithin, IsDeclarationWithin}
use Rattle.ms_parse_steps.proofs.Moves.{depth_positive}

-- what an operator finds on top of the stack is as loose as it wants
apart : (op : Binary) (j : Junction) → junction_level j ≤ binary_level op → suc (junction_level j) ≤ binary_level op
apart Equivalence Conjunction h = absurd (omega (arith, h))
apart Equivalence Disjunction h = absurd (omega (arith, h))
apart Implication Conjunction h = absurd (omega (arith, h))
apart Implication Disjunction h = absurd (omega (arith, h))
apart (Relation r) Conjunction h = omega arith
apart (Relation r) Disjunction h = omega arith
apart Union Conjunction h = omega arith
apart Union Disjunction h = omega arith
apart Intersection Conjunction h = omega arith
apart Intersection Disjunction h = omega arith
apart Difference Conjunction h = omega arith
apart Difference Disjunction h = omega arith

low_need : (n : ℕ) (st : List Frame) → Stands (suc n) st → ((j : Junction) → junction_level j ≤ n → suc (junction_level j) ≤ n) → need st ≤ n
low_need n [] stands apart_from = omega arith
low_need n (prefix_frame at op ∷ st) stands apart_from = let low = leb-false (suc n) (operand_level op) stands in omega (arith, low)
low_need n (left_frame op l ∷ st) stands apart_from = let low = leb-false (suc n) (right_level op) stands in omega (arith, low)
low_need n (joined_frame at op es ∷ st) stands apart_from =
    let low = leb-false (suc n) (junction_level op) stands in
    let under : junction_level op ≤ n = omega (arith, low) in
    apart_from op under
low_need n (bracket_frame at b ∷ st) stands apart_from = omega arith
low_need n (list_frame at l es ∷ st) stands apart_from = omega arith
low_need n (domain_frame at q o vs at_v v ∷ st) stands apart_from = omega arith
low_need n (body_frame at q o vs ∷ st) stands apart_from = omega arith
low_need n (part_frame at o parts at_n v ∷ st) stands apart_from = omega arith
low_need n (let_frame at o parts ∷ st) stands apart_from = omega arith

far : (j : Junction) → junction_level j ≤ 9 → suc (junction_level j) ≤ 9
far Conjunction h = omega arith
far Disjunction h = omega arith

not_in : (p i : Bool) → (p && i) ≡ false → p ≡ true → i ≡ false
not_in true i h is = h
not_in false i h is = absurd (false≢true is)

first_place : (at : At) (e : Expression) → at ≡ place e → FirstIsAt true at (and_expression no_expressions e)
first_place at e same = same

shift_good : (limit : ℕ) (all here : List Placed) (c : Context) (op : Binary) (inside : Bool) (top : Expression × List Frame) (from ts : List Placed) (a : At) → InContext limit c all from
    → Collapsed limit (suc (binary_level op)) inside top from (placed (infix_operator op) a ∷ ts) → (inside && is_in op) ≡ false → GoodNext limit all (shift limit c op top here ts)
shift_good limit all here c op inside (e, st) from ts a context top no_let =
    chosen (GoodNext limit all) (leb (left_level op) (level e)) (enter limit c (left_frame op e) st (too_deep here) ts) (misplaced here)
    (λ is. enter_good limit all _ c (left_frame op e) st from top.held.middle ts context top.held.frames
    (placed (infix_operator op) a ∷ ts, top.held.reads, (a, refl)) (
      low_need (binary_level op) st top.stands (apart op),
      leb-true (left_level op) (level e) is,
      top.closed (omega arith),
      top.held.grammatical,
      λ p. both_false (is_in op) (has_bare_in e) (not_in inside (is_in op) no_let (sym top.same_part ∙ p)) (top.held.quiet p),
    ))
    (λ is_not. tt)

-- the first operand of `&` or `|`
join_new_good : (limit : ℕ) (all here : List Placed) (c : Context) (op : Junction) (inside : Bool) (e : Expression) (st : List Frame) (from ts : List Placed) (a : At) → InContext limit c all from
    → Collapsed limit (suc (junction_level op)) inside (e, st) from (placed (joining op) a ∷ ts) → need st ≤ junction_level op → GoodNext limit all (join_new limit c op e st here ts)
join_new_good limit all here c op inside e st from ts a context top low =
    chosen (GoodNext limit all) (leb (suc (junction_level op)) (level e)) (enter limit c (joined_frame (place e) op (and_expression no_expressions e)) st (too_deep here) ts) (misplaced here)
    (λ is. enter_good limit all _ c (joined_frame (place e) op (and_expression no_expressions e)) st from top.held.middle ts context top.held.frames
    (placed (joining op) a ∷ ts, refl, top.held.reads, (a, refl))
    (low, (tt, refl, leb-true (suc (junction_level op)) (level e) is, top.held.grammatical), top.closed (omega arith), λ p. top.held.quiet p))
    (λ is_not. tt)

-- a further operand
join_same_good : (limit : ℕ) (all here : List Placed) (c : Context) (op : Junction) (at : At) (es : Expressions) (e : Expression) (st : List Frame) (from ts : List Placed) (a : At) → InContext limit c all from
    → Held limit e (joined_frame at op es ∷ st) from (placed (joining op) a ∷ ts) → ends_open e ≡ false → GoodNext limit all (enter limit c (joined_frame at op (and_expression es e)) st (too_deep here) ts)
join_same_good limit all here c op at no_expressions e st from ts a context held closed = absurd held.frames.2.2
join_same_good limit all here c op at (and_expression es x) e st from ts a context held closed =
    let (m, below, reads, good, deep) = held.frames in
    enter_good limit all _ c (joined_frame at op (and_expression (and_expression es x) e)) st from m ts context below
    (placed (joining op) a ∷ ts, reads.1, (reads.0, held.middle, reads.2, reads.3, held.reads), (a, refl))
    (good.0, (good.1, good.2, held.needs, held.grammatical), closed, λ p. both_false (some_bare_in (and_expression es x)) (has_bare_in e) (good.3 p) (held.quiet p))

abbrev is_same : Junction → Frame → Bool
is_same Conjunction (joined_frame at Conjunction es) = true
is_same Disjunction (joined_frame at Disjunction es) = true
is_same op f = false

other_need : (op : Junction) (f : Frame) (st : List Frame) → Stands (suc (junction_level op)) (f ∷ st) → is_same op f ≡ false → need (f ∷ st) ≤ junction_level op
other_need op (prefix_frame at x) st stands other = let low = leb-false (suc (junction_level op)) (operand_level x) stands in omega (arith, low)
other_need op (left_frame x l) st stands other = let low = leb-false (suc (junction_level op)) (right_level x) stands in omega (arith, low)
other_need Conjunction (joined_frame at Conjunction es) st stands other = absurd (false≢true (sym other))
other_need Conjunction (joined_frame at Disjunction es) st stands other = omega arith
other_need Disjunction (joined_frame at Conjunction es) st stands other = absurd (omega (arith, leb-false 3 3 stands))
other_need Disjunction (joined_frame at Disjunction es) st stands other = absurd (false≢true (sym other))
other_need op (bracket_frame at b) st stands other = omega arith
other_need op (list_frame at l es) st stands other = omega arith
other_need op (domain_frame at q o vs at_v v) st stands other = omega arith
other_need op (body_frame at q o vs) st stands other = omega arith
other_need op (part_frame at o parts at_n v) st stands other = omega arith
other_need op (let_frame at o parts) st stands other = omega arith

join_good : (limit : ℕ) (all here : List Placed) (c : Context) (op : Junction) (inside : Bool) (e : Expression) (st : List Frame) (from ts : List Placed) (a : At) → InContext limit c all from
    → Collapsed limit (suc (junction_level op)) inside (e, st) from (placed (joining op) a ∷ ts) → GoodNext limit all (join limit c op e st here ts)
join_good limit all here c Conjunction inside e (joined_frame at Conjunction es ∷ st) from ts a context top = join_same_good limit all here c Conjunction at es e st from ts a context top.held (top.closed (omega arith))
join_good limit all here c Disjunction inside e (joined_frame at Disjunction es ∷ st) from ts a context top = join_same_good limit all here c Disjunction at es e st from ts a context top.held (top.closed (omega arith))
join_good limit all here c Conjunction inside e [] from ts a context top = join_new_good limit all here c Conjunction inside e [] from ts a context top (omega arith)
join_good limit all here c Disjunction inside e [] from ts a context top = join_new_good limit all here c Disjunction inside e [] from ts a context top (omega arith)
join_good limit all here c Conjunction inside e (f ∷ st) from ts a context top = join_new_good limit all here c Conjunction inside e (f ∷ st) from ts a context top (other_need Conjunction f st top.stands refl)
join_good limit all here c Disjunction inside e (f ∷ st) from ts a context top = join_new_good limit all here c Disjunction inside e (f ∷ st) from ts a context top (other_need Disjunction f st top.stands refl)

and_true : (a b : Bool) → (a && b) ≡ true → (a ≡ true) × (b ≡ true)
and_true true b h = (refl, h)
and_true false b h = absurd (false≢true h)

shifted_good : (limit : ℕ) (all : List Placed) (c : Context) (inside : Bool) (e : Expression) (st : List Frame) (n : PlacedInt) (from f ts : List Placed) (a : At) → InContext limit c all from
    → Collapsed limit 10 inside (e, st) from (placed (sign n.minus) a ∷ f) → ReadsInt true n f ts → 9 ≤ level e → length st + suc (depth e) ≤ limit → Good limit (holding c (shifted (place e) e n) st) all ts
shifted_good limit all c inside e st n from f ts a context top int_is high room = (
  from,
  context,
  record {
    middle = top.held.middle;
    frames = top.held.frames;
    reads = (placed (sign n.minus) a ∷ f, f, refl, top.held.reads, (a, refl), int_is);
    grammatical = (high, top.closed (omega arith), top.held.grammatical);
    needs = low_need 9 st top.stands far;
    deep = room;
    quiet = top.held.quiet;
  },
  refl,
)

int_good : (limit : ℕ) (all : List Placed) (c : Context) (minus inside : Bool) (e : Expression) (st : List Frame) (from ts : List Placed) (a : At) → InContext limit c all from
    → Collapsed limit 10 inside (e, st) from (placed (sign minus) a ∷ ts) → 9 ≤ level e → length st + suc (depth e) ≤ limit → GoodNext limit all (int_then minus (λ n. took (holding c (shifted (place e) e n) st)) ts)
int_good limit all c minus inside e st from (placed (number n) x ∷ ts) a context top high room =
    shifted_good limit all c inside e st (record { at = x; value = Number n; minus = minus }) from (placed (number n) x ∷ ts) ts a context top (x, refl, refl) high room
int_good limit all c minus inside e st from (placed (name n) x ∷ ts) a context top high room =
    shifted_good limit all c inside e st (record { at = x; value = Constant n; minus = minus }) from (placed (name n) x ∷ ts) ts a context top (x, refl, refl) high room
int_good limit all c minus inside e st from _ a context top high room = tt

shift_int_good : (limit : ℕ) (all here : List Placed) (c : Context) (minus inside : Bool) (e : Expression) (st : List Frame) (from ts : List Placed) (a : At) → InContext limit c all from
    → Collapsed limit 10 inside (e, st) from (placed (sign minus) a ∷ ts) → GoodNext limit all (shift_int limit c minus e st here ts)
shift_int_good limit all here c minus inside e st from ts a context top =
    let next = int_then minus (λ n. took (holding c (shifted (place e) e n) st)) ts in
    chosen (GoodNext limit all) (leb 9 (level e)) (cond (leb (length st + suc (depth e)) limit) next (too_deep here)) (misplaced here)
    (λ high. chosen (GoodNext limit all) (leb (length st + suc (depth e)) limit) next (too_deep here)
    (λ fits. int_good limit all c minus inside e st from ts a context top (leb-true 9 (level e) high) (leb-true (length st + suc (depth e)) limit fits)) (λ full. tt))
    (λ low. tt)

-- an expression on an empty stack is one of the source
pub whole_expression : (limit : ℕ) (e : Expression) (from ts : List Placed) → Held limit e [] from ts → IsWithin limit e
whole_expression limit e from ts held = record { grammatical = held.grammatical; shallow = omega (arith, held.deep) }

whole_reads : (limit : ℕ) (e : Expression) (from ts : List Placed) → Held limit e [] from ts → ReadsExpression true e from ts
whole_reads limit e from ts held = subst (λ f. ReadsExpression true e f ts) (sym held.frames) held.reads

pub body_of_good : (limit : ℕ) (some : 1 ≤ limit) (all : List Placed) (d : Document) (head : Head) (vs : Variables) (f g h i ts : List Placed)
    → SoFar limit d all f → Starts true (predicate_word head.is_pred) head.at f g → Starts true (name head.name) head.at_name g h → ReadsParameterList true vs h ts → AreDomainsWithin limit vs → GoodNext limit all (body_of d head vs ts)
body_of_good limit some all d head vs f g h i (placed (infix_operator (Relation Equal)) a ∷ ts) so_far words starts list good =
    (ts, (f, g, h, placed (infix_operator (Relation Equal)) a ∷ ts, so_far, words, starts, list, (a, refl), good), refl, omega arith)
body_of_good limit some all d head vs f g h i _ so_far words starts list good = tt

-- an expression that a bracket has ended
hold_good : (limit : ℕ) (all here : List Placed) (c : Context) (e : Expression) (st : List Frame) (from middle ts : List Placed) → InContext limit c all from → InFrames limit st from middle
    → ReadsExpression true e middle ts → IsGrammatical e → need st ≤ level e → length st + depth e ≤ limit → has_bare_in e ≡ false → ends_open e ≡ false → GoodNext limit all (hold limit c e st here ts)
hold_good limit all here c e st from middle ts context below reads good needs deep quiet closed =
    let held : Held limit e st from ts = record {
      middle = middle;
      frames = below;
      reads = reads;
      grammatical = good;
      needs = needs;
      deep = deep;
      quiet = λ p. quiet;
    } in
    chosen (GoodNext limit all) (leb (depth e) limit) (took (holding c e st) ts) (too_deep here) (λ small. (from, context, held, closed)) (λ large. tt)

close_round_good : (limit : ℕ) (some : 1 ≤ limit) (all here : List Placed) (c : Context) (e : Expression) (st : List Frame) (from ts : List Placed) (a : At) → InContext limit c all from → Held limit e st from (placed close_round a ∷ ts)
    → GoodNext limit all (close_round_at limit c e st here ts)
close_round_good limit some all here c e (bracket_frame at b ∷ st) from ts a context held =
    let (m, below, reads, good, deep) = held.frames in
    hold_good limit all here c (enclosed at b e) st from m ts context below
    (held.middle, placed close_round a ∷ ts, reads, held.reads, (a, refl))
    held.grammatical (need_small st) (omega (arith, held.deep)) refl refl
close_round_good limit some all here c e (list_frame at (Call p) es ∷ st) from ts a context held =
    let (m, below, reads, good, deep) = held.frames in
    hold_good limit all here c (listed at (Call p) (and_expression es e)) st from m ts context below
    (reads.0, placed close_round a ∷ ts, reads.1, entries_extended es e reads.0 held.middle (placed close_round a ∷ ts) reads.2 held.reads, (a, refl))
    (good, held.grammatical) (need_small st) (omega (arith, held.deep, deep)) refl refl
close_round_good limit some all here (in_parameter d head vs o at_v n) e [] from ts a (f, g, h, i, j, k, l, so_far, words, starts, opens, before, kinds, names, follow, good) held =
    body_of_good limit some all d head (and_variable vs at_v o n (restricted e)) f g h i ts so_far words starts (
      i,
      placed close_round a ∷ ts,
      opens,
      parameters_extended vs at_v o n (restricted e) i j k l (placed close_round a ∷ ts) before kinds names (from, follow, whole_reads limit e from (placed close_round a ∷ ts) held),
      (a, refl),
    )
    (good, whole_expression limit e from (placed close_round a ∷ ts) held)
close_round_good limit some all here c e _ from ts a context held = tt

close_curly_good : (limit : ℕ) (all here : List Placed) (c : Context) (e : Expression) (st : List Frame) (from ts : List Placed) (a : At) → InContext limit c all from → Held limit e st from (placed close_curly a ∷ ts)
    → GoodNext limit all (close_curly_at limit c e st here ts)
close_curly_good limit all here c e (list_frame at Literal es ∷ st) from ts a context held =
    let (m, below, reads, good, deep) = held.frames in
    hold_good limit all here c (listed at Literal (and_expression es e)) st from m ts context below
    (reads.0, placed close_curly a ∷ ts, reads.1, entries_extended es e reads.0 held.middle (placed close_curly a ∷ ts) reads.2 held.reads, (a, refl))
    (good, held.grammatical) (need_small st) (omega (arith, held.deep, deep)) refl refl
close_curly_good limit all here c e _ from ts a context held = tt

comma_good : (limit : ℕ) (all here : List Placed) (c : Context) (e : Expression) (st : List Frame) (from ts : List Placed) (a : At) → InContext limit c all from → Held limit e st from (placed comma a ∷ ts)
    → GoodNext limit all (comma_at limit c e st here ts)
comma_good limit all here c e (list_frame at l es ∷ st) from ts a context held =
    let (m, below, reads, good, deep) = held.frames in
    enter_good limit all _ c (list_frame at l (and_expression es e)) st from m ts context below
    (reads.0, reads.1, (placed comma a ∷ ts, entries_extended es e reads.0 held.middle (placed comma a ∷ ts) reads.2 held.reads, (a, refl)))
    (good, held.grammatical)
comma_good limit all here c e (domain_frame at q o vs at_v n ∷ st) from ts a context held =
    let (m, below, reads, good, deep) = held.frames in (
      from,
      m,
      reads.0,
      context,
      below,
      reads.3,
      (placed comma a ∷ ts, variables_extended vs at_v o n (restricted e) reads.0 reads.1 reads.2 (placed comma a ∷ ts) reads.4 reads.5 (held.middle, reads.6, held.reads), (a, refl)),
      good.0,
      (good.1, refl),
      (good.2, held.grammatical),
      λ p. both_false (domain_bare_in vs) (has_bare_in e) (good.3 p) (held.quiet p),
      omega (arith, deep, held.deep, depth_positive e),
    )
comma_good limit all here c e (part_frame at o parts at_n n ∷ st) from ts a context held =
    let (m, below, reads, good, deep) = held.frames in (
      from,
      m,
      reads.0,
      context,
      below,
      reads.3,
      (placed comma a ∷ ts, parts_extended parts at_n n e reads.0 reads.1 reads.2 held.middle (placed comma a ∷ ts) reads.4 reads.5 reads.6 held.reads, (a, refl)),
      good.0,
      (good.1, held.quiet refl, held.grammatical),
      omega (arith, deep, held.deep, depth_positive e),
    )
comma_good limit all here (in_global d at o vs at_v n) e [] from ts a (f, g, h, i, so_far, words, before, names, follow, ordered, good) held = (
  f,
  g,
  so_far,
  words,
  (placed comma a ∷ ts, variables_extended vs at_v o n (restricted e) g h i (placed comma a ∷ ts) before names (from, follow, whole_reads limit e from (placed comma a ∷ ts) held), (a, refl)),
  (ordered, refl),
  (good, whole_expression limit e from (placed comma a ∷ ts) held),
)
comma_good limit all here (in_parameter d head vs o at_v n) e [] from ts a (f, g, h, i, j, k, l, so_far, words, starts, opens, before, kinds, names, follow, good) held = (
  f,
  g,
  h,
  i,
  so_far,
  words,
  starts,
  opens,
  (placed comma a ∷ ts, parameters_extended vs at_v o n (restricted e) i j k l (placed comma a ∷ ts) before kinds names (from, follow, whole_reads limit e from (placed comma a ∷ ts) held), (a, refl)),
  (good, whole_expression limit e from (placed comma a ∷ ts) held),
)
comma_good limit all here c e _ from ts a context held = tt

colon_good : (limit : ℕ) (all here : List Placed) (c : Context) (e : Expression) (st : List Frame) (from ts : List Placed) (a : At) → InContext limit c all from → Held limit e st from (placed colon a ∷ ts)
    → GoodNext limit all (colon_at limit c e st here ts)
colon_good limit all here c e (domain_frame at q o vs at_v n ∷ st) from ts a context held =
    let (m, below, reads, good, deep) = held.frames in
    enter_good limit all _ c (body_frame at q o (and_variable vs at_v o n (restricted e))) st from m ts context below (
      reads.0,
      placed colon a ∷ ts,
      reads.3,
      variables_extended vs at_v o n (restricted e) reads.0 reads.1 reads.2 (placed colon a ∷ ts) reads.4 reads.5 (held.middle, reads.6, held.reads),
      (a, refl),
    )
    (good.0, (good.1, refl), (good.2, held.grammatical), (λ p. both_false (domain_bare_in vs) (has_bare_in e) (good.3 p) (held.quiet p)), tt)
colon_good limit all here c e _ from ts a context held = tt

only_in : (op : Binary) → is_in op ≡ true → op ≡ Relation Member
only_in (Relation Member) is = refl
only_in (Relation Equal) is = absurd (false≢true is)
only_in (Relation Differs) is = absurd (false≢true is)
only_in (Relation Less) is = absurd (false≢true is)
only_in (Relation AtMost) is = absurd (false≢true is)
only_in (Relation Greater) is = absurd (false≢true is)
only_in (Relation AtLeast) is = absurd (false≢true is)
only_in (Relation NotMember) is = absurd (false≢true is)
only_in (Relation Sub) is = absurd (false≢true is)
only_in Implication is = absurd (false≢true is)
only_in Equivalence is = absurd (false≢true is)
only_in Union is = absurd (false≢true is)
only_in Intersection is = absurd (false≢true is)
only_in Difference is = absurd (false≢true is)

in_good : (limit : ℕ) (all here : List Placed) (c : Context) (e : Expression) (st : List Frame) (from ts : List Placed) (a : At) → InContext limit c all from → Held limit e st from (placed (infix_operator (Relation Member)) a ∷ ts)
    → GoodNext limit all (in_at limit c e st here ts)
in_good limit all here c e (part_frame at o parts at_n n ∷ st) from ts a context held =
    let (m, below, reads, good, deep) = held.frames in
    enter_good limit all _ c (let_frame at o (and_part parts at_n n e)) st from m ts context below (
      reads.0,
      placed (infix_operator (Relation Member)) a ∷ ts,
      reads.3,
      parts_extended parts at_n n e reads.0 reads.1 reads.2 held.middle (placed (infix_operator (Relation Member)) a ∷ ts) reads.4 reads.5 reads.6 held.reads,
      (a, refl),
    )
    (good.0, (good.1, held.quiet refl, held.grammatical), tt)
in_good limit all here c e _ from ts a context held = tt

-- a declaration has ended
pub declared_good : (limit : ℕ) (all : List Placed) (d : Document) (at : At) (x : Declaration) (f g ts : List Placed) (a : At) → SoFar limit d all f → BeginsAt true at f → ReadsDeclaration true x f g → g ≡ placed semicolon a ∷ ts → IsDeclarationWithin limit x
    → SoFar limit (declare d at x) all ts
declared_good limit all d at x f g ts a so_far begins reads ends good = (
  so_far.0,
  so_far.1,
  declarations_extended d.declarations (record { at = at; declaration = x }) so_far.0 f g ts so_far.2 begins reads (a, ends),
  all_declared limit d.declarations (record { at = at; declaration = x }) so_far.3 good,
)

pub begins_with : (s : Symbol) (at : At) (f g : List Placed) → Starts true s at f g → BeginsAt true at f
begins_with s at f g starts = subst (λ f. BeginsAt true at f) (sym starts.1) starts.2

semicolon_good : (limit : ℕ) (all here : List Placed) (c : Context) (e : Expression) (st : List Frame) (from ts : List Placed) (a : At) → InContext limit c all from → Held limit e st from (placed semicolon a ∷ ts)
    → GoodNext limit all (semicolon_at c e st here ts)
semicolon_good limit all here (in_formula d at) e [] from ts a (so_far, begins) held =
    declared_good limit all d at (formula e) from (placed semicolon a ∷ ts) ts a so_far begins (whole_reads limit e from (placed semicolon a ∷ ts) held) refl (whole_expression limit e from (placed semicolon a ∷ ts) held)
semicolon_good limit all here (in_global d at o vs at_v n) e [] from ts a (f, g, h, i, so_far, words, before, names, follow, ordered, good) held =
    declared_good limit all d at (variables (and_variable vs at_v o n (restricted e))) f (placed semicolon a ∷ ts) ts a so_far (begins_with (kind o) at f g words) (
      o,
      g,
      (at, words.1 ∙ ap (λ x. placed (kind o) x ∷ g) (sym words.2)),
      (ordered, refl),
      variables_extended vs at_v o n (restricted e) g h i (placed semicolon a ∷ ts) before names (from, follow, whole_reads limit e from (placed semicolon a ∷ ts) held),
    ) refl
    (good, whole_expression limit e from (placed semicolon a ∷ ts) held)
semicolon_good limit all here (in_predicate d head vs) e [] from ts a (f, g, h, i, so_far, words, starts, list, equal, good) held =
    declared_good limit all d head.at (predicate head.is_pred head.at_name head.name vs e) f (placed semicolon a ∷ ts) ts a so_far (begins_with (predicate_word head.is_pred) head.at f g words)
    (g, h, i, from, (words.0, words.1), starts, list, equal, whole_reads limit e from (placed semicolon a ∷ ts) held) refl
    (good, whole_expression limit e from (placed semicolon a ∷ ts) held)
semicolon_good limit all here (in_default d at o n) e [] from ts a (f, g, h, i, j, so_far, words, opens, names, closes, equal) held =
    declared_good limit all d at (default_restriction o n e) f (placed semicolon a ∷ ts) ts a so_far (begins_with (default_word o) at f g words)
    (g, h, i, j, from, (words.0, words.1), opens, names, closes, equal, whole_reads limit e from (placed semicolon a ∷ ts) held) refl
    (whole_expression limit e from (placed semicolon a ∷ ts) held)
semicolon_good limit all here (in_goal d at at_title title) e [] from ts a (f, g, so_far, words, titled) held =
    declared_good limit all d at (goal at_title title e) f (placed semicolon a ∷ ts) ts a so_far (begins_with (name (codes "goal")) at f g words)
    (g, from, (words.0, words.1), titled, whole_reads limit e from (placed semicolon a ∷ ts) held) refl
    (whole_expression limit e from (placed semicolon a ∷ ts) held)
semicolon_good limit all here c e _ from ts a context held = tt

pub settle_good : (limit : ℕ) (some : 1 ≤ limit) (all here : List Placed) (c : Context) (s : Symbol) (inside : Bool) (top : Expression × List Frame) (from ts : List Placed) (a : At) → InContext limit c all from
    → Collapsed limit (bound inside s) inside top from (placed s a ∷ ts) → GoodNext limit all (settle limit c s inside top here ts)
settle_good limit some all here c (infix_operator op) inside top from ts a context is =
    chosen (GoodNext limit all) (inside && is_in op) (in_at limit c top.0 top.1 here ts) (shift limit c op top here ts)
    (λ lets. in_good limit all here c top.0 top.1 from ts a context (subst (λ x. Held limit top.0 top.1 from (placed (infix_operator x) a ∷ ts)) (only_in op (and_true inside (is_in op) lets).1) is.held))
    (λ no_let. shift_good limit all here c op inside top from ts a context (subst (λ b. Collapsed limit (cond b 0 (suc (binary_level op))) inside top from (placed (infix_operator op) a ∷ ts)) no_let is) no_let)
settle_good limit some all here c (joining op) inside top from ts a context is = join_good limit all here c op inside top.0 top.1 from ts a context is
settle_good limit some all here c (sign minus) inside top from ts a context is = shift_int_good limit all here c minus inside top.0 top.1 from ts a context is
settle_good limit some all here c close_round inside top from ts a context is = close_round_good limit some all here c top.0 top.1 from ts a context is.held
settle_good limit some all here c close_curly inside top from ts a context is = close_curly_good limit all here c top.0 top.1 from ts a context is.held
settle_good limit some all here c comma inside top from ts a context is = comma_good limit all here c top.0 top.1 from ts a context is.held
settle_good limit some all here c colon inside top from ts a context is = colon_good limit all here c top.0 top.1 from ts a context is.held
settle_good limit some all here c semicolon inside top from ts a context is = semicolon_good limit all here c top.0 top.1 from ts a context is.held
settle_good limit some all here c _ inside top from ts a context is = tt
