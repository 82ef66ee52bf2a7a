-- How `parse` goes over the symbols: a pushdown automaton whose stack holds what has been opened and not closed yet. Where
-- it is stuck, it says at which symbol, and whether no such symbol can stand there or the depth allows none. It is internal
-- to this crate: what is promised of `parse` is the grammar's relation alone.
use Rattle.std.specs.Prelude.{◌≡◌, ℕ, zero, suc, ◌+◌, max, leb, Bool, true, false, cond, ◌&&◌, List, [], ◌∷◌, ◌++◌, length, codes, bytes_eq, Option, Some, None}
use Rattle.ms_list.specs.declared.at.At.{At}
use Rattle.ms_logic.specs.declared.mode.Mode.TheVariants.{Ws1s, M2lStr}
use Rattle.ms_logic.specs.declared.mode.Order.{Order}
use Rattle.ms_logic.specs.declared.mode.Quant.{Quant}
use Rattle.ms_logic.specs.declared.mode.Rel.TheVariants.{Equal}
use Rattle.ms_logic.specs.declared.source.PlacedInt.{PlacedInt}
use Rattle.ms_logic.specs.declared.source.Rename.{Rename}
use Rattle.ms_parse_grammar.specs.Symbol.{Symbol, name, number, text, prefix_operator, infix_operator, joining, sign, quantifier, let_word, kind, predicate_word, default_word, word_true, word_false, dollar, word_empty, word_pconst, word_import, word_export, word_restrict, word_where, word_const, word_include, word_ws1s, open_round, close_round, open_curly, close_curly, comma, colon, semicolon, arrow, Placed, placed}
use Rattle.ms_parse_grammar.specs.declared.operator.Prefix.{Prefix}
use Rattle.ms_parse_grammar.specs.declared.operator.Binary.{Binary}
use Rattle.ms_parse_grammar.specs.declared.operator.Binary.TheVariants.{Relation}
use Rattle.ms_parse_grammar.specs.declared.operator.Junction.{Junction}
use Rattle.ms_parse_grammar.specs.declared.operator.Junction.TheVariants.{Conjunction, Disjunction}
use Rattle.ms_parse_grammar.specs.declared.operator.Bracket.{Bracket}
use Rattle.ms_parse_grammar.specs.declared.operator.Bracket.TheVariants.{Parentheses, Emptiness, Restriction, Export}
use Rattle.ms_parse_grammar.specs.declared.operator.Listing.{Listing}
use Rattle.ms_parse_grammar.specs.declared.operator.Listing.TheVariants.{Literal, Call}
use Rattle.ms_parse_grammar.specs.Tree.{truth, falsity, whole, empty_set, named, numeral, pconst, imported}
use Rattle.ms_parse_grammar.specs.Tree.{Expression, atom, prefixed, binary, joined, shifted, enclosed, listed, quantified, let_in, Expressions, no_expressions, and_expression, Variables, no_variables, and_variable, unrestricted, restricted, Parts, no_parts, and_part}
use Rattle.ms_parse_grammar.specs.Tree.{Declaration, variables, constant, predicate, included, default_restriction, formula, goal, Document}
use Rattle.ms_parse_grammar.specs.Grammar.{binary_level, left_level, right_level, prefix_level, operand_level, junction_level, level, is_in, depth, depth_of_all, depth_of_domains, depth_of_values}
use Rattle.ms_parse_grammar.specs.Reads.{place}
use Rattle.ms_parse_steps.specs.inner.Said.{name_of, text_of, int_of}

-- an expression that has been begun
pub data Frame : Type 0 where
  -- an operator, whose operand follows
  prefix_frame : (at : At) (op : Prefix) → Frame
  -- a left operand and the operator
  left_frame : (op : Binary) (l : Expression) → Frame
  -- operands of `&` or `|`, each with the operator behind it
  joined_frame : (at : At) (op : Junction) (es : Expressions) → Frame
  -- what stands up to the opening bracket
  bracket_frame : (at : At) (b : Bracket) → Frame
  -- a list in brackets, with a comma behind each expression so far
  list_frame : (at : At) (l : Listing) (es : Expressions) → Frame
  -- variables so far, and one whose restriction follows
  domain_frame : (at : At) (q : Quant) (o : Order) (vs : Variables) (at_v : At) (n : List ℕ) → Frame
  body_frame : (at : At) (q : Quant) (o : Order) (vs : Variables) → Frame
  -- parts so far, and one whose right side follows
  part_frame : (at : At) (o : Order) (parts : Parts) (at_n : At) (n : List ℕ) → Frame
  let_frame : (at : At) (o : Order) (parts : Parts) → Frame

-- what stands before the parameters of a predicate or a macro: its word and its name
pub record Head : Type 0 where
  pub at : At
  pub is_pred : Bool
  pub at_name : At
  pub name : List ℕ

abbrev pub head_with : At → Bool → At → List ℕ → Head
head_with at is_pred at_p p = record { at = at; is_pred = is_pred; at_name = at_p; name = p }

-- the declaration that has been begun, behind those of a document
pub data Context : Type 0 where
  in_formula : (d : Document) (at : At) → Context
  in_global : (d : Document) (at : At) (o : Order) (vs : Variables) (at_v : At) (n : List ℕ) → Context
  in_parameter : (d : Document) (head : Head) (vs : Variables) (o : Order) (at_v : At) (n : List ℕ) → Context
  in_predicate : (d : Document) (head : Head) (vs : Variables) → Context
  in_default : (d : Document) (at : At) (o : Order) (n : List ℕ) → Context
  in_goal : (d : Document) (at : At) (at_title : At) (title : List ℕ) → Context

pub data Configuration : Type 0 where
  -- between two declarations
  outside : (d : Document) → Configuration
  -- an expression is wanted
  wanted : (c : Context) (st : List Frame) → Configuration
  -- an expression has been read, which may go on
  holding : (c : Context) (e : Expression) (st : List Frame) → Configuration
  variable_wanted : (c : Context) (st : List Frame) (at : At) (q : Quant) (o : Order) (vs : Variables) → Configuration
  part_wanted : (c : Context) (st : List Frame) (at : At) (o : Order) (parts : Parts) → Configuration
  pair_wanted : (c : Context) (st : List Frame) (at : At) (file : List ℕ) (pairs : List Rename) → Configuration
  global_wanted : (d : Document) (at : At) (o : Order) (vs : Variables) → Configuration
  parameter_wanted : (d : Document) (head : Head) (vs : Variables) → Configuration
  summand_wanted : (d : Document) (at : At) (at_n : At) (n : List ℕ) (sum : List PlacedInt) → Configuration

-- What a step comes to. Where it is stuck, the symbols are those from the one at fault on.
pub data Move : Type 0 where
  -- a configuration, and the symbols behind what has been taken
  took : (s : Configuration) (ts : List Placed) → Move
  -- the first of the symbols cannot stand there
  misplaced : (from : List Placed) → Move
  -- with the first of the symbols an expression is too deep
  too_deep : (from : List Placed) → Move

-- the least level of the expression that is wanted
abbrev pub need : List Frame → ℕ
need [] = 0
need (prefix_frame at op ∷ st) = operand_level op
need (left_frame op l ∷ st) = right_level op
need (joined_frame at op es ∷ st) = suc (junction_level op)
need (bracket_frame at b ∷ st) = 0
need (list_frame at l es ∷ st) = 0
need (domain_frame at q o vs at_v n ∷ st) = 0
need (body_frame at q o vs ∷ st) = 0
need (part_frame at o parts at_n n ∷ st) = 0
need (let_frame at o parts ∷ st) = 0

-- a right side of a `let` has been begun, and no bracket in it
abbrev pub in_part : List Frame → Bool
in_part [] = false
in_part (prefix_frame at op ∷ st) = in_part st
in_part (left_frame op l ∷ st) = in_part st
in_part (joined_frame at op es ∷ st) = in_part st
in_part (bracket_frame at b ∷ st) = false
in_part (list_frame at l es ∷ st) = false
in_part (domain_frame at q o vs at_v n ∷ st) = in_part st
in_part (body_frame at q o vs ∷ st) = in_part st
in_part (part_frame at o parts at_n n ∷ st) = true
in_part (let_frame at o parts ∷ st) = in_part st

abbrev pub frame_depth : Frame → ℕ
frame_depth (prefix_frame at op) = 0
frame_depth (left_frame op l) = depth l
frame_depth (joined_frame at op es) = depth_of_all es
frame_depth (bracket_frame at b) = 0
frame_depth (list_frame at l es) = depth_of_all es
frame_depth (domain_frame at q o vs at_v n) = depth_of_domains vs
frame_depth (body_frame at q o vs) = depth_of_domains vs
frame_depth (part_frame at o parts at_n n) = depth_of_values parts
frame_depth (let_frame at o parts) = depth_of_values parts

-- The frame ends where an operator follows that binds this loosely; with 0 it ends before any symbol that is no operator.
abbrev pub ends : ℕ → Frame → Bool
ends b (prefix_frame at op) = leb b (operand_level op)
ends b (left_frame op l) = leb b (right_level op)
ends b (joined_frame at op es) = leb b (junction_level op)
ends b (bracket_frame at x) = false
ends b (list_frame at l es) = false
ends b (domain_frame at q o vs at_v n) = false
ends b (body_frame at q o vs) = leb b 0
ends b (part_frame at o parts at_n n) = false
ends b (let_frame at o parts) = leb b 0

-- the expression of a frame that ends with this operand
abbrev pub completed : Frame → Expression → Expression
completed (prefix_frame at op) e = prefixed at op e
completed (left_frame op l) e = binary (place l) op l e
completed (joined_frame at op es) e = joined at op (and_expression es e)
completed (bracket_frame at b) e = e
completed (list_frame at l es) e = e
completed (domain_frame at q o vs at_v n) e = e
completed (body_frame at q o vs) e = quantified at q o vs e
completed (part_frame at o parts at_n n) e = e
completed (let_frame at o parts) e = let_in at o parts e

-- an expression on top of the frames that go on behind it
abbrev pub Top : Type 0
Top = Expression × List Frame

-- the frames on top that end there, completed, where no expression is too deep
abbrev pub collapse : ℕ → ℕ → Expression → List Frame → Option Top
collapse limit b e [] = Some (e, [])
collapse limit b e (f ∷ st) = cond (ends b f) (cond (leb (depth (completed f e)) limit) (collapse limit b (completed f e) st) None) (Some (e, f ∷ st))

-- where no frame can be completed, the symbol behind it makes the expression too deep
abbrev pub on_top : (Top → Move) → List Placed → Option Top → Move
on_top further from None = too_deep from
on_top further from (Some top) = further top

-- how loosely a symbol binds; the first argument says whether `in` ends a right side of a `let`
abbrev pub bound : Bool → Symbol → ℕ
bound inside (infix_operator op) = cond (inside && is_in op) 0 (suc (binary_level op))
bound inside (joining op) = suc (junction_level op)
bound inside (sign minus) = 10
bound inside _ = 0

-- What is wanted next: a symbol, or a name, a text, a number or constant, and then what `further` says of what stands behind.

abbrev pub is_mark : Symbol → Symbol → Bool
is_mark open_round open_round = true
is_mark close_round close_round = true
is_mark close_curly close_curly = true
is_mark comma comma = true
is_mark semicolon semicolon = true
is_mark arrow arrow = true
is_mark (infix_operator (Relation Equal)) (infix_operator (Relation Equal)) = true
is_mark (sign true) (sign true) = true
is_mark word_ws1s word_ws1s = true
is_mark m s = false

-- the symbol, or other symbols
abbrev pub either_mark : Symbol → (List Placed → Move) → (List Placed → Move) → List Placed → Move
either_mark m further other [] = other []
either_mark m further other (placed s a ∷ ts) = cond (is_mark m s) (further ts) (other (placed s a ∷ ts))

abbrev pub mark_then : Symbol → (List Placed → Move) → List Placed → Move
mark_then m further ts = either_mark m further misplaced ts

abbrev pub equal_then : (List Placed → Move) → List Placed → Move
equal_then further ts = mark_then (infix_operator (Relation Equal)) further ts

abbrev pub or_else : {X : Type 0} → (X → Move) → Move → Option X → Move
or_else further otherwise None = otherwise
or_else further otherwise (Some x) = further x

abbrev pub said_then : {X : Type 0} → (Symbol → Option X) → (At → X → List Placed → Move) → List Placed → Move
said_then said further [] = misplaced []
said_then said further (placed s a ∷ ts) = or_else (λ x. further a x ts) (misplaced (placed s a ∷ ts)) (said s)

abbrev pub name_then : (At → List ℕ → List Placed → Move) → List Placed → Move
name_then further ts = said_then name_of further ts

abbrev pub text_then : (At → List ℕ → List Placed → Move) → List Placed → Move
text_then further ts = said_then text_of further ts

-- a number or constant, behind `-` where `minus` is true
abbrev pub int_then : Bool → (PlacedInt → List Placed → Move) → List Placed → Move
int_then minus further ts = said_then int_of (λ a v. further (record { at = a; value = v; minus = minus })) ts

-- any symbol; `further` sees the symbols from it on and those behind it
abbrev pub symbol_then : (At → Symbol → List Placed → List Placed → Move) → List Placed → Move
symbol_then further [] = misplaced []
symbol_then further (placed s a ∷ ts) = further a s (placed s a ∷ ts) ts

-- the kind of a parameter, which the first one has, and a further one may take from the one before it
abbrev pub kind_then : Variables → (Order → List Placed → Move) → List Placed → Move
kind_then vs further (placed (kind o) a ∷ ts) = further o ts
kind_then no_variables further ts = misplaced ts
kind_then (and_variable vs at o n x) further ts = further o ts

-- a pair of an import
abbrev pub pair_then : (Rename → List Placed → Move) → List Placed → Move
pair_then further ts = name_then (λ a l. mark_then arrow (name_then (λ b r. further (record { at = a; left = l; at_right = b; right = r })))) ts

-- an expression is wanted in a new frame, where the depth leaves room for it
abbrev pub enter : ℕ → Context → Frame → List Frame → Move → List Placed → Move
enter limit c f st otherwise ts = cond (leb (suc (length st) + max 1 (frame_depth f)) limit) (took (wanted c (f ∷ st)) ts) otherwise

-- the step is taken where the depth leaves room for an expression in a new frame
abbrev pub with_room : ℕ → List Frame → List Placed → Move → Move
with_room limit st from step = cond (leb (suc (suc (length st))) limit) step (too_deep from)

-- a quantifier or a `let` begins an expression, which leads to the configuration
abbrev pub begin_binding : ℕ → List Frame → Configuration → List Placed → List Placed → Move
begin_binding limit st s from ts = cond (leb (need st) 4) (with_room limit st from (took s ts)) (misplaced from)

-- a symbol that an expression may begin with
abbrev pub starter : Symbol → Bool
starter (name n) = true
starter (number n) = true
starter (prefix_operator op) = true
starter (quantifier q o) = true
starter (let_word o) = true
starter word_true = true
starter word_false = true
starter dollar = true
starter word_empty = true
starter word_pconst = true
starter word_import = true
starter word_export = true
starter word_restrict = true
starter open_round = true
starter open_curly = true
starter _ = false

-- where the depth leaves no room inside a list, which may be closed at once
abbrev pub unopened : List Placed → Move
unopened [] = misplaced []
unopened (placed s a ∷ ts) = cond (starter s) (too_deep (placed s a ∷ ts)) (misplaced (placed s a ∷ ts))

abbrev pub enter_list : ℕ → Context → At → Listing → List Frame → List Placed → Move
enter_list limit c at l st ts = enter limit c (list_frame at l no_expressions) st (unopened ts) ts

-- In what follows `from` are the symbols from the one that has been taken last on, and `ts` those behind it.

-- an expression begins

abbrev pub begin_name : ℕ → Context → List Frame → At → List ℕ → List Placed → Move
begin_name limit c st at n ts =
    either_mark open_round (either_mark close_round (took (holding c (listed at (Call n) no_expressions) st)) (enter_list limit c at (Call n) st)) (took (holding c (atom at (named n)) st)) ts

abbrev pub begin_empty : ℕ → Context → List Frame → At → List Placed → Move
begin_empty limit c st at ts = either_mark open_round (enter limit c (bracket_frame at Emptiness) st (too_deep ts)) (took (holding c (atom at empty_set) st)) ts

abbrev pub begin_literal : ℕ → Context → List Frame → At → List Placed → Move
begin_literal limit c st at ts = either_mark close_curly (took (holding c (listed at Literal no_expressions) st)) (enter_list limit c at Literal st) ts

abbrev pub begin_pconst : Context → List Frame → At → List Placed → Move
begin_pconst c st at ts = mark_then open_round (int_then false (λ v. mark_then close_round (took (holding c (atom at (pconst v)) st)))) ts

abbrev pub begin_import : Context → List Frame → At → List Placed → Move
begin_import c st at ts = mark_then open_round (text_then (λ a file. took (pair_wanted c st at file []))) ts

abbrev pub begin_restrict : Context → List Frame → At → List Placed → Move
begin_restrict c st at ts = mark_then open_round (took (wanted c (bracket_frame at Restriction ∷ st))) ts

abbrev pub begin_export : Context → List Frame → At → List Placed → Move
begin_export c st at ts = mark_then open_round (text_then (λ a file. mark_then comma (took (wanted c (bracket_frame at (Export a file) ∷ st))))) ts

abbrev pub begin : ℕ → Context → List Frame → At → Symbol → List Placed → List Placed → Move
begin limit c st at word_true from ts = took (holding c (atom at truth) st) ts
begin limit c st at word_false from ts = took (holding c (atom at falsity) st) ts
begin limit c st at dollar from ts = took (holding c (atom at whole) st) ts
begin limit c st at (number n) from ts = took (holding c (atom at (numeral n)) st) ts
begin limit c st at (name n) from ts = begin_name limit c st at n ts
begin limit c st at word_empty from ts = begin_empty limit c st at ts
begin limit c st at word_pconst from ts = begin_pconst c st at ts
begin limit c st at word_import from ts = begin_import c st at ts
begin limit c st at word_restrict from ts = with_room limit st from (begin_restrict c st at ts)
begin limit c st at word_export from ts = with_room limit st from (begin_export c st at ts)
begin limit c st at open_round from ts = enter limit c (bracket_frame at Parentheses) st (too_deep from) ts
begin limit c st at open_curly from ts = begin_literal limit c st at ts
begin limit c st at (prefix_operator op) from ts = cond (leb (need st) (prefix_level op)) (enter limit c (prefix_frame at op) st (too_deep from) ts) (misplaced from)
begin limit c st at (quantifier q o) from ts = begin_binding limit st (variable_wanted c st at q o no_variables) from ts
begin limit c st at (let_word o) from ts = begin_binding limit st (part_wanted c st at o no_parts) from ts
begin limit c st at _ from ts = misplaced from

-- an expression goes on, or ends

abbrev pub shift : ℕ → Context → Binary → Top → List Placed → List Placed → Move
shift limit c op (e, st) from ts = cond (leb (left_level op) (level e)) (enter limit c (left_frame op e) st (too_deep from) ts) (misplaced from)

abbrev pub join_new : ℕ → Context → Junction → Expression → List Frame → List Placed → List Placed → Move
join_new limit c op e st from ts =
    cond (leb (suc (junction_level op)) (level e)) (enter limit c (joined_frame (place e) op (and_expression no_expressions e)) st (too_deep from) ts) (misplaced from)

abbrev pub join : ℕ → Context → Junction → Expression → List Frame → List Placed → List Placed → Move
join limit c Conjunction e (joined_frame at Conjunction es ∷ st) from ts = enter limit c (joined_frame at Conjunction (and_expression es e)) st (too_deep from) ts
join limit c Disjunction e (joined_frame at Disjunction es ∷ st) from ts = enter limit c (joined_frame at Disjunction (and_expression es e)) st (too_deep from) ts
join limit c op e st from ts = join_new limit c op e st from ts

abbrev pub shift_int : ℕ → Context → Bool → Expression → List Frame → List Placed → List Placed → Move
shift_int limit c minus e st from ts =
    cond (leb 9 (level e)) (cond (leb (length st + suc (depth e)) limit) (int_then minus (λ n. took (holding c (shifted (place e) e n) st)) ts) (too_deep from)) (misplaced from)

abbrev pub declare : Document → At → Declaration → Document
declare d at x = record { header = d.header; declarations = d.declarations ++ record { at = at; declaration = x } ∷ [] }

-- the parameters of a predicate have ended
abbrev pub body_of : Document → Head → Variables → List Placed → Move
body_of d head vs ts = equal_then (took (wanted (in_predicate d head vs) [])) ts

-- an expression that a bracket has ended
abbrev pub hold : ℕ → Context → Expression → List Frame → List Placed → List Placed → Move
hold limit c e st from ts = cond (leb (depth e) limit) (took (holding c e st) ts) (too_deep from)

abbrev pub close_round_at : ℕ → Context → Expression → List Frame → List Placed → List Placed → Move
close_round_at limit c e (bracket_frame at b ∷ st) from ts = hold limit c (enclosed at b e) st from ts
close_round_at limit c e (list_frame at (Call p) es ∷ st) from ts = hold limit c (listed at (Call p) (and_expression es e)) st from ts
close_round_at limit (in_parameter d head vs o at_v n) e [] from ts = body_of d head (and_variable vs at_v o n (restricted e)) ts
close_round_at limit c e _ from ts = misplaced from

abbrev pub close_curly_at : ℕ → Context → Expression → List Frame → List Placed → List Placed → Move
close_curly_at limit c e (list_frame at Literal es ∷ st) from ts = hold limit c (listed at Literal (and_expression es e)) st from ts
close_curly_at limit c e _ from ts = misplaced from

abbrev pub comma_at : ℕ → Context → Expression → List Frame → List Placed → List Placed → Move
comma_at limit c e (list_frame at l es ∷ st) from ts = enter limit c (list_frame at l (and_expression es e)) st (too_deep from) ts
comma_at limit c e (domain_frame at q o vs at_v n ∷ st) from ts = took (variable_wanted c st at q o (and_variable vs at_v o n (restricted e))) ts
comma_at limit c e (part_frame at o parts at_n n ∷ st) from ts = took (part_wanted c st at o (and_part parts at_n n e)) ts
comma_at limit (in_global d at o vs at_v n) e [] from ts = took (global_wanted d at o (and_variable vs at_v o n (restricted e))) ts
comma_at limit (in_parameter d head vs o at_v n) e [] from ts = took (parameter_wanted d head (and_variable vs at_v o n (restricted e))) ts
comma_at limit c e _ from ts = misplaced from

abbrev pub colon_at : ℕ → Context → Expression → List Frame → List Placed → List Placed → Move
colon_at limit c e (domain_frame at q o vs at_v n ∷ st) from ts = enter limit c (body_frame at q o (and_variable vs at_v o n (restricted e))) st (too_deep from) ts
colon_at limit c e _ from ts = misplaced from

abbrev pub in_at : ℕ → Context → Expression → List Frame → List Placed → List Placed → Move
in_at limit c e (part_frame at o parts at_n n ∷ st) from ts = enter limit c (let_frame at o (and_part parts at_n n e)) st (too_deep from) ts
in_at limit c e _ from ts = misplaced from

abbrev pub semicolon_at : Context → Expression → List Frame → List Placed → List Placed → Move
semicolon_at (in_formula d at) e [] from ts = took (outside (declare d at (formula e))) ts
semicolon_at (in_global d at o vs at_v n) e [] from ts = took (outside (declare d at (variables (and_variable vs at_v o n (restricted e))))) ts
semicolon_at (in_predicate d head vs) e [] from ts = took (outside (declare d head.at (predicate head.is_pred head.at_name head.name vs e))) ts
semicolon_at (in_default d at o n) e [] from ts = took (outside (declare d at (default_restriction o n e))) ts
semicolon_at (in_goal d at at_title title) e [] from ts = took (outside (declare d at (goal at_title title e))) ts
semicolon_at c e _ from ts = misplaced from

abbrev pub settle : ℕ → Context → Symbol → Bool → Top → List Placed → List Placed → Move
settle limit c (infix_operator op) inside top from ts = cond (inside && is_in op) (in_at limit c top.0 top.1 from ts) (shift limit c op top from ts)
settle limit c (joining op) inside top from ts = join limit c op top.0 top.1 from ts
settle limit c (sign minus) inside top from ts = shift_int limit c minus top.0 top.1 from ts
settle limit c close_round inside top from ts = close_round_at limit c top.0 top.1 from ts
settle limit c close_curly inside top from ts = close_curly_at limit c top.0 top.1 from ts
settle limit c comma inside top from ts = comma_at limit c top.0 top.1 from ts
settle limit c colon inside top from ts = colon_at limit c top.0 top.1 from ts
settle limit c semicolon inside top from ts = semicolon_at c top.0 top.1 from ts
settle limit c _ inside top from ts = misplaced from

-- the frames that end before the symbol are completed
abbrev pub go_on : ℕ → Context → Expression → List Frame → Symbol → List Placed → List Placed → Move
go_on limit c e st s from ts = on_top (λ top. settle limit c s (in_part st) top from ts) from (collapse limit (bound (in_part st) s) e st)

-- names and what stands between them

abbrev pub behind_variable : ℕ → Context → List Frame → At → Quant → Order → Variables → At → List ℕ → Symbol → List Placed → List Placed → Move
behind_variable limit c st at q o vs at_v n word_where from ts = enter limit c (domain_frame at q o vs at_v n) st (too_deep from) ts
behind_variable limit c st at q o vs at_v n comma from ts = took (variable_wanted c st at q o (and_variable vs at_v o n unrestricted)) ts
behind_variable limit c st at q o vs at_v n colon from ts = enter limit c (body_frame at q o (and_variable vs at_v o n unrestricted)) st (too_deep from) ts
behind_variable limit c st at q o vs at_v n _ from ts = misplaced from

abbrev pub next_variable : ℕ → Context → List Frame → At → Quant → Order → Variables → List Placed → Move
next_variable limit c st at q o vs ts = name_then (λ at_v n. symbol_then (λ a. behind_variable limit c st at q o vs at_v n)) ts

-- the value of a part behind its name
abbrev pub part_value : ℕ → Context → Frame → List Frame → List Placed → Move
part_value limit c f st ts = equal_then (enter limit c f st (too_deep ts)) ts

abbrev pub next_part : ℕ → Context → List Frame → At → Order → Parts → List Placed → Move
next_part limit c st at o parts ts = name_then (λ at_n n. part_value limit c (part_frame at o parts at_n n) st) ts

abbrev pub next_pair : Context → List Frame → At → List ℕ → List Rename → List Placed → Move
next_pair c st at file pairs ts =
    either_mark close_round (took (holding c (atom at (imported file pairs)) st)) (mark_then comma (pair_then (λ pair. took (pair_wanted c st at file (pairs ++ pair ∷ []))))) ts

abbrev pub behind_global : Document → At → Order → Variables → At → List ℕ → Symbol → List Placed → List Placed → Move
behind_global d at o vs at_v n word_where from ts = took (wanted (in_global d at o vs at_v n) []) ts
behind_global d at o vs at_v n comma from ts = took (global_wanted d at o (and_variable vs at_v o n unrestricted)) ts
behind_global d at o vs at_v n semicolon from ts = took (outside (declare d at (variables (and_variable vs at_v o n unrestricted)))) ts
behind_global d at o vs at_v n _ from ts = misplaced from

abbrev pub next_global : Document → At → Order → Variables → List Placed → Move
next_global d at o vs ts = name_then (λ at_v n. symbol_then (λ a. behind_global d at o vs at_v n)) ts

abbrev pub behind_parameter : Document → Head → Variables → Order → At → List ℕ → Symbol → List Placed → List Placed → Move
behind_parameter d head vs o at_v n word_where from ts = took (wanted (in_parameter d head vs o at_v n) []) ts
behind_parameter d head vs o at_v n comma from ts = took (parameter_wanted d head (and_variable vs at_v o n unrestricted)) ts
behind_parameter d head vs o at_v n close_round from ts = body_of d head (and_variable vs at_v o n unrestricted) ts
behind_parameter d head vs o at_v n _ from ts = misplaced from

abbrev pub next_parameter : Document → Head → Variables → List Placed → Move
next_parameter d head vs ts = kind_then vs (λ o. name_then (λ at_v n. symbol_then (λ a. behind_parameter d head vs o at_v n))) ts

abbrev pub summand : Document → At → At → List ℕ → List PlacedInt → Symbol → List Placed → List Placed → Move
summand d at at_n n sum semicolon from ts = took (outside (declare d at (constant at_n n sum))) ts
summand d at at_n n sum (sign minus) from ts = int_then minus (λ k. took (summand_wanted d at at_n n (sum ++ k ∷ []))) ts
summand d at at_n n sum _ from ts = misplaced from

abbrev pub next_summand : Document → At → At → List ℕ → List PlacedInt → List Placed → Move
next_summand d at at_n n sum ts = symbol_then (λ a. summand d at at_n n sum) ts

-- declarations

abbrev pub begin_constant : Document → At → List Placed → Move
begin_constant d at ts = name_then (λ at_n n. equal_then (int_then false (λ k. took (summand_wanted d at at_n n (k ∷ []))))) ts

abbrev pub behind_predicate : Document → Head → List Placed → Move
behind_predicate d head ts =
    either_mark (infix_operator (Relation Equal)) (took (wanted (in_predicate d head no_variables) []))
    (mark_then open_round (either_mark close_round (body_of d head no_variables) (took (parameter_wanted d head no_variables)))) ts

abbrev pub begin_predicate : Document → At → Bool → List Placed → Move
begin_predicate d at is_pred ts = name_then (λ at_p p. behind_predicate d (head_with at is_pred at_p p)) ts

abbrev pub begin_include : Document → At → List Placed → Move
begin_include d at ts = text_then (λ a file. mark_then semicolon (took (outside (declare d at (included a file))))) ts

abbrev pub begin_default : Document → At → Order → List Placed → Move
begin_default d at o ts = mark_then open_round (name_then (λ a n. mark_then close_round (equal_then (took (wanted (in_default d at o n) []))))) ts

-- a name begins a goal where it is `goal` and a text follows, which is the title, and else a formula
abbrev pub begin_named : ℕ → Document → At → List ℕ → List Placed → Move
begin_named limit d at n (placed (text title) a ∷ ts) =
    cond (bytes_eq n (codes "goal")) (took (wanted (in_goal d at a title) []) ts) (begin_name limit (in_formula d at) [] at n (placed (text title) a ∷ ts))
begin_named limit d at n ts = begin_name limit (in_formula d at) [] at n ts

abbrev pub begin_declaration : ℕ → Document → At → Symbol → List Placed → List Placed → Move
begin_declaration limit d at (kind o) from ts = took (global_wanted d at o no_variables) ts
begin_declaration limit d at word_const from ts = begin_constant d at ts
begin_declaration limit d at (predicate_word is_pred) from ts = begin_predicate d at is_pred ts
begin_declaration limit d at word_include from ts = begin_include d at ts
begin_declaration limit d at (default_word o) from ts = begin_default d at o ts
begin_declaration limit d at (name n) from ts = begin_named limit d at n ts
begin_declaration limit d at s from ts = begin limit (in_formula d at) [] at s from ts

-- one step; each takes a symbol at least
abbrev pub step : ℕ → Configuration → List Placed → Move
step limit (outside d) ts = symbol_then (begin_declaration limit d) ts
step limit (wanted c st) ts = symbol_then (begin limit c st) ts
step limit (holding c e st) ts = symbol_then (λ a. go_on limit c e st) ts
step limit (variable_wanted c st at q o vs) ts = next_variable limit c st at q o vs ts
step limit (part_wanted c st at o parts) ts = next_part limit c st at o parts ts
step limit (pair_wanted c st at file pairs) ts = next_pair c st at file pairs ts
step limit (global_wanted d at o vs) ts = next_global d at o vs ts
step limit (parameter_wanted d head vs) ts = next_parameter d head vs ts
step limit (summand_wanted d at at_n n sum) ts = next_summand d at at_n n sum ts

-- the header, and the symbols behind it
abbrev pub headed : List ℕ → List ℕ → At → List Placed → List Placed → Document × List Placed
headed n m at ts all =
    cond (bytes_eq n (codes "m2l") && bytes_eq m (codes "str")) (record { header = Some (at, M2lStr); declarations = [] }, ts) (record { header = None; declarations = [] }, all)

abbrev pub start : List Placed → Document × List Placed
start (placed word_ws1s at ∷ placed semicolon a1 ∷ ts) = (record { header = Some (at, Ws1s); declarations = [] }, ts)
start (placed (name n) at ∷ placed (sign true) a1 ∷ placed (name m) a2 ∷ placed semicolon a3 ∷ ts) =
    headed n m at ts (placed (name n) at ∷ placed (sign true) a1 ∷ placed (name m) a2 ∷ placed semicolon a3 ∷ ts)
start ts = (record { header = None; declarations = [] }, ts)

-- what has been read where nothing is left
abbrev pub finished : Configuration → List Placed → Option Document
finished (outside d) [] = Some d
finished _ _ = None

abbrev pub goes_on : (Configuration → List Placed → Option Document) → Move → Option Document
goes_on further (took s ts) = further s ts
goes_on further (misplaced from) = None
goes_on further (too_deep from) = None

-- what so many steps read
abbrev pub run : ℕ → ℕ → Configuration → List Placed → Option Document
run limit zero s ts = finished s ts
run limit (suc n) s ts = goes_on (run limit n) (step limit s ts)

-- from this configuration the symbols are read as the document
abbrev pub Runs : ℕ → Configuration → List Placed → Document → Type 0
Runs limit s ts d = (n : ℕ) × (run limit n s ts ≡ Some d)
