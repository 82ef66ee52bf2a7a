-- How each configuration that fits the depth can be led to the end: what is open is closed, frame by frame.
use Rattle.std.proofs.Common.{◌≡◌, ℕ, suc, ◌+◌, ◌≤◌, Bool, true, false, List, [], ◌∷◌, length, refl, sym, subst, arith}
use Rattle.std.proofs.lemmas.Bool.{le-leb}
use Rattle.ms_list.specs.declared.at.At.{At}
use Rattle.ms_logic.specs.declared.mode.Rel.TheVariants.{Equal, Member}
use Rattle.ms_parse_grammar.specs.declared.operator.Binary.TheVariants.{Relation}
use Rattle.ms_parse_grammar.specs.declared.operator.Listing.{Listing}
use Rattle.ms_parse_grammar.specs.declared.operator.Listing.TheVariants.{Literal, Call}
use Rattle.ms_parse_grammar.specs.Tree.{truth}
use Rattle.ms_parse_grammar.specs.Tree.{Expression, atom, prefixed, binary, joined, enclosed, listed, quantified, let_in, and_expression, and_variable, restricted, and_part, Document}
use Rattle.ms_parse_grammar.specs.Grammar.{right_level, operand_level, junction_level, depth}
use Rattle.ms_parse_grammar.specs.Reads.{place}
use Rattle.ms_parse_grammar.specs.Symbol.{Symbol, infix_operator, word_true, close_round, close_curly, colon, semicolon, Placed, placed}
use Rattle.ms_parse_steps.specs.inner.Machine.{Frame, prefix_frame, left_frame, joined_frame, bracket_frame, list_frame, domain_frame, body_frame, part_frame, let_frame, Context, in_formula, in_global, in_parameter, in_predicate, in_default, in_goal, Configuration, wanted, holding, in_part, frame_depth, ends, completed, bound, step, Runs, took, too_deep}
use Rattle.ms_parse_steps.proofs.Frames.{chosen_yes}
use Rattle.ms_parse_steps.proofs.Lookahead.{stands_alone}
use Rattle.ms_parse_steps.proofs.Moves.{depth_positive}
use Rattle.ms_parse_steps.proofs.Steps.{by_step, ended, entered}

-- any place
abbrev pub anywhere : At
anywhere = record { file = 0; place = 0 }

abbrev pub symbol : Symbol → Placed
symbol s = placed s anywhere

-- what ends the declaration
abbrev pub ending : Context → List Placed
ending (in_parameter d head vs o at_v n) = symbol close_round ∷ symbol (infix_operator (Relation Equal)) ∷ symbol word_true ∷ symbol semicolon ∷ []
ending _ = symbol semicolon ∷ []

abbrev pub closing_bracket : Listing → Symbol
closing_bracket Literal = close_curly
closing_bracket (Call p) = close_round

-- what ends each frame and the declaration
abbrev pub closing : Context → List Frame → List Placed
closing c [] = ending c
closing c (prefix_frame at op ∷ st) = closing c st
closing c (left_frame op l ∷ st) = closing c st
closing c (joined_frame at op es ∷ st) = closing c st
closing c (bracket_frame at b ∷ st) = symbol close_round ∷ closing c st
closing c (list_frame at l es ∷ st) = symbol (closing_bracket l) ∷ closing c st
closing c (domain_frame at q o vs at_v n ∷ st) = symbol colon ∷ symbol word_true ∷ closing c st
closing c (body_frame at q o vs ∷ st) = closing c st
closing c (part_frame at o parts at_n n ∷ st) = symbol (infix_operator (Relation Member)) ∷ symbol word_true ∷ closing c st
closing c (let_frame at o parts ∷ st) = closing c st

-- the first symbol of it ends each frame that it can end, and a name before it stands alone
record Closes (inside : Bool) (ts : List Placed) : Type 0 where
  pub first : Symbol
  pub at : At
  pub more : List Placed
  pub split : ts ≡ placed first at ∷ more
  pub loose : bound inside first ≡ 0
  pub apart : (may : Bool) → stands_alone may ts ≡ true

ending_closes : (c : Context) → Closes false (ending c)
ending_closes (in_parameter d head vs o at_v n) =
    record { first = close_round; at = anywhere; more = symbol (infix_operator (Relation Equal)) ∷ symbol word_true ∷ symbol semicolon ∷ []; split = refl; loose = refl; apart = λ may. refl }
ending_closes (in_formula d at) = record { first = semicolon; at = anywhere; more = []; split = refl; loose = refl; apart = λ may. refl }
ending_closes (in_global d at o vs at_v n) = record { first = semicolon; at = anywhere; more = []; split = refl; loose = refl; apart = λ may. refl }
ending_closes (in_predicate d head vs) = record { first = semicolon; at = anywhere; more = []; split = refl; loose = refl; apart = λ may. refl }
ending_closes (in_default d at o n) = record { first = semicolon; at = anywhere; more = []; split = refl; loose = refl; apart = λ may. refl }
ending_closes (in_goal d at at_title title) = record { first = semicolon; at = anywhere; more = []; split = refl; loose = refl; apart = λ may. refl }

closes : (c : Context) (st : List Frame) → Closes (in_part st) (closing c st)
closes c [] = ending_closes c
closes c (prefix_frame at op ∷ st) = closes c st
closes c (left_frame op l ∷ st) = closes c st
closes c (joined_frame at op es ∷ st) = closes c st
closes c (bracket_frame at b ∷ st) = record { first = close_round; at = anywhere; more = closing c st; split = refl; loose = refl; apart = λ may. refl }
closes c (list_frame at Literal es ∷ st) = record { first = close_curly; at = anywhere; more = closing c st; split = refl; loose = refl; apart = λ may. refl }
closes c (list_frame at (Call p) es ∷ st) = record { first = close_round; at = anywhere; more = closing c st; split = refl; loose = refl; apart = λ may. refl }
closes c (domain_frame at q o vs at_v n ∷ st) = record { first = colon; at = anywhere; more = symbol word_true ∷ closing c st; split = refl; loose = refl; apart = λ may. refl }
closes c (body_frame at q o vs ∷ st) = closes c st
closes c (part_frame at o parts at_n n ∷ st) =
    record { first = infix_operator (Relation Member); at = anywhere; more = symbol word_true ∷ closing c st; split = refl; loose = refl; apart = λ may. refl }
closes c (let_frame at o parts ∷ st) = closes c st

pub closing_apart : (c : Context) (st : List Frame) (may : Bool) → stands_alone may (closing c st) ≡ true
closing_apart c st = (closes c st).apart

-- each frame, with the expressions in it, leaves room for one expression more
abbrev pub FramesFit : ℕ → List Frame → Type 0
FramesFit limit [] = Unit {0}
FramesFit limit (f ∷ st) = FramesFit limit st × (suc (length st) + frame_depth f ≤ limit)

-- some document is read
abbrev pub RunsToEnd : ℕ → Configuration → List Placed → Type 0
RunsToEnd limit s ts = (d : Document) × Runs limit s ts d

-- a frame that its operand ends
frame_ends : (limit : ℕ) (c : Context) (f : Frame) (e : Expression) (st : List Frame) → ((b : ℕ) → b ≡ 0 → ends b f ≡ true) → depth (completed f e) ≤ limit → in_part (f ∷ st) ≡ in_part st
    → RunsToEnd limit (holding c (completed f e) st) (closing c st) → RunsToEnd limit (holding c e (f ∷ st)) (closing c st)
frame_ends limit c f e st ends_with deep same (d, runs) =
    let end = closes c st in (
      d,
      subst (λ ts. Runs limit (holding c e (f ∷ st)) ts d) (sym end.split)
          (ended limit c f e st end.first end.at end.more d (ends_with (bound (in_part st) end.first) end.loose) deep same
          (subst (λ ts. Runs limit (holding c (completed f e) st) ts d) end.split runs)),
    )

pub further : (limit : ℕ) (s s' : Configuration) (ts ts' : List Placed) → step limit s ts ≡ took s' ts' → RunsToEnd limit s' ts' → RunsToEnd limit s ts
further limit s s' ts ts' stepped (d, runs) = (d, by_step limit s ts ts s' ts' d refl stepped runs)

-- a frame whose operand is `true`
pub body_ends : (limit : ℕ) (c : Context) (f : Frame) (st : List Frame) → ((b : ℕ) → b ≡ 0 → ends b f ≡ true) → depth (completed f (atom anywhere truth)) ≤ limit → in_part (f ∷ st) ≡ in_part st
    → RunsToEnd limit (holding c (completed f (atom anywhere truth)) st) (closing c st) → RunsToEnd limit (wanted c (f ∷ st)) (symbol word_true ∷ closing c st)
body_ends limit c f st ends_with deep same runs =
    further limit (wanted c (f ∷ st)) (holding c (atom anywhere truth) (f ∷ st)) (symbol word_true ∷ closing c st) (closing c st) refl
    (frame_ends limit c f (atom anywhere truth) st ends_with deep same runs)

-- the declaration ends
whole_ends : (limit : ℕ) (c : Context) (e : Expression) → RunsToEnd limit (holding c e []) (ending c)
whole_ends limit (in_parameter d head vs o at_v n) e = (_, (3, refl))
whole_ends limit (in_formula d at) e = (_, (1, refl))
whole_ends limit (in_global d at o vs at_v n) e = (_, (1, refl))
whole_ends limit (in_predicate d head vs) e = (_, (1, refl))
whole_ends limit (in_default d at o n) e = (_, (1, refl))
whole_ends limit (in_goal d at at_title title) e = (_, (1, refl))

pub held_ends : (limit : ℕ) (c : Context) (st : List Frame) (e : Expression) → FramesFit limit st → length st + depth e ≤ limit → RunsToEnd limit (holding c e st) (closing c st)
held_ends limit c [] e fit deep = whole_ends limit c e
held_ends limit c (prefix_frame at op ∷ st) e fit deep =
    frame_ends limit c (prefix_frame at op) e st (λ b is. le-leb b (operand_level op) (omega arith)) (omega arith) refl (held_ends limit c st (prefixed at op e) fit.0 (omega arith))
held_ends limit c (left_frame op l ∷ st) e fit deep =
    frame_ends limit c (left_frame op l) e st (λ b is. le-leb b (right_level op) (omega arith)) (omega arith) refl (held_ends limit c st (binary (place l) op l e) fit.0 (omega arith))
held_ends limit c (joined_frame at op es ∷ st) e fit deep =
    frame_ends limit c (joined_frame at op es) e st (λ b is. le-leb b (junction_level op) (omega arith)) (omega arith) refl (held_ends limit c st (joined at op (and_expression es e)) fit.0 (omega arith))
held_ends limit c (bracket_frame at b ∷ st) e fit deep =
    further limit (holding c e (bracket_frame at b ∷ st)) (holding c (enclosed at b e) st) (symbol close_round ∷ closing c st) (closing c st)
    (chosen_yes _ (took (holding c (enclosed at b e) st) (closing c st)) (too_deep _) (le-leb (suc (depth e)) limit (omega arith)))
    (held_ends limit c st (enclosed at b e) fit.0 (omega arith))
held_ends limit c (list_frame at Literal es ∷ st) e fit deep =
    let x = listed at Literal (and_expression es e) in
    further limit (holding c e (list_frame at Literal es ∷ st)) (holding c x st) (symbol close_curly ∷ closing c st) (closing c st)
    (chosen_yes _ (took (holding c x st) (closing c st)) (too_deep _) (le-leb (depth x) limit (omega arith)))
    (held_ends limit c st x fit.0 (omega arith))
held_ends limit c (list_frame at (Call p) es ∷ st) e fit deep =
    let x = listed at (Call p) (and_expression es e) in
    further limit (holding c e (list_frame at (Call p) es ∷ st)) (holding c x st) (symbol close_round ∷ closing c st) (closing c st)
    (chosen_yes _ (took (holding c x st) (closing c st)) (too_deep _) (le-leb (depth x) limit (omega arith)))
    (held_ends limit c st x fit.0 (omega arith))
held_ends limit c (domain_frame at q o vs at_v n ∷ st) e fit deep =
    let f = body_frame at q o (and_variable vs at_v o n (restricted e)) in
    let some = depth_positive e in
    further limit (holding c e (domain_frame at q o vs at_v n ∷ st)) (wanted c (f ∷ st)) (symbol colon ∷ symbol word_true ∷ closing c st) (symbol word_true ∷ closing c st)
    (entered limit c f st _ (symbol word_true ∷ closing c st) (omega arith) (omega arith))
    (body_ends limit c f st (λ b is. le-leb b 0 (omega arith)) (omega arith) refl
    (held_ends limit c st (completed f (atom anywhere truth)) fit.0 (omega arith)))
held_ends limit c (body_frame at q o vs ∷ st) e fit deep =
    frame_ends limit c (body_frame at q o vs) e st (λ b is. le-leb b 0 (omega arith)) (omega arith) refl (held_ends limit c st (quantified at q o vs e) fit.0 (omega arith))
held_ends limit c (part_frame at o parts at_n n ∷ st) e fit deep =
    let f = let_frame at o (and_part parts at_n n e) in
    let some = depth_positive e in
    further limit (holding c e (part_frame at o parts at_n n ∷ st)) (wanted c (f ∷ st)) (symbol (infix_operator (Relation Member)) ∷ symbol word_true ∷ closing c st) (symbol word_true ∷ closing c st)
    (entered limit c f st _ (symbol word_true ∷ closing c st) (omega arith) (omega arith))
    (body_ends limit c f st (λ b is. le-leb b 0 (omega arith)) (omega arith) refl
    (held_ends limit c st (completed f (atom anywhere truth)) fit.0 (omega arith)))
held_ends limit c (let_frame at o parts ∷ st) e fit deep =
    frame_ends limit c (let_frame at o parts) e st (λ b is. le-leb b 0 (omega arith)) (omega arith) refl (held_ends limit c st (let_in at o parts e) fit.0 (omega arith))
