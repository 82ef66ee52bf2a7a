-- What a step finds at a symbol behind an expression.
use Rattle.std.proofs.Common.{◌≡◌, ℕ, suc, ◌+◌, ◌≤◌, leb, Bool, true, cond, ◌&&◌, inl, List, [], ◌∷◌, length, refl, sym, ◌∙◌, subst, arith}
use Rattle.std.proofs.lemmas.Bool.{le-leb, leb-true}
use Rattle.ms_list.specs.declared.at.At.{At}
use Rattle.ms_logic.specs.declared.source.PlacedInt.{PlacedInt}
use Rattle.ms_parse_grammar.specs.Symbol.{Symbol, number, infix_operator, joining, sign, close_round, close_curly, comma, colon, semicolon, Placed, placed}
use Rattle.ms_parse_grammar.specs.declared.operator.Binary.{Binary}
use Rattle.ms_parse_grammar.specs.declared.operator.Junction.{Junction}
use Rattle.ms_parse_grammar.specs.declared.operator.Junction.TheVariants.{Conjunction, Disjunction}
use Rattle.ms_parse_grammar.specs.declared.operator.Listing.TheVariants.{Literal, Call}
use Rattle.ms_parse_grammar.specs.Tree.{Expression, shifted, enclosed, listed, no_expressions, and_expression, and_variable, restricted, and_part}
use Rattle.ms_parse_grammar.specs.Tree.{variables, predicate, default_restriction, formula, goal}
use Rattle.ms_parse_grammar.specs.Grammar.{left_level, junction_level, level, is_in, depth}
use Rattle.ms_parse_grammar.specs.Reads.{place}
use Rattle.ms_parse_steps.specs.inner.Machine.{Frame, left_frame, joined_frame, bracket_frame, list_frame, domain_frame, body_frame, part_frame, let_frame, Context, in_formula, in_global, in_parameter, in_predicate, in_default, in_goal, outside, holding, variable_wanted, part_wanted, global_wanted, parameter_wanted, Move, took, misplaced, too_deep, Top, enter, int_then, shift, join_new, join, shift_int, declare, body_of, hold, close_round_at, close_curly_at, comma_at, colon_at, in_at, semicolon_at, settle}
use Rattle.ms_parse_steps.proofs.Closing.{symbol, FramesFit}
use Rattle.ms_parse_steps.proofs.Finding.{Finds, first_deep, stuck_deep, refuse, takes, goes, took_tells, int_tells, enter_finds}
use Rattle.ms_parse_steps.proofs.FindingNames.{body_tells}
use Rattle.ms_parse_steps.proofs.Frames.{chosen, chosen_yes, chosen_no}
use Rattle.ms_parse_steps.proofs.Lookahead.{may_follow}
use Rattle.ms_parse_steps.proofs.Moves.{depth_positive}

-- an expression that is not too deep
hold_finds : (limit : ℕ) (c : Context) (e : Expression) (st : List Frame) (g : ℕ → List Placed → Move) (y : Placed) (ts : List Placed) → FramesFit limit st → length st + depth e ≤ limit
    → ((more : List Placed) → may_follow (holding c e st) more ≡ true) → ((l : ℕ) (more : List Placed) → limit ≤ l → g l (y ∷ more) ≡ hold l c e st (y ∷ more) more) → Finds limit g (y ∷ ts) (hold limit c e st (y ∷ ts) ts)
hold_finds limit c e st g y ts fit deep free same =
    subst (λ b. Finds limit g (y ∷ ts) (cond b (took (holding c e st) ts) (too_deep (y ∷ ts)))) (sym (le-leb (depth e) limit (omega arith)))
    (takes limit g y ts (holding c e st) (fit, deep) (free ts) (λ l more above may. same l more above ∙ chosen_yes (leb (depth e) l) (took (holding c e st) more) (too_deep (y ∷ more)) (le-leb (depth e) l (omega arith))))

shift_finds : (limit : ℕ) (c : Context) (op : Binary) (e : Expression) (st : List Frame) (g : ℕ → List Placed → Move) (y : Placed) (ts : List Placed) → FramesFit limit st → length st + depth e ≤ limit
    → ((l : ℕ) (more : List Placed) → limit ≤ l → g l (y ∷ more) ≡ shift l c op (e, st) (y ∷ more) more) → Finds limit g (y ∷ ts) (shift limit c op (e, st) (y ∷ ts) ts)
shift_finds limit c op e st g y ts fit deep same =
    let f = left_frame op e in
    let high = leb (left_level op) (level e) in
    chosen (Finds limit g (y ∷ ts)) high (enter limit c f st (too_deep (y ∷ ts)) ts) (misplaced (y ∷ ts))
    (λ is. enter_finds limit c f st g y ts fit (λ more. refl) (λ l more above. same l more above ∙ chosen_yes high (enter l c f st (too_deep (y ∷ more)) more) (misplaced (y ∷ more)) is) (omega arith))
    (λ low. refuse limit g y ts (λ l more above. same l more above ∙ chosen_no high (enter l c f st (too_deep (y ∷ more)) more) (misplaced (y ∷ more)) low))

join_new_finds : (limit : ℕ) (c : Context) (op : Junction) (e : Expression) (st : List Frame) (g : ℕ → List Placed → Move) (y : Placed) (ts : List Placed) → FramesFit limit st → length st + depth e ≤ limit
    → ((l : ℕ) (more : List Placed) → limit ≤ l → g l (y ∷ more) ≡ join_new l c op e st (y ∷ more) more) → Finds limit g (y ∷ ts) (join_new limit c op e st (y ∷ ts) ts)
join_new_finds limit c op e st g y ts fit deep same =
    let f = joined_frame (place e) op (and_expression no_expressions e) in
    let high = leb (suc (junction_level op)) (level e) in
    chosen (Finds limit g (y ∷ ts)) high (enter limit c f st (too_deep (y ∷ ts)) ts) (misplaced (y ∷ ts))
    (λ is. enter_finds limit c f st g y ts fit (λ more. refl) (λ l more above. same l more above ∙ chosen_yes high (enter l c f st (too_deep (y ∷ more)) more) (misplaced (y ∷ more)) is) (omega arith))
    (λ low. refuse limit g y ts (λ l more above. same l more above ∙ chosen_no high (enter l c f st (too_deep (y ∷ more)) more) (misplaced (y ∷ more)) low))

join_finds : (limit : ℕ) (c : Context) (op : Junction) (e : Expression) (st : List Frame) (g : ℕ → List Placed → Move) (y : Placed) (ts : List Placed) → FramesFit limit st → length st + depth e ≤ limit
    → ((l : ℕ) (more : List Placed) → limit ≤ l → g l (y ∷ more) ≡ join l c op e st (y ∷ more) more) → Finds limit g (y ∷ ts) (join limit c op e st (y ∷ ts) ts)
join_finds limit c Conjunction e (joined_frame at Conjunction es ∷ st) g y ts fit deep same =
    enter_finds limit c (joined_frame at Conjunction (and_expression es e)) st g y ts fit.0 (λ more. refl) same (omega (arith, fit.1))
join_finds limit c Disjunction e (joined_frame at Disjunction es ∷ st) g y ts fit deep same =
    enter_finds limit c (joined_frame at Disjunction (and_expression es e)) st g y ts fit.0 (λ more. refl) same (omega (arith, fit.1))
join_finds limit c op e st g y ts fit deep same = join_new_finds limit c op e st g y ts fit deep same

-- the number or constant behind a sign
shift_int_finds : (limit : ℕ) (c : Context) (minus : Bool) (e : Expression) (st : List Frame) (g : ℕ → List Placed → Move) (y : Placed) (ts : List Placed) → FramesFit limit st → length st + depth e ≤ limit
    → ((l : ℕ) (more : List Placed) → limit ≤ l → g l (y ∷ more) ≡ shift_int l c minus e st (y ∷ more) more) → Finds limit g (y ∷ ts) (shift_int limit c minus e st (y ∷ ts) ts)
shift_int_finds limit c minus e st g y ts fit deep same =
    let n = length st + suc (depth e) in
    let s = λ (k : PlacedInt). holding c (shifted (place e) e k) st in
    let f : ℕ → List Placed → Move = λ l. int_then minus (λ k. took (s k)) in
    let room = λ (l : ℕ) (more : List Placed). cond (leb n l) (f l more) (too_deep (y ∷ more)) in
    let deeper = suc (suc limit) in
    chosen (Finds limit g (y ∷ ts)) (leb 9 (level e)) (room limit ts) (misplaced (y ∷ ts))
    (λ high. let passes : (l : ℕ) (more : List Placed) → limit ≤ l → g l (y ∷ more) ≡ room l more = λ l more above. same l more above ∙ chosen_yes (leb 9 (level e)) (room l more) (misplaced (y ∷ more)) high in
    chosen (Finds limit g (y ∷ ts)) (leb n limit) (f limit ts) (too_deep (y ∷ ts))
    (λ fits. let small = leb-true n limit fits in
    goes limit f g y ts (λ l more above. passes l more above ∙ chosen_yes (leb n l) (f l more) (too_deep (y ∷ more)) (le-leb n l (omega (arith, small))))
    (int_tells limit minus (λ k l. took (s k)) (λ k. took_tells limit (s k) (fit, small) (λ more. refl))))
    (λ full. first_deep limit g (y ∷ ts) (
      λ more. stuck_deep (g limit (y ∷ more)) (y ∷ more) (passes limit more (omega arith) ∙ chosen_no (leb n limit) (f limit more) (too_deep (y ∷ more)) full),
      symbol (number 0) ∷ [],
      inl (_, passes deeper (symbol (number 0) ∷ []) (omega arith) ∙ chosen_yes (leb n deeper) (f deeper (symbol (number 0) ∷ [])) (too_deep (y ∷ symbol (number 0) ∷ [])) (le-leb n deeper (omega arith))),
    )))
    (λ low. refuse limit g y ts (λ l more above. same l more above ∙ chosen_no (leb 9 (level e)) (room l more) (misplaced (y ∷ more)) low))

-- the ends of brackets, entries, variables, parts and declarations

close_round_finds : (limit : ℕ) (c : Context) (e : Expression) (st : List Frame) (g : ℕ → List Placed → Move) (y : Placed) (ts : List Placed) → 1 ≤ limit → FramesFit limit st → length st + depth e ≤ limit
    → ((l : ℕ) (more : List Placed) → limit ≤ l → g l (y ∷ more) ≡ close_round_at l c e st (y ∷ more) more) → Finds limit g (y ∷ ts) (close_round_at limit c e st (y ∷ ts) ts)
close_round_finds limit c e (bracket_frame at b ∷ st) g y ts some fit deep same = hold_finds limit c (enclosed at b e) st g y ts fit.0 (omega arith) (λ more. refl) same
close_round_finds limit c e (list_frame at (Call p) es ∷ st) g y ts some fit deep same = hold_finds limit c (listed at (Call p) (and_expression es e)) st g y ts fit.0 (omega (arith, fit.1)) (λ more. refl) same
close_round_finds limit (in_parameter d head vs o at_v n) e [] g y ts some fit deep same =
    let body = and_variable vs at_v o n (restricted e) in goes limit (λ l. body_of d head body) g y ts same (body_tells limit d head body some)
close_round_finds limit c e _ g y ts some fit deep same = refuse limit g y ts same

close_curly_finds : (limit : ℕ) (c : Context) (e : Expression) (st : List Frame) (g : ℕ → List Placed → Move) (y : Placed) (ts : List Placed) → FramesFit limit st → length st + depth e ≤ limit
    → ((l : ℕ) (more : List Placed) → limit ≤ l → g l (y ∷ more) ≡ close_curly_at l c e st (y ∷ more) more) → Finds limit g (y ∷ ts) (close_curly_at limit c e st (y ∷ ts) ts)
close_curly_finds limit c e (list_frame at Literal es ∷ st) g y ts fit deep same = hold_finds limit c (listed at Literal (and_expression es e)) st g y ts fit.0 (omega (arith, fit.1)) (λ more. refl) same
close_curly_finds limit c e _ g y ts fit deep same = refuse limit g y ts same

comma_finds : (limit : ℕ) (c : Context) (e : Expression) (st : List Frame) (g : ℕ → List Placed → Move) (y : Placed) (ts : List Placed) → FramesFit limit st → length st + depth e ≤ limit
    → ((l : ℕ) (more : List Placed) → limit ≤ l → g l (y ∷ more) ≡ comma_at l c e st (y ∷ more) more) → Finds limit g (y ∷ ts) (comma_at limit c e st (y ∷ ts) ts)
comma_finds limit c e (list_frame at k es ∷ st) g y ts fit deep same = enter_finds limit c (list_frame at k (and_expression es e)) st g y ts fit.0 (λ more. refl) same (omega (arith, fit.1))
comma_finds limit c e (domain_frame at q o vs at_v n ∷ st) g y ts fit deep same =
    let some = depth_positive e in takes limit g y ts (variable_wanted c st at q o (and_variable vs at_v o n (restricted e))) (fit.0, omega arith, omega (arith, fit.1)) refl (λ l more above may. same l more above)
comma_finds limit c e (part_frame at o parts at_n n ∷ st) g y ts fit deep same =
    let some = depth_positive e in takes limit g y ts (part_wanted c st at o (and_part parts at_n n e)) (fit.0, omega arith, omega (arith, fit.1)) refl (λ l more above may. same l more above)
comma_finds limit (in_global d at o vs at_v n) e [] g y ts fit deep same = takes limit g y ts (global_wanted d at o (and_variable vs at_v o n (restricted e))) tt refl (λ l more above may. same l more above)
comma_finds limit (in_parameter d head vs o at_v n) e [] g y ts fit deep same =
    takes limit g y ts (parameter_wanted d head (and_variable vs at_v o n (restricted e))) tt refl (λ l more above may. same l more above)
comma_finds limit c e _ g y ts fit deep same = refuse limit g y ts same

colon_finds : (limit : ℕ) (c : Context) (e : Expression) (st : List Frame) (g : ℕ → List Placed → Move) (y : Placed) (ts : List Placed) → FramesFit limit st → length st + depth e ≤ limit
    → ((l : ℕ) (more : List Placed) → limit ≤ l → g l (y ∷ more) ≡ colon_at l c e st (y ∷ more) more) → Finds limit g (y ∷ ts) (colon_at limit c e st (y ∷ ts) ts)
colon_finds limit c e (domain_frame at q o vs at_v n ∷ st) g y ts fit deep same =
    enter_finds limit c (body_frame at q o (and_variable vs at_v o n (restricted e))) st g y ts fit.0 (λ more. refl) same (omega (arith, fit.1))
colon_finds limit c e _ g y ts fit deep same = refuse limit g y ts same

in_finds : (limit : ℕ) (c : Context) (e : Expression) (st : List Frame) (g : ℕ → List Placed → Move) (y : Placed) (ts : List Placed) → FramesFit limit st → length st + depth e ≤ limit
    → ((l : ℕ) (more : List Placed) → limit ≤ l → g l (y ∷ more) ≡ in_at l c e st (y ∷ more) more) → Finds limit g (y ∷ ts) (in_at limit c e st (y ∷ ts) ts)
in_finds limit c e (part_frame at o parts at_n n ∷ st) g y ts fit deep same = enter_finds limit c (let_frame at o (and_part parts at_n n e)) st g y ts fit.0 (λ more. refl) same (omega (arith, fit.1))
in_finds limit c e _ g y ts fit deep same = refuse limit g y ts same

semicolon_finds : (limit : ℕ) (c : Context) (e : Expression) (st : List Frame) (g : ℕ → List Placed → Move) (y : Placed) (ts : List Placed)
    → ((l : ℕ) (more : List Placed) → limit ≤ l → g l (y ∷ more) ≡ semicolon_at c e st (y ∷ more) more) → Finds limit g (y ∷ ts) (semicolon_at c e st (y ∷ ts) ts)
semicolon_finds limit (in_formula d at) e [] g y ts same = takes limit g y ts (outside (declare d at (formula e))) tt refl (λ l more above may. same l more above)
semicolon_finds limit (in_global d at o vs at_v n) e [] g y ts same = takes limit g y ts (outside (declare d at (variables (and_variable vs at_v o n (restricted e))))) tt refl (λ l more above may. same l more above)
semicolon_finds limit (in_predicate d head vs) e [] g y ts same = takes limit g y ts (outside (declare d head.at (predicate head.is_pred head.at_name head.name vs e))) tt refl (λ l more above may. same l more above)
semicolon_finds limit (in_default d at o n) e [] g y ts same = takes limit g y ts (outside (declare d at (default_restriction o n e))) tt refl (λ l more above may. same l more above)
semicolon_finds limit (in_goal d at at_title title) e [] g y ts same =
    takes limit g y ts (outside (declare d at (goal at_title title e))) tt refl (λ l more above may. same l more above)
semicolon_finds limit c e _ g y ts same = refuse limit g y ts same

pub settle_finds : (limit : ℕ) (c : Context) (s : Symbol) (inside : Bool) (top : Top) (g : ℕ → List Placed → Move) (a : At) (ts : List Placed) → 1 ≤ limit → FramesFit limit top.1 → length top.1 + depth top.0 ≤ limit
    → ((l : ℕ) (more : List Placed) → limit ≤ l → g l (placed s a ∷ more) ≡ settle l c s inside top (placed s a ∷ more) more) → Finds limit g (placed s a ∷ ts) (settle limit c s inside top (placed s a ∷ ts) ts)
settle_finds limit c (infix_operator op) inside (e, st) g a ts some fit deep same =
    let y = placed (infix_operator op) a in
    chosen (Finds limit g (y ∷ ts)) (inside && is_in op) (in_at limit c e st (y ∷ ts) ts) (shift limit c op (e, st) (y ∷ ts) ts)
    (λ is. in_finds limit c e st g y ts fit deep (λ l more above. same l more above ∙ chosen_yes (inside && is_in op) (in_at l c e st (y ∷ more) more) (shift l c op (e, st) (y ∷ more) more) is))
    (λ is_not. shift_finds limit c op e st g y ts fit deep (λ l more above. same l more above ∙ chosen_no (inside && is_in op) (in_at l c e st (y ∷ more) more) (shift l c op (e, st) (y ∷ more) more) is_not))
settle_finds limit c (joining op) inside (e, st) g a ts some fit deep same = join_finds limit c op e st g (placed (joining op) a) ts fit deep same
settle_finds limit c (sign minus) inside (e, st) g a ts some fit deep same = shift_int_finds limit c minus e st g (placed (sign minus) a) ts fit deep same
settle_finds limit c close_round inside (e, st) g a ts some fit deep same = close_round_finds limit c e st g (placed close_round a) ts some fit deep same
settle_finds limit c close_curly inside (e, st) g a ts some fit deep same = close_curly_finds limit c e st g (placed close_curly a) ts fit deep same
settle_finds limit c comma inside (e, st) g a ts some fit deep same = comma_finds limit c e st g (placed comma a) ts fit deep same
settle_finds limit c colon inside (e, st) g a ts some fit deep same = colon_finds limit c e st g (placed colon a) ts fit deep same
settle_finds limit c semicolon inside (e, st) g a ts some fit deep same = semicolon_finds limit c e st g (placed semicolon a) ts same
settle_finds limit c s inside top g a ts some fit deep same = refuse limit g (placed s a) ts same
