-- What a step finds where a name is wanted, and at the beginning of a declaration.
use Rattle.std.proofs.Common.{◌≡◌, ℕ, suc, ◌+◌, ◌≤◌, max, Bool, true, false, List, [], ◌∷◌, ◌++◌, length, refl, arith}
use Rattle.ms_list.specs.declared.at.At.{At}
use Rattle.ms_logic.specs.declared.mode.Order.{Order}
use Rattle.ms_logic.specs.declared.mode.Quant.{Quant}
use Rattle.ms_logic.specs.declared.mode.Rel.TheVariants.{Equal}
use Rattle.ms_logic.specs.declared.source.PlacedInt.{PlacedInt}
use Rattle.ms_logic.specs.declared.source.Rename.{Rename}
use Rattle.ms_parse_grammar.specs.Symbol.{Symbol, name, infix_operator, sign, kind, word_where, open_round, close_round, comma, colon, semicolon, arrow, Placed, placed}
use Rattle.ms_parse_grammar.specs.declared.operator.Binary.TheVariants.{Relation}
use Rattle.ms_parse_grammar.specs.Tree.{Variables, no_variables, and_variable, unrestricted, Parts}
use Rattle.ms_parse_grammar.specs.Tree.{atom, imported, variables, constant, included, Document}
use Rattle.ms_parse_grammar.specs.Grammar.{depth_of_domains, depth_of_values}
use Rattle.ms_parse_steps.specs.inner.Machine.{Head, head_with, Frame, domain_frame, body_frame, part_frame, Context, in_global, in_parameter, in_predicate, in_default, outside, wanted, holding, variable_wanted, pair_wanted, global_wanted, parameter_wanted, summand_wanted, Move, took, misplaced, too_deep, frame_depth, enter, is_mark, either_mark, mark_then, equal_then, name_then, int_then, symbol_then, kind_then, pair_then, declare, body_of, behind_variable, next_variable, part_value, next_part, next_pair, behind_global, next_global, behind_parameter, next_parameter, summand, next_summand, begin_constant, behind_predicate, begin_predicate, begin_include, begin_default}
use Rattle.ms_parse_steps.proofs.Closing.{symbol, FramesFit}
use Rattle.ms_parse_steps.proofs.Finding.{Finds, Tells, first, refuse, takes, goes, took_tells, mark_tells, name_tells, text_tells, int_tells, symbol_tells, mark_or_tells, two_marks_tells, entered_at, enter_finds}
use Rattle.ms_parse_steps.proofs.Frames.{chosen, chosen_yes, chosen_no}
use Rattle.ms_parse_steps.proofs.Lookahead.{may_follow}

equal_tells : (limit : ℕ) (f : ℕ → List Placed → Move) → Tells limit f → Tells limit (λ l. equal_then (f l))
equal_tells limit f tells = mark_tells limit (infix_operator (Relation Equal)) f refl tells

pub body_tells : (limit : ℕ) (d : Document) (head : Head) (vs : Variables) → 1 ≤ limit → Tells limit (λ l. body_of d head vs)
body_tells limit d head vs some =
    let s = wanted (in_predicate d head vs) [] in equal_tells limit (λ l. took s) (took_tells limit s (tt, some, λ n. refl) (λ ts. refl))

-- a variable of a binder

variable_finds : (limit : ℕ) (c : Context) (st : List Frame) (at : At) (q : Quant) (o : Order) (vs : Variables) (at_v : At) (n : List ℕ) → FramesFit limit st → suc (suc (length st)) ≤ limit → suc (length st) + depth_of_domains vs ≤ limit
    → (a : At) (s : Symbol) (ts : List Placed) → Finds limit (λ l. symbol_then (λ a. behind_variable l c st at q o vs at_v n)) (placed s a ∷ ts) (behind_variable limit c st at q o vs at_v n s (placed s a ∷ ts) ts)
variable_finds limit c st at q o vs at_v n fit room deep a word_where ts =
    enter_finds limit c (domain_frame at q o vs at_v n) st (λ l. symbol_then (λ a. behind_variable l c st at q o vs at_v n)) (placed word_where a) ts fit (λ more. refl) (λ l more above. refl) (omega arith)
variable_finds limit c st at q o vs at_v n fit room deep a comma ts =
    takes limit (λ l. symbol_then (λ a. behind_variable l c st at q o vs at_v n)) (placed comma a) ts (variable_wanted c st at q o (and_variable vs at_v o n unrestricted)) (fit, room, deep) refl (λ l more above may. refl)
variable_finds limit c st at q o vs at_v n fit room deep a colon ts =
    enter_finds limit c (body_frame at q o (and_variable vs at_v o n unrestricted)) st (λ l. symbol_then (λ a. behind_variable l c st at q o vs at_v n)) (placed colon a) ts fit (λ more. refl) (λ l more above. refl) (omega arith)
variable_finds limit c st at q o vs at_v n fit room deep a s ts = refuse limit (λ l. symbol_then (λ a. behind_variable l c st at q o vs at_v n)) (placed s a) ts (λ l more above. refl)

pub variable_tells : (limit : ℕ) (c : Context) (st : List Frame) (at : At) (q : Quant) (o : Order) (vs : Variables) → FramesFit limit st → suc (suc (length st)) ≤ limit → suc (length st) + depth_of_domains vs ≤ limit
    → Tells limit (λ l. next_variable l c st at q o vs)
variable_tells limit c st at q o vs fit room deep =
    name_tells limit (λ at_v n l. symbol_then (λ a. behind_variable l c st at q o vs at_v n))
    (λ at_v n. symbol_tells limit (λ l a. behind_variable l c st at q o vs at_v n) (symbol comma ∷ [], _, refl) (variable_finds limit c st at q o vs at_v n fit room deep))

-- a part of a `let`

value_finds : (limit : ℕ) (c : Context) (f : Frame) (st : List Frame) → FramesFit limit st → ((more : List Placed) → may_follow (wanted c (f ∷ st)) more ≡ true) → suc (length st) + max 1 (frame_depth f) ≤ limit → (ts : List Placed)
    → Finds limit (λ l. part_value l c f st) ts (part_value limit c f st ts)
value_finds limit c f st fit free room [] = first limit (λ l. part_value l c f st) [] tt
value_finds limit c f st fit free room (placed s a ∷ ts) =
    let y = placed s a in
    let equal = infix_operator (Relation Equal) in
    chosen (Finds limit (λ l. part_value l c f st) (y ∷ ts)) (is_mark equal s) (enter limit c f st (too_deep (y ∷ ts)) ts) (misplaced (y ∷ ts))
    (λ is. enter_finds limit c f st (λ l. part_value l c f st) y ts fit free (λ l more above. chosen_yes (is_mark equal s) (enter l c f st (too_deep (y ∷ more)) more) (misplaced (y ∷ more)) is) (omega arith))
    (λ other. refuse limit (λ l. part_value l c f st) y ts (λ l more above. chosen_no (is_mark equal s) (enter l c f st (too_deep (y ∷ more)) more) (misplaced (y ∷ more)) other))

pub part_tells : (limit : ℕ) (c : Context) (st : List Frame) (at : At) (o : Order) (parts : Parts) → FramesFit limit st → suc (suc (length st)) ≤ limit → suc (length st) + depth_of_values parts ≤ limit → Tells limit (λ l. next_part l c st at o parts)
part_tells limit c st at o parts fit room deep =
    let equal = symbol (infix_operator (Relation Equal)) in
    name_tells limit (λ at_n n l. part_value l c (part_frame at o parts at_n n) st) (λ at_n n. let f = part_frame at o parts at_n n in record {
      opens = (equal ∷ [], wanted c (f ∷ st), entered_at limit c f st (too_deep (equal ∷ [])) [] (omega arith));
      finds = value_finds limit c f st fit (λ more. refl) (omega arith);
    })

-- a pair of names of an import

rename_tells : (limit : ℕ) (f : Rename → ℕ → List Placed → Move) → ((pair : Rename) → Tells limit (f pair)) → Tells limit (λ l. pair_then (λ pair. f pair l))
rename_tells limit f tells =
    name_tells limit (λ a k l. mark_then arrow (name_then (λ b r. f (record { at = a; left = k; at_right = b; right = r }) l)))
    (λ a k. mark_tells limit arrow (λ l. name_then (λ b r. f (record { at = a; left = k; at_right = b; right = r }) l)) refl
    (name_tells limit (λ b r. f (record { at = a; left = k; at_right = b; right = r })) (λ b r. tells (record { at = a; left = k; at_right = b; right = r }))))

pub pair_tells : (limit : ℕ) (c : Context) (st : List Frame) (at : At) (file : List ℕ) (pairs : List Rename) → FramesFit limit st → suc (length st) ≤ limit → Tells limit (λ l. next_pair c st at file pairs)
pair_tells limit c st at file pairs fit room =
    let s = holding c (atom at (imported file pairs)) st in
    two_marks_tells limit close_round comma (λ l. took s) (λ l. pair_then (λ pair. took (pair_wanted c st at file (pairs ++ pair ∷ [])))) refl (took_tells limit s (fit, omega arith) (λ ts. refl))
    (rename_tells limit (λ pair l. took (pair_wanted c st at file (pairs ++ pair ∷ []))) (λ pair. took_tells limit (pair_wanted c st at file (pairs ++ pair ∷ [])) (fit, room) (λ ts. refl)))

-- a global variable

global_finds : (limit : ℕ) (d : Document) (at : At) (o : Order) (vs : Variables) (at_v : At) (n : List ℕ) → 1 ≤ limit → (a : At) (s : Symbol) (ts : List Placed)
    → Finds limit (λ l. symbol_then (λ a. behind_global d at o vs at_v n)) (placed s a ∷ ts) (behind_global d at o vs at_v n s (placed s a ∷ ts) ts)
global_finds limit d at o vs at_v n some a word_where ts =
    takes limit (λ l. symbol_then (λ a. behind_global d at o vs at_v n)) (placed word_where a) ts (wanted (in_global d at o vs at_v n) []) (tt, some, λ n. refl) refl (λ l more above may. refl)
global_finds limit d at o vs at_v n some a comma ts =
    takes limit (λ l. symbol_then (λ a. behind_global d at o vs at_v n)) (placed comma a) ts (global_wanted d at o (and_variable vs at_v o n unrestricted)) tt refl (λ l more above may. refl)
global_finds limit d at o vs at_v n some a semicolon ts =
    takes limit (λ l. symbol_then (λ a. behind_global d at o vs at_v n)) (placed semicolon a) ts (outside (declare d at (variables (and_variable vs at_v o n unrestricted)))) tt refl (λ l more above may. refl)
global_finds limit d at o vs at_v n some a s ts = refuse limit (λ l. symbol_then (λ a. behind_global d at o vs at_v n)) (placed s a) ts (λ l more above. refl)

pub global_tells : (limit : ℕ) (d : Document) (at : At) (o : Order) (vs : Variables) → 1 ≤ limit → Tells limit (λ l. next_global d at o vs)
global_tells limit d at o vs some =
    name_tells limit (λ at_v n l. symbol_then (λ a. behind_global d at o vs at_v n))
    (λ at_v n. symbol_tells limit (λ l a. behind_global d at o vs at_v n) (symbol comma ∷ [], _, refl) (global_finds limit d at o vs at_v n some))

-- a parameter of a predicate

parameter_finds : (limit : ℕ) (d : Document) (head : Head) (vs : Variables) (o : Order) (at_v : At) (n : List ℕ) → 1 ≤ limit → (a : At) (s : Symbol) (ts : List Placed)
    → Finds limit (λ l. symbol_then (λ a. behind_parameter d head vs o at_v n)) (placed s a ∷ ts) (behind_parameter d head vs o at_v n s (placed s a ∷ ts) ts)
parameter_finds limit d head vs o at_v n some a word_where ts =
    takes limit (λ l. symbol_then (λ a. behind_parameter d head vs o at_v n)) (placed word_where a) ts (wanted (in_parameter d head vs o at_v n) []) (tt, some, λ n. refl) refl (λ l more above may. refl)
parameter_finds limit d head vs o at_v n some a comma ts =
    takes limit (λ l. symbol_then (λ a. behind_parameter d head vs o at_v n)) (placed comma a) ts (parameter_wanted d head (and_variable vs at_v o n unrestricted)) tt refl (λ l more above may. refl)
parameter_finds limit d head vs o at_v n some a close_round ts =
    let body = and_variable vs at_v o n unrestricted in
    goes limit (λ l. body_of d head body) (λ l. symbol_then (λ a. behind_parameter d head vs o at_v n)) (placed close_round a) ts (λ l more above. refl) (body_tells limit d head body some)
parameter_finds limit d head vs o at_v n some a s ts = refuse limit (λ l. symbol_then (λ a. behind_parameter d head vs o at_v n)) (placed s a) ts (λ l more above. refl)

kind_finds : (limit : ℕ) (vs : Variables) (h : Order → At → List ℕ → ℕ → List Placed → Move) → ((o : Order) (a : At) (n : List ℕ) → Tells limit (h o a n)) → (ts : List Placed)
    → Finds limit (λ l. kind_then vs (λ o. name_then (λ a n. h o a n l))) ts (kind_then vs (λ o. name_then (λ a n. h o a n limit)) ts)
kind_finds limit no_variables h tells (placed (kind o) a ∷ ts) =
    goes limit (λ l. name_then (λ a n. h o a n l)) (λ l. kind_then no_variables (λ o. name_then (λ a n. h o a n l))) (placed (kind o) a) ts (λ l more above. refl) (name_tells limit (h o) (tells o))
kind_finds limit no_variables h tells [] = first limit (λ l. kind_then no_variables (λ o. name_then (λ a n. h o a n l))) [] tt
kind_finds limit no_variables h tells (t ∷ ts) = first limit (λ l. kind_then no_variables (λ o. name_then (λ a n. h o a n l))) (t ∷ ts) (λ above more is. tt)
kind_finds limit (and_variable vs at p n x) h tells (placed (kind o) a ∷ ts) =
    goes limit (λ l. name_then (λ a n. h o a n l)) (λ l. kind_then (and_variable vs at p n x) (λ o. name_then (λ a n. h o a n l))) (placed (kind o) a) ts (λ l more above. refl) (name_tells limit (h o) (tells o))
kind_finds limit (and_variable vs at p n x) h tells (placed (name k) a ∷ ts) =
    goes limit (h p a k) (λ l. kind_then (and_variable vs at p n x) (λ o. name_then (λ a n. h o a n l))) (placed (name k) a) ts (λ l more above. refl) (tells p a k)
kind_finds limit (and_variable vs at p n x) h tells [] = first limit (λ l. kind_then (and_variable vs at p n x) (λ o. name_then (λ a n. h o a n l))) [] tt
kind_finds limit (and_variable vs at p n x) h tells (t ∷ ts) = first limit (λ l. kind_then (and_variable vs at p n x) (λ o. name_then (λ a n. h o a n l))) (t ∷ ts) (λ above more is. tt)

pub parameter_tells : (limit : ℕ) (d : Document) (head : Head) (vs : Variables) → 1 ≤ limit → (ts : List Placed)
    → Finds limit (λ l. next_parameter d head vs) ts (next_parameter d head vs ts)
parameter_tells limit d head vs some ts =
    kind_finds limit vs (λ o at_v n l. symbol_then (λ a. behind_parameter d head vs o at_v n))
    (λ o at_v n. symbol_tells limit (λ l a. behind_parameter d head vs o at_v n) (symbol comma ∷ [], _, refl) (parameter_finds limit d head vs o at_v n some)) ts

-- a summand of a constant

summand_finds : (limit : ℕ) (d : Document) (at at_n : At) (n : List ℕ) (sum : List PlacedInt) (a : At) (s : Symbol) (ts : List Placed)
    → Finds limit (λ l. symbol_then (λ a. summand d at at_n n sum)) (placed s a ∷ ts) (summand d at at_n n sum s (placed s a ∷ ts) ts)
summand_finds limit d at at_n n sum a semicolon ts =
    takes limit (λ l. symbol_then (λ a. summand d at at_n n sum)) (placed semicolon a) ts (outside (declare d at (constant at_n n sum))) tt refl (λ l more above may. refl)
summand_finds limit d at at_n n sum a (sign minus) ts =
    goes limit (λ l. int_then minus (λ k. took (summand_wanted d at at_n n (sum ++ k ∷ [])))) (λ l. symbol_then (λ a. summand d at at_n n sum)) (placed (sign minus) a) ts (λ l more above. refl)
    (int_tells limit minus (λ k l. took (summand_wanted d at at_n n (sum ++ k ∷ []))) (λ k. took_tells limit (summand_wanted d at at_n n (sum ++ k ∷ [])) tt (λ more. refl)))
summand_finds limit d at at_n n sum a s ts = refuse limit (λ l. symbol_then (λ a. summand d at at_n n sum)) (placed s a) ts (λ l more above. refl)

pub summand_tells : (limit : ℕ) (d : Document) (at at_n : At) (n : List ℕ) (sum : List PlacedInt) → Tells limit (λ l. next_summand d at at_n n sum)
summand_tells limit d at at_n n sum = symbol_tells limit (λ l a. summand d at at_n n sum) (symbol semicolon ∷ [], _, refl) (summand_finds limit d at at_n n sum)

-- declarations

pub constant_tells : (limit : ℕ) (d : Document) (at : At) → Tells limit (λ l. begin_constant d at)
constant_tells limit d at =
    name_tells limit (λ at_n n l. equal_then (int_then false (λ k. took (summand_wanted d at at_n n (k ∷ [])))))
    (λ at_n n. equal_tells limit (λ l. int_then false (λ k. took (summand_wanted d at at_n n (k ∷ []))))
    (int_tells limit false (λ k l. took (summand_wanted d at at_n n (k ∷ []))) (λ k. took_tells limit (summand_wanted d at at_n n (k ∷ [])) tt (λ ts. refl))))

pub predicate_tells : (limit : ℕ) (d : Document) (at : At) (is_pred : Bool) → 1 ≤ limit → Tells limit (λ l. begin_predicate d at is_pred)
predicate_tells limit d at is_pred some =
    name_tells limit (λ at_p p l. behind_predicate d (head_with at is_pred at_p p)) (λ at_p p.
    let s = wanted (in_predicate d (head_with at is_pred at_p p) no_variables) [] in
    let t = parameter_wanted d (head_with at is_pred at_p p) no_variables in
    two_marks_tells limit (infix_operator (Relation Equal)) open_round (λ l. took s) (λ l. either_mark close_round (body_of d (head_with at is_pred at_p p) no_variables) (took t)) refl (took_tells limit s (tt, some, λ n. refl) (λ ts. refl))
    (mark_or_tells limit close_round (λ l. body_of d (head_with at is_pred at_p p) no_variables) t (body_tells limit d (head_with at is_pred at_p p) no_variables some) tt (λ ts. refl)))

pub include_tells : (limit : ℕ) (d : Document) (at : At) → Tells limit (λ l. begin_include d at)
include_tells limit d at =
    text_tells limit (λ a file l. mark_then semicolon (took (outside (declare d at (included a file)))))
    (λ a file. mark_tells limit semicolon (λ l. took (outside (declare d at (included a file)))) refl (took_tells limit (outside (declare d at (included a file))) tt (λ ts. refl)))

pub default_tells : (limit : ℕ) (d : Document) (at : At) (o : Order) → 1 ≤ limit → Tells limit (λ l. begin_default d at o)
default_tells limit d at o some =
    mark_tells limit open_round (λ l. name_then (λ a n. mark_then close_round (equal_then (took (wanted (in_default d at o n) []))))) refl
    (name_tells limit (λ a n l. mark_then close_round (equal_then (took (wanted (in_default d at o n) []))))
    (λ a n. mark_tells limit close_round (λ l. equal_then (took (wanted (in_default d at o n) []))) refl
    (equal_tells limit (λ l. took (wanted (in_default d at o n) [])) (took_tells limit (wanted (in_default d at o n) []) (tt, some, λ n. refl) (λ ts. refl)))))
