-- What a step at the beginning of an expression finds.
use Rattle.std.proofs.Common.{◌≡◌, ℕ, suc, ◌+◌, ◌≤◌, max, leb, true, false, inr, List, [], ◌∷◌, length, refl, sym, ap, ◌∙◌, subst, arith}
use Rattle.std.proofs.lemmas.Bool.{false≢true, le-leb, leb-true}
use Rattle.ms_list.specs.declared.at.At.{At}
use Rattle.ms_parse_grammar.specs.Reads.{closing}
use Rattle.ms_parse_grammar.specs.Symbol.{Symbol, name, number, text, prefix_operator, quantifier, let_word, word_true, word_false, dollar, word_empty, word_pconst, word_import, word_export, word_restrict, open_round, close_round, open_curly, close_curly, comma, Placed, placed}
use Rattle.ms_parse_grammar.specs.declared.operator.Bracket.TheVariants.{Parentheses, Emptiness, Restriction, Export}
use Rattle.ms_parse_grammar.specs.declared.operator.Listing.{Listing}
use Rattle.ms_parse_grammar.specs.declared.operator.Listing.TheVariants.{Literal, Call}
use Rattle.ms_parse_grammar.specs.Tree.{truth, falsity, whole, empty_set, named, numeral, pconst}
use Rattle.ms_parse_grammar.specs.Tree.{atom, listed, no_expressions, no_variables, no_parts}
use Rattle.ms_parse_grammar.specs.Grammar.{prefix_level}
use Rattle.ms_parse_steps.specs.inner.Machine.{Frame, prefix_frame, bracket_frame, list_frame, Context, Configuration, wanted, holding, variable_wanted, part_wanted, pair_wanted, Move, took, misplaced, too_deep, need, frame_depth, enter, with_room, starter, unopened, enter_list, is_mark, either_mark, mark_then, text_then, int_then, begin_name, begin_empty, begin_literal, begin_pconst, begin_import, begin_restrict, begin_export, begin}
use Rattle.ms_parse_steps.proofs.Closing.{symbol, FramesFit}
use Rattle.ms_parse_steps.proofs.Completions.{Fits}
use Rattle.ms_parse_steps.proofs.Finding.{Opens, Dead, Finds, Tells, dead, stuck_deep, first, first_deep, refuse, takes, leave, goes, took_tells, marked, mark_tells, text_tells, int_tells, unmarked, mark_or_tells, entered_at, wanted_fits, enter_finds, room_finds}
use Rattle.ms_parse_steps.proofs.Frames.{chosen, chosen_yes, chosen_no}
use Rattle.ms_parse_steps.proofs.Lookahead.{lacks, may_begin_goal, stands_alone, bracket_lacks, may_follow}
use Rattle.ms_parse_steps.proofs.Steps.{IsStuck, roomy}

pconst_tells : (limit : ℕ) (c : Context) (st : List Frame) (at : At) → FramesFit limit st → suc (length st) ≤ limit → Tells limit (λ l. begin_pconst c st at)
pconst_tells limit c st at fit room =
    mark_tells limit open_round (λ l. int_then false (λ v. mark_then close_round (took (holding c (atom at (pconst v)) st)))) refl
    (int_tells limit false (λ v l. mark_then close_round (took (holding c (atom at (pconst v)) st)))
    (λ v. mark_tells limit close_round (λ l. took (holding c (atom at (pconst v)) st)) refl (took_tells limit (holding c (atom at (pconst v)) st) (fit, omega arith) (λ ts. refl))))

import_tells : (limit : ℕ) (c : Context) (st : List Frame) (at : At) → FramesFit limit st → suc (length st) ≤ limit → Tells limit (λ l. begin_import c st at)
import_tells limit c st at fit room =
    mark_tells limit open_round (λ l. text_then (λ a file. took (pair_wanted c st at file []))) refl
    (text_tells limit (λ a file l. took (pair_wanted c st at file [])) (λ a file. took_tells limit (pair_wanted c st at file []) (fit, room) (λ ts. refl)))

restrict_tells : (limit : ℕ) (c : Context) (st : List Frame) (at : At) → FramesFit limit st → suc (suc (length st)) ≤ limit → Tells limit (λ l. begin_restrict c st at)
restrict_tells limit c st at fit room =
    let f = bracket_frame at Restriction in
    mark_tells limit open_round (λ l. took (wanted c (f ∷ st))) refl (took_tells limit (wanted c (f ∷ st)) (wanted_fits limit c f st fit (omega arith)) (λ ts. refl))

export_tells : (limit : ℕ) (c : Context) (st : List Frame) (at : At) → FramesFit limit st → suc (suc (length st)) ≤ limit → Tells limit (λ l. begin_export c st at)
export_tells limit c st at fit room =
    mark_tells limit open_round (λ l. text_then (λ a file. mark_then comma (took (wanted c (bracket_frame at (Export a file) ∷ st))))) refl
    (text_tells limit (λ a file l. mark_then comma (took (wanted c (bracket_frame at (Export a file) ∷ st))))
    (λ a file. mark_tells limit comma (λ l. took (wanted c (bracket_frame at (Export a file) ∷ st))) refl
    (took_tells limit (wanted c (bracket_frame at (Export a file) ∷ st)) (wanted_fits limit c (bracket_frame at (Export a file)) st fit (omega arith)) (λ ts. refl))))

-- any symbol that an expression may begin with is taken in a list, where there is room
list_opens : (limit : ℕ) (c : Context) (st : List Frame) (at : At) (k : Listing) (a : At) (s : Symbol) → starter s ≡ true → suc (suc (suc (length st))) ≤ limit
    → Opens (λ ts. begin limit c (list_frame at k no_expressions ∷ st) a s (placed s a ∷ ts) ts) []
list_opens limit c st at k a (name n) starts room = ([], _, refl)
list_opens limit c st at k a (number n) starts room = ([], _, refl)
list_opens limit c st at k a (prefix_operator op) starts room =
    let below = list_frame at k no_expressions ∷ st in
    let from = placed (prefix_operator op) a ∷ [] in
    ([], _, chosen_yes (leb 0 (prefix_level op)) (enter limit c (prefix_frame a op) below (too_deep from) []) (misplaced from) (le-leb 0 (prefix_level op) (omega arith)) ∙ entered_at limit c (prefix_frame a op) below (too_deep from) [] (omega arith))
list_opens limit c st at k a (quantifier q o) starts room =
    ([], _, roomy limit (list_frame at k no_expressions ∷ st) (placed (quantifier q o) a ∷ []) (took (variable_wanted c (list_frame at k no_expressions ∷ st) a q o no_variables) []) room)
list_opens limit c st at k a (let_word o) starts room =
    ([], _, roomy limit (list_frame at k no_expressions ∷ st) (placed (let_word o) a ∷ []) (took (part_wanted c (list_frame at k no_expressions ∷ st) a o no_parts) []) room)
list_opens limit c st at k a word_true starts room = ([], _, refl)
list_opens limit c st at k a word_false starts room = ([], _, refl)
list_opens limit c st at k a dollar starts room = ([], _, refl)
list_opens limit c st at k a word_empty starts room = ([], _, refl)
list_opens limit c st at k a word_pconst starts room = (symbol open_round ∷ symbol (number 0) ∷ symbol close_round ∷ [], _, refl)
list_opens limit c st at k a word_import starts room = (symbol open_round ∷ symbol (text []) ∷ [], _, refl)
list_opens limit c st at k a word_export starts room =
    let below = list_frame at k no_expressions ∷ st in
    let more = symbol open_round ∷ symbol (text []) ∷ symbol comma ∷ [] in
    (more, _, roomy limit below (placed word_export a ∷ more) (begin_export c below a more) room)
list_opens limit c st at k a word_restrict starts room =
    let below = list_frame at k no_expressions ∷ st in
    (symbol open_round ∷ [], _, roomy limit below (placed word_restrict a ∷ symbol open_round ∷ []) (begin_restrict c below a (symbol open_round ∷ [])) room)
list_opens limit c st at k a open_round starts room =
    ([], _, entered_at limit c (bracket_frame a Parentheses) (list_frame at k no_expressions ∷ st) (too_deep (placed open_round a ∷ [])) [] (omega arith))
list_opens limit c st at k a open_curly starts room = (symbol close_curly ∷ [], _, refl)
list_opens limit c st at k a _ starts room = absurd (false≢true starts)

-- any other symbol is not
no_begin : (limit : ℕ) (c : Context) (st : List Frame) (a : At) (s : Symbol) (from ts : List Placed) → starter s ≡ false → IsStuck (begin limit c st a s from ts)
no_begin limit c st a (name n) from ts other = absurd (false≢true (sym other))
no_begin limit c st a (number n) from ts other = absurd (false≢true (sym other))
no_begin limit c st a (prefix_operator op) from ts other = absurd (false≢true (sym other))
no_begin limit c st a (quantifier q o) from ts other = absurd (false≢true (sym other))
no_begin limit c st a (let_word o) from ts other = absurd (false≢true (sym other))
no_begin limit c st a word_true from ts other = absurd (false≢true (sym other))
no_begin limit c st a word_false from ts other = absurd (false≢true (sym other))
no_begin limit c st a dollar from ts other = absurd (false≢true (sym other))
no_begin limit c st a word_empty from ts other = absurd (false≢true (sym other))
no_begin limit c st a word_pconst from ts other = absurd (false≢true (sym other))
no_begin limit c st a word_import from ts other = absurd (false≢true (sym other))
no_begin limit c st a word_export from ts other = absurd (false≢true (sym other))
no_begin limit c st a word_restrict from ts other = absurd (false≢true (sym other))
no_begin limit c st a open_round from ts other = absurd (false≢true (sym other))
no_begin limit c st a open_curly from ts other = absurd (false≢true (sym other))
no_begin limit c st a _ from ts other = tt

-- a list, which may end at once

closing_mark : (k : Listing) → is_mark (closing k) (closing k) ≡ true
closing_mark Literal = refl
closing_mark (Call p) = refl

list_entered : (limit l : ℕ) (c : Context) (st : List Frame) (at : At) (k : Listing) (s0 : Configuration) (ts : List Placed) → suc (length st) + max 1 (frame_depth (list_frame at k no_expressions)) ≤ limit → limit ≤ l → lacks (closing k) ts ≡ true
    → either_mark (closing k) (took s0) (enter_list l c at k st) ts ≡ took (wanted c (list_frame at k no_expressions ∷ st)) ts
list_entered limit l c st at k s0 ts room above may =
    unmarked (closing k) (took s0) (enter_list l c at k st) ts may ∙ entered_at l c (list_frame at k no_expressions) st (unopened ts) ts (omega arith)

-- where there is no room in the list, its first symbol is at fault
full_list_finds : (limit : ℕ) (c : Context) (st : List Frame) (at : At) (k : Listing) (s0 : Configuration) (s : Symbol) (a : At) (ts : List Placed) → suc (length st) ≤ limit → is_mark (closing k) s ≡ false
    → leb (suc (length st) + max 1 (frame_depth (list_frame at k no_expressions))) limit ≡ false
    → Finds limit (λ l. either_mark (closing k) (took s0) (enter_list l c at k st)) (placed s a ∷ ts) (unopened (placed s a ∷ ts))
full_list_finds limit c st at k s0 s a ts room other full =
    let f = list_frame at k no_expressions in
    let w = wanted c (f ∷ st) in
    let n = suc (length st) + max 1 (frame_depth f) in
    let deeper = suc (suc limit) in
    let y = placed s a in
    let g : ℕ → List Placed → Move = λ l. either_mark (closing k) (took s0) (enter_list l c at k st) in
    let skips : (l : ℕ) (more : List Placed) → g l (y ∷ more) ≡ enter_list l c at k st (y ∷ more) = λ l more. chosen_no (is_mark (closing k) s) (took s0 more) (enter_list l c at k st (y ∷ more)) other in
    chosen (Finds limit g (y ∷ ts)) (starter s) (too_deep (y ∷ ts)) (misplaced (y ∷ ts))
    (λ starts. let begun = list_opens deeper c st at k a s starts (omega arith) in
    first_deep limit g (y ∷ ts) (
      λ more. stuck_deep (g limit (y ∷ more)) (y ∷ more) (skips limit more ∙ chosen_no (leb n limit) (took w (y ∷ more)) (unopened (y ∷ more)) full ∙ chosen_yes (starter s) (too_deep (y ∷ more)) (misplaced (y ∷ more)) starts),
      begun.0,
      inr (w, begun.1, y ∷ begun.0, skips deeper begun.0 ∙ entered_at deeper c f st (unopened (y ∷ begun.0)) (y ∷ begun.0) (omega arith), begun.2),
    ))
    (λ no_starter. first limit g (y ∷ ts) (λ above more is. subst (Dead above) (sym (skips above more))
    (chosen (Dead above) (leb n above) (took w (y ∷ more)) (unopened (y ∷ more)) (λ fits. (refl, no_begin above c (f ∷ st) a s (y ∷ more) more no_starter))
    (λ fits_not. dead above (unopened (y ∷ more)) (y ∷ more) (chosen_no (starter s) (too_deep (y ∷ more)) (misplaced (y ∷ more)) no_starter)))))

list_finds : (limit : ℕ) (c : Context) (st : List Frame) (at : At) (k : Listing) (s0 : Configuration) → FramesFit limit st → suc (length st) ≤ limit → Fits limit s0 → ((ts : List Placed) → may_follow s0 ts ≡ true) → (ts : List Placed)
    → Finds limit (λ l. either_mark (closing k) (took s0) (enter_list l c at k st)) ts (either_mark (closing k) (took s0) (enter_list limit c at k st) ts)
list_finds limit c st at k s0 fit room fits0 free0 [] =
    let f = list_frame at k no_expressions in
    let n = suc (length st) + max 1 (frame_depth f) in
    let g : ℕ → List Placed → Move = λ l. either_mark (closing k) (took s0) (enter_list l c at k st) in
    chosen (Finds limit g []) (leb n limit) (took (wanted c (f ∷ st)) []) (misplaced [])
    (λ fits. let wide = leb-true n limit fits in leave limit g [] (wanted c (f ∷ st)) (wanted_fits limit c f st fit wide) refl (λ l other more may. list_entered limit l c st at k s0 other wide more may))
    (λ full. first limit g [] tt)
list_finds limit c st at k s0 fit room fits0 free0 (placed s a ∷ ts) =
    let f = list_frame at k no_expressions in
    let n = suc (length st) + max 1 (frame_depth f) in
    let y = placed s a in
    let g : ℕ → List Placed → Move = λ l. either_mark (closing k) (took s0) (enter_list l c at k st) in
    chosen (Finds limit g (y ∷ ts)) (is_mark (closing k) s) (took s0 ts) (enter_list limit c at k st (y ∷ ts))
    (λ is. goes limit (λ l. took s0) g y ts (λ l more above. chosen_yes (is_mark (closing k) s) (took s0 more) (enter_list l c at k st (y ∷ more)) is) (took_tells limit s0 fits0 free0))
    (λ other. chosen (Finds limit g (y ∷ ts)) (leb n limit) (took (wanted c (f ∷ st)) (y ∷ ts)) (unopened (y ∷ ts))
    (λ fits. let wide = leb-true n limit fits in
    leave limit g (y ∷ ts) (wanted c (f ∷ st)) (wanted_fits limit c f st fit wide) (chosen_no (is_mark (closing k) s) false true other) (λ l others more may. list_entered limit l c st at k s0 others wide more may))
    (λ full. full_list_finds limit c st at k s0 s a ts room other full))

pub list_tells : (limit : ℕ) (c : Context) (st : List Frame) (at : At) (k : Listing) (s0 : Configuration) → FramesFit limit st → suc (length st) ≤ limit → Fits limit s0 → ((ts : List Placed) → may_follow s0 ts ≡ true)
    → Tells limit (λ l. either_mark (closing k) (took s0) (enter_list l c at k st))
list_tells limit c st at k s0 fit room fits0 free0 = record {
  opens = (symbol (closing k) ∷ [], s0, marked (closing k) (took s0) (enter_list limit c at k st) [] (closing_mark k));
  finds = list_finds limit c st at k s0 fit room fits0 free0;
}

name_begins : (limit : ℕ) (c : Context) (st : List Frame) (at : At) (n : List ℕ) → FramesFit limit st → suc (length st) ≤ limit → may_begin_goal st c n ≡ false
    → Tells limit (λ l. begin_name l c st at n)
name_begins limit c st at n fit room no_goal =
    let call = holding c (listed at (Call n) no_expressions) st in
    mark_or_tells limit open_round (λ l. either_mark close_round (took call) (enter_list l c at (Call n) st)) (holding c (atom at (named n)) st)
    (list_tells limit c st at (Call n) call fit room (fit, omega arith) (λ ts. refl)) (fit, omega arith) (λ ts. ap (λ may. stands_alone may ts) no_goal ∙ bracket_lacks ts)

empty_finds : (limit : ℕ) (c : Context) (st : List Frame) (at : At) → FramesFit limit st → suc (length st) ≤ limit → (ts : List Placed) → Finds limit (λ l. begin_empty l c st at) ts (begin_empty limit c st at ts)
empty_finds limit c st at fit room [] =
    let s = holding c (atom at empty_set) st in
    leave limit (λ l. begin_empty l c st at) [] s (fit, omega arith) refl (λ l other more may. unmarked open_round (enter l c (bracket_frame at Emptiness) st (too_deep other)) (took s) other may)
empty_finds limit c st at fit room (placed x a ∷ ts) =
    let s = holding c (atom at empty_set) st in
    let f = bracket_frame at Emptiness in
    let y = placed x a in
    let g : ℕ → List Placed → Move = λ l. begin_empty l c st at in
    chosen (Finds limit g (y ∷ ts)) (is_mark open_round x) (enter limit c f st (too_deep (y ∷ ts)) ts) (took s (y ∷ ts))
    (λ is. enter_finds limit c f st g y ts fit (λ more. refl) (λ l more above. chosen_yes (is_mark open_round x) (enter l c f st (too_deep (y ∷ more)) more) (took s (y ∷ more)) is) (omega arith))
    (λ other. leave limit g (y ∷ ts) s (fit, omega arith) (chosen_no (is_mark open_round x) false true other) (λ l others more may. unmarked open_round (enter l c f st (too_deep others)) (took s) others may))

-- no name that may begin a goal
abbrev pub BeginsNoGoal : List Frame → Context → Symbol → Type 0
BeginsNoGoal st c (name n) = may_begin_goal st c n ≡ false
BeginsNoGoal st c s = Unit {0}

-- a symbol with which an expression begins
pub begin_finds : (limit : ℕ) (c : Context) (st : List Frame) (at : At) (s : Symbol) (ts : List Placed) (g : ℕ → List Placed → Move) → FramesFit limit st → suc (length st) ≤ limit → BeginsNoGoal st c s
    → ((l : ℕ) (more : List Placed) → limit ≤ l → g l (placed s at ∷ more) ≡ begin l c st at s (placed s at ∷ more) more) → Finds limit g (placed s at ∷ ts) (begin limit c st at s (placed s at ∷ ts) ts)
begin_finds limit c st at word_true ts g fit room no_goal same = takes limit g (placed word_true at) ts (holding c (atom at truth) st) (fit, omega arith) refl (λ l more above may. same l more above)
begin_finds limit c st at word_false ts g fit room no_goal same = takes limit g (placed word_false at) ts (holding c (atom at falsity) st) (fit, omega arith) refl (λ l more above may. same l more above)
begin_finds limit c st at dollar ts g fit room no_goal same = takes limit g (placed dollar at) ts (holding c (atom at whole) st) (fit, omega arith) refl (λ l more above may. same l more above)
begin_finds limit c st at (number n) ts g fit room no_goal same = takes limit g (placed (number n) at) ts (holding c (atom at (numeral n)) st) (fit, omega arith) refl (λ l more above may. same l more above)
begin_finds limit c st at (name n) ts g fit room no_goal same = goes limit (λ l. begin_name l c st at n) g (placed (name n) at) ts same (name_begins limit c st at n fit room no_goal)
begin_finds limit c st at word_empty ts g fit room no_goal same =
    goes limit (λ l. begin_empty l c st at) g (placed word_empty at) ts same (record { opens = ([], holding c (atom at empty_set) st, refl); finds = empty_finds limit c st at fit room })
begin_finds limit c st at word_pconst ts g fit room no_goal same = goes limit (λ l. begin_pconst c st at) g (placed word_pconst at) ts same (pconst_tells limit c st at fit room)
begin_finds limit c st at word_import ts g fit room no_goal same = goes limit (λ l. begin_import c st at) g (placed word_import at) ts same (import_tells limit c st at fit room)
begin_finds limit c st at word_restrict ts g fit room no_goal same =
    room_finds limit st (begin_restrict c st at) g (placed word_restrict at) ts (symbol open_round ∷ [], _, refl) (λ wide. restrict_tells limit c st at fit wide) same room
begin_finds limit c st at word_export ts g fit room no_goal same =
    room_finds limit st (begin_export c st at) g (placed word_export at) ts (symbol open_round ∷ symbol (text []) ∷ symbol comma ∷ [], _, refl) (λ wide. export_tells limit c st at fit wide) same room
begin_finds limit c st at open_round ts g fit room no_goal same = enter_finds limit c (bracket_frame at Parentheses) st g (placed open_round at) ts fit (λ more. refl) same (omega arith)
begin_finds limit c st at open_curly ts g fit room no_goal same =
    goes limit (λ l. begin_literal l c st at) g (placed open_curly at) ts same (list_tells limit c st at Literal (holding c (listed at Literal no_expressions) st) fit room (fit, omega arith) (λ more. refl))
begin_finds limit c st at (prefix_operator op) ts g fit room no_goal same =
    let y = placed (prefix_operator op) at in
    let f = prefix_frame at op in
    chosen (Finds limit g (y ∷ ts)) (leb (need st) (prefix_level op)) (enter limit c f st (too_deep (y ∷ ts)) ts) (misplaced (y ∷ ts))
    (λ low. enter_finds limit c f st g y ts fit (λ more. refl)
    (λ l more above. same l more above ∙ chosen_yes (leb (need st) (prefix_level op)) (enter l c f st (too_deep (y ∷ more)) more) (misplaced (y ∷ more)) low) (omega arith))
    (λ high. refuse limit g y ts (λ l more above. same l more above ∙ chosen_no (leb (need st) (prefix_level op)) (enter l c f st (too_deep (y ∷ more)) more) (misplaced (y ∷ more)) high))
begin_finds limit c st at (quantifier q o) ts g fit room no_goal same =
    let y = placed (quantifier q o) at in
    let s = variable_wanted c st at q o no_variables in
    chosen (Finds limit g (y ∷ ts)) (leb (need st) 4) (with_room limit st (y ∷ ts) (took s ts)) (misplaced (y ∷ ts))
    (λ low. room_finds limit st (took s) g y ts ([], s, refl) (λ wide. took_tells limit s (fit, wide, omega arith) (λ more. refl))
    (λ l more above. same l more above ∙ chosen_yes (leb (need st) 4) (with_room l st (y ∷ more) (took s more)) (misplaced (y ∷ more)) low) room)
    (λ high. refuse limit g y ts (λ l more above. same l more above ∙ chosen_no (leb (need st) 4) (with_room l st (y ∷ more) (took s more)) (misplaced (y ∷ more)) high))
begin_finds limit c st at (let_word o) ts g fit room no_goal same =
    let y = placed (let_word o) at in
    let s = part_wanted c st at o no_parts in
    chosen (Finds limit g (y ∷ ts)) (leb (need st) 4) (with_room limit st (y ∷ ts) (took s ts)) (misplaced (y ∷ ts))
    (λ low. room_finds limit st (took s) g y ts ([], s, refl) (λ wide. took_tells limit s (fit, wide, omega arith) (λ more. refl))
    (λ l more above. same l more above ∙ chosen_yes (leb (need st) 4) (with_room l st (y ∷ more) (took s more)) (misplaced (y ∷ more)) low) room)
    (λ high. refuse limit g y ts (λ l more above. same l more above ∙ chosen_no (leb (need st) 4) (with_room l st (y ∷ more) (took s more)) (misplaced (y ∷ more)) high))
begin_finds limit c st at s ts g fit room no_goal same = refuse limit g (placed s at) ts same
