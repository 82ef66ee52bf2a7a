-- What a step finds.
use Rattle.std.proofs.Common.{◌≡◌, ℕ, suc, ◌+◌, ◌≤◌, leb, true, false, cond, List, [], ◌∷◌, length, codes, bytes_eq, Some, None, refl, sym, ap, ◌∙◌, subst, arith}
use Rattle.std.proofs.lemmas.Bool.{false≢true, le-leb}
use Rattle.ms_list.specs.declared.at.At.{At}
use Rattle.ms_parse_grammar.specs.Symbol.{Symbol, name, text, kind, predicate_word, default_word, word_const, word_include, open_round, close_round, Placed, placed}
use Rattle.ms_parse_grammar.specs.Tree.{Expression, atom, named, listed, no_expressions, no_variables, Document}
use Rattle.ms_parse_grammar.specs.declared.operator.Listing.TheVariants.{Call}
use Rattle.ms_parse_grammar.specs.Grammar.{depth}
use Rattle.ms_parse_steps.specs.inner.Machine.{Frame, prefix_frame, left_frame, joined_frame, bracket_frame, list_frame, domain_frame, body_frame, part_frame, let_frame, Context, in_formula, in_goal, Configuration, outside, wanted, holding, variable_wanted, part_wanted, pair_wanted, global_wanted, parameter_wanted, summand_wanted, Move, took, Top, in_part, frame_depth, ends, completed, collapse, on_top, bound, settle, go_on, either_mark, enter_list, begin, begin_name, begin_constant, begin_predicate, begin_include, begin_default, begin_named, begin_declaration, step}
use Rattle.ms_parse_steps.proofs.Closing.{FramesFit}
use Rattle.ms_parse_steps.proofs.Completions.{IsBegun, Fits}
use Rattle.ms_parse_steps.proofs.Finding.{Finds, Tells, takes, goes, took_tells, symbol_finds, negated, either, looked_tells}
use Rattle.ms_parse_steps.proofs.FindingBegin.{list_tells, BeginsNoGoal, begin_finds}
use Rattle.ms_parse_steps.proofs.FindingNames.{variable_tells, part_tells, pair_tells, global_tells, parameter_tells, summand_tells, constant_tells, predicate_tells, include_tells, default_tells}
use Rattle.ms_parse_steps.proofs.FindingSettle.{settle_finds}
use Rattle.ms_parse_steps.proofs.Frames.{chosen, chosen_yes, chosen_no}
use Rattle.ms_parse_steps.proofs.Lookahead.{stands_alone}

completed_fits : (limit n : ℕ) (f : Frame) (e : Expression) → suc n + depth e ≤ limit → suc n + frame_depth f ≤ limit → n + depth (completed f e) ≤ limit
completed_fits limit n (prefix_frame at op) e deep below = omega arith
completed_fits limit n (left_frame op l) e deep below = omega arith
completed_fits limit n (joined_frame at op es) e deep below = omega arith
completed_fits limit n (bracket_frame at b) e deep below = omega arith
completed_fits limit n (list_frame at l es) e deep below = omega arith
completed_fits limit n (domain_frame at q o vs at_v v) e deep below = omega arith
completed_fits limit n (body_frame at q o vs) e deep below = omega arith
completed_fits limit n (part_frame at o parts at_n v) e deep below = omega arith
completed_fits limit n (let_frame at o parts) e deep below = omega arith

-- The frames that end are completed alike at each limit that leaves room for them.
record Fitted (limit b : ℕ) (e : Expression) (st : List Frame) : Type 0 where
  pub top : Top
  pub fit : FramesFit limit top.1
  pub deep : length top.1 + depth top.0 ≤ limit
  pub same : (above : ℕ) → limit ≤ above → collapse above b e st ≡ Some top

fitted_ends : (limit b : ℕ) (e : Expression) (f : Frame) (st : List Frame) → ends b f ≡ true → depth (completed f e) ≤ limit → Fitted limit b (completed f e) st → Fitted limit b e (f ∷ st)
fitted_ends limit b e f st is small below = record {
  top = below.top;
  fit = below.fit;
  deep = below.deep;
  same = λ above more.
      chosen_yes (ends b f) (cond (leb (depth (completed f e)) above) (collapse above b (completed f e) st) None) (Some (e, f ∷ st)) is
      ∙ chosen_yes (leb (depth (completed f e)) above) (collapse above b (completed f e) st) None (le-leb (depth (completed f e)) above (omega arith)) ∙ below.same above more;
}

fitted_stays : (limit b : ℕ) (e : Expression) (f : Frame) (st : List Frame) → ends b f ≡ false → FramesFit limit (f ∷ st) → suc (length st) + depth e ≤ limit → Fitted limit b e (f ∷ st)
fitted_stays limit b e f st is fit deep = record {
  top = (e, f ∷ st);
  fit = fit;
  deep = omega arith;
  same = λ above more. chosen_no (ends b f) (cond (leb (depth (completed f e)) above) (collapse above b (completed f e) st) None) (Some (e, f ∷ st)) is;
}

fitted : (limit b : ℕ) (e : Expression) (st : List Frame) → FramesFit limit st → length st + depth e ≤ limit → Fitted limit b e st
fitted limit b e [] fit deep = record { top = (e, []); fit = fit; deep = deep; same = λ above more. refl }
fitted limit b e (f ∷ st) fit deep =
    let below : length st + depth (completed f e) ≤ limit = completed_fits limit (length st) f e (omega arith) (omega (arith, fit.1)) in
    either (Fitted limit b e (f ∷ st)) (ends b f)
    (λ is. fitted_ends limit b e f st is (omega arith) (fitted limit b (completed f e) st fit.0 below))
    (λ is. fitted_stays limit b e f st is fit (omega arith))

holding_finds : (limit : ℕ) (c : Context) (e : Expression) (st : List Frame) → 1 ≤ limit → FramesFit limit st → length st + depth e ≤ limit → (a : At) (s : Symbol) (ts : List Placed)
    → Finds limit (λ l. step l (holding c e st)) (placed s a ∷ ts) (go_on limit c e st s (placed s a ∷ ts) ts)
holding_finds limit c e st some fit deep a s ts =
    let is = fitted limit (bound (in_part st) s) e st fit deep in
    subst (λ t. Finds limit (λ l. step l (holding c e st)) (placed s a ∷ ts) (on_top (λ top. settle limit c s (in_part st) top (placed s a ∷ ts) ts) (placed s a ∷ ts) t)) (sym (is.same limit (omega arith)))
    (settle_finds limit c s (in_part st) is.top (λ l. step l (holding c e st)) a ts some is.fit is.deep
    (λ l more above. ap (on_top (λ top. settle l c s (in_part st) top (placed s a ∷ more) more) (placed s a ∷ more)) (is.same l above)))

-- a name that begins a declaration, alone or before what it does not take
named_alone : (limit : ℕ) (d : Document) (at : At) (n : List ℕ) (ts : List Placed) → stands_alone (bytes_eq n (codes "goal")) ts ≡ true
    → begin_named limit d at n ts ≡ took (holding (in_formula d at) (atom at (named n)) []) ts
named_alone limit d at n [] alone = refl
named_alone limit d at n (placed (text title) a ∷ ts) alone =
    chosen_no (bytes_eq n (codes "goal")) (took (wanted (in_goal d at a title) []) ts) (begin_name limit (in_formula d at) [] at n (placed (text title) a ∷ ts))
    (negated (bytes_eq n (codes "goal")) alone)
named_alone limit d at n (placed open_round a ∷ ts) alone = absurd (false≢true alone)
named_alone limit d at n (placed _ a ∷ ts) alone = refl

-- before its title, where it is `goal`, or before the bracket of a call
named_followed : (limit : ℕ) (d : Document) (at : At) (n : List ℕ) → 1 ≤ limit → (y : Placed) (ts : List Placed)
    → stands_alone (bytes_eq n (codes "goal")) (y ∷ ts) ≡ false → Finds limit (λ l. begin_named l d at n) (y ∷ ts) (begin_named limit d at n (y ∷ ts))
named_followed limit d at n some (placed (text title) a) ts other =
    let g : ℕ → List Placed → Move = λ l. begin_named l d at n in
    let from = placed (text title) a ∷ ts in
    chosen (Finds limit g from) (bytes_eq n (codes "goal")) (took (wanted (in_goal d at a title) []) ts) (begin_name limit (in_formula d at) [] at n from)
    (λ is. goes limit (λ l. took (wanted (in_goal d at a title) [])) g (placed (text title) a) ts
    (λ l more above. chosen_yes (bytes_eq n (codes "goal")) (took (wanted (in_goal d at a title) []) more)
    (begin_name l (in_formula d at) [] at n (placed (text title) a ∷ more)) is)
    (took_tells limit (wanted (in_goal d at a title) []) (tt, some, λ m. refl) (λ more. refl)))
    (λ is_not. absurd (false≢true (sym other ∙ ap (λ b. cond b false true) is_not)))
named_followed limit d at n some (placed open_round a) ts other =
    let call = holding (in_formula d at) (listed at (Call n) no_expressions) [] in
    goes limit (λ l. either_mark close_round (took call) (enter_list l (in_formula d at) at (Call n) [])) (λ l. begin_named l d at n) (placed open_round a) ts
    (λ l more above. refl)
    (list_tells limit (in_formula d at) [] at (Call n) call tt some (tt, some) (λ more. refl))
named_followed limit d at n some (placed _ a) ts other = absurd (false≢true (sym other))

named_tells : (limit : ℕ) (d : Document) (at : At) (n : List ℕ) → 1 ≤ limit → Tells limit (λ l. begin_named l d at n)
named_tells limit d at n some =
    looked_tells limit (λ l. begin_named l d at n) (holding (in_formula d at) (atom at (named n)) []) (tt, some) refl
    (λ l. named_alone l d at n) (named_followed limit d at n some)

-- a declaration begins
declaration_finds : (limit : ℕ) (d : Document) → 1 ≤ limit → (at : At) (s : Symbol) (ts : List Placed) → Finds limit (λ l. step l (outside d)) (placed s at ∷ ts) (begin_declaration limit d at s (placed s at ∷ ts) ts)
declaration_finds limit d some at (kind o) ts = takes limit (λ l. step l (outside d)) (placed (kind o) at) ts (global_wanted d at o no_variables) tt refl (λ l more above may. refl)
declaration_finds limit d some at word_const ts = goes limit (λ l. begin_constant d at) (λ l. step l (outside d)) (placed word_const at) ts (λ l more above. refl) (constant_tells limit d at)
declaration_finds limit d some at (predicate_word is_pred) ts =
    goes limit (λ l. begin_predicate d at is_pred) (λ l. step l (outside d)) (placed (predicate_word is_pred) at) ts (λ l more above. refl) (predicate_tells limit d at is_pred some)
declaration_finds limit d some at word_include ts = goes limit (λ l. begin_include d at) (λ l. step l (outside d)) (placed word_include at) ts (λ l more above. refl) (include_tells limit d at)
declaration_finds limit d some at (default_word o) ts = goes limit (λ l. begin_default d at o) (λ l. step l (outside d)) (placed (default_word o) at) ts (λ l more above. refl) (default_tells limit d at o some)
declaration_finds limit d some at (name n) ts =
    goes limit (λ l. begin_named l d at n) (λ l. step l (outside d)) (placed (name n) at) ts (λ l more above. refl) (named_tells limit d at n some)
declaration_finds limit d some at s ts = begin_finds limit (in_formula d at) [] at s ts (λ l. step l (outside d)) tt some tt (λ l more above. refl)

begun_no_goal : (c : Context) (st : List Frame) (s : Symbol) → IsBegun st c → BeginsNoGoal st c s
begun_no_goal c st (name n) is = is n
begun_no_goal c st s is = tt

pub step_finds : (limit : ℕ) (s : Configuration) (ts : List Placed) → 1 ≤ limit → Fits limit s → Finds limit (λ l. step l s) ts (step limit s ts)
step_finds limit (outside d) ts some fits = symbol_finds limit (λ l. begin_declaration l d) (declaration_finds limit d some) ts
step_finds limit (wanted c st) ts some fits =
    symbol_finds limit (λ l. begin l c st) (λ a s more. begin_finds limit c st a s more (λ l. step l (wanted c st)) fits.0 fits.1 (begun_no_goal c st s fits.2) (λ l other above. refl)) ts
step_finds limit (holding c e st) ts some fits = symbol_finds limit (λ l a. go_on l c e st) (holding_finds limit c e st some fits.0 fits.1) ts
step_finds limit (variable_wanted c st at q o vs) ts some fits = (variable_tells limit c st at q o vs fits.0 fits.1 fits.2).finds ts
step_finds limit (part_wanted c st at o parts) ts some fits = (part_tells limit c st at o parts fits.0 fits.1 fits.2).finds ts
step_finds limit (pair_wanted c st at file pairs) ts some fits = (pair_tells limit c st at file pairs fits.0 fits.1).finds ts
step_finds limit (global_wanted d at o vs) ts some fits = (global_tells limit d at o vs some).finds ts
step_finds limit (parameter_wanted d head vs) ts some fits = parameter_tells limit d head vs some ts
step_finds limit (summand_wanted d at at_n n sum) ts some fits = (summand_tells limit d at at_n n sum).finds ts
