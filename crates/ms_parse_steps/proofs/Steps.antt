-- Steps of the automaton, one after the other.
use Rattle.std.proofs.Common.{◌≡◌, zero, suc, ◌+◌, ◌≤◌, max, true, cond, List, ◌∷◌, length, Some, None, sym, ap, ◌∙◌, arith, leb, ◌<◌, ℕ}
use Rattle.std.proofs.lemmas.Bool.{le-leb, lt-leb}
use Rattle.ms_list.specs.declared.at.At.{At}
use Rattle.ms_parse_grammar.specs.Symbol.{Symbol, Placed, placed}
use Rattle.ms_parse_grammar.specs.Tree.{Expression, Document}
use Rattle.ms_parse_grammar.specs.Reads.{Starts}
use Rattle.ms_parse_grammar.specs.Grammar.{depth}
use Rattle.ms_parse_steps.proofs.Frames.{chosen_yes, chosen_no}
use Rattle.ms_parse_steps.specs.inner.Machine.{Frame, Context, Configuration, holding, wanted, Move, took, misplaced, too_deep, in_part, frame_depth, enter, ends, completed, collapse, on_top, bound, settle, step, goes_on, run, Runs, with_room}

pub by_step : (limit : ℕ) (s : Configuration) (from ts : List Placed) (s' : Configuration) (ts' : List Placed) (d : Document) → from ≡ ts → step limit s ts ≡ took s' ts' → Runs limit s' ts' d → Runs limit s from d
by_step limit s from ts s' ts' d here stepped (n, read) = (suc n, ap (λ f. goes_on (run limit n) (step limit s f)) here ∙ ap (goes_on (run limit n)) stepped ∙ read)

-- what a step leads to
abbrev pub Leads : ℕ → Move → Document → Type 0
Leads limit (took s ts) d = Runs limit s ts d
Leads limit (misplaced from) d = ⊥
Leads limit (too_deep from) d = ⊥

pub by_lead : (limit : ℕ) (s : Configuration) (from ts : List Placed) (next : Move) (d : Document) → from ≡ ts → step limit s ts ≡ next → Leads limit next d → Runs limit s from d
by_lead limit s from ts (took s' ts') d here stepped leads = by_step limit s from ts s' ts' d here stepped leads
by_lead limit s from ts (misplaced left) d here stepped leads = absurd leads
by_lead limit s from ts (too_deep left) d here stepped leads = absurd leads

-- two configurations that step alike
pub same_step : (limit : ℕ) (c : Context) (e e' : Expression) (st st' : List Frame) (s : Symbol) (a : At) (more : List Placed) (d : Document)
    → step limit (holding c e st) (placed s a ∷ more) ≡ step limit (holding c e' st') (placed s a ∷ more)
    → Runs limit (holding c e' st') (placed s a ∷ more) d → Runs limit (holding c e st) (placed s a ∷ more) d
same_step limit c e e' st st' s a more d same (zero, read) = let never : ⊥ = cc in absurd never
same_step limit c e e' st st' s a more d same (suc n, read) = (suc n, ap (goes_on (run limit n)) same ∙ read)

-- a frame that ends before the symbol may as well have ended already
pub ended : (limit : ℕ) (c : Context) (f : Frame) (e : Expression) (st : List Frame) (s : Symbol) (a : At) (more : List Placed) (d : Document)
    → ends (bound (in_part st) s) f ≡ true → depth (completed f e) ≤ limit → in_part (f ∷ st) ≡ in_part st
    → Runs limit (holding c (completed f e) st) (placed s a ∷ more) d → Runs limit (holding c e (f ∷ st)) (placed s a ∷ more) d
ended limit c f e st s a more d ends_here deep same runs =
    same_step limit c e (completed f e) (f ∷ st) st s a more d
    (ap (λ p. on_top (λ top. settle limit c s p top (placed s a ∷ more) more) (placed s a ∷ more) (collapse limit (bound p s) e (f ∷ st))) same
    ∙ ap (on_top (λ top. settle limit c s (in_part st) top (placed s a ∷ more) more) (placed s a ∷ more))
    (chosen_yes (ends (bound (in_part st) s) f) (cond (leb (depth (completed f e)) limit) (collapse limit (bound (in_part st) s) (completed f e) st) None) (Some (e, f ∷ st)) ends_here
    ∙ chosen_yes (leb (depth (completed f e)) limit) (collapse limit (bound (in_part st) s) (completed f e) st) None (le-leb (depth (completed f e)) limit deep)))
    runs

-- where the depth leaves room
pub roomy : (limit : ℕ) (st : List Frame) (from : List Placed) (next : Move) → suc (suc (length st)) ≤ limit → with_room limit st from next ≡ next
roomy limit st from next room = chosen_yes (leb (suc (suc (length st))) limit) next (too_deep from) (le-leb (suc (suc (length st))) limit room)

pub roomless : (limit : ℕ) (st : List Frame) (from : List Placed) (next : Move) → limit < suc (suc (length st)) → with_room limit st from next ≡ too_deep from
roomless limit st from next full = chosen_no (leb (suc (suc (length st))) limit) next (too_deep from) (lt-leb (suc (suc (length st))) limit full)

pub entered : (limit : ℕ) (c : Context) (f : Frame) (st : List Frame) (otherwise : Move) (ts : List Placed) → suc (suc (length st)) ≤ limit → suc (length st) + frame_depth f ≤ limit → enter limit c f st otherwise ts ≡ took (wanted c (f ∷ st)) ts
entered limit c f st otherwise ts room deep =
    chosen_yes (leb (suc (length st) + max 1 (frame_depth f)) limit) (took (wanted c (f ∷ st)) ts) otherwise (le-leb (suc (length st) + max 1 (frame_depth f)) limit (omega arith))

-- a step that is not taken
abbrev pub IsStuck : Move → Type 0
IsStuck (took s ts) = ⊥
IsStuck (misplaced from) = Unit {0}
IsStuck (too_deep from) = Unit {0}

pub at_start : (s : Symbol) (at : At) (from behind : List Placed) → Starts true s at from behind → from ≡ placed s at ∷ behind
at_start s at from behind starts = starts.1 ∙ ap (λ x. placed s x ∷ behind) (sym starts.2)
