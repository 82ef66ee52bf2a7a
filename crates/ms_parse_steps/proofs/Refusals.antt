-- A step that cannot be taken shows where the symbols leave the grammar, and why.
use Rattle.std.proofs.Common.{◌≡◌, ◌≢◌, ℕ, zero, suc, ◌≤◌, true, false, ◌⊎◌, inl, inr, List, [], ◌∷◌, ◌++◌, Some, None, refl, sym, ap, ◌∙◌, subst, arith, append_assoc}
use Rattle.std.proofs.lemmas.List.{append-nil}
use Rattle.ms_list.specs.declared.at.At.{At}
use Rattle.ms_logic.specs.declared.mode.Mode.TheVariants.{Ws1s}
use Rattle.ms_parse_grammar.specs.Grammar.{greatest_depth}
use Rattle.ms_parse_grammar.specs.Symbol.{word_ws1s, semicolon, Placed, placed}
use Rattle.ms_parse_grammar.specs.Tree.{Document}
use Rattle.ms_parse_steps.specs.inner.Machine.{Configuration, outside, Move, took, misplaced, too_deep, start, step, finished, goes_on, run, Runs}
use Rattle.ms_parse_steps.proofs.AnyDepth.{follows_at_any_depth, follows_within, follows_grammar, within_grammar}
use Rattle.ms_parse_steps.proofs.Beginning.{no_header, some_header}
use Rattle.ms_parse_steps.proofs.Closing.{RunsToEnd, further}
use Rattle.ms_parse_steps.proofs.Completions.{Fits}
use Rattle.ms_parse_steps.proofs.Lookahead.{may_follow}
use Rattle.ms_parse_steps.proofs.Finding.{Opens, Dead, Leads, Refuses, IsDeep, Finds}
use Rattle.ms_parse_steps.proofs.FindingSteps.{step_finds}
use Rattle.ms_parse_steps.proofs.Loops.{no_run}
use Rattle.ms_parse_grammar.specs.Continuation.{CanFollow, CanFollowAtAnyDepth}
use Rattle.ms_parse_steps.proofs.Following.{CanFollowWithin, GoesOn, Shuts, step_ends, opened, shut, word_stuck, no_word, nothing_before}
use Rattle.ms_parse_steps.proofs.Headers.{is_header_word, document_read}
use Rattle.ms_parse_steps.proofs.Limits.{ReadsWithin}
use Rattle.ms_parse_steps.proofs.Reached.{may_follow_first, unfinished, taken, same_step_above, Reached, reached_first, reached_next}
use Rattle.ms_parse_steps.proofs.Runs.{runs_read}

-- At each limit of the depth, the one of the grammar or a greater one, the automaton has come to the configuration before these symbols.
abbrev pub ReachedFrom : Document → List Placed → Configuration → List Placed → Type 0
ReachedFrom d0 body s ts = (limit : ℕ) → greatest_depth ≤ limit → Reached limit d0 body s ts

pub reached_from_first : (d0 : Document) (body : List Placed) → ReachedFrom d0 body (outside d0) body
reached_from_first d0 body limit enough = reached_first limit d0 body

pub reached_from_next : (d0 : Document) (body : List Placed) (s s' : Configuration) (ts ts' : List Placed) → ReachedFrom d0 body s ts → step greatest_depth s ts ≡ took s' ts' → ReachedFrom d0 body s' ts'
reached_from_next d0 body s s' ts ts' here stepped limit enough =
    reached_next limit d0 body s s' ts ts' (omega arith) (here limit enough) (same_step_above greatest_depth limit s s' ts ts' (omega arith) (here greatest_depth (omega arith)).fits enough stepped)

-- what a step finds, as a whole

-- symbols that a step takes can be led to the end
step_goes : (limit : ℕ) (s : Configuration) (front : List Placed) → 1 ≤ limit → Fits limit s → (front ≡ []) ⊎ Opens (step limit s) front → GoesOn limit s front
step_goes limit s front some fits (inl none) = inl none
step_goes limit s front some fits (inr (more, s', stepped)) =
    let end = step_ends limit s s' (front ++ more) some fits stepped in inr (more ++ end.0, subst (RunsToEnd limit s) (append_assoc front more end.0) end.1)

-- so can those of a step and of one more
two_steps : (limit : ℕ) (s s1 s2 : Configuration) (ts ts1 : List Placed) → 1 ≤ limit → Fits limit s → step limit s ts ≡ took s1 ts1 → step limit s1 ts1 ≡ took s2 [] → (more : List Placed) × RunsToEnd limit s (ts ++ more)
two_steps limit s s1 s2 ts ts1 some fits one two =
    let whole = taken limit s s1 ts ts1 some fits one in
    let next = taken limit s1 s2 ts1 [] some whole.fits two in
    let (more, runs) = step_ends limit s1 s2 ts1 some whole.fits two in
    let longer : ts1 ++ more ≡ next.first ∷ ((next.others ++ []) ++ more) = ap (λ l. l ++ more) next.split in
    let may : may_follow s1 (ts1 ++ more) ≡ true =
    ap (may_follow s1) longer ∙ may_follow_first s1 next.first ((next.others ++ []) ++ more) (next.others ++ []) ∙ ap (may_follow s1) (sym next.split) ∙ whole.free in
    let same : whole.first ∷ (whole.others ++ (ts1 ++ more)) ≡ ts ++ more =
    ap (λ l. whole.first ∷ l) (sym (append_assoc whole.others ts1 more)) ∙ ap (λ l. l ++ more) (sym whole.split) in
    (more, subst (RunsToEnd limit s) same (further limit s s1 (whole.first ∷ (whole.others ++ (ts1 ++ more))) (ts1 ++ more) (whole.again limit (ts1 ++ more) (omega arith) may) runs))

leads_on : (limit : ℕ) (s : Configuration) (ts : List Placed) → 1 ≤ limit → Fits limit s → Leads limit (step limit s ts) → (more : List Placed) × RunsToEnd limit s (ts ++ more)
leads_on limit s ts some fits (inl (s', stepped)) = step_ends limit s s' ts some fits stepped
leads_on limit s ts some fits (inr (s1, s2, ts1, one, two)) = two_steps limit s s1 s2 ts ts1 some fits one two

-- a step that is not taken, or leads to none
dead_next : (limit n : ℕ) (next : Move) (d : Document) → Dead limit next → goes_on (run limit n) next ≡ Some d → ⊥
dead_next limit n (took s ts) d (more, stuck) read = no_run limit s ts d more stuck (n, read)
dead_next limit n (misplaced from) d dead read = let never : ⊥ = cc in never
dead_next limit n (too_deep from) d dead read = let never : ⊥ = cc in never

dead_runs : (limit : ℕ) (s : Configuration) (ts : List Placed) (d : Document) → finished s ts ≡ None → Dead limit (step limit s ts) → ¬ (Runs limit s ts d)
dead_runs limit s ts d more dead (zero, read) = let nothing : None ≡ Some d = sym more ∙ read in let never : ⊥ = cc in never
dead_runs limit s ts d more dead (suc n, read) = dead_next limit n (step limit s ts) d dead read

unfinished_at : (s : Configuration) (front : List Placed) (y : Placed) (more : List Placed) → finished s (front ++ y ∷ more) ≡ None
unfinished_at s [] y more = unfinished s y more
unfinished_at s (x ∷ front) y more = unfinished s x (front ++ y ∷ more)

-- a fault stands in symbols that begin with this header or none
record FaultAt (all body : List Placed) (d0 : Document) (s : Configuration) (ts front after before : List Placed) (y : Placed) : Type 0 where
  pub begun : start all ≡ (d0, body)
  pub here : ReachedFrom d0 body s ts
  pub behind : ts ≡ front ++ y ∷ after
  pub opens : GoesOn greatest_depth s front
  pub other : d0 ≡ no_header → is_header_word all ≡ false
  pub cut : all ≡ before ++ y ∷ after

can_follow : (all body : List Placed) (d0 : Document) (s : Configuration) (ts front after before : List Placed) (y : Placed) → FaultAt all body d0 s ts front after before y → CanFollow before
can_follow all body d0 s ts front after before y fault =
    follows_grammar before (opened greatest_depth all body d0 s ts front (y ∷ after) before (omega arith) fault.begun (fault.here greatest_depth (omega arith)) fault.behind fault.opens fault.cut)

cannot_follow : (limit : ℕ) (all body : List Placed) (d0 : Document) (s : Configuration) (ts front after before : List Placed) (y : Placed) → greatest_depth ≤ limit → FaultAt all body d0 s ts front after before y → Shuts limit s front y
    → ¬ (CanFollowWithin limit (before ++ y ∷ []))
cannot_follow limit all body d0 s ts front after before y enough fault shuts =
    shut limit all body d0 s ts front after before y (omega arith) fault.begun (fault.here limit enough) fault.behind shuts fault.other fault.cut

refused_fault : (all body : List Placed) (d0 : Document) (s : Configuration) (ts front after before : List Placed) (y : Placed) → FaultAt all body d0 s ts front after before y
    → ((limit : ℕ) → greatest_depth ≤ limit → Shuts limit s front y) → CanFollow before × ¬ (CanFollowAtAnyDepth (before ++ y ∷ []))
refused_fault all body d0 s ts front after before y fault shuts = (
  can_follow all body d0 s ts front after before y fault,
  λ follows. let within = follows_within (before ++ y ∷ []) follows in
      cannot_follow within.0 all body d0 s ts front after before y within.1 fault (shuts within.0 within.1) within.2,
)

-- The symbol that a step refuses is one that cannot stand there, however deep expressions may be. At the beginning it is not
-- `ws1s`, which may begin the header.
pub symbol_refused : (all body : List Placed) (d0 : Document) (s : Configuration) (ts before : List Placed) (y : Placed) (after : List Placed) → start all ≡ (d0, body) → ReachedFrom d0 body s ts
    → step greatest_depth s ts ≡ misplaced (y ∷ after) → all ≡ before ++ y ∷ after → (before ≡ [] → is_header_word all ≡ false) → CanFollow before × ¬ (CanFollowAtAnyDepth (before ++ y ∷ []))
symbol_refused all body d0 s ts before y after begun here fault cut first =
    let at_limit = here greatest_depth (omega arith) in
    let is : Refuses greatest_depth (λ l. step l s) ts (y ∷ after) = subst (Finds greatest_depth (λ l. step l s) ts) fault (step_finds greatest_depth s ts (omega arith) at_limit.fits) in
    let goes = step_goes greatest_depth s is.front (omega arith) at_limit.fits is.opens in
    let other = no_word greatest_depth all body d0 s ts is.front (y ∷ after) before (omega arith) begun at_limit is.split goes cut first in
    refused_fault all body d0 s ts is.front after before y (record { begun = begun; here = here; behind = is.split; opens = goes; other = other; cut = cut })
    (λ limit enough more d. dead_runs limit s (is.front ++ y ∷ more) d (unfinished_at s is.front y more) (is.shuts limit more enough))

not_nothing : (before : List Placed) (y : Placed) (all : List Placed) → before ++ y ∷ [] ≡ [] → is_header_word all ≡ false
not_nothing [] y all none = let never : ⊥ = cc in absurd never
not_nothing (x ∷ before) y all none = let never : ⊥ = cc in absurd never

-- The symbol at which a step is too deep is one that cannot stand there, and could if the depth had no limit.
pub symbol_too_deep : (all body : List Placed) (d0 : Document) (s : Configuration) (ts before : List Placed) (y : Placed) (after : List Placed) → start all ≡ (d0, body) → ReachedFrom d0 body s ts
    → step greatest_depth s ts ≡ too_deep (y ∷ after) → all ≡ before ++ y ∷ after → CanFollow before × ¬ (CanFollow (before ++ y ∷ [])) × CanFollowAtAnyDepth (before ++ y ∷ [])
symbol_too_deep all body d0 s ts before y after begun here fault cut =
    let deeper = suc (suc greatest_depth) in
    let at_limit = here greatest_depth (omega arith) in
    let above = here deeper (omega arith) in
    let is : IsDeep greatest_depth (λ l. step l s) ts (y ∷ after) = subst (Finds greatest_depth (λ l. step l s) ts) fault (step_finds greatest_depth s ts (omega arith) at_limit.fits) in
    let goes = step_goes greatest_depth s is.front (omega arith) at_limit.fits is.opens in
    let end = leads_on deeper s (is.front ++ y ∷ is.shuts.1) (omega arith) above.fits is.shuts.2 in
    let same : (is.front ++ y ∷ is.shuts.1) ++ end.0 ≡ (is.front ++ y ∷ []) ++ (is.shuts.1 ++ end.0) =
    append_assoc is.front (y ∷ is.shuts.1) end.0 ∙ sym (append_assoc is.front (y ∷ []) (is.shuts.1 ++ end.0)) in
    let goes_deeper : GoesOn deeper s (is.front ++ y ∷ []) = inr (is.shuts.1 ++ end.0, subst (RunsToEnd deeper s) same end.1) in
    let split : ts ≡ (is.front ++ y ∷ []) ++ after = is.split ∙ sym (append_assoc is.front (y ∷ []) after) in
    let longer : all ≡ (before ++ y ∷ []) ++ after = cut ∙ sym (append_assoc before (y ∷ []) after) in
    let other = no_word deeper all body d0 s ts (is.front ++ y ∷ []) after (before ++ y ∷ []) (omega arith) begun above split goes_deeper longer (not_nothing before y all) in
    let at : FaultAt all body d0 s ts is.front after before y = record { begun = begun; here = here; behind = is.split; opens = goes; other = other; cut = cut } in (
      can_follow all body d0 s ts is.front after before y at,
      λ follows. cannot_follow greatest_depth all body d0 s ts is.front after before y (omega arith) at
          (λ more d. no_run greatest_depth s (is.front ++ y ∷ more) d (unfinished_at s is.front y more) (is.shuts.0 more)) (within_grammar (before ++ y ∷ []) follows),
      follows_at_any_depth deeper (before ++ y ∷ []) (opened deeper all body d0 s ts (is.front ++ y ∷ []) after (before ++ y ∷ []) (omega arith) begun above split goes_deeper longer),
    )

-- no expression is too deep where the symbols end
pub end_not_deep : (all body : List Placed) (d0 : Document) (s : Configuration) (ts : List Placed) → ReachedFrom d0 body s ts → step greatest_depth s ts ≡ too_deep [] → ⊥
end_not_deep all body d0 s ts here fault =
    let is : IsDeep greatest_depth (λ l. step l s) ts [] = subst (Finds greatest_depth (λ l. step l s) ts) fault (step_finds greatest_depth s ts (omega arith) (here greatest_depth (omega arith)).fits) in
    is.shuts

-- where a step finds no more symbols, they can be followed
pub end_follows : (all body : List Placed) (d0 : Document) (s : Configuration) (ts : List Placed) → start all ≡ (d0, body) → ReachedFrom d0 body s ts → step greatest_depth s ts ≡ misplaced [] → CanFollow all
end_follows all body d0 s ts begun here fault =
    let at_limit = here greatest_depth (omega arith) in
    let is : Refuses greatest_depth (λ l. step l s) ts [] = subst (Finds greatest_depth (λ l. step l s) ts) fault (step_finds greatest_depth s ts (omega arith) at_limit.fits) in
    let goes = step_goes greatest_depth s is.front (omega arith) at_limit.fits is.opens in
    follows_grammar all (opened greatest_depth all body d0 s ts is.front [] all (omega arith) begun at_limit is.split goes (sym (append-nil all)))

-- The header `ws1s;`.

word_read : (limit : ℕ) (at : At) (y : Placed) (ts : List Placed) (d : Document) → ((a : At) → y ≢ placed semicolon a) → ¬ (ReadsWithin limit (placed word_ws1s at ∷ y ∷ ts) d)
word_read limit at (placed semicolon a) ts d other reads = other a refl
word_read limit at (placed s a) ts d other reads = word_stuck limit at (placed s a ∷ ts) no_header d (document_read limit (placed word_ws1s at ∷ placed s a ∷ ts) d reads)

-- the word can be followed
pub word_follows : (at : At) → CanFollow (placed word_ws1s at ∷ [])
word_follows at =
    let d : Document = record { header = Some (at, Ws1s); declarations = [] } in
    let end = placed semicolon at ∷ [] in
    follows_grammar (placed word_ws1s at ∷ []) (end, d, runs_read greatest_depth (omega arith) (placed word_ws1s at ∷ end) d (0, refl))

-- by its semicolon alone
pub word_shuts : (at : At) (y : Placed) → ((a : At) → y ≢ placed semicolon a) → ¬ (CanFollowAtAnyDepth (placed word_ws1s at ∷ y ∷ []))
word_shuts at y other follows =
    let within = follows_within (placed word_ws1s at ∷ y ∷ []) follows in
    word_read within.0 at y within.2.0 within.2.1 other within.2.2

no_semicolon : (at : At) (y : Placed) (after ts : List Placed) → start (placed word_ws1s at ∷ y ∷ after) ≡ (no_header, ts) → (a : At) → y ≢ placed semicolon a
no_semicolon at y after ts none a same =
    let headed : (record { header = Some (at, Ws1s); declarations = [] }, after) ≡ (no_header, ts) = ap (λ x. start (placed word_ws1s at ∷ x ∷ after)) (sym same) ∙ none in
    some_header (record { header = Some (at, Ws1s); declarations = [] }) (at, Ws1s) refl (ap (λ (x : Document × List Placed). x.0) headed)

-- Where it is refused as the first symbol of all, only its semicolon could follow it.
pub word_refused : (all body : List Placed) (d0 : Document) (s : Configuration) (ts : List Placed) (at : At) (y : Placed) (after : List Placed) → start all ≡ (d0, body) → ReachedFrom d0 body s ts
    → step greatest_depth s ts ≡ misplaced all → all ≡ placed word_ws1s at ∷ y ∷ after → CanFollow (placed word_ws1s at ∷ []) × ¬ (CanFollowAtAnyDepth (placed word_ws1s at ∷ y ∷ []))
word_refused all body d0 s ts at y after begun here fault whole =
    let at_limit = here greatest_depth (omega arith) in
    let is : Refuses greatest_depth (λ l. step l s) ts all = subst (Finds greatest_depth (λ l. step l s) ts) fault (step_finds greatest_depth s ts (omega arith) at_limit.fits) in
    let none = nothing_before greatest_depth all body d0 s ts is.front begun at_limit is.split in
    (word_follows at, word_shuts at y (no_semicolon at y after all (ap start (sym whole) ∙ none)))
