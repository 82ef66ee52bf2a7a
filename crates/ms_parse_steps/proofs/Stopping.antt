-- Where the code stops, the symbols leave the grammar.
use Rattle.std.proofs.Common.{◌≡◌, ℕ, zero, suc, false, List, [], ◌∷◌, ◌++◌, take, drop, None, refl, sym, ap, ◌∙◌, subst}
use Rattle.std.proofs.lemmas.List.{append-nil}
use Rattle.ms_list.specs.declared.at.At.{At}
use Rattle.ms_parse_grammar.specs.Continuation.{CanFollow}
use Rattle.ms_text.specs.TokenList.{Lexed}
use Rattle.ms_parse_grammar.specs.Grammar.{greatest_depth}
use Rattle.ms_parse_grammar.specs.Symbol.{word_ws1s, Placed, placed, symbols}
use Rattle.ms_parse_grammar.specs.Tree.{Document}
use Rattle.ms_parse_grammar.specs.View.{document_of}
use Rattle.ms_parse_steps.specs.declared.stop.Stop.{Stop}
use Rattle.ms_parse_steps.specs.declared.stop.Stop.TheVariants as stops
use Rattle.ms_parse_steps.specs.inner.Machine.{Configuration, outside, took, misplaced, too_deep, start, step, finished}
use Rattle.ms_parse_steps.specs.inner.Outcomes.{StopsAs}
use Rattle.ms_parse_steps.specs.inner.Stops.{Misplaces, Deepens, ReadsNone, behind_word, StopsAt}
use Rattle.ms_parse_steps.proofs.Steps.{IsStuck}
use Rattle.ms_parse_steps.proofs.Tokens.{cut}
use Rattle.ms_parse_steps.proofs.Headers.{is_header_word}
use Rattle.ms_parse_steps.proofs.Loops.{SameRuns, reads_none, starts_here, runs_on}
use Rattle.ms_parse_steps.proofs.Refusals.{ReachedFrom, reached_from_first, reached_from_next, symbol_refused, symbol_too_deep, end_not_deep, end_follows, word_refused, word_follows}

-- The automaton has come to the configuration before these symbols, and from there it reads what it reads from the beginning.
pub record Comes (all : List Placed) (s : Configuration) (ts : List Placed) : Type 0 where
  pub same : SameRuns greatest_depth (outside (start all).0) (start all).1 s ts
  pub reached : ReachedFrom (start all).0 (start all).1 s ts

pub comes_first : (all ts : List Placed) (d : Document) → start all ≡ (d, ts) → Comes all (outside d) ts
comes_first all ts d begun = record {
  same = starts_here greatest_depth all ts d begun;
  reached = subst (λ (x : Document × List Placed). ReachedFrom (start all).0 (start all).1 (outside x.0) x.1) begun (reached_from_first (start all).0 (start all).1);
}

pub comes_next : (all : List Placed) (s s' : Configuration) (ts ts' : List Placed) → Comes all s ts → finished s ts ≡ None → step greatest_depth s ts ≡ took s' ts' → Comes all s' ts'
comes_next all s s' ts ts' here unended stepped = record {
  same = runs_on greatest_depth (outside (start all).0) s s' (start all).1 ts ts' here.same unended stepped;
  reached = reached_from_next (start all).0 (start all).1 s s' ts ts' here.reached stepped;
}

-- the symbols that are left, where the one of them that comes first is refused
left_misplaces : (all : List Placed) (s : Configuration) (ts before from : List Placed) → Comes all s ts → step greatest_depth s ts ≡ misplaced from → all ≡ before ++ from → (before ≡ [] → is_header_word all ≡ false)
    → Misplaces before from
left_misplaces all s ts before [] here fault split first =
    subst CanFollow (split ∙ append-nil before) (end_follows all (start all).1 (start all).0 s ts refl here.reached fault)
left_misplaces all s ts before (y ∷ after) here fault split first =
    symbol_refused all (start all).1 (start all).0 s ts before y after refl here.reached fault split first

left_deepens : (all : List Placed) (s : Configuration) (ts before from : List Placed) → Comes all s ts → step greatest_depth s ts ≡ too_deep from → all ≡ before ++ from → Deepens before from
left_deepens all s ts before [] here fault split = absurd (end_not_deep all (start all).1 (start all).0 s ts here.reached fault)
left_deepens all s ts before (y ∷ after) here fault split = symbol_too_deep all (start all).1 (start all).0 s ts before y after refl here.reached fault split

-- the first of all symbols is refused
first_misplaces : (all : List Placed) (s : Configuration) (ts : List Placed) (at : At) (others : List Placed) → Comes all s ts → step greatest_depth s ts ≡ misplaced all → all ≡ placed word_ws1s at ∷ others
    → Misplaces (placed word_ws1s at ∷ []) others
first_misplaces all s ts at [] here fault whole = word_follows at
first_misplaces all s ts at (y ∷ after) here fault whole = word_refused all (start all).1 (start all).0 s ts at y after refl here.reached fault whole

later : (t : Placed) (all : List Placed) (i : ℕ) → behind_word (t ∷ all) (suc i) ≡ suc i
later (placed word_ws1s at) all i = refl
later (placed _ at) all i = refl

misplaces : (all : List Placed) (i : ℕ) (s : Configuration) (ts : List Placed) → Comes all s ts → step greatest_depth s ts ≡ misplaced (drop i all)
    → Misplaces (take (behind_word all i) all) (drop (behind_word all i) all)
misplaces [] zero s ts here fault = left_misplaces [] s ts [] [] here fault refl (λ none. refl)
misplaces [] (suc i) s ts here fault = left_misplaces [] s ts [] [] here fault refl (λ none. refl)
misplaces (placed word_ws1s at ∷ all) zero s ts here fault = first_misplaces (placed word_ws1s at ∷ all) s ts at all here fault refl
misplaces (t ∷ all) zero s ts here fault = left_misplaces (t ∷ all) s ts [] (t ∷ all) here fault refl (λ none. refl)
misplaces (t ∷ all) (suc i) s ts here fault =
    subst (λ n. Misplaces (take n (t ∷ all)) (drop n (t ∷ all))) (sym (later t all i))
    (left_misplaces (t ∷ all) s ts (t ∷ take i all) (drop i all) here fault (ap (λ l. t ∷ l) (cut all i)) (λ none. let never : ⊥ = cc in absurd never))

none_read : (file : ℕ) (lexed : Lexed) (s : Configuration) (ts : List Placed) → Comes (symbols file lexed) s ts → finished s ts ≡ None → IsStuck (step greatest_depth s ts) → ReadsNone file lexed
none_read file lexed s ts here unended stuck source reads = reads_none (symbols file lexed) s ts here.same unended stuck (document_of source) reads

-- where the code stops
pub stops_at : (file : ℕ) (lexed : Lexed) (s : Configuration) (ts : List Placed) (stop : Stop) → Comes (symbols file lexed) s ts → finished s ts ≡ None → StopsAs file lexed (step greatest_depth s ts) stop → StopsAt file lexed stop
stops_at file lexed s ts stops.Memory here unended fault = tt
stops_at file lexed s ts (stops.Refused i) here unended fault =
    (none_read file lexed s ts here unended (subst IsStuck (sym fault) tt), misplaces (symbols file lexed) i s ts here fault)
stops_at file lexed s ts (stops.TooDeep i) here unended fault =
    (none_read file lexed s ts here unended (subst IsStuck (sym fault) tt), left_deepens (symbols file lexed) s ts (take i (symbols file lexed)) (drop i (symbols file lexed)) here fault (cut (symbols file lexed) i))
