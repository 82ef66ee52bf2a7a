-- What can follow symbols, and what cannot, by computation.
use Rattle.std.proofs.Common.{◌≡◌, ℕ, zero, suc, List, [], ◌∷◌, ◌++◌, refl, sym, ◌∙◌, subst, false}
use Rattle.ms_parse_grammar.specs.Continuation.{CanFollow, CanFollowAtAnyDepth}
use Rattle.ms_parse_grammar.specs.Grammar.{greatest_depth}
use Rattle.ms_parse_grammar.specs.Symbol.{Placed}
use Rattle.ms_parse_grammar.specs.Tree.{Document}
use Rattle.ms_parse_steps.specs.inner.Machine.{Configuration, outside, Move, took, misplaced, too_deep, start, step}
use Rattle.ms_parse_steps.proofs.Headers.{is_header_word}
use Rattle.ms_parse_steps.proofs.Refusals.{ReachedFrom, reached_from_first, reached_from_next, symbol_refused, symbol_too_deep, end_follows}
use Rattle.ms_parse_steps.proofs.Steps.{IsStuck}

abbrev behind_step : (Configuration → List Placed → Move) → Move → Move
behind_step further (took s ts) = further s ts
behind_step further (misplaced from) = misplaced from
behind_step further (too_deep from) = too_deep from

-- the first of so many steps that is not taken
abbrev pub first_stuck : ℕ → Configuration → List Placed → Move
first_stuck zero s ts = took s ts
first_stuck (suc n) s ts = behind_step (first_stuck n) (step greatest_depth s ts)

-- the automaton comes to a configuration from which this step is not taken
record Found (d0 : Document) (body : List Placed) (stuck : Move) : Type 0 where
  pub state : Configuration
  pub left : List Placed
  pub reached : ReachedFrom d0 body state left
  pub is : step greatest_depth state left ≡ stuck

found_by : (n : ℕ) (d0 : Document) (body : List Placed) (s : Configuration) (ts : List Placed) (stuck : Move) → ((s' : Configuration) (ts' : List Placed) → ReachedFrom d0 body s' ts' → first_stuck n s' ts' ≡ stuck → Found d0 body stuck)
    → ReachedFrom d0 body s ts → (next : Move) → step greatest_depth s ts ≡ next → behind_step (first_stuck n) next ≡ stuck → Found d0 body stuck
found_by n d0 body s ts stuck further here (took s' ts') stepped is = further s' ts' (reached_from_next d0 body s s' ts ts' here stepped) is
found_by n d0 body s ts stuck further here (misplaced from) stepped is = record { state = s; left = ts; reached = here; is = stepped ∙ is }
found_by n d0 body s ts stuck further here (too_deep from) stepped is = record { state = s; left = ts; reached = here; is = stepped ∙ is }

found : (n : ℕ) (d0 : Document) (body : List Placed) (s : Configuration) (ts : List Placed) (stuck : Move) → IsStuck stuck → ReachedFrom d0 body s ts → first_stuck n s ts ≡ stuck → Found d0 body stuck
found zero d0 body s ts stuck is_so here is = absurd (subst IsStuck (sym is) is_so)
found (suc n) d0 body s ts stuck is_so here is =
    found_by n d0 body s ts stuck (λ s' ts' here' is'. found n d0 body s' ts' stuck is_so here' is') here (step greatest_depth s ts) refl is

found_in : (n : ℕ) (all : List Placed) (stuck : Move) → IsStuck stuck → first_stuck n (outside (start all).0) (start all).1 ≡ stuck → Found (start all).0 (start all).1 stuck
found_in n all stuck is_so is = found n (start all).0 (start all).1 (outside (start all).0) (start all).1 stuck is_so (reached_from_first (start all).0 (start all).1) is

-- the automaton finds no more symbols
pub follows_by_trial : (n : ℕ) (all : List Placed) → first_stuck n (outside (start all).0) (start all).1 ≡ misplaced [] → CanFollow all
follows_by_trial n all is =
    let here = found_in n all (misplaced []) tt is in
    end_follows all (start all).1 (start all).0 here.state here.left refl here.reached here.is

-- it refuses the last symbol
pub misplaced_by_trial : (n : ℕ) (before : List Placed) (y : Placed)
    → first_stuck n (outside (start (before ++ y ∷ [])).0) (start (before ++ y ∷ [])).1 ≡ misplaced (y ∷ []) → (before ≡ [] → is_header_word (before ++ y ∷ []) ≡ false) → ¬ (CanFollowAtAnyDepth (before ++ y ∷ []))
misplaced_by_trial n before y is first =
    let all = before ++ y ∷ [] in
    let here = found_in n all (misplaced (y ∷ [])) tt is in
    (symbol_refused all (start all).1 (start all).0 here.state here.left before y [] refl here.reached here.is refl first).1

-- with the last symbol an expression is too deep
pub too_deep_by_trial : (n : ℕ) (before : List Placed) (y : Placed) → first_stuck n (outside (start (before ++ y ∷ [])).0) (start (before ++ y ∷ [])).1 ≡ too_deep (y ∷ [])
    → ¬ (CanFollow (before ++ y ∷ [])) × CanFollowAtAnyDepth (before ++ y ∷ [])
too_deep_by_trial n before y is =
    let all = before ++ y ∷ [] in
    let here = found_in n all (too_deep (y ∷ [])) tt is in
    let facts = symbol_too_deep all (start all).1 (start all).0 here.state here.left before y [] refl here.reached here.is refl in
    (facts.1, facts.2)
