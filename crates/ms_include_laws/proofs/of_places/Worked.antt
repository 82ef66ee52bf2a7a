-- The examples that are worked by hand.
use Rattle.std.proofs.Common.{rules, codes, None, ◌≡◌, [], ◌∷◌, sym, subst, arith}
use Rattle.ms_list.specs.declared.at.At.{At}
use Rattle.ms_logic.specs.declared.source.Bound.{roll-Bound}
use Rattle.ms_logic.specs.declared.source.Form.{the_lemmas}
use Rattle.ms_logic.specs.declared.source.Form.TheVariants as form
use Rattle.ms_logic.specs.declared.mode.Order.TheVariants.{One}
use Rattle.ms_parse_grammar.specs.Tree.{truth, atom, unrestricted, no_variables}
use Rattle.ms_parse_grammar.specs.View.{Variable, variable_of, variables_behind, expression_of}
use Rattle.ms_include_laws.specs.inner.places.Examples.{at, default_at, global_at, goal_at, predicate_at, source, truth_at}
use Rattle.ms_include_laws.specs.inner.places.Places.{EachPlaceIn, EachPlaceInBounds, EachPlaceInItem, HasPlacesInFiles, IsAmongFiles}

truth-of : (place : At) → expression_of (record { at = place; form = form.True }) ≡ atom place truth
truth-of place = search (rules, the_lemmas)

truth-in : (P : At → Type 0) (place inside : At) → P place → P inside → EachPlaceInItem P (truth_at place inside)
truth-in P place inside h k = (h, subst (EachPlaceIn P) (sym (truth-of inside)) (k, tt))

truth-out : (P : At → Type 0) (place inside : At) → EachPlaceInItem P (truth_at place inside) → P inside
truth-out P place inside h = (subst (EachPlaceIn P) (truth-of inside) h.1).0

pub inside : HasPlacesInFiles 0 (source (truth_at (at 0) (at 0) ∷ []))
inside = (truth-in (IsAmongFiles 0 1) (at 0) (at 0) (omega arith, omega arith) (omega arith, omega arith), tt)

pub behind : HasPlacesInFiles 1 (source (truth_at (at 1) (at 1) ∷ []))
behind = (truth-in (IsAmongFiles 1 1) (at 1) (at 1) (omega arith, omega arith) (omega arith, omega arith), tt)

pub formula-outside : HasPlacesInFiles 0 (source (truth_at (at 0) (at 1) ∷ [])) → ⊥
formula-outside h = omega (arith, (truth-out (IsAmongFiles 0 1) (at 0) (at 1) h.0).1)

pub second-outside : HasPlacesInFiles 0 (source (truth_at (at 0) (at 0) ∷ truth_at (at 0) (at 1) ∷ [])) → ⊥
second-outside h = omega (arith, (truth-out (IsAmongFiles 0 1) (at 0) (at 1) h.1.0).1)

pub before : HasPlacesInFiles 1 (source (truth_at (at 1) (at 0) ∷ [])) → ⊥
before h = omega (arith, (truth-out (IsAmongFiles 1 1) (at 1) (at 0) h.0).0)

-- one global

bound-at : (place : At) → variable_of (roll-Bound (record { at = place; order = One; name = codes "x"; domain = None })) ≡ record { at = place; order = One; name = codes "x"; domain = unrestricted }
bound-at place = search (rules, the_lemmas)

pub global-inside : HasPlacesInFiles 0 (source (global_at (at 0) (at 0) ∷ []))
global-inside = (
  ((omega arith, omega arith), subst (λ (v : Variable). EachPlaceInBounds (IsAmongFiles 0 1) (variables_behind no_variables (v ∷ []))) (sym (bound-at (at 0))) (tt, (omega arith, omega arith), tt)),
  tt,
)

pub global-outside : HasPlacesInFiles 0 (source (global_at (at 0) (at 1) ∷ [])) → ⊥
global-outside h =
    omega (arith, (subst (λ (v : Variable). EachPlaceInBounds (IsAmongFiles 0 1) (variables_behind no_variables (v ∷ []))) (bound-at (at 1)) h.0.1).1.1)

-- bodies

body-in : (P : At → Type 0) (place : At) → P place → EachPlaceIn P (expression_of (record { at = place; form = form.True }))
body-in P place h = subst (EachPlaceIn P) (sym (truth-of place)) (h, tt)

pub predicate-inside : HasPlacesInFiles 0 (source (predicate_at (at 0) (at 0) (at 0) ∷ default_at (at 0) (at 0) ∷ []))
predicate-inside = (
  ((omega arith, omega arith), ((omega arith, omega arith), tt, body-in (IsAmongFiles 0 1) (at 0) (omega arith, omega arith))),
  (((omega arith, omega arith), body-in (IsAmongFiles 0 1) (at 0) (omega arith, omega arith)), tt),
)

pub predicate-body-outside : HasPlacesInFiles 0 (source (predicate_at (at 0) (at 0) (at 1) ∷ [])) → ⊥
predicate-body-outside h = omega (arith, (subst (EachPlaceIn (IsAmongFiles 0 1)) (truth-of (at 1)) h.0.1.2).0.1)

pub default-outside : HasPlacesInFiles 0 (source (default_at (at 0) (at 1) ∷ [])) → ⊥
default-outside h = omega (arith, (subst (EachPlaceIn (IsAmongFiles 0 1)) (truth-of (at 1)) h.0.1).0.1)

pub goal-inside : HasPlacesInFiles 0 (source (goal_at (at 0) (at 0) (at 0) ∷ []))
goal-inside = (((omega arith, omega arith), ((omega arith, omega arith), body-in (IsAmongFiles 0 1) (at 0) (omega arith, omega arith))), tt)

pub goal-outside : HasPlacesInFiles 0 (source (goal_at (at 0) (at 0) (at 1) ∷ [])) → ⊥
goal-outside h = omega (arith, (subst (EachPlaceIn (IsAmongFiles 0 1)) (truth-of (at 1)) h.0.1.1).0.1)

pub ruleset worked = (inside, behind, formula-outside, second-outside, before, global-inside, global-outside, predicate-inside, predicate-body-outside, default-outside, goal-inside, goal-outside)
