-- Scopes with more variables, and what is free outside them.
use Rattle.std.proofs.Common.{ℕ, ◌+◌, ◌<◌, ◌≤◌, ◌⊎◌, inl, inr, ⊎_elim, List, [], ◌∷◌, arith, add-zero, ap, length, refl, subst, sym, ◌++◌, ◌∙◌, ◌≡◌}
use Rattle.ms_logic.specs.declared.checked.ExportUse.{ExportUse}
use Rattle.ms_logic.specs.declared.mode.Order.{Order}
use Rattle.ms_logic.specs.Assignment.{Variable}
use Rattle.ms_logic.specs.FreeVariables.{IsBound, IsVariable, Reads}
use Rattle.ms_logic_core.specs.Roots.{Export}
use Rattle.ms_names_rules.specs.declared.meaning.Meaning.TheVariants as meaning
use Rattle.ms_names_rules.specs.inner.Free.{Readings}
use Rattle.ms_logic.specs.Lists.{Each}
use Rattle.ms_names_rules.specs.Scope.{Scope, bind, count_of_bounds, count_of_parts, under_bounds, under_parts, without_exports, Bytes}
use Rattle.ms_parse_grammar.specs.Tree.{Variables, no_variables, and_variable, Parts, no_parts, and_part}
use Rattle.ms_names_rules.specs.Typed.{numbers_of_parts}
use Rattle.ms_names_rules.proofs.Fitting.{IsBelow, below-more, each-weaker}
use Rattle.ms_names_checked.proofs.Scopes.{IsInScope, Knows, Names, in-scope-below, knows-bind, knows-without}
use Rattle.ms_names_checked.proofs.Told.{Told}
use Rattle.std.proofs.lemmas.List.{length-append}
use Rattle.ms_names_rules.specs.inner.Examples.{less}

-- a scope whose variables have numbers below x, where x is new
pub record At (r : Reads) (R : List Readings) (low start : ℕ) (s : Scope) (x : ℕ) : Type 0 where
  pub knows : Knows r R low start s
  pub from : low ≤ x
  pub begun : start ≤ x
  pub below : Each (IsBelow x) s.names

pub at-later : (r : Reads) (R : List Readings) (low start : ℕ) (s : Scope) (x y : ℕ) → x ≤ y → At r R low start s x → At r R low start s y
at-later r R low start s x y le h =
    let from = h.from in
    let begun = h.begun in
    record {
      knows = h.knows;
      from = omega (arith, le, from);
      begun = omega (arith, le, begun);
      below = each-weaker (IsBelow x) (IsBelow y) s.names (below-more x y le) h.below;
    }

pub at-without : (r : Reads) (R : List Readings) (low start : ℕ) (s : Scope) (x : ℕ) → At r R low start s x → At r R low start (without_exports s) x
at-without r R low start s x h = record { knows = knows-without r R low start s h.knows; from = h.from; begun = h.begun; below = h.below }

pub at-bind : (r : Reads) (R : List Readings) (low start : ℕ) (s : Scope) (x : ℕ) (o : Order) (n : Bytes) → At r R low start s x →
    At r R low start (bind n (meaning.Variable x o) s) (x + 1)
at-bind r R low start s x o n h =
    let from = h.from in
    let begun = h.begun in
    record {
      knows = knows-bind r R low start s x o n h.knows h.below (inr h.begun);
      from = omega (arith, from);
      begun = omega (arith, begun);
      below = (omega arith, each-weaker (IsBelow x) (IsBelow (x + 1)) s.names (below-more x (x + 1) (omega arith)) h.below);
    }

pub at-bounds : (r : Reads) (R : List Readings) (low start : ℕ) (s : Scope) (x y : ℕ) (vs : Variables) → x + count_of_bounds vs ≤ y → At r R low start s x →
    At r R low start (under_bounds s x vs) y
at-bounds r R low start s x y no_variables le h = at-later r R low start s x y (omega arith) h
at-bounds r R low start s x y (and_variable vs at o n d) le h =
    let z = x + count_of_bounds vs in
    at-later r R low start (under_bounds s x (and_variable vs at o n d)) (z + 1) y (omega (arith, le))
    (at-bind r R low start (under_bounds s x vs) z o n (at-bounds r R low start s x z vs (omega arith) h))

pub at-parts : (r : Reads) (R : List Readings) (low start : ℕ) (s : Scope) (x y : ℕ) (o : Order) (ps : Parts) → x + count_of_parts ps ≤ y → At r R low start s x →
    At r R low start (under_parts s x o ps) y
at-parts r R low start s x y o no_parts le h = at-later r R low start s x y (omega arith) h
at-parts r R low start s x y o (and_part ps at n e) le h =
    let z = x + count_of_parts ps in
    at-later r R low start (under_parts s x o (and_part ps at n e)) (z + 1) y (omega (arith, le))
    (at-bind r R low start (under_parts s x o ps) z o n (at-parts r R low start s x z o ps (omega arith) h))

-- what is free and is not the innermost variable
pub hide-one : (r : Reads) (exports : List ExportUse) (low high : ℕ) (names : Names) (x : ℕ) (o : Order) (n : Bytes) (Q : ℕ → Type 0) (F : Variable → Type 0) (es : List Export) →
    low ≤ x → x < high → Each (IsBelow x) names → Told r exports low high ((n, meaning.Variable x o) ∷ names) Q F es →
    Told r exports low high names Q (λ w. (IsVariable x o w → ⊥) × F w) es
hide-one r exports low high names x o n Q F es from less below h = record {
  free = λ w free. let there = h.free w free.1 in (there.0, ⊎_elim (λ is. absurd (free.0 is)) (λ seen. seen) there.1);
  back = λ w seen reached.
      let under = in-scope-below x names w below seen in (λ is. let same = is.0 in omega (arith, under, same), h.back w (inr seen) reached);
  old = λ y reached.
      ⊎_elim (λ found. ⊎_elim (λ is. let same = is.0 in inr (omega (arith, same, from), omega (arith, same, less))) (λ seen. inl (found.0, seen)) found.1) (λ before. inr before) (h.old y reached);
  listed = h.listed;
}

-- the orders of the names of a `let`
abbrev pub orders_of_parts : Order → Parts → List Order
orders_of_parts o no_parts = []
orders_of_parts o (and_part ps at n e) = orders_of_parts o ps ++ o ∷ []

-- their numbers go on from x

abbrev pub from : ℕ → List Order → List ℕ
from x [] = []
from x (o ∷ os) = x ∷ from (x + 1) os

from-behind : (x : ℕ) (os : List Order) (o : Order) → from x (os ++ o ∷ []) ≡ from x os ++ (x + length os) ∷ []
from-behind x [] o = ap (λ y. y ∷ []) (sym (add-zero x))
from-behind x (p ∷ os) o =
    let same : x + 1 + length os ≡ x + length (p ∷ os) = omega arith in
    ap (λ xs. x ∷ xs) (from-behind (x + 1) os o ∙ ap (λ y. from (x + 1) os ++ y ∷ []) same)

parts-count : (o : Order) (ps : Parts) → length (orders_of_parts o ps) ≡ count_of_parts ps
parts-count o no_parts = refl
parts-count o (and_part ps at n e) = length-append (orders_of_parts o ps) (o ∷ []) ∙ ap (λ k. k + 1) (parts-count o ps)

pub numbers-from : (x : ℕ) (o : Order) (ps : Parts) → numbers_of_parts x ps ≡ from x (orders_of_parts o ps)
numbers-from x o no_parts = refl
numbers-from x o (and_part ps at n e) =
    ap (λ xs. xs ++ (x + count_of_parts ps) ∷ []) (numbers-from x o ps)
    ∙ (ap (λ k. from x (orders_of_parts o ps) ++ (x + k) ∷ []) (sym (parts-count o ps)) ∙ sym (from-behind x (orders_of_parts o ps) o))

-- with one more name behind

bound-front : (x : ℕ) (os : List Order) (o : Order) (w : Variable) → IsBound (from x os) os w → IsBound (from x (os ++ o ∷ [])) (os ++ o ∷ []) w
bound-front x [] o w h = absurd h
bound-front x (p ∷ os) o w (inl is) = inl is
bound-front x (p ∷ os) o w (inr h) = inr (bound-front (x + 1) os o w h)

bound-last : (x : ℕ) (os : List Order) (o : Order) (w : Variable) → IsVariable (x + length os) o w → IsBound (from x (os ++ o ∷ [])) (os ++ o ∷ []) w
bound-last x [] o w h = inl (subst (λ y. IsVariable y o w) (add-zero x) h)
bound-last x (p ∷ os) o w h =
    let same : x + length (p ∷ os) ≡ x + 1 + length os = omega arith in
    inr (bound-last (x + 1) os o w (subst (λ y. IsVariable y o w) same h))

between : (x : ℕ) (os : List Order) (w : Variable) → IsBound (from x os) os w → (x ≤ w.name) × (w.name < x + length os)
between x [] w h = absurd h
between x (o ∷ os) w (inl is) = let same = is.0 in (omega (arith, same), omega (arith, same))
between x (o ∷ os) w (inr h) =
    let there = between (x + 1) os w h in
    let first = there.0 in
    let last = there.1 in
    (omega (arith, first), omega (arith, last))

bound-between : (x : ℕ) (o : Order) (ps : Parts) (w : Variable) → IsBound (numbers_of_parts x ps) (orders_of_parts o ps) w → (x ≤ w.name) × (w.name < x + count_of_parts ps)
bound-between x o ps w h =
    let os = orders_of_parts o ps in
    let there = between x os w (subst (λ xs. IsBound xs os w) (numbers-from x o ps) h) in
    let last = there.1 in
    let long = parts-count o ps in
    (there.0, omega (arith, last, long))

in-from : (s : Scope) (x : ℕ) (o : Order) (ps : Parts) (w : Variable) → IsInScope (under_parts s x o ps).names w →
    IsBound (from x (orders_of_parts o ps)) (orders_of_parts o ps) w ⊎ IsInScope s.names w
in-from s x o no_parts w h = inr h
in-from s x o (and_part ps at n e) w (inl is) =
    inl (bound-last x (orders_of_parts o ps) o w (subst (λ k. IsVariable (x + k) o w) (sym (parts-count o ps)) is))
in-from s x o (and_part ps at n e) w (inr h) =
    ⊎_elim (λ bound. inl (bound-front x (orders_of_parts o ps) o w bound)) (λ outer. inr outer) (in-from s x o ps w h)

in-parts : (s : Scope) (x : ℕ) (o : Order) (ps : Parts) (w : Variable) → IsInScope (under_parts s x o ps).names w →
    IsBound (numbers_of_parts x ps) (orders_of_parts o ps) w ⊎ IsInScope s.names w
in-parts s x o ps w h =
    ⊎_elim (λ bound. inl (subst (λ xs. IsBound xs (orders_of_parts o ps) w) (sym (numbers-from x o ps)) bound)) (λ outer. inr outer) (in-from s x o ps w h)

kept-parts : (s : Scope) (x : ℕ) (o : Order) (ps : Parts) (w : Variable) → IsInScope s.names w → IsInScope (under_parts s x o ps).names w
kept-parts s x o no_parts w h = h
kept-parts s x o (and_part ps at n e) w h = inr (kept-parts s x o ps w h)

-- what is free and is none of the names of a `let`
pub hide-parts : (r : Reads) (exports : List ExportUse) (low high : ℕ) (s : Scope) (x : ℕ) (o : Order) (ps : Parts) (Q : ℕ → Type 0) (F : Variable → Type 0) (es : List Export) →
    low ≤ x → x + count_of_parts ps ≤ high → Each (IsBelow x) s.names → Told r exports low high (under_parts s x o ps).names Q F es →
    Told r exports low high s.names Q (λ w. (IsBound (numbers_of_parts x ps) (orders_of_parts o ps) w → ⊥) × F w) es
hide-parts r exports low high s x o ps Q F es from le below h = record {
  free = λ w free. let there = h.free w free.1 in (there.0, ⊎_elim (λ bound. absurd (free.0 bound)) (λ seen. seen) (in-parts s x o ps w there.1));
  back = λ w seen reached.
      let under = in-scope-below x s.names w below seen in
      (λ bound. let there = bound-between x o ps w bound in let first = there.0 in omega (arith, under, first), h.back w (kept-parts s x o ps w seen) reached);
  old = λ y reached.
      ⊎_elim
      (λ found. ⊎_elim
      (λ bound. let there = bound-between x o ps (record { name = y; order = found.0 }) bound in let first = there.0 in let last = there.1 in inr (omega (arith, first, from), omega (arith, last, le)))
      (λ seen. inl (found.0, seen)) (in-parts s x o ps (record { name = y; order = found.0 }) found.1))
      (λ before. inr before) (h.old y reached);
  listed = h.listed;
}
