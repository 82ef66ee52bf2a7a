-- What a call of a predicate is lowered to calls earlier predicates alone, so that each import in it has a smaller number.
use Rattle.std.proofs.Common.{ℕ, zero, suc, ◌+◌, ◌==◌, ◌<◌, ◌≤◌, true, false, if◌then◌else◌, List, [], ◌∷◌, ◌++◌, length, map, take, slice_get, Some, ◌≡◌, subst, arith}
use Rattle.ms_logic.specs.Assignment.{Variable}
use Rattle.ms_logic.specs.Tree.{Predicate}
use Rattle.ms_logic.specs.Truth.{Given}
use Rattle.ms_logic_core.specs.Calls.{calling_with, calling_with_all}
use Rattle.ms_logic_core.specs.CoreForm.{imported}
use Rattle.ms_logic_core.specs.Spread.{Callees, Names, callees_of_imports, conjunction_of, default_names, restrictions_of, spread_under}
use Rattle.ms_lower.specs.Calling.{body_at, calling_before, calling_numbers, free_at, names_at}
use Rattle.ms_names_rules.specs.Numbers.{AreNumberedParameters, AreNumberedPredicates, Tables}
use Rattle.ms_dag.specs.Imports.{ImportsBelow}
use Rattle.ms_build_source.proofs.FilledPredicates.{numbered_within}
use Rattle.ms_build_source.proofs.ImportsOfFormulas.{AreBelow, conjunction_below, joined_below, parameters_below}
use Rattle.ms_build_source.proofs.ImportsOfSources.{renumbered_below}

-- predicates before one
taken_numbered : (tables : Tables) (seen : List Variable) (number k : ℕ) (ps : List Predicate) → AreNumberedPredicates tables number seen ps → AreNumberedPredicates tables number seen (take k ps)
taken_numbered tables seen number zero [] numbered = tt
taken_numbered tables seen number zero (p ∷ ps) numbered = tt
taken_numbered tables seen number (suc k) [] numbered = tt
taken_numbered tables seen number (suc k) (p ∷ ps) numbered = (numbered.0, taken_numbered tables seen (number + 1) k ps numbered.1)

taken_few : (k : ℕ) (ps : List Predicate) → length (take k ps) ≤ k
taken_few zero [] = omega arith
taken_few zero (p ∷ ps) = omega arith
taken_few (suc k) [] = omega arith
taken_few (suc k) (p ∷ ps) = let few = taken_few k ps in omega (arith, few)

module _ (tables : Tables) (seen : List Variable) (count : ℕ) (enough : length tables.imports ≤ count) (imports : ℕ) where
  -- one more predicate, calls of which stand as imports
  one_below : (c : Callees) (number : ℕ) (q : Predicate) → imports + number < count → AreBelow count c → AreNumberedParameters tables number seen q.parameters q.body
      → AreBelow count (calling_with imports c number q)
  one_below c number q less bodies numbered = record {
    called = λ p names free.
        elim (p == number) as (λ b.
        ImportsBelow count ((if b
        then (λ (there : Names) (next : ℕ). imported (imports + number) (map (λ declared. there declared.variable.order declared.variable.name) q.parameters ++ next ∷ []))
        else c.body p) names free)) [
          | true ↦ less
          | false ↦ bodies.called p names free
        ];
    default = λ p y names free.
        elim (p == number) as (λ b.
        ImportsBelow count ((if b then (λ z there next. spread_under c q.body (default_names q.parameters z there) next) else c.default p) y names free)) [
          | true ↦ (parameters_below tables count enough c bodies number q.parameters q.body seen names free numbered).1 (default_names q.parameters y names) free
          | false ↦ bodies.default p y names free
        ];
  }

  all_below : (c : Callees) (number : ℕ) (ps : List Predicate) → imports + number + length ps ≤ count → AreBelow count c → AreNumberedPredicates tables number seen ps
      → AreBelow count (calling_with_all imports c number ps)
  all_below c number [] few bodies numbered = bodies
  all_below c number (p ∷ ps) few bodies numbered =
      all_below (calling_with imports c number p) (number + 1) ps (omega (arith, few)) (one_below c number p (omega (arith, few)) bodies numbered.0) numbered.1

-- the body of a predicate, as it is lowered
pub body_below : (tables : Tables) (seen : List Variable) (globals : ℕ) (given : Given) (p : ℕ) (q : Predicate) (ys : List ℕ) → length given.imports ≡ length tables.imports
    → AreNumberedPredicates tables 0 seen given.predicates → slice_get given.predicates p ≡ Some q → ImportsBelow (length tables.imports + p) (body_at globals given p q ys)
body_below tables seen globals given p q ys long numbered held =
    let count = length tables.imports + p in
    let few = taken_few p given.predicates in
    let base = callees_of_imports given.imports in
    let before = calling_before given p in
    let bodies : AreBelow count before =
    all_below tables seen count (omega arith) (length given.imports) base 0 (take p given.predicates) (omega (arith, few, long))
    (record { called = λ i names free. tt; default = λ i y names free. tt }) (taken_numbered tables seen 0 p given.predicates numbered) in
    let at : 0 + p ≡ p = omega arith in
    let own : AreNumberedParameters tables p seen q.parameters q.body =
    subst (λ k. AreNumberedParameters tables k seen q.parameters q.body) at (numbered_within tables seen 0 given.predicates p q held numbered) in
    let names = names_at globals q.parameters ys in
    let free = free_at globals q.parameters ys in
    let restrictions = restrictions_of before q.parameters names free in
    let body = spread_under before q.body names free in
    let parts = parameters_below tables count (omega arith) before bodies p q.parameters q.body seen names free own in
    renumbered_below (calling_numbers globals globals given) count (conjunction_of (restrictions ++ body ∷ []))
    (conjunction_below count (restrictions ++ body ∷ []) (joined_below count restrictions (body ∷ []) parts.0 (parts.1 names free, tt)))
