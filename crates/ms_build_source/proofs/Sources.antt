-- A checked source, with the answers of its imports, is one whose calls are filled in.
use Rattle.std.proofs.Common.{◌≡◌, ℕ, zero, suc, ◌+◌, ◌<◌, List, [], ◌∷◌, length, map, slice_get, inl, inr, refl, ap, subst, arith}
use Rattle.std.specs.List.{zip}
use Rattle.ms_logic.specs.declared.checked.Checked.{Checked}
use Rattle.ms_logic.specs.declared.checked.Global.{Global}
use Rattle.ms_logic.specs.declared.checked.ImportUse.{ImportUse}
use Rattle.ms_logic.specs.declared.mode.Order.{Order}
use Rattle.ms_logic.specs.Assignment.{Variable}
use Rattle.ms_logic.specs.FreeVariables.{IsListed}
use Rattle.ms_logic_core.specs.Spread.{variables_of_import}
use Rattle.ms_logic.specs.View.{globals_from, import_of, problem_of, Answers}
use Rattle.ms_names_rules.specs.Numbers.{IsWellNumbered, globals_seen, tables_of}
use Rattle.ms_lower.specs.Numbering.{variables_of_use}
use Rattle.ms_lower.proofs.TermScopes.{variable}
use Rattle.ms_build_source.specs.inner.Filling.{IsSource}

imports_counted : (uses : List ImportUse) (answers : Answers) → length answers ≡ length uses → length uses ≡ length (map (λ p. import_of p.0 p.1) (zip uses answers))
imports_counted [] answers count = refl
imports_counted (u ∷ uses) [] count = absurd (omega (arith, count))
imports_counted (u ∷ uses) (answer ∷ answers) count = ap (λ k. suc k) (imports_counted uses answers (omega (arith, count)))

imports_named : (uses : List ImportUse) (answers : Answers) (i : ℕ) → length answers ≡ length uses →
    variables_of_import (slice_get (map (λ p. import_of p.0 p.1) (zip uses answers)) i) ≡ variables_of_use (slice_get uses i)
imports_named [] answers zero count = refl
imports_named [] answers (suc i) count = refl
imports_named (u ∷ uses) [] i count = absurd (omega (arith, count))
imports_named (u ∷ uses) (answer ∷ answers) zero count = refl
imports_named (u ∷ uses) (answer ∷ answers) (suc i) count = imports_named uses answers i (omega (arith, count))

-- the numbers of the globals are those below their count

globals_all : (first : ℕ) (gs : List Global) (x : ℕ) → x < length gs → (o : Order) × IsListed (map (λ d. d.variable) (globals_from first gs)) (variable (first + x) o)
globals_all first [] x below = absurd (omega (arith, below))
globals_all first (g ∷ gs) zero below = let at : first + 0 ≡ first = omega arith in (g.order, inl (at, refl))
globals_all first (g ∷ gs) (suc x) below =
    let at : first + 1 + x ≡ first + suc x = omega arith in
    let found = globals_all (first + 1) gs x (omega (arith, below)) in
    let P : ℕ → Type 0 = λ y. IsListed (map (λ d. d.variable) (globals_from (first + 1) gs)) (variable y found.0) in
    (found.0, inr (subst P at found.1))

globals_within : (first : ℕ) (gs : List Global) (w : Variable) → IsListed (map (λ d. d.variable) (globals_from first gs)) w → w.name < first + length gs
globals_within first [] w listed = absurd listed
globals_within first (g ∷ gs) w (inl here) = let is = here.0 in omega (arith, is)
globals_within first (g ∷ gs) w (inr later) = let below = globals_within (first + 1) gs w later in omega (arith, below)

pub source_is : (checked : Checked) (answers : Answers) → length answers ≡ length checked.imports → IsWellNumbered checked →
    IsSource (problem_of checked answers).given (tables_of checked) (length checked.globals) (globals_seen checked)
source_is checked answers count well = record {
  predicates_are = refl;
  imports_are = imports_counted checked.imports answers count;
  variables_are = λ i. imports_named checked.imports answers i count;
  predicates = well.predicates;
  all = λ x below. let at : 0 + x ≡ x = omega arith in let found = globals_all 0 checked.globals x below in (found.0, (let P : ℕ → Type 0 = λ y. IsListed (globals_seen checked) (variable y found.0) in subst P at found.1));
  within = λ w listed. let below = globals_within 0 checked.globals w listed in omega (arith, below);
}
