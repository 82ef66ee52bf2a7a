-- The tables of a source are what its mathematical source has.
use mathlib.Core.Path.{fun_ext}
use Rattle.std.proofs.Common.{◌≡◌, ℕ, zero, suc, ◌-◌, cond, min, nat_lt, List, [], ◌∷◌, ◌++◌, length, map, take, slice_get, Some, refl, sym, ap, ap₂, ◌∙◌, arith}
use Rattle.std.proofs.lemmas.List.{take-map, take_all}
use Rattle.std.proofs.lemmas.Option.{slice_get-map}
use Rattle.std.specs.List.{zip}
use Rattle.std.specs.Option.{option_map}
use Rattle.ms_logic_core.specs.Calls.{calling_with_all}
use Rattle.ms_logic.specs.declared.checked.Checked.{Checked}
use Rattle.ms_logic.specs.declared.checked.ImportUse.{ImportUse}
use Rattle.ms_logic.specs.declared.checked.Predicate as code
use Rattle.ms_logic.specs.Assignment.{Variable}
use Rattle.ms_logic_core.specs.CoreForm.{CoreForm, falsity, restrict}
use Rattle.ms_logic_core.specs.Roots.{first_free}
use Rattle.ms_logic_core.specs.Spread.{Callees, callees_of_imports, conjunction_of, restrictions_of, spread_under, variables_of_import}
use Rattle.ms_logic.specs.Tree.{Predicate}
use Rattle.ms_logic.specs.Truth.{Given}
use Rattle.ms_logic.specs.View.{declaration_of, formula_of, import_of, predicate_of, problem_of, Answers}
use Rattle.ms_lower.specs.declared.tables.Tables.{Tables}
use Rattle.ms_lower.specs.Bodies.{body_in, callees_before}
use Rattle.ms_lower.specs.Callees.{IsTablesOf, callable, callees_in, callees_of_uses}
use Rattle.ms_lower.specs.Calling.{body_at, calling, calling_before, calling_numbers, free_at, names_at}
use Rattle.ms_lower.specs.NumberedRoots.{numbering_over}
use Rattle.ms_lower.specs.Numbering.{Numbering, number_at, numbering_of, renumbered, variables_at, variables_of_call, variables_of_use}

pub same_variables : (uses : List ImportUse) (answers : Answers) (i : ℕ) → length answers ≡ length uses →
    variables_of_use (slice_get uses i) ≡ variables_of_import (slice_get (map (λ p. import_of p.0 p.1) (zip uses answers)) i)
same_variables [] answers zero same = refl
same_variables [] answers (suc i) same = refl
same_variables (u ∷ uses) [] i same = absurd (omega arith)
same_variables (u ∷ uses) (a ∷ answers) zero same = refl
same_variables (u ∷ uses) (a ∷ answers) (suc i) same = same_variables uses answers i (omega (arith, same))

pub same_count : (uses : List ImportUse) (answers : Answers) → length answers ≡ length uses → length uses ≡ length (map (λ p. import_of p.0 p.1) (zip uses answers))
same_count [] [] same = refl
same_count [] (a ∷ answers) same = refl
same_count (u ∷ uses) [] same = absurd (omega arith)
same_count (u ∷ uses) (a ∷ answers) same = ap suc (same_count uses answers (omega (arith, same)))

module _ (checked : Checked) (answers : Answers) (tables : Tables) (are : IsTablesOf checked tables) (same : length answers ≡ length checked.imports) where
  abbrev given : Given
  given = (problem_of checked answers).given

  pub all_callable : callable tables ≡ checked.predicates
  all_callable = ap₂ (λ k ps. take k ps) are.callable are.predicates ∙ take_all (length checked.predicates) checked.predicates (omega arith)

  over_imports : (ps : List Predicate) → calling_with_all (length tables.imports.now) (callees_of_uses tables.imports.now) 0 ps ≡ calling_with_all (length given.imports) (callees_of_imports given.imports) 0 ps
  over_imports ps =
      ap (λ is. calling_with_all (length is) (callees_of_uses is) 0 ps) are.imports
      ∙ ap₂ (λ k f. calling_with_all k (let c : Callees = record { parameters = λ p. []; body = λ p names free. restrict falsity; default = λ p x names free. restrict falsity; imported = f } in c) 0 ps)
      (same_count checked.imports answers same) (fun_ext (λ i. same_variables checked.imports answers i same))

  pub callees_same : callees_in tables ≡ calling given
  callees_same =
      ap (λ ps. calling_with_all (length tables.imports.now) (callees_of_uses tables.imports.now) 0 (map predicate_of ps)) all_callable ∙ over_imports (map predicate_of checked.predicates)

  -- those before a predicate
  before_same : (p : ℕ) → callees_before tables p ≡ calling_before given p
  before_same p =
      ap (λ ps. calling_with_all (length tables.imports.now) (callees_of_uses tables.imports.now) 0 (map predicate_of (take p ps))) all_callable
      ∙ (ap (λ ps. calling_with_all (length tables.imports.now) (callees_of_uses tables.imports.now) 0 ps) (sym (take-map predicate_of p checked.predicates)) ∙ over_imports (take p (map predicate_of checked.predicates)))

  variables_same : (i : ℕ) → variables_at tables i ≡ (calling_numbers 0 0 given).imported i
  variables_same i =
      ap₂ (λ is ps. cond (nat_lt i (length is)) (variables_of_use (slice_get is i)) (variables_of_call (option_map predicate_of (slice_get ps (i - length is))))) are.imports are.predicates
      ∙ ap₂ (λ k vs. cond (nat_lt i k) vs (variables_of_call (option_map predicate_of (slice_get checked.predicates (i - k))))) (same_count checked.imports answers same) (same_variables checked.imports answers i same)
      ∙ ap (λ o. cond (nat_lt i (length given.imports)) (variables_of_import (slice_get given.imports i)) (variables_of_call o)) (sym (slice_get-map predicate_of checked.predicates (i - length given.imports)))

  pub numbers_same : (vs : List Variable) → numbering_over tables vs ≡ calling_numbers (min (length checked.globals) (first_free vs)) (length checked.globals) given
  numbers_same vs =
      ap₂ (λ g f. let n : Numbering = record { number = number_at (min g (first_free vs)) g; imported = f } in n) are.globals (fun_ext variables_same)

  -- what is lowered where a call of a predicate is met
  pub body_same : (p : ℕ) (known : code.Predicate) (ys : List ℕ) → body_in tables p (Some known) ys ≡ body_at (length checked.globals) given p (predicate_of known) ys
  body_same p known ys =
      let ds = map declaration_of known.params in
      let body : Numbering → Callees → ℕ → CoreForm =
      λ n c g. renumbered n (conjunction_of (restrictions_of c ds (names_at g ds ys) (free_at g ds ys) ++ spread_under c (formula_of known.body) (names_at g ds ys) (free_at g ds ys) ∷ [])) in
      let numbers : numbering_of tables ≡ calling_numbers (length checked.globals) (length checked.globals) given =
      ap₂ (λ k g. let n : Numbering = record { number = number_at k g; imported = variables_at tables } in n) (are.kept ∙ are.globals) are.globals
      ∙ ap (λ f. let n : Numbering = record { number = number_at (length checked.globals) (length checked.globals); imported = f } in n) (fun_ext variables_same) in
      ap₂ (λ n c. body n c tables.globals) numbers (before_same p) ∙ ap (body (calling_numbers (length checked.globals) (length checked.globals) given) (calling_before given p)) are.globals
