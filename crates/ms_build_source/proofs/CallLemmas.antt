-- What the calls of a source stand for, by its tables.
use mathlib.Core.Path.{fun_ext}
use Rattle.std.proofs.Common.{◌≡◌, ℕ, ◌+◌, ◌-◌, ◌<◌, ◌≤◌, cond, nat_lt, List, [], length, map, slice_get, Option, Some, None, refl, sym, ap, ap₂, subst, ◌∙◌, arith}
use Rattle.std.proofs.lemmas.Bool.{le-ltb, lt-ltb}
use Rattle.std.proofs.lemmas.List.{length-map}
use Rattle.std.proofs.lemmas.Option.{slice_get-map}
use Rattle.std.specs.Option.{option_map}
use Rattle.ms_logic_core.specs.Calls.{Calls, filled}
use Rattle.ms_logic.specs.declared.checked.Checked.{Checked}
use Rattle.ms_logic.specs.declared.checked.Predicate as code
use Rattle.ms_logic.specs.Assignment.{Variable}
use Rattle.ms_logic_core.specs.CoreForm.{CoreForm, falsity, imported, restrict}
use Rattle.ms_logic_core.specs.Spread.{Callees, callees_with_all, variables_of_import}
use Rattle.ms_logic.specs.Tree.{Predicate}
use Rattle.ms_logic.specs.Truth.{Given}
use Rattle.ms_logic.specs.View.{predicate_of, problem_of, Answers}
use Rattle.ms_lower.specs.declared.tables.Tables.{Tables}
use Rattle.ms_lower.specs.Bodies.{body_in, called_in}
use Rattle.ms_lower.specs.Callees.{IsTablesOf}
use Rattle.ms_lower.specs.Calling.{called_at, calls_of, free_at, names_at}
use Rattle.ms_lower.specs.Numbering.{Numbering, number_at, renumbered}
use Rattle.ms_lower.proofs.SourceTables.{all_callable, body_same, same_count, same_variables}
use Rattle.ms_names_rules.specs.Numbers.{IsWellNumbered, globals_seen, tables_of}
use Rattle.ms_dag.specs.Imports.{ImportsBelow}
use Rattle.ms_build_source.proofs.FilledSources.{bodies_filled}
use Rattle.ms_build_source.proofs.ImportsOfCalls.{body_below}
use Rattle.ms_build_source.proofs.Sources.{source_is}
use Rattle.ms_build_source.specs.CallsOfSources.{silent, silent_answers, source_calls}

-- there is an answer for each import
pub silent_counted : (checked : Checked) → length (silent_answers checked) ≡ length checked.imports
silent_counted checked = length-map checked.imports silent

-- calls stand for the same whatever imports answer

module _ (globals : ℕ) (ps : List Predicate) where
  called_over : (ℕ → List Variable) → ℕ → Option Predicate → List ℕ → CoreForm
  called_over variables p None ys = restrict falsity
  called_over variables p (Some q) ys =
      let n : Numbering = record { number = number_at globals globals; imported = variables } in
      let c : Callees = record { parameters = λ p. []; body = λ p names free. restrict falsity; default = λ p x names free. restrict falsity; imported = variables } in
      renumbered n ((callees_with_all c 0 ps).body p (names_at globals q.parameters ys) (free_at globals q.parameters ys))

  calls_over : ℕ → (ℕ → List Variable) → Calls
  calls_over count variables i ys = cond (nat_lt i count) (imported i ys) (called_over variables (i - count) (slice_get ps (i - count)) ys)

  called_is : (given : Given) → given.predicates ≡ ps → (p : ℕ) (o : Option Predicate) (ys : List ℕ) → called_at globals given p o ys ≡ called_over (λ i. variables_of_import (slice_get given.imports i)) p o ys
  unfolding called_over
  called_is given same p None ys = refl
  called_is given same p (Some q) ys =
      ap (λ qs.
      let n : Numbering = record { number = number_at globals globals; imported = λ i. variables_of_import (slice_get given.imports i) } in
      let c : Callees = record { parameters = λ p. []; body = λ p names free. restrict falsity; default = λ p x names free. restrict falsity; imported = λ i. variables_of_import (slice_get given.imports i) } in
      renumbered n ((callees_with_all c 0 qs).body p (names_at globals q.parameters ys) (free_at globals q.parameters ys))) same

  calls_are : (given : Given) → given.predicates ≡ ps → (i : ℕ) (ys : List ℕ) → calls_of globals given i ys ≡ calls_over (length given.imports) (λ i. variables_of_import (slice_get given.imports i)) i ys
  unfolding calls_over
  calls_are given same i ys =
      let k = length given.imports in
      ap (λ f. cond (nat_lt i k) (imported i ys) f) (called_is given same (i - k) (slice_get given.predicates (i - k)) ys ∙ ap (λ qs. called_over (λ i. variables_of_import (slice_get given.imports i)) (i - k) (slice_get qs (i - k)) ys) same)

pub calls_same : (checked : Checked) (answers : Answers) → length answers ≡ length checked.imports → source_calls checked ≡ calls_of (length checked.globals) (problem_of checked answers).given
calls_same checked answers count =
    let globals = length checked.globals in
    let ps : List Predicate = map predicate_of checked.predicates in
    let own = (problem_of checked (silent_answers checked)).given in
    let given = (problem_of checked answers).given in
    let same : (i : ℕ) → variables_of_import (slice_get own.imports i) ≡ variables_of_import (slice_get given.imports i) =
    λ i. sym (same_variables checked.imports (silent_answers checked) i (silent_counted checked)) ∙ same_variables checked.imports answers i count in
    let long : length own.imports ≡ length given.imports = sym (same_count checked.imports (silent_answers checked) (silent_counted checked)) ∙ same_count checked.imports answers count in
    fun_ext (λ i. fun_ext (λ ys. calls_are globals ps own refl i ys ∙ (ap₂ (λ k f. calls_over globals ps k f i ys) long (fun_ext same) ∙ sym (calls_are globals ps given refl i ys))))

module _ (checked : Checked) where
  abbrev given : Given
  given = (problem_of checked (silent_answers checked)).given

  as_many : length checked.imports ≡ length given.imports
  as_many = same_count checked.imports (silent_answers checked) (silent_counted checked)

  -- an import of the source stands for itself
  pub import_itself : (i : ℕ) (ys : List ℕ) → i < length checked.imports → source_calls checked i ys ≡ imported i ys
  import_itself i ys within =
      let inside = lt-ltb i (length given.imports) (let count = as_many in omega (arith, within, count)) in
      let call = called_at (length checked.globals) given (i - length given.imports) (slice_get given.predicates (i - length given.imports)) ys in
      ap (λ b. cond b (imported i ys) call) inside

  -- another stands for a call
  call_is : (i : ℕ) (ys : List ℕ) → length checked.imports ≤ i → source_calls checked i ys ≡ called_at (length checked.globals) given (i - length checked.imports) (slice_get given.predicates (i - length checked.imports)) ys
  call_is i ys beyond =
      let outside = le-ltb i (length given.imports) (let count = as_many in omega (arith, beyond, count)) in
      let call : ℕ → CoreForm = λ k. called_at (length checked.globals) given (i - k) (slice_get given.predicates (i - k)) ys in
      ap (λ b. cond b (imported i ys) (call (length given.imports))) outside ∙ ap call (sym as_many)

  module _ (tables : Tables) (are : IsTablesOf checked tables) (well : IsWellNumbered checked) where
    filled_call : (p : ℕ) (o : Option code.Predicate) (ys : List ℕ) → slice_get checked.predicates p ≡ o → filled (source_calls checked) (body_in tables p o ys) ≡ called_at (length checked.globals) given p (option_map predicate_of o) ys
    filled_call p None ys held = refl
    filled_call p (Some known) ys held =
        ap (filled (source_calls checked)) (body_same checked (silent_answers checked) tables are (silent_counted checked) p known ys)
        ∙ bodies_filled given (tables_of checked) (length checked.globals) (globals_seen checked) (source_is checked (silent_answers checked) (silent_counted checked) well) p (predicate_of known) ys
        (slice_get-map predicate_of checked.predicates p ∙ ap (option_map predicate_of) held)

    -- what is lowered for a call becomes what the call stands for
    pub lowered_call : (i : ℕ) (ys : List ℕ) → length checked.imports ≤ i → filled (source_calls checked) (called_in tables (i - length checked.imports) ys) ≡ source_calls checked i ys
    lowered_call i ys beyond =
        let p = i - length checked.imports in
        ap (λ ps. filled (source_calls checked) (body_in tables p (slice_get ps p) ys)) (all_callable checked (silent_answers checked) tables are (silent_counted checked))
        ∙ (filled_call p (slice_get checked.predicates p) ys refl
        ∙ (ap (λ o. called_at (length checked.globals) given p o ys) (sym (slice_get-map predicate_of checked.predicates p)) ∙ sym (call_is i ys beyond)))

    -- and what is lowered for it has imports with smaller numbers alone
    below_in : (p : ℕ) (o : Option code.Predicate) (ys : List ℕ) → slice_get checked.predicates p ≡ o → ImportsBelow (length checked.imports + p) (body_in tables p o ys)
    below_in p None ys held = tt
    below_in p (Some known) ys held =
        subst (ImportsBelow (length checked.imports + p)) (sym (body_same checked (silent_answers checked) tables are (silent_counted checked) p known ys))
        (body_below (tables_of checked) (globals_seen checked) (length checked.globals) given p (predicate_of known) ys (sym as_many) well.predicates
        (slice_get-map predicate_of checked.predicates p ∙ ap (option_map predicate_of) held))

    pub called_below : (i : ℕ) (ys : List ℕ) → length checked.imports ≤ i → ImportsBelow i (called_in tables (i - length checked.imports) ys)
    called_below i ys beyond =
        let p = i - length checked.imports in
        let there : length checked.imports + p ≡ i = omega (arith, beyond) in
        subst (λ k. ImportsBelow k (called_in tables p ys)) there
        (subst (λ ps. ImportsBelow (length checked.imports + p) (body_in tables p (slice_get ps p) ys)) (sym (all_callable checked (silent_answers checked) tables are (silent_counted checked)))
        (below_in p (slice_get checked.predicates p) ys refl))
