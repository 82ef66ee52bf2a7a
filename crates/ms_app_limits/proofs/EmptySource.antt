-- The source without declarations, as a file without bytes, and the limits that are enough for it.
use Rattle.std.proofs.Common.{◌≡◌, ℕ, ◌≤◌, inl, inr, ⊎_elim, List, [], ◌∷◌, Contains, map, None, Some, refl, sym, subst, arith}
use Rattle.std.specs.Prelude.{codes}
use Rattle.std.proofs.lemmas.Option.{none-some}
use Rattle.ms_app.specs.Completeness.{IsEnoughForOrigin}
use Rattle.ms_app.specs.Source.{IsEnoughWith, IsTaken, file_of}
use Rattle.ms_app.specs.inner.CompletenessExamples.{empty_files, nothing_checked, nothing_loaded, still}
use Rattle.ms_include.specs.File.{ReadAs}
use Rattle.ms_logic.specs.declared.source.Source.{Source}
use Rattle.ms_app.proofs.Solvable.{files_settle}
use Rattle.ms_dfa.specs.declared.plain.Plain.{Plain}
use Rattle.ms_diagram.proofs.ListLemmas.{Contains-cases, Contains-none}
use Rattle.ms_edge.specs.Counts.{Rose}
use Rattle.ms_logic.specs.View.{main_question}
use Rattle.ms_logic.specs.declared.checked.Checked.{Checked}
use Rattle.ms_logic.specs.declared.checked.ExportUse.{ExportUse}
use Rattle.ms_logic.specs.declared.checked.Global.{Global}
use Rattle.ms_logic.specs.declared.checked.ImportUse.{ImportUse}
use Rattle.ms_logic.specs.declared.checked.Placed.{Placed}
use Rattle.ms_logic.specs.declared.checked.Predicate.{Predicate}
use Rattle.ms_logic.specs.declared.mode.Mode.{Mode}
use Rattle.ms_logic.specs.declared.mode.Mode.TheVariants.{Ws1s}
use Rattle.ms_logic_core.specs.CoreForm.{truth}
use Rattle.ms_logic_core.specs.Roots.{Root, main_root}
use Rattle.ms_logic_measures.specs.Budgets.{IsMeasureOf, budget}
use Rattle.ms_logic_measures.specs.Steps.{Step, constant, root, steps_of}
use Rattle.ms_logic_measures.specs.inner.MeasuredContents.{number_content}
use Rattle.ms_names_rules.specs.TypedSource.{IsTyped}
use Rattle.ms_source_steps.specs.Laws.{IsStepOfSource, of_declarations, of_export, of_goal}
use Rattle.ms_app_limits.proofs.TruthBudgets.{constant_budget, full_truth, one_pair, root_budget}

abbrev source : Checked
source = nothing_checked (codes "a")

-- what stands in the file is read as nothing
abbrev nothing : Source
nothing = record { header = None; items = [] }

never_more : {A : Type 0} (x : A) (xs : List A) → [] ≡ x ∷ xs → ⊥
never_more x xs same = cc

reads_nothing : ReadAs 0 [] nothing
reads_nothing = record {
  tokens = [];
  are_tokens = ([], tt, refl);
  reads = record { read = ([], (refl, λ at f header. never_more _ _ header.3.1), refl); declarations = tt };
}

taken_alone : IsTaken (file_of (still (empty_files 0)) 0 (codes "a")) [] (nothing_loaded (codes "a")) source []
taken_alone = record {
  is = record {
    is_loaded = record { source = nothing; is = ([], record { holds = refl; within = omega arith }, reads_nothing); mode = refl; items = (refl, refl) };
    accepted = refl;
    typed = record { mode = refl; globals_are = refl; predicates_are = refl; imports_are = refl; exports_are = refl; formulas_are = refl; files = refl };
  };
  free = λ k used less. absurd (omega (arith, less));
  imported = record { each = tt; once = λ i j one other p q held held' name at at'. absurd (none-some p at) };
}

pub no_rise : Rose 0 0 → ⊥
no_rise (inl less) = omega (arith, less)
no_rise (inr last) = omega (arith, last)

-- a list is empty if it is mapped to an empty one
pub none_mapped : {A B : Type 0} (f : A → B) (xs : List A) → map f xs ≡ [] → xs ≡ []
none_mapped f [] same = refl
none_mapped f (x ∷ xs) same = absurd (let never : f x ∷ map f xs ≡ [] = same in cc)

-- it has one typed tree
by_fields : (mode : Mode) (globals : List Global) (predicates : List Predicate) (imports : List ImportUse) (exports : List ExportUse)
    (formulas : List Placed) (files : List (List ℕ)) → mode ≡ Ws1s → globals ≡ [] → predicates ≡ [] → imports ≡ [] → exports ≡ []
    → formulas ≡ [] → files ≡ codes "a" ∷ []
    → source ≡ record { mode = mode; globals = globals; predicates = predicates; imports = imports; exports = exports; formulas = formulas; files = files }
by_fields mode globals predicates imports exports formulas files m g p i e f n = cc

typed_once : (checked : Checked) → IsTyped (nothing_loaded (codes "a")) checked → source ≡ checked
typed_once checked is =
    by_fields checked.mode checked.globals checked.predicates checked.imports checked.exports checked.formulas checked.files is.mode
    (none_mapped _ checked.globals is.globals_are) (none_mapped _ checked.predicates is.predicates_are) is.imports_are is.exports_are
    (none_mapped _ checked.formulas is.formulas_are) is.files

-- each of its steps is the root, or the constant `true`
each_step : (m r : ℕ) (step : Step) → IsStepOfSource source [] step → IsMeasureOf [] source.mode [] step m r → budget m r ≤ 6400
each_step m r step (of_declarations is) measure =
    let whole : is.0 ≡ main_root (main_question source []) = is.1 in
    let there : Contains (root (main_root (main_question source [])) ∷ (constant truth ∷ [])) step = subst (λ (w : Root). Contains (root w ∷ steps_of w.formula) step) whole is.2 in
    let P : Step → Type 0 = λ step. IsMeasureOf [] source.mode [] step m r in
    ⊎_elim (λ same. root_budget m r (subst P same measure))
    (λ later. ⊎_elim (λ same. constant_budget [] m r (subst P same measure)) (λ none. absurd (Contains-none step none)) (Contains-cases (constant truth) [] step later))
    (Contains-cases (root (main_root (main_question source []))) (constant truth ∷ []) step there)
each_step m r step (of_export i is) measure = absurd (Contains-none _ is.1.2)
each_step m r step (of_goal goal among is) measure = absurd (Contains-none goal among)

enough_alone : IsEnoughWith source [] 6400
enough_alone = record {
  steps = λ step is m r measure. each_step m r step is measure;
  imports = λ i below m r measure. absurd (omega (arith, below));
}

pub enough : IsEnoughForOrigin (file_of (still (empty_files 0)) 0 (codes "a")) [] 6400
enough loaded checked plains is =
    let seen = still (empty_files 0) in
    let settles = files_settle seen seen (record { holding = λ name. Some []; one_told = refl; other_told = refl }) no_rise 0 (codes "a") in
    let same_load : nothing_loaded (codes "a") ≡ loaded = settles.one_load (nothing_loaded (codes "a")) loaded taken_alone.is.is_loaded is.is.is_loaded in
    let same : source ≡ checked = typed_once checked (subst (λ l. IsTyped l checked) (sym same_load) is.is.typed) in
    let taken = subst (λ (c : Checked). IsTaken (file_of seen 0 (codes "a")) [] loaded c plains) (sym same) is in
    let none : [] ≡ plains = settles.one_content source.mode source.imports [] plains taken_alone.imported taken.imported in
    subst (λ (c : Checked). IsEnoughWith c plains 6400) same (subst (λ (ps : List Plain). IsEnoughWith source ps 6400) none enough_alone)

pub too_little : IsEnoughForOrigin (file_of (still (empty_files 0)) 0 (codes "a")) [] 6399 → ⊥
too_little all =
    let whole = main_root (main_question source []) in
    let within : budget 1 2 ≤ 6399 =
    (all (nothing_loaded (codes "a")) source [] taken_alone).steps (root whole) (of_declarations (whole, refl, (0, omega arith, refl))) 1 2
    (record { content = number_content; encodings = number_content; of_formula = full_truth; of_true = full_truth; made = one_pair; read = refl }) in
    omega (arith, within)
