use Rattle.std.proofs.Common.{◌≡◌, ℕ, zero, suc, [], ◌∷◌, Contains, Some, codes, refl, sym, subst, arith}
use Rattle.ms_build_source.specs.inner.Examples.{sets_with_goal}
use Rattle.ms_diagram.proofs.ListLemmas.{Contains-first, Contains-none, Contains-rest}
use Rattle.ms_logic.specs.Tree.{Form, falsity as no, more_forms, no_forms, truth as yes}
use Rattle.ms_logic.specs.Verdict.{Problem}
use Rattle.ms_logic.specs.View.{formula_of, problem_of}
use Rattle.ms_logic.specs.declared.checked.Checked.{Checked}
use Rattle.ms_logic.specs.declared.checked.Placed.{Placed}
use Rattle.ms_logic.specs.declared.formula.Formula.TheVariants.{False}
use Rattle.ms_logic.specs.inner.Examples.{stated}
use Rattle.ms_logic.proofs.Views.{formula_of-False, formula_of-True}
use Rattle.ms_logic_core.specs.CoreForm.{CoreForm, falsity, truth}
use Rattle.ms_logic_core.specs.Roots.{Root, main_root}
use Rattle.ms_logic_measures.specs.Steps.{connective, constant, root, steps_of}
use Rattle.ms_source_steps.specs.Laws.{IsStepOfRoot, IsStepOfSource, of_declarations, of_export, of_goal}
use Rattle.ms_source_steps.proofs.examples.worked_source_steps.Goals as goal

abbrev source : Checked
source = sets_with_goal False

-- what asks one formula, and both
abbrev question : Form → Problem
question f = record (problem_of source []) { formulas = more_forms f no_forms }

abbrev both : Form → Form → Problem
both f g = record (problem_of source []) { formulas = more_forms f (more_forms g no_forms) }

abbrev asked : Placed
asked = stated (Some (codes "always")) False

-- the root of a constant has its step
constant_there : (f : Form) (core : CoreForm) → steps_of (main_root (question f)).formula ≡ constant core ∷ [] → IsStepOfRoot (question f) 0 (constant core)
constant_there f core same =
    let whole = main_root (question f) in
    (whole, refl, subst (λ steps. Contains (root whole ∷ steps) (constant core)) (sym same) (Contains-rest (root whole) (constant core ∷ []) (constant core) (Contains-first (constant core) [])))

pub returns-clause-declaration : goal.returns-clause-declaration
returns-clause-declaration c = of_declarations (subst (λ f. IsStepOfRoot (question f) 0 (constant truth)) (sym formula_of-True) (constant_there yes truth refl))

pub returns-clause-goal : goal.returns-clause-goal
returns-clause-goal c = of_goal asked (Contains-first asked []) (subst (λ f. IsStepOfRoot (question f) 0 (constant falsity)) (sym formula_of-False) (constant_there no falsity refl))

-- a root has two steps: itself and a constant
no_connective : (whole : Root) (f : CoreForm) → Contains (root whole ∷ constant f ∷ []) (connective truth falsity) → ⊥
no_connective whole f (zero, within, same) = let never : ⊥ = cc in never
no_connective whole f (suc zero, within, same) = let never : ⊥ = cc in never
no_connective whole f (suc (suc k), within, same) = omega (arith, within)

none_of : (f : Form) (core : CoreForm) → steps_of (main_root (question f)).formula ≡ constant core ∷ [] → IsStepOfRoot (question f) 0 (connective truth falsity) → ⊥
none_of f core same is =
    let here = subst (λ (whole : Root). Contains (root whole ∷ steps_of whole.formula) (connective truth falsity)) is.1 is.2 in
    no_connective (main_root (question f)) core (subst (λ steps. Contains (root (main_root (question f)) ∷ steps) (connective truth falsity)) same here)

no_export : (i : ℕ) → IsStepOfRoot (both yes no) (suc i) (connective truth falsity) → ⊥
no_export i is = Contains-none _ is.1.2

together : IsStepOfSource source [] (connective truth falsity) → ⊥
together (of_declarations is) = none_of yes truth refl (subst (λ f. IsStepOfRoot (question f) 0 (connective truth falsity)) formula_of-True is)
together (of_export i is) =
    no_export i (subst (λ g. IsStepOfRoot (both yes g) (suc i) (connective truth falsity)) formula_of-False (subst (λ f. IsStepOfRoot (both f (formula_of False)) (suc i) (connective truth falsity)) formula_of-True is))
together (of_goal one (zero, within, same) is) =
    let here = subst (λ (placed : Placed). IsStepOfRoot (question (formula_of placed.formula)) 0 (connective truth falsity)) (sym same) is in
    none_of no falsity refl (subst (λ f. IsStepOfRoot (question f) 0 (connective truth falsity)) formula_of-False here)
together (of_goal one (suc k, within, same) is) = omega (arith, within)

pub returns-clause-together : goal.returns-clause-together
returns-clause-together c is = together is
