-- In each root of a question each variable stands in its scope.
use Rattle.std.proofs.Common.{ℕ, zero, suc, ◌+◌, List, [], ◌∷◌, ◌++◌, sym, subst, arith}
use Rattle.ms_logic.specs.declared.checked.Checked.{Checked}
use Rattle.ms_logic.specs.declared.checked.Global.{Global}
use Rattle.ms_logic.specs.declared.checked.Placed.{Placed}
use Rattle.ms_logic.specs.Assignment.{Variable}
use Rattle.ms_logic.specs.FreeVariables.{FreeInForms, FreeInRestrictions, IsListed}
use Rattle.ms_logic.specs.Lists.{AreRising}
use Rattle.ms_logic_core.specs.Roots.{IsRoot, Root, first_free, main_root}
use Rattle.ms_logic_core.specs.Spread.{callees_of, own_names, restrictions_of, spread_each}
use Rattle.ms_logic.specs.Verdict.{Problem, variables_of}
use Rattle.ms_logic.specs.View.{globals_from, question_of, Answers}
use Rattle.ms_lower.specs.Lowered.{reads_of}
use Rattle.ms_logic_core.specs.Stands.{Stands}
use Rattle.ms_lower.proofs.FormScopes.{conjunction_stands, forms_stand}
use Rattle.ms_lower.proofs.SameNumbers.{below_first_free}
use Rattle.ms_lower.proofs.SourceScopes.{export_stands, fits_given, listed_among, restrictions_stand}

globals_rise : (k : ℕ) (gs : List Global) → AreRising (variables_of (globals_from k gs))
globals_rise k [] = tt
globals_rise k (g ∷ []) = (tt, tt)
globals_rise k (g ∷ h ∷ gs) = (omega arith, globals_rise (k + 1) (h ∷ gs))

-- the restrictions and the formulas of a question read globals alone
pub record ReadsGlobals (problem : Problem) : Type 0 where
  pub restrictions : (w : Variable) → FreeInRestrictions (reads_of problem.given) problem.globals w → IsListed (variables_of problem.globals) w
  pub formulas : (w : Variable) → FreeInForms (reads_of problem.given) problem.formulas w → IsListed (variables_of problem.globals) w

main_stands : (problem : Problem) → ReadsGlobals problem → Stands problem.given.imports (variables_of problem.globals) (main_root problem).formula
main_stands problem has =
    let imports = problem.given.imports in
    let r = reads_of problem.given in
    let c = callees_of problem.given in
    let vs = variables_of problem.globals in
    let fits = fits_given problem.given in
    conjunction_stands imports vs (restrictions_of c problem.globals own_names (first_free vs) ++ spread_each c problem.formulas own_names (first_free vs))
    (restrictions_stand imports r c fits problem.globals own_names vs (first_free vs) (spread_each c problem.formulas own_names (first_free vs)) (λ w e. listed_among vs w (has.restrictions w e)) (below_first_free vs)
    (forms_stand imports r c fits problem.formulas own_names vs (first_free vs) (λ w e. listed_among vs w (has.formulas w e)) (below_first_free vs)))

pub root_scopes : (checked : Checked) (answers : Answers) (asked : List Placed) (k : ℕ) (r : Root) → IsRoot (question_of checked answers asked) k r → ReadsGlobals (question_of checked answers asked) →
    AreRising r.variables × Stands (question_of checked answers asked).given.imports r.variables r.formula
root_scopes checked answers asked zero r is has =
    let question = question_of checked answers asked in
    subst (λ s. AreRising s.variables × Stands question.given.imports s.variables s.formula) (sym is) (globals_rise 0 checked.globals, main_stands question has)
root_scopes checked answers asked (suc k) r is has =
    let question = question_of checked answers asked in
    subst (λ s. AreRising s.variables × Stands question.given.imports s.variables s.formula) (sym is.4) (is.3.rising, export_stands question.given is.1 is.0 is.3)
