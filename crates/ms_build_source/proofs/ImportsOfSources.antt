-- The main roots of questions have imports of the table of the source alone.
use Rattle.std.proofs.Common.{ℕ, ◌++◌, List, length, arith}
use Rattle.ms_logic.specs.declared.checked.Checked.{Checked}
use Rattle.ms_logic.specs.declared.checked.Placed.{Placed}
use Rattle.ms_logic_core.specs.CoreForm.{CoreForm, truth, falsity, basic, negation, conjunction, disjunction, implication, equivalence, restrict, imported, quantified, CoreForms, no_forms, more_forms, CoreRestriction, unrestricted, restricted}
use Rattle.ms_logic_core.specs.Roots.{first_free, main_root}
use Rattle.ms_logic_core.specs.Spread.{callees_of, own_names, restrictions_of, spread_each}
use Rattle.ms_logic.specs.Verdict.{variables_of}
use Rattle.ms_logic.specs.View.{question_of, Answers}
use Rattle.ms_lower.specs.Numbering.{Numbering, renumbered, renumbered_each, renumbered_in}
use Rattle.ms_names_rules.specs.Numbers.{IsWellNumbered, globals_seen, tables_of}
use Rattle.ms_dag.specs.Imports.{EachImportsBelow, ImportsBelow, RestrictionImportsBelow}
use Rattle.ms_logic_spread.specs.RootLaws.{AreFormulasOf}
use Rattle.ms_logic_spread.proofs.Questions.{asked_numbered}
use Rattle.ms_build_source.proofs.ImportsOfFormulas.{conjunction_below, each_below, given_below, globals_below, joined_below}

-- other numbers of variables leave the imports
module _ (n : Numbering) (count : ℕ) where
  mutual
    pub renumbered_below : (f : CoreForm) → ImportsBelow count f → ImportsBelow count (renumbered n f)
    renumbered_below truth below = tt
    renumbered_below falsity below = tt
    renumbered_below (basic b) below = tt
    renumbered_below (negation f) below = renumbered_below f below
    renumbered_below (conjunction fs) below = renumbered_each_below fs below
    renumbered_below (disjunction fs) below = renumbered_each_below fs below
    renumbered_below (implication f g) below = (renumbered_below f below.0, renumbered_below g below.1)
    renumbered_below (equivalence f g) below = (renumbered_below f below.0, renumbered_below g below.1)
    renumbered_below (restrict f) below = renumbered_below f below
    renumbered_below (imported i xs) below = below
    renumbered_below (quantified q o x d f) below = (renumbered_in_below d below.0, renumbered_below f below.1)

    renumbered_each_below : (fs : CoreForms) → EachImportsBelow count fs → EachImportsBelow count (renumbered_each n fs)
    renumbered_each_below no_forms below = tt
    renumbered_each_below (more_forms f fs) below = (renumbered_below f below.0, renumbered_each_below fs below.1)

    renumbered_in_below : (d : CoreRestriction) → RestrictionImportsBelow count d → RestrictionImportsBelow count (renumbered_in n d)
    renumbered_in_below unrestricted below = tt
    renumbered_in_below (restricted d) below = renumbered_below d below

module _ (checked : Checked) (answers : Answers) (well : IsWellNumbered checked) where
  pub main_below : (asked : List Placed) → AreFormulasOf checked asked → ImportsBelow (length checked.imports) (main_root (question_of checked answers asked)).formula
  main_below asked among =
      let question = question_of checked answers asked in
      let tables = tables_of checked in
      let c = callees_of question.given in
      let bodies = given_below tables question.given (globals_seen checked) well.predicates in
      let bound = length tables.predicates in
      let free = first_free (variables_of question.globals) in
      let restrictions = restrictions_of c question.globals own_names free in
      let formulas = spread_each c question.formulas own_names free in
      conjunction_below (length checked.imports) (restrictions ++ formulas)
      (joined_below (length checked.imports) restrictions formulas (globals_below tables (length tables.imports) (omega arith) c bodies bound question.globals (globals_seen checked) own_names free well.globals)
      (each_below tables (length tables.imports) (omega arith) c bodies bound question.formulas (globals_seen checked) own_names free (asked_numbered checked well asked among)))
