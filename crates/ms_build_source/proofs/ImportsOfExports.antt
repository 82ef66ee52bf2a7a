-- The core formulas of a source have imports of its table alone, exported ones too.
use Rattle.std.proofs.Common.{◌≡◌, ℕ, zero, suc, List, ◌∷◌, length, inr, sym, ap, subst, ◌∙◌, arith}
use Rattle.std.proofs.lemmas.List.Elements.{All-contains}
use Rattle.ms_dag.specs.Imports.{ImportsBelow}
use Rattle.ms_logic.specs.declared.checked.Checked.{Checked}
use Rattle.ms_logic.specs.declared.checked.Placed.{Placed}
use Rattle.ms_logic.specs.Assignment.{Variable}
use Rattle.ms_logic_core.specs.CoreForm.{core_form_of}
use Rattle.ms_logic_core.specs.Roots.{Export, Root, IsRoot, exports_among, exports_in, first_free}
use Rattle.ms_logic_core.specs.Spread.{callees_of, own_names}
use Rattle.ms_logic.specs.Tree.{Form, truth, falsity, truth_variable, negation, conjunction, disjunction, implication, equivalence, comparison, set_comparison, membership, emptiness, quantified, where_let, call, restrict, imported, exported, default_at, Forms, no_forms, more_forms}
use Rattle.ms_logic.specs.View.{problem_of, question_of, Answers}
use Rattle.ms_logic_core.specs.Calls.{filled}
use Rattle.ms_lower.specs.Calling.{calls_of}
use Rattle.ms_lower.specs.Lowered.{IsRootFor}
use Rattle.ms_lower.specs.NumberLaws.{numbering_in}
use Rattle.ms_lower.specs.Numbering.{renumbered}
use Rattle.ms_names_rules.specs.Numbers.{AreNumbered, IsNumbered, IsWellNumbered, Tables, globals_seen, tables_of}
use Rattle.ms_logic.specs.Lists.{Each}
use Rattle.ms_names_rules.proofs.Fitting.{each-append}
use Rattle.ms_logic_spread.proofs.Seen.{IsWithin}
use Rattle.ms_logic_spread.specs.RootLaws.{AreFormulasOf}
use Rattle.ms_logic_spread.proofs.Questions.{asked_numbered}
use Rattle.ms_build_source.specs.inner.HandoverLaws.{SourcesImportFromTheTable}
use Rattle.ms_build_source.proofs.ImportsOfFormulas.{form_below, given_below}
use Rattle.ms_build_source.proofs.ImportsOfSources.{main_below, renumbered_below}
use Rattle.ms_build_source.proofs.SharedRoots.{each_all}
use Rattle.ms_build_source.proofs.Questions.{asked_by}

-- what is exported is numbered where it stands, and sees what is seen around
module _ (tables : Tables) (bound : ℕ) (outer : List Variable) where
  abbrev pub IsNumberedThere : Export → Type 0
  IsNumberedThere e = (seen : List Variable) × IsWithin outer seen × IsNumbered tables bound seen e.formula

  mutual
    exports_numbered : (f : Form) (seen : List Variable) → IsWithin outer seen → IsNumbered tables bound seen f → Each IsNumberedThere (exports_in f)
    exports_numbered truth seen within numbered = tt
    exports_numbered falsity seen within numbered = tt
    exports_numbered (truth_variable x) seen within numbered = tt
    exports_numbered (negation f) seen within numbered = exports_numbered f seen within numbered
    exports_numbered (conjunction fs) seen within numbered = each_numbered fs seen within numbered
    exports_numbered (disjunction fs) seen within numbered = each_numbered fs seen within numbered
    exports_numbered (implication f g) seen within numbered =
        each-append IsNumberedThere (exports_in f) (exports_in g) (exports_numbered f seen within numbered.0) (exports_numbered g seen within numbered.1)
    exports_numbered (equivalence f g) seen within numbered =
        each-append IsNumberedThere (exports_in f) (exports_in g) (exports_numbered f seen within numbered.0) (exports_numbered g seen within numbered.1)
    exports_numbered (comparison r t u) seen within numbered = tt
    exports_numbered (set_comparison r s t) seen within numbered = tt
    exports_numbered (membership positive t s) seen within numbered = tt
    exports_numbered (emptiness s) seen within numbered = tt
    exports_numbered (quantified q o x d f) seen within numbered = exports_numbered f (record { name = x; order = o } ∷ seen) (λ w there. inr (within w there)) numbered.2
    exports_numbered (where_let xs sides f) seen within numbered = tt
    exports_numbered (call p values) seen within numbered = tt
    exports_numbered (restrict f) seen within numbered = exports_numbered f seen within numbered
    exports_numbered (imported i) seen within numbered = tt
    exports_numbered (exported i f) seen within numbered = ((seen, within, numbered.1), exports_numbered f seen within numbered.1)
    exports_numbered (default_at p x) seen within numbered = tt

    pub each_numbered : (fs : Forms) (seen : List Variable) → IsWithin outer seen → AreNumbered tables bound seen fs → Each IsNumberedThere (exports_among fs)
    each_numbered no_forms seen within numbered = tt
    each_numbered (more_forms f fs) seen within numbered =
        each-append IsNumberedThere (exports_in f) (exports_among fs) (exports_numbered f seen within numbered.0) (each_numbered fs seen within numbered.1)

module _ (checked : Checked) (answers : Answers) (well : IsWellNumbered checked) (asked : List Placed) (among : AreFormulasOf checked asked) where
  own_below : (k : ℕ) (own : Root) → IsRoot (question_of checked answers asked) k own → ImportsBelow (length checked.imports) own.formula
  own_below zero own is = subst (λ s. ImportsBelow (length checked.imports) s.formula) (sym is) (main_below checked answers well asked among)
  own_below (suc i) own is =
      let question = question_of checked answers asked in
      let tables = tables_of checked in
      let bound = length tables.predicates in
      let all = each_all (IsNumberedThere tables bound (globals_seen checked)) (exports_among question.formulas)
      (each_numbered tables bound (globals_seen checked) question.formulas (globals_seen checked) (λ w there. there) (asked_numbered checked well asked among)) in
      let here = All-contains (IsNumberedThere tables bound (globals_seen checked)) (exports_among question.formulas) (record { number = i; formula = is.0 }) all is.2 in
      let bodies = given_below tables question.given (globals_seen checked) well.predicates in
      subst (λ s. ImportsBelow (length checked.imports) s.formula) (sym is.4)
      (form_below tables (length tables.imports) (omega arith) (callees_of question.given) bodies bound is.0 here.0 own_names (first_free is.1) here.2)

pub all_roots_import : SourcesImportFromTheTable
all_roots_import checked answers lowered well has k root is =
    let r = asked_by (IsRootFor checked) checked answers lowered.roots has k root is in
    let one = r.2.1 in
    let given = (problem_of checked answers).given in
    let n = numbering_in (length checked.globals) given.imports one.own in
    let formula : renumbered n one.own.formula ≡ filled (calls_of (length checked.globals) given) (core_form_of root.core) =
    sym (ap (λ s. s.formula) one.numbers) ∙ one.formula in
    subst (ImportsBelow (length checked.imports)) formula
    (renumbered_below n (length checked.imports) one.own.formula (own_below checked answers well r.0 r.1 r.2.0 one.own one.is_root))
