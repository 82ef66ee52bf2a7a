-- The automata of main roots have their values, and the canonical contents of the roots of exports are the files of these.
use Rattle.std.proofs.Common.{◌≡◌, ℕ, zero, suc, ◌+◌, List, [], ◌∷◌, ◌++◌, length, take, slice_get, Some, refl, sym, subst, arith}
use Rattle.std.proofs.lemmas.Option.{none-some, same_Some, slice_get_within}
use Rattle.ms_build.specs.declared.built.Built.{Built}
use Rattle.ms_build.specs.declared.plan.Plan.{Plan}
use Rattle.ms_build.specs.Built.{IsBuiltOver, IsLeastOf, child_meaning, imports_of}
use Rattle.ms_build.specs.Roots.{IsRootAt, named}
use Rattle.ms_names_checked.specs.Exports.{ListsFreeVariables}
use Rattle.ms_dag.specs.declared.dag.Dag.{Dag}
use Rattle.ms_dag.specs.declared.dag.SharedRoot.{SharedRoot}
use Rattle.ms_dfa.specs.declared.plain.FileVersion.{FileVersion}
use Rattle.ms_dfa.specs.declared.plain.Plain.{Plain}
use Rattle.ms_logic.specs.declared.checked.Checked.{Checked}
use Rattle.ms_logic.specs.declared.checked.ExportUse.{ExportUse}
use Rattle.ms_logic.specs.declared.checked.Placed.{Placed}
use Rattle.ms_logic.specs.declared.mode.Mode.{Mode}
use Rattle.ms_logic_words.specs.declared.sign.Sign.{Sign}
use Rattle.ms_logic_words.specs.Content.{Content}
use Rattle.ms_logic.specs.View.{goal_question, goals_in, main_question, problem_of, Answers}
use Rattle.ms_logic.specs.Lists.{Each}
use Rattle.ms_names_rules.specs.Numbers.{IsWellNumbered}
use Rattle.ms_build_source.specs.inner.Copies.{AreRootCopies, HaveRoots, IsRootCopy}
use Rattle.ms_build_source.specs.Graph.{IsGraphOf}
use Rattle.ms_build_source.specs.Imported.{AreAnswersOf, AreLentFor}
use Rattle.ms_build_source.specs.Solution.{AreExportFiles, IsSpellable}
use Rattle.ms_build_source.specs.Values.{HasMainValue, IsExportFile, IsFileOf, form_meaning}
use Rattle.ms_build_source.proofs.ExportNames.{entry_lists}
use Rattle.ms_build_source.proofs.CopySigns.{signs_of_copy}
use Rattle.ms_build_source.proofs.FileValues.{file_of}
use Rattle.ms_build_source.proofs.RootValues.{export_free, export_values, exported, formula, goal_value_of, main_value_of, own, own_orders}

-- what was built for a graph has the roots of the graph
module _ (imports : List (Content Sign)) (mode : Mode) (dag : Dag) (automata : Built) (over : IsBuiltOver imports mode dag automata) where
  pub root_here : (r : ℕ) (content : Content Sign) → IsRootAt automata.plan r content
      → (root : SharedRoot) × (slice_get dag.roots r ≡ Some root) × IsLeastOf mode (named dag.orders root.variables) (child_meaning (imports_of imports) dag.entries root.child) content
  root_here r content at =
      let plan = automata.plan in
      let P : Dag → Type 0 = λ d. (root : SharedRoot) × (slice_get d.roots r ≡ Some root) × IsLeastOf plan.mode (named d.orders root.variables) (child_meaning (imports_of plan.imports.now) d.entries root.child) content in
      let Q : List (Content Sign) → Type 0 = λ list. (root : SharedRoot) × (slice_get dag.roots r ≡ Some root) × IsLeastOf plan.mode (named dag.orders root.variables) (child_meaning (imports_of list) dag.entries root.child) content in
      let R : Mode → Type 0 = λ m. (root : SharedRoot) × (slice_get dag.roots r ≡ Some root) × IsLeastOf m (named dag.orders root.variables) (child_meaning (imports_of imports) dag.entries root.child) content in
      subst R over.mode_is (subst Q over.imports_are (subst P over.dag_is at))

module _ (checked : Checked) (answers : Answers) (contents : List (Content Sign)) (lent : AreLentFor checked.mode checked.imports contents) (long : length answers ≡ length checked.imports)
    (are : AreAnswersOf checked.mode checked.imports answers contents) (well : IsWellNumbered checked) (exports : ListsFreeVariables checked) (dag : Dag) (graph : IsGraphOf checked answers dag)
    (automata : Built) (over : IsBuiltOver contents checked.mode dag automata) where
  pub main_root_value : (content : Content Sign) → IsRootAt automata.plan 0 content → HasMainValue (main_question checked answers) content
  main_root_value content at =
      let here = root_here contents checked.mode dag automata over 0 content at in
      main_value_of checked answers contents lent long are well dag graph here.0 here.1 content here.2

  pub goal_root_value : (j : ℕ) (goal : Placed) → slice_get (goals_in checked) j ≡ Some goal → (content : Content Sign)
      → IsRootAt automata.plan (suc (length checked.exports + j)) content → HasMainValue (goal_question checked answers goal) content
  goal_root_value j goal held content at =
      let here = root_here contents checked.mode dag automata over (suc (length checked.exports + j)) content at in
      goal_value_of checked answers contents lent long are well dag graph j goal held here.0 here.1 content here.2

  one_export : (version : FileVersion) (i : ℕ) (used : ExportUse) → slice_get checked.exports i ≡ Some used → (plain : Plain) → IsRootCopy version automata.plan (suc i) used.names plain → IsExportFile version (problem_of checked answers) i used plain
  one_export version i used held plain (content, at, automaton, copy) =
      let here = root_here contents checked.mode dag automata over (suc i) content at in
      let s = here.0 in
      let less = slice_get_within checked.exports i used held in
      let given = (problem_of checked answers).given in
      let f = formula checked answers contents lent long are well dag graph i less s here.1 content here.2 in
      let vs = own checked answers contents lent long are well dag graph i less s here.1 content here.2 in
      let values = export_values checked answers contents lent long are well dag graph i less s here.1 content here.2 automaton in
      let free = export_free checked answers contents lent long are well dag graph i less s here.1 content here.2 in
      let orders = own_orders checked answers contents lent long are well dag graph i less s here.1 content here.2 in
      let is = exported checked answers contents lent long are well dag graph i less s here.1 content here.2 in
      record {
        formula = f;
        is_exported = is;
        variables = vs;
        free = free;
        listed = entry_lists checked answers well exports long i f is used held vs free;
        file = subst (λ mode. IsFileOf version mode vs used.names (form_meaning given f) plain) (here.2).mode_is (file_of version content used.names plain copy vs orders (form_meaning given f) values);
      }

  -- those of all exports, from one on
  exports_from : (version : FileVersion) (i : ℕ) (uses : List ExportUse) → ((j : ℕ) (used : ExportUse) → slice_get uses j ≡ Some used → slice_get checked.exports (i + j) ≡ Some used) → (plains : List Plain)
      → AreRootCopies version automata.plan (i + 1) uses plains → AreExportFiles version (problem_of checked answers) i uses plains
  exports_from version i [] within [] copies = tt
  exports_from version i [] within (plain ∷ plains) copies = absurd copies
  exports_from version i (used ∷ uses) within [] copies = absurd copies
  exports_from version i (used ∷ uses) within (plain ∷ plains) copies =
      let here : i + 0 ≡ i = omega arith in
      let next : i + 1 ≡ suc i = omega arith in (
        one_export version i used (subst (λ n. slice_get checked.exports n ≡ Some used) here (within 0 used refl)) plain (subst (λ n. IsRootCopy version automata.plan n used.names plain) next copies.0),
        exports_from version (i + 1) uses (λ j u held. subst (λ n. slice_get checked.exports n ≡ Some u) (omega arith) (within (suc j) u held)) plains copies.1,
      )

  pub all_exports : (version : FileVersion) (plains : List Plain) → AreRootCopies version automata.plan 1 checked.exports plains → AreExportFiles version (problem_of checked answers) 0 checked.exports plains
  all_exports version plains copies = exports_from version 0 checked.exports (λ j used held. subst (λ n. slice_get checked.exports n ≡ Some used) (omega arith) held) plains copies

-- they can be spelled
pub all_spellable : (version : FileVersion) (plan : Plan) (r : ℕ) (uses : List ExportUse) (plains : List Plain) → AreRootCopies version plan r uses plains → Each IsSpellable plains
all_spellable version plan r [] [] copies = tt
all_spellable version plan r [] (plain ∷ plains) copies = absurd copies
all_spellable version plan r (used ∷ uses) [] copies = absurd copies
all_spellable version plan r (used ∷ uses) (plain ∷ plains) copies =
    let first = copies.0 in
    (record { few = first.3.few; signs = signs_of_copy version first.0 first.2 used.names plain first.3 }, all_spellable version plan (r + 1) uses plains copies.1)

-- one copy more
pub more_copies : (version : FileVersion) (plan : Plan) (r : ℕ) (uses : List ExportUse) (n : ℕ) (plains : List Plain) (used : ExportUse) (plain : Plain) → AreRootCopies version plan r (take n uses) plains → slice_get uses n ≡ Some used
    → IsRootCopy version plan (r + n) used.names plain → AreRootCopies version plan r (take (n + 1) uses) (plains ++ plain ∷ [])
more_copies version plan r [] n plains used plain copies held copy = absurd (none-some used held)
more_copies version plan r (first ∷ uses) zero [] used plain copies held copy =
    let same = same_Some first used held in
    let here : r + 0 ≡ r = omega arith in
    (subst (λ n. IsRootCopy version plan n first.names plain) here (subst (λ (u : ExportUse). IsRootCopy version plan (r + 0) u.names plain) (sym same) copy), tt)
more_copies version plan r (first ∷ uses) zero (other ∷ plains) used plain copies held copy = absurd copies
more_copies version plan r (first ∷ uses) (suc n) [] used plain copies held copy = absurd copies
more_copies version plan r (first ∷ uses) (suc n) (other ∷ plains) used plain copies held copy =
    let next : suc n + 1 ≡ suc (n + 1) = omega arith in
    subst (λ count. AreRootCopies version plan r (take count (first ∷ uses)) ((other ∷ plains) ++ plain ∷ [])) (sym next)
    (copies.0, more_copies version plan (r + 1) uses n plains used plain copies.1 held (subst (λ m. IsRootCopy version plan m used.names plain) (omega arith) copy))

-- the root of an export, and a name for each of its variables
pub root_at : (plan : Plan) (r : ℕ) (uses : List ExportUse) → HaveRoots plan r uses → (n : ℕ) (used : ExportUse) → slice_get uses n ≡ Some used
    → (root : SharedRoot) × (slice_get plan.dag.now.roots (r + n) ≡ Some root) × (length used.names ≡ length root.variables)
root_at plan r [] have n used held = absurd (none-some used held)
root_at plan r (first ∷ uses) have zero used held =
    let here : r ≡ r + 0 = omega arith in
    let same = same_Some first used held in
    (have.0.0, subst (λ m. slice_get plan.dag.now.roots m ≡ Some have.0.0) here have.0.1, subst (λ (u : ExportUse). length u.names ≡ length have.0.0.variables) same have.0.2)
root_at plan r (first ∷ uses) have (suc n) used held =
    let rest = root_at plan (r + 1) uses have.1 n used held in (rest.0, subst (λ m. slice_get plan.dag.now.roots m ≡ Some rest.0) (omega arith) rest.1, rest.2)
