-- There is a root for each export, and a name for each of its variables.
use Rattle.std.proofs.Common.{◌≡◌, ℕ, suc, ◌+◌, List, [], ◌∷◌, length, slice_get, Some, refl, sym, ap, subst, ◌∙◌, arith}
use Rattle.std.proofs.lemmas.List.{length-map}
use Rattle.std.proofs.lemmas.Option.{slice_get_within}
use Rattle.ms_arena.proofs.Lists.{slice_get-held}
use Rattle.ms_build.specs.declared.built.Built.{Built}
use Rattle.ms_build.specs.Built.{IsBuiltOver}
use Rattle.ms_names_checked.specs.Exports.{ListsFreeVariables}
use Rattle.ms_dag.specs.declared.dag.Dag.{Dag}
use Rattle.ms_dag.specs.declared.dag.SharedRoot.{SharedRoot}
use Rattle.ms_logic.specs.declared.checked.Checked.{Checked}
use Rattle.ms_logic.specs.declared.checked.ExportUse.{ExportUse}
use Rattle.ms_logic.specs.declared.mode.Mode.{Mode}
use Rattle.ms_logic_words.specs.declared.sign.Sign.{Sign}
use Rattle.ms_logic.specs.Assignment.{Variable}
use Rattle.ms_logic_words.specs.Content.{Content}
use Rattle.ms_logic_core.specs.Roots.{Root}
use Rattle.ms_logic.specs.View.{goals_in, Answers}
use Rattle.ms_names_rules.specs.Numbers.{IsWellNumbered}
use Rattle.ms_build_source.specs.inner.Copies.{HaveRoots}
use Rattle.ms_build_source.specs.Graph.{IsGraphOf, calls_in}
use Rattle.ms_build_source.proofs.ExportNames.{entry_lists, entry_named}
use Rattle.ms_build_source.specs.Moved.{HaveSameOrders}
use Rattle.ms_build_source.proofs.RootValues.{answer_orders, root_beside, roots_counted}

same_length : (vs ws : List Variable) → HaveSameOrders vs ws → length vs ≡ length ws
same_length [] [] same = refl
same_length [] (w ∷ ws) same = absurd same
same_length (v ∷ vs) [] same = absurd same
same_length (v ∷ vs) (w ∷ ws) same = ap suc (same_length vs ws same.1)

module _ (checked : Checked) (answers : Answers) (long : length answers ≡ length checked.imports) (well : IsWellNumbered checked) (exports : ListsFreeVariables checked) (dag : Dag)
    (graph : IsGraphOf checked answers dag) where
  abbrev Named : ℕ → ExportUse → Type 0
  Named k used = (root : SharedRoot) × (slice_get dag.roots k ≡ Some root) × (length used.names ≡ length root.variables)

  pub count_of_roots : length dag.roots ≡ 1 + length checked.exports + length (goals_in checked)
  count_of_roots = sym (roots_counted (calls_in checked answers) graph.lowered.orders dag.entries graph.lowered.roots dag.roots graph.is_dag.roots) ∙ graph.roots.count

  root_named : (i : ℕ) (used : ExportUse) → slice_get checked.exports i ≡ Some used → Named (suc i) used
  root_named i used held =
      let within = slice_get_within checked.exports i used held in
      let count = count_of_roots in
      let found = slice_get-held dag.roots (suc i) (omega (arith, within, count)) in
      let beside = root_beside (calls_in checked answers) graph.lowered.orders dag.entries graph.lowered.roots dag.roots graph.is_dag.roots (suc i) found.0 found.1 in
      let r = graph.roots.exports i beside.0 within beside.1 in
      let own_listed = ap (λ (root : Root). root.variables) r.is_root.4 in
      let names = entry_named checked answers well exports long i r.is_root.0 r.is_root.2 used held in
      let lists = entry_lists checked answers well exports long i r.is_root.0 r.is_root.2 used held r.is_root.1 r.is_root.3 in
      let own = same_length r.own.variables r.made.variables (answer_orders (length checked.globals) r.own.variables r.made.variables r.same.variables) in (
        found.0,
        found.1,
        names ∙ ap length lists ∙ length-map r.is_root.1 (λ v. v.name) ∙ ap (λ (vs : List Variable). length vs) (sym own_listed) ∙ own ∙ sym (length-map r.made.variables (λ v. v.name)) ∙ ap length r.variables
            ∙ ap length (sym beside.2.variables),
      )

  roots_from : (i : ℕ) (uses : List ExportUse) → ((j : ℕ) (used : ExportUse) → slice_get uses j ≡ Some used → slice_get checked.exports (i + j) ≡ Some used) → (contents : List (Content Sign)) (mode : Mode) (automata : Built)
      → IsBuiltOver contents mode dag automata → HaveRoots automata.plan (i + 1) uses
  roots_from i [] within contents mode automata over = tt
  roots_from i (used ∷ uses) within contents mode automata over =
      let here : i + 0 ≡ i = omega arith in
      let next : suc i ≡ i + 1 = omega arith in
      let one = subst (λ n. Named n used) next (root_named i used (subst (λ n. slice_get checked.exports n ≡ Some used) here (within 0 used refl))) in
      let D : Dag → Type 0 = λ d. (root : SharedRoot) × (slice_get d.roots (i + 1) ≡ Some root) × (length used.names ≡ length root.variables) in
      (subst D (sym over.dag_is) one, roots_from (i + 1) uses (λ j u held. subst (λ n. slice_get checked.exports n ≡ Some u) (omega arith) (within (suc j) u held)) contents mode automata over)

  pub all_have_roots : (contents : List (Content Sign)) (mode : Mode) (automata : Built) → IsBuiltOver contents mode dag automata → HaveRoots automata.plan 1 checked.exports
  all_have_roots contents mode automata over = roots_from 0 checked.exports (λ j used held. subst (λ n. slice_get checked.exports n ≡ Some used) (omega arith) held) contents mode automata over
