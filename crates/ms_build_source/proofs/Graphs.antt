-- What lowering gives for a source, and its graph.
use Rattle.std.proofs.Common.{◌≡◌, length, map, sym, subst, arith}
use Rattle.ms_names_checked.specs.Exports.{ListsFreeVariables}
use Rattle.ms_dag.specs.declared.dag.Dag.{Dag}
use Rattle.ms_dag.specs.Lowered.{IsLowered}
use Rattle.ms_dag.specs.Share.{IsDagOf}
use Rattle.ms_build_source.specs.CallsOfSources.{source_calls}
use Rattle.ms_build_source.proofs.CallLemmas.{calls_same}
use Rattle.ms_build_source.proofs.Exported.{sources_list_variables}
use Rattle.ms_build_source.proofs.FilledRoots.{sources_have_roots}
use Rattle.ms_build_source.proofs.SharedRoots.{sources_are_shared}
use Rattle.ms_logic.specs.declared.checked.Checked.{Checked}
use Rattle.ms_logic_core.specs.declared.core_formula.Lowered.{Lowered}
use Rattle.ms_logic.specs.View.{problem_of, Answers}
use Rattle.ms_lower.specs.Lowered.{HasCallingRoots, HasRoots, ListsVariables}
use Rattle.ms_lower.specs.Measure.{IsMeasure}
use Rattle.ms_names_rules.specs.Numbers.{IsWellNumbered}
use Rattle.ms_build_source.specs.Graph.{IsGraphOf, calls_in}
use Rattle.ms_build_source.specs.Limits.{IsWithinLimits}

module _ (checked : Checked) (well : IsWellNumbered checked) (exports : ListsFreeVariables checked) (lowered : Lowered)
    (measure : (answers : Answers) → IsMeasure (problem_of checked answers) lowered.size lowered.depth)
    (roots : (answers : Answers) → length answers ≡ length checked.imports → ListsVariables checked (problem_of checked answers) → HasCallingRoots checked answers lowered.roots)
    (orders : lowered.orders ≡ map (λ g. g.order) checked.globals)
    (answers : Answers) (long : length answers ≡ length checked.imports) where
  lists : ListsVariables checked (problem_of checked answers)
  lists = sources_list_variables checked answers long well exports

  has_roots : HasRoots checked answers lowered.roots
  has_roots = sources_have_roots checked answers lowered.roots long well (roots answers long lists)

  -- it is as sharing asks
  lowered_here : IsLowered (problem_of checked answers).given.imports (calls_in checked answers) lowered
  lowered_here = sources_are_shared checked answers lowered well has_roots orders

  pub lowered_there : IsLowered (problem_of checked answers).given.imports (source_calls checked) lowered
  lowered_there = subst (λ calls. IsLowered (problem_of checked answers).given.imports calls lowered) (sym (calls_same checked answers long)) lowered_here

  pub graph_here : (dag : Dag) → IsDagOf (source_calls checked) lowered dag → IsGraphOf checked answers dag
  graph_here dag is = record {
    lowered = lowered;
    lists = lists;
    measure = measure answers;
    roots = has_roots;
    orders = orders;
    is_lowered = lowered_here;
    is_dag = subst (λ calls. IsDagOf calls lowered dag) (calls_same checked answers long) is;
  }

pub graph_within : (checked : Checked) (answers : Answers) (dag : Dag) → IsGraphOf checked answers dag → IsWithinLimits (problem_of checked answers)
graph_within checked answers dag graph =
    let size = graph.measure.size_is in
    let depth = graph.measure.depth_is in
    let small = graph.measure.size_within in
    let flat = graph.measure.depth_within in
    record { depth = omega (arith, depth, flat); size = omega (arith, size, small) }
