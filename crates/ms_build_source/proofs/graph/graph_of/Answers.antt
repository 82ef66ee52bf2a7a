use Rattle.std.proofs.Common.{sym, subst}
use Rattle.ms_logic.specs.declared.checked.Checked.{Checked}
use Rattle.ms_logic.specs.View.{problem_of}
use Rattle.ms_dag.specs.Lowered.{IsLowered}
use Rattle.ms_dag.specs.Share.{IsDagOf}
use Rattle.ms_lower.specs.Callees.{IsTablesOf}
use Rattle.ms_names_rules.specs.Numbers.{IsWellNumbered}
use Rattle.ms_build_source.proofs.CallLemmas.{silent_counted}
use Rattle.ms_build_source.specs.CallsOfSources.{silent_answers, source_calls}
use Rattle.ms_build_source.proofs.Graphs.{graph_here, lowered_there}
use Rattle.ms_build_source.proofs.graph.graph_of.Goals as goal

pub share-requires-clause-ready : goal.share-requires-clause-ready
share-requires-clause-ready c =
    let calls = c.in-Ok.calls in
    subst (λ (checked : Checked). IsTablesOf checked calls.tables × IsWellNumbered checked) (sym c.in-Ok.ensures.checked) (c.in-Ok.ensures.tables, c.requires.numbered)

pub share-requires-clause-lowered : goal.share-requires-clause-lowered
share-requires-clause-lowered c =
    let checked = c.args.checked.now in
    let lowered = c.in_ok-lowered.lowered in
    let made = c.in_ok-lowered.ensures in
    let imports = (problem_of checked (silent_answers checked)).given.imports in (
      imports,
      subst (λ (own : Checked). IsLowered imports (source_calls own) lowered) (sym c.in-Ok.ensures.checked)
          (lowered_there checked c.requires.numbered c.requires.exports lowered made.measure made.roots made.orders (silent_answers checked) (silent_counted checked)),
    )

pub returns-clause-graph : goal.returns-clause-graph
returns-clause-graph c = λ answers long.
    let checked = c.args.checked.now in
    let lowered = c.in_ok-lowered.lowered in
    let made = c.in_ok-lowered.ensures in
    let dag = c.in-Ok-share.dag in
    graph_here checked c.requires.numbered c.requires.exports lowered made.measure made.roots made.orders answers long dag
    (subst (λ (own : Checked). IsDagOf (source_calls own) lowered dag) c.in-Ok.ensures.checked c.in-Ok-share.ensures)

pub returns-clause-size : goal.returns-clause-size
returns-clause-size c = λ answers. (c.in_ok-lowered.ensures.measure answers).size_is

pub returns-clause-depth : goal.returns-clause-depth
returns-clause-depth c = λ answers. (c.in_ok-lowered.ensures.measure answers).depth_is
