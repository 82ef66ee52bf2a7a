-- The value of a child, and of the core formula that it unfolds to.
use Rattle.std.proofs.Common.{refl, sym}
use Rattle.ms_dag.specs.Values.{ReadsAs, read_through}
use Rattle.ms_dag.proofs.NodeValues.{node_has_value_of_formula}
use Rattle.ms_logic_core.specs.CoreForm.{CoreNo, CoreYes}
use Rattle.ms_project.proofs.AlwaysLemmas.{sign_moves}
use Rattle.ms_build.specs.Built.{ChildNo, ChildYes}
use Rattle.ms_build.specs.Laws.{ChildHasValueOfFormula}
use Rattle.ms_build.proofs.ChildLemmas.{value_through}

pub child_has_value : ChildHasValueOfFormula
child_has_value imports entries orders f child e sign have unfolds =
    let reads : ReadsAs orders child.map (read_through child.map e) e
    = record { universe = refl; values = λ j o less held. sym (value_through o child.map e j) } in
    let law = node_has_value_of_formula imports entries orders f child.map child.node (read_through child.map e) e have unfolds reads in (
      sign_moves (ChildYes imports entries child) (ChildNo imports entries child) (CoreYes imports f) (CoreNo imports f) e (λ h. law.0.0 h) (λ h. law.1.0 h) (λ h. law.0.1 h) (λ h. law.1.1 h) sign,
      sign_moves (CoreYes imports f) (CoreNo imports f) (ChildYes imports entries child) (ChildNo imports entries child) e (λ h. law.0.1 h) (λ h. law.1.1 h) (λ h. law.0.0 h) (λ h. law.1.0 h) sign,
    )
