-- Whatever lacks nodes in the graph of a source is below each budget of a step of its own, which is a step of one of the roots.
use Rattle.std.proofs.Common.{⊎_elim, inl, inr}
use Rattle.std.proofs.lemmas.Option.{slice_get_within}
use Rattle.ms_dag.specs.Share.{IsRootOf}
use Rattle.ms_dag_steps.specs.Occurrences.{whole_formula}
use Rattle.ms_dag_steps.proofs.OccurrenceLemmas.{nodes_occur_in_roots}
use Rattle.ms_dag_steps.proofs.SubformulaSteps.{own_step_of_subformula}
use Rattle.ms_diagram.proofs.ListLemmas.{Contains-first, Contains-rest}
use Rattle.ms_logic_measures.specs.Steps.{root as step_of_root, steps_of}
use Rattle.ms_build_steps.specs.Laws.{BelowItsStepsIsBelowRoots, LackingIsBelowItsSteps, LackingIsBelowRoots, whole_root}
use Rattle.ms_build_steps.proofs.Lists.{zip_at}
use Rattle.ms_build_steps.proofs.AnyNodes.{nodes_are_below_their_steps}
use Rattle.ms_build_steps.proofs.Roots.{roots_are_below_their_steps}

pub lacking_is_below_its_steps : LackingIsBelowItsSteps
lacking_is_below_its_steps imports calls lowered plan i is lent within = (
  λ lacks.
      let at = nodes_occur_in_roots calls lowered plan.dag.now i is.graph (slice_get_within plan.dag.now.entries i lacks.0 lacks.1) in
      record { at = at; below = nodes_are_below_their_steps imports calls lowered plan at.number at.root at.formula at.names i is at.is_root lent within at.occurs lacks },
  λ lacks.
      let found = zip_at (IsRootOf calls lowered.orders plan.dag.now.entries) lowered.roots plan.dag.now.roots is.graph.roots i lacks.0 lacks.1 in
      record { root = found.0; is_root = found.1; below = roots_are_below_their_steps imports calls lowered plan i found.0 is found.1 lacks },
)

pub below_its_steps_is_below_roots : BelowItsStepsIsBelowRoots
below_its_steps_is_below_roots imports calls mode lowered entries i limit = ⊎_elim
    (λ node.
    let at = node.at in
    let step = node.below.0 in
    let steps = steps_of (whole_formula calls at.root) in
    record {
      number = at.number;
      root = at.root;
      is_root = at.is_root;
      below = (
        step,
        Contains-rest (step_of_root (whole_root calls lowered.orders at.root)) steps step (own_step_of_subformula (whole_formula calls at.root) at.formula at.occurs.subformula step node.below.1),
        node.below.2,
      );
    })
    (λ one.
    let step = step_of_root (whole_root calls lowered.orders one.root) in
    record { number = i; root = one.root; is_root = one.is_root; below = (step, Contains-first step (steps_of (whole_formula calls one.root)), one.below) })

pub lacking_is_below_roots : LackingIsBelowRoots
lacking_is_below_roots imports calls lowered plan step is lent within lacks =
    let own = lacking_is_below_its_steps imports calls lowered plan step is lent within in
    below_its_steps_is_below_roots imports calls plan.mode lowered plan.dag.now.entries step plan.limit (⊎_elim (λ node. inl (own.0 node)) (λ of_root. inr (own.1 of_root)) lacks)
