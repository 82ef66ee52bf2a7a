-- What any node lacks that occurs in a source, by its form.
use Rattle.std.proofs.Common.{◌≡◌, ⊎_elim, refl, sym, subst}
use Rattle.ms_build.specs.Short.{FormLacks}
use Rattle.ms_dag.specs.declared.node.DagNode.{DagNode}
use Rattle.ms_dag.specs.declared.node.DagNode.TheVariants.{True, False, Basic, Not, And, Or, Implies, Iff, Restrict, Import, Bind}
use Rattle.ms_build_steps.specs.Kinds.{IsBelowOwnStep}
use Rattle.ms_build_steps.specs.Laws.{IsPlainForm, NodesAreBelowTheirSteps}
use Rattle.ms_build_steps.proofs.Imports.{imports_are_below_their_steps}
use Rattle.ms_build_steps.proofs.PlainNodes.{plain_nodes_are_below_their_steps}
use Rattle.ms_build_steps.proofs.Quantifiers.{quantifiers_are_below_their_steps}
use Rattle.ms_build_steps.proofs.SmallLimits.{small_limits_are_below_steps}

pub nodes_are_below_their_steps : NodesAreBelowTheirSteps
nodes_are_below_their_steps imports calls lowered plan number root f names i is is_root lent within occurs lacks = by_form lacks.0.node refl
  where
    plainly : (node : DagNode) → lacks.0.node ≡ node → IsPlainForm node → IsBelowOwnStep imports plan.mode f plan.limit
    plainly node same plain = plain_nodes_are_below_their_steps imports calls lowered plan number root f names i lacks.0 is is_root lacks.1 occurs (subst IsPlainForm (sym same) plain) lacks

    by_form : (node : DagNode) → lacks.0.node ≡ node → IsBelowOwnStep imports plan.mode f plan.limit
    by_form True same = plainly True same tt
    by_form False same = plainly False same tt
    by_form (Basic b) same = plainly (Basic b) same tt
    by_form (Not c) same = plainly (Not c) same tt
    by_form (And cs) same = plainly (And cs) same tt
    by_form (Or cs) same = plainly (Or cs) same tt
    by_form (Implies c d) same = plainly (Implies c d) same tt
    by_form (Iff c d) same = plainly (Iff c d) same tt
    by_form (Restrict c) same = plainly (Restrict c) same tt
    by_form (Import import xs) same =
        imports_are_below_their_steps imports calls lowered plan number root f names i lacks.0 import xs is is_root lacks.1 same (lent i lacks.0 import xs lacks.1 same) within occurs lacks
    by_form (Bind q o k d c) same = ⊎_elim
        (λ small. small_limits_are_below_steps imports plan.mode f plan.limit small)
        (λ short. quantifiers_are_below_their_steps imports calls lowered plan number root f names i lacks.0 q o k d c is is_root lacks.1 same occurs
        (subst (λ node. FormLacks plan (lacks.0).orders node) same short))
        lacks.2
