use Rattle.std.proofs.Common.{sym, subst, ◌∙◌, arith}
use Rattle.ms_dag.specs.inner.Binders.{EndsIn}
use Rattle.ms_dag.specs.Places.{AreBelow}
use Rattle.ms_dag.proofs.BinderLemmas.{EndsIn-same, EndsIn-push, all_few}
use Rattle.ms_dag.proofs.binders.with_bound.Goals as goal
use Rattle.ms_dag.proofs.binders.with_bound.Goals.{then-not-ends_in+in_ok-push, else-not-ends_in}

pub returns-clause-ends : goal.returns-clause-ends
returns-clause-ends c =
    elim c.if-not-ends_in.branch [
      | then-not-ends_in+in_ok-push w ↦
          let below : AreBelow c.args.x c.args.names = subst (λ list. AreBelow c.args.x list) c.slice.ensures (c.ends_in.ensures.lacking w.if-not-ends_in.true) in
          subst (λ all. EndsIn c.args.names c.args.x all) (sym (w.names-is ∙ w.in_ok-push.ensures.ok)) (EndsIn-push c.args.names c.args.x c.requires.rising below)
      | else-not-ends_in w ↦
          let last = c.ends_in.ensures.last w.if-not-ends_in.false in
          subst (λ all. EndsIn c.args.names c.args.x all) (sym w.names-is) (EndsIn-same c.args.names last.0 c.args.x (sym c.slice.ensures ∙ last.1) c.requires.rising)
    ]

pub returns-clause-few : goal.returns-clause-few
returns-clause-few c =
    let few = all_few c.args.names c.args.x c.if-not-ends_in.names (returns-clause-ends c) in
    let fits = c.ranges.x in
    omega (arith, few, fits)
