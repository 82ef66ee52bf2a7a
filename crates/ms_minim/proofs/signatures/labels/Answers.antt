use Rattle.std.proofs.Common.{◌+◌, refl, sym, subst}
use Rattle.ms_minim.specs.inner.Grouping.{AreLabels}
use Rattle.ms_minim.proofs.SignatureLemmas.{AreLabels-more, IsLaterSeen-then}
use Rattle.ms_minim.proofs.signatures.labels.Goals as goal

pub label_state-requires-clause-state : goal.label_state-requires-clause-state
label_state-requires-clause-state c = c.requires.due c.get-state.result.0 (record { place = c.loop-place.place; pair = c.get-state.result; there = c.get-state.ensures; own = refl })

pub loop-place-preserved : goal.loop-place-preserved
loop-place-preserved c =
    let content = c.args.plan.now.automaton.now in
    let classes = c.args.choice.now.classes.now in
    let splitters = c.args.choice.now.splitters.now in
    let were = c.loop-place.invariant in
    let later = c.in_ok-found.ensures.later in (
      c.in_ok-found.ensures.seen,
      IsLaterSeen-then c.args.seen.now c.loop-place.seen c.label_state.new.seen were.1 later,
      subst (λ made. AreLabels c.label_state.new.seen content classes splitters c.args.due.now made (c.loop-place.place + 1)) (sym c.in_ok-push.ensures.ok)
          (AreLabels-more c.loop-place.seen c.label_state.new.seen were.0 later content classes splitters c.args.due.now c.loop-place.made c.loop-place.place were.2 c.get-state.result c.in_ok-found.found
          c.get-state.ensures c.in_ok-found.ensures.label),
      c.in_ok-found.ensures.tables,
    )
