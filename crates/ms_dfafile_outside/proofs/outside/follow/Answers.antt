use Rattle.std.proofs.Common.{Bool, length, refl, sym, subst, arith}
use Rattle.ms_dfa.specs.Files.{content_of_file}
use Rattle.ms_dfafile_outside.specs.declared.label.Label.{Label}
use Rattle.ms_dfafile_outside.specs.declared.label.Label.TheVariants.{Seen}
use Rattle.ms_dfafile_outside.specs.inner.Labels.{Finds, HasArrived, IsKnown, IsSettled}
use Rattle.ms_dfafile_outside.proofs.FileLemmas.{length-variables, rising-file}
use Rattle.ms_dfafile_outside.proofs.LabelsLemmas.{AreSettled-more, HasArrived-kept, marks-settled}
use Rattle.ms_dfafile_outside.proofs.outside.follow.Goals as goal

pub settle-requires-clause-known : goal.settle-requires-clause-known
settle-requires-clause-known c = (c.loop-done.invariant.labels.named c.loop-done.done c.get-reference.result.now c.get-reference.ensures).1

pub loop-done-preserved : goal.loop-done-preserved
loop-done-preserved c =
    let content = content_of_file c.args.plain.now in
    let now = c.loop-done.labels in
    let new = c.settle.new.labels in
    let reference = c.get-reference.result.now in
    let invariant = c.loop-done.invariant in
    let found = subst (λ (agrees : Bool). Finds content now.known.items new.known.items now.work new.work
    ((label : Label) → IsKnown content now.known.items reference label → IsSettled content new.known.items reference label) agrees) c.if-not-branch.false c.in_ok-settle.ensures in
    record {
      labels = found.labels;
      settled = AreSettled-more content now.known.items new.known.items now.work new.work c.loop-done.done reference invariant.labels found.kept c.get-reference.ensures invariant.settled found.done;
      start = HasArrived-kept content now.known.items new.known.items now.work new.work c.args.plain.now.start (Seen 0) (length c.args.plain.now.variables) found.kept invariant.start;
    }

pub returns : goal.returns
returns c =
    let plain = c.args.plain.now in
    let content = content_of_file plain in
    let now = c.loop-done.labels in
    let invariant = c.loop-done.invariant in (
      λ yes. marks-settled content now.known.items now.work c.loop-done.done c.requires.content (rising-file plain) invariant.labels (omega arith) invariant.settled
          (subst (HasArrived content now.known.items plain.start (Seen 0)) (sym (length-variables plain)) invariant.start),
      λ marks. refl,
    )
