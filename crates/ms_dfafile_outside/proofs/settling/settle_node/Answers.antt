use Rattle.std.proofs.Common.{◌≡◌, Bool, true, false, slice_get, Some, sym, subst, ◌∙◌, arith}
use Rattle.std.proofs.lemmas.Option.{same_Some}
use Rattle.std.proofs.lemmas.Result.{IfOk-weaker}
use Rattle.ms_arena.specs.declared.node.Node.{Node}
use Rattle.ms_arena.specs.declared.node.Ref.TheVariants.{Inner}
use Rattle.ms_dfa.specs.Files.{content_of_file}
use Rattle.ms_dfafile_outside.specs.inner.Labels.{AreKept, Finds, HasArrived, HasCome, IsSettled, IsSettledNode, orders_in}
use Rattle.ms_dfafile_outside.proofs.ComeLemmas.{come-end}
use Rattle.ms_dfafile_outside.proofs.FileLemmas.{length-variables}
use Rattle.ms_dfafile_outside.proofs.LabelLemmas.{small-label}
use Rattle.ms_dfafile_outside.proofs.LabelsLemmas.{Finds-then, HasArrived-kept}
use Rattle.ms_dfafile_outside.proofs.ContentLemmas.{valid-part}
use Rattle.ms_dfafile_outside.proofs.settling.settle_node.Goals as goal

pub level_behind-level-requires : goal.level_behind-level-requires
level_behind-level-requires c = omega (arith, c.requires.content.variables c.args.place c.get-node.result.now c.get-node.ensures, length-variables c.args.plain.now)

pub with_variable-more-requires-clause-within : goal.with_variable-more-requires-clause-within
with_variable-more-requires-clause-within c = omega (arith, c.requires.content.variables c.args.place c.get-node.result.now c.get-node.ensures, length-variables c.args.plain.now)

pub with_variable-more-requires-clause-label : goal.with_variable-more-requires-clause-label
with_variable-more-requires-clause-label c =
    let there = c.requires.labels.come (Inner c.args.place) c.args.label c.requires.named c.requires.known in
    small-label (orders_in (content_of_file c.args.plain.now)) there.1.count c.args.label c.requires.sets.few there.1.is_label

pub arrive-requires-clause-come : goal.arrive-requires-clause-come
arrive-requires-clause-come c =
    let content = content_of_file c.args.plain.now in
    let node = c.get-node.result.now in
    let held = c.get-node.ensures in
    let there = c.requires.labels.come (Inner c.args.place) c.args.label c.requires.named c.requires.known in
    subst (HasCome content node.low c.args.label) (sym c.level_behind-level.ensures)
    (come-end content c.requires.content c.args.place node held false (valid-part content node.low (c.requires.content.low_named c.args.place node held)) c.args.label c.args.label there.0 there.1 there.1.is_label)

pub arrive-requires-2-clause-come : goal.arrive-requires-2-clause-come
arrive-requires-2-clause-come c =
    let content = content_of_file c.args.plain.now in
    let node = c.get-node.result.now in
    let held = c.get-node.ensures in
    let there = c.requires.labels.come (Inner c.args.place) c.args.label c.requires.named c.requires.known in
    subst (HasCome content node.high c.with_variable-more.result) (sym c.level_behind-level.ensures)
    (come-end content c.requires.content c.args.place node held true (valid-part content node.high (c.requires.content.high_named c.args.place node held)) c.args.label c.with_variable-more.result there.0 there.1
    (c.with_variable-more.ensures there.1.count there.1.is_label))

pub returns : goal.returns
returns c =
    let content = content_of_file c.args.plain.now in
    let node = c.get-node.result.now in
    let label = c.args.label in
    let level = c.level_behind-level.result in
    let more = c.with_variable-more.result in
    let labels = c.args.labels.now in
    let first = c.arrive.new.labels in
    let second = c.arrive-2.new.labels in
    let found = subst (λ (agrees : Bool). Finds content labels.known.items first.known.items labels.work first.work (HasArrived content first.known.items node.low label level) agrees) c.if-not-branch.false c.in_ok-arrive.ensures in
    let gives = λ (kept : AreKept first.known.items second.known.items first.work second.work) (low : HasArrived content first.known.items node.low label level)
    (high : HasArrived content second.known.items node.high more level) (other : Node) (is : slice_get content.nodes c.args.place ≡ Some other).
    subst (λ (n : Node). IsSettledNode content second.known.items n label) (same_Some node other (sym c.get-node.ensures ∙ is)) (record {
      low = subst (HasArrived content second.known.items node.low label) c.level_behind-level.ensures
          (HasArrived-kept content first.known.items second.known.items first.work second.work node.low label level kept low);
      more = more;
      with_own = c.with_variable-more.ensures;
      high = subst (HasArrived content second.known.items node.high more) c.level_behind-level.ensures high;
    })
    in
    IfOk-weaker c.arrive-2.result _ _
    (λ agrees next. Finds-then content labels.known.items first.known.items second.known.items labels.work first.work second.work
    (HasArrived content first.known.items node.low label level) (HasArrived content second.known.items node.high more level) (IsSettled content second.known.items (Inner c.args.place) label)
    agrees found gives next)
    c.arrive-2.ensures
