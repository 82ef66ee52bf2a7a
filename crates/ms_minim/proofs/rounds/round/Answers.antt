use Rattle.std.proofs.Common.{◌≡◌, length, slice_get, Some, sym, ap, subst, ◌∙◌, arith}
use Rattle.std.proofs.lemmas.Option.{slice_get_within}
use Rattle.ms_arena.proofs.Lists.{slice_get-held}
use Rattle.ms_minim.specs.inner.Grouping.{AreCovered, AreLabels, AreListed, AreWithin, IsMoved}
use Rattle.ms_minim.specs.inner.Predecessors.{AreBelow}
use Rattle.ms_minim.proofs.GroupingLemmas.{AreWithin-listed, IsListed-within}
use Rattle.ms_minim.proofs.SignatureLemmas.{AreGrouped-moved, label_below}
use Rattle.ms_minim.proofs.rounds.round.Goals as goal

pub due-requires-clause-below : goal.due-requires-clause-below
due-requires-clause-below c =
    subst (λ classes. AreBelow (length classes) c.deref-2.result.now) (sym c.deref.ensures.value) (subst (AreBelow (length c.args.groups.now.classes.items)) (sym c.deref-2.ensures.value)
    (subst (λ n. AreBelow n c.args.groups.now.members.items) (sym c.requires.groups.all) c.requires.groups.below))

pub due-requires-clause-listed : goal.due-requires-clause-listed
due-requires-clause-listed c =
    subst (λ classes. AreListed classes c.deref-2.result.now) (sym c.deref.ensures.value) (subst (AreListed c.args.groups.now.classes.items) (sym c.deref-2.ensures.value) c.requires.groups.listed)

pub labels-requires-clause-within : goal.labels-requires-clause-within
labels-requires-clause-within c =
    subst (λ classes. AreWithin classes c.deref-4.result.now) (sym c.deref-3.ensures.value) (subst (AreWithin c.args.groups.now.classes.items) (sym c.deref-4.ensures.value)
    (AreWithin-listed c.args.groups.now.classes.items c.args.groups.now.members.items c.args.splitters.now.numbers.items c.requires.groups.listed c.requires.numbered))

pub labels-requires-clause-due : goal.labels-requires-clause-due
labels-requires-clause-due c state is = let listed = c.in_ok-due.ensures.only state is in c.requires.predecessors.below listed.0 state listed.1

pub settle-requires-clause-due : goal.settle-requires-clause-due
settle-requires-clause-due c state is =
    let listed = c.in_ok-due.ensures.only state is in
    let less = c.requires.predecessors.below listed.0 state listed.1 in
    let all = c.requires.groups.all in
    let same : length c.make_room.new.groups.classes.items ≡ length c.args.groups.now.classes.items = ap length c.in_ok-make_room.ensures.classes in
    omega (arith, less, all, same)

pub settle-requires-clause-within : goal.settle-requires-clause-within
settle-requires-clause-within c place label held =
    let labels = c.in_ok-labels.ensures in
    let due = c.in_ok-due.due in
    let in_labels : slice_get c.in_ok-labels.labels place ≡ Some label = ap (λ list. slice_get list place) (sym c.slice-2.ensures) ∙ held in
    let count = labels.labels.count in
    let less = slice_get_within c.in_ok-labels.labels place label in_labels in
    let pair = slice_get-held due place (omega (arith, less, count)) in
    let is = labels.labels.labelled place label pair.0 in_labels pair.1 in
    let listed = c.requires.groups.listed pair.0.0 is.class (ap (λ list. slice_get list pair.0.0) (sym c.deref-3.ensures.value) ∙ is.class_is) in
    let class_less = IsListed-within c.args.groups.now.members.items is.class pair.0.0 listed in
    let first = labels.later.first ∙ c.in_ok-seen.ensures.first in
    let members = c.len-2.ensures in
    let below = label_below c.labels.new.seen.keys c.labels.new.seen.first is.class is.mark label is.labelled (omega (arith, class_less, first, members)) in
    let keys = c.len-3.ensures.len in
    let more = c.in_ok-make_room.ensures.count in
    omega (arith, below, first, members, keys, more)

pub returns-clause-groups : goal.returns-clause-groups
returns-clause-groups c =
    let content = c.args.plan.now.automaton.now in
    let classes = c.args.groups.now.classes.items in
    let splitters = c.args.splitters.now.numbers.items in
    let chosen = c.args.splitters.now.chosen in
    let due = c.in_ok-due.due in
    let seen = c.labels.new.seen in
    let labels = c.in_ok-labels.labels in
    let moved = c.settle.new.groups.classes.items in
    let members = c.settle.new.groups.members.items in
    let covered = subst (λ list. AreCovered list c.args.predecessors.now chosen due) c.deref.ensures.value
    (subst (λ list. AreCovered c.deref.result.now c.args.predecessors.now list due) c.slice.ensures c.in_ok-due.ensures.covered) in
    let labelled = subst (λ list. AreLabels seen content list splitters due labels (length due)) c.deref-3.ensures.value
    (subst (λ list. AreLabels seen content c.deref-3.result.now list due labels (length due)) c.deref-4.ensures.value c.in_ok-labels.ensures.labels) in
    let is_moved = subst (λ list. IsMoved list moved members due labels (length due)) c.in_ok-make_room.ensures.classes
    (subst (λ list. IsMoved c.make_room.new.groups.classes.items moved members due list (length due)) c.slice-2.ensures c.in_ok-settle.ensures.moved) in
    let same : length c.make_room.new.groups.classes.items ≡ length content.states = ap length c.in_ok-make_room.ensures.classes ∙ c.requires.groups.all in
    let below = subst (λ n. AreBelow n members) same
    (c.in_ok-settle.ensures.below (subst (λ n. AreBelow n c.make_room.new.groups.members.items) (sym same) (c.in_ok-make_room.ensures.below (length content.states) c.requires.groups.below))) in
    AreGrouped-moved content c.states.ensures.automaton classes splitters chosen c.args.groups.now.members.items c.requires.groups c.requires.splitters c.args.predecessors.now c.requires.predecessors due covered
    seen c.in_ok-labels.ensures.seen labels labelled moved members is_moved below
