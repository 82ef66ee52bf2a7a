use Rattle.std.proofs.Common.{◌≡◌, ℕ, List, slice_get, Some, subst, arith}
use Rattle.ms_dfa.specs.Files.{content_of_file}
use Rattle.ms_dfafile_outside.proofs.FileLemmas.{length-states}
use Rattle.ms_cert.specs.inner.Partition.{IsIn, classes_of}
use Rattle.ms_cert.proofs.ListLemmas.{get-item}
use Rattle.ms_cert.proofs.MemberLemmas.{in-filter}
use Rattle.ms_cert.proofs.PartitionLemmas.{few-classes, member-within}
use Rattle.ms_cert.proofs.partition.split_off.Goals as goal

pub sides_by-requires-clause-states : goal.sides_by-requires-clause-states
sides_by-requires-clause-states c = λ place state held.
    let plain = c.args.file.now.plain.now in
    let parts = classes_of c.args.partition.now in
    let there = get-item parts.members c.args.class c.index.result.now c.requires.class c.index.ensures in
    let less = member-within (content_of_file plain) parts c.requires.partition c.args.class c.index.result.now there state (place, subst (λ (s : List ℕ). slice_get s place ≡ Some state) c.slice.ensures held) in
    let count = c.requires.partition.states_count in
    omega (arith, less, count, length-states plain)

pub put-requires-clause-states : goal.put-requires-clause-states
put-requires-clause-states c = λ state in_side.
    let parts = classes_of c.args.partition.now in
    let there = get-item parts.members c.args.class c.index.result.now c.requires.class c.index.ensures in
    let in_first = subst (λ (s : List ℕ). IsIn s state) c.in_ok-sides.ensures.first in_side in
    let in_states = (in-filter _ c.slice.result.now state in_first.0 in_first.1).0 in
    member-within (content_of_file c.args.file.now.plain.now) parts c.requires.partition c.args.class c.index.result.now there state (subst (λ (s : List ℕ). IsIn s state) c.slice.ensures in_states)

pub put-requires-clause-few : goal.put-requires-clause-few
put-requires-clause-few c =
    few-classes (content_of_file c.args.file.now.plain.now) (classes_of c.args.partition.now) c.requires.partition _ (omega (arith, c.requires.few, length-states c.args.file.now.plain.now))
