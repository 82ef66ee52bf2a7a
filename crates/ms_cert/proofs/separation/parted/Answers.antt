use Rattle.std.proofs.Common.{◌<◌, length, slice_index_or, arith}
use Rattle.std.proofs.lemmas.Bool.Decides.{nat_tests}
use Rattle.std.proofs.lemmas.Option.{slice_get-get_or}
use Rattle.ms_cert.specs.inner.Partition.{classes_of}
use Rattle.ms_cert.proofs.WaitingLemmas.{some-class}
use Rattle.ms_cert.proofs.separation.parted.Goals as goal

pub returns-then-is_empty : goal.returns-then-is_empty
returns-then-is_empty c = some-class c.args.file.now.plain.now (classes_of c.args.partition.now) c.requires.partition c.requires.content.some_state

pub class_behind-first-requires-clause-state : goal.class_behind-first-requires-clause-state
class_behind-first-requires-clause-state c =
    let states = c.args.states.now in
    let some : 0 < length states = grind (arith, nat_tests, c.is_empty.ensures, c.if-is_empty.false) in
    c.requires.states 0 (slice_index_or states 0 0) (slice_get-get_or states 0 0 some)

pub class_behind-class-requires-clause-state : goal.class_behind-class-requires-clause-state
class_behind-class-requires-clause-state c =
    let states = c.args.states.now in
    let place = c.loop-state.state-index in
    c.requires.states place (slice_index_or states place 0) (slice_get-get_or states place 0 c.loop-state-test.true)

pub loop-state-init : goal.loop-state-init
loop-state-init c = some-class c.args.file.now.plain.now (classes_of c.args.partition.now) c.requires.partition c.requires.content.some_state
