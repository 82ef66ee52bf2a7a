use Rattle.std.proofs.Common.{slice_index_or, arith}
use Rattle.std.proofs.lemmas.Option.{slice_get-get_or}
use Rattle.ms_cert.proofs.partition.assign.Goals as goal

pub index_mut-requires : goal.index_mut-requires
index_mut-requires c =
    let place = c.loop-state.state-index in
    let less = c.requires (slice_index_or c.args.states.now place 0) (place, slice_get-get_or c.args.states.now place 0 c.loop-state-test.true) in
    let long = c.loop-state.invariant.long in
    omega (arith, less, long, c.loop-state.classes.ok.0)
