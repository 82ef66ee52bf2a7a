use Rattle.std.proofs.Common.{sym, subst, ◌∙◌, arith}
use Rattle.ms_minim.specs.inner.Partition.{AreSignMarks}
use Rattle.ms_minim.proofs.PartitionLemmas.{some_state, IsPartition-split_by}
use Rattle.ms_minim.proofs.refinement.by_signs.Goals as goal

pub one_class-requires : goal.one_class-requires
one_class-requires c =
    let some = some_state c.args.automaton.now c.states.ensures.automaton in
    let states = c.states.ensures.states in
    omega (arith, some, states)

pub returns : goal.returns
returns c =
    let are = subst (AreSignMarks c.args.automaton.now) (sym c.slice.ensures) c.in_ok-signs.ensures in
    let all = c.in_ok-one.ensures.all ∙ c.states.ensures.states in
    IsPartition-split_by c.args.automaton.now c.in_ok-one.one.classes c.in_ok-one.one.members c.slice.result.now all
    (λ one other in_one in_other. c.in_ok-one.ensures.one one other (let states = c.states.ensures.states in omega (arith, in_one, states)) (let states = c.states.ensures.states in omega (arith, in_other, states)))
    are c.split.result c.split.ensures
