use Rattle.std.proofs.Common.{refl, ◌∙◌, arith}
use Rattle.ms_minim.proofs.OriginLemmas.{reached_all}
use Rattle.ms_minim.proofs.PartitionLemmas.{few_classes}
use Rattle.ms_minim.proofs.QuotientLemmas.{AreReached-own}
use Rattle.ms_minim.proofs.numbers.first_numbers.Goals as goal

pub overflow_cast-len : goal.overflow_cast-len
overflow_cast-len c =
    let partition = c.requires.partition.partition in
    let few = few_classes c.args.partition.now.classes c.args.partition.now.members partition.inhabited in
    let all = partition.all in
    let states = c.states.ensures.states in
    let small = c.states.type_inv in
    let count = c.len-2.ensures in
    omega (arith, few, all, states, small, count)

pub returns-clause-reached : goal.returns-clause-reached
returns-clause-reached c =
    let content = c.args.automaton.now in
    AreReached-own content c.args.partition.now.classes c.args.partition.now.members c.requires.partition.partition
    (reached_all content c.states.ensures.automaton c.args.origins.now c.requires.origins (c.if-not-reach_all.ensures refl))
    c.in_ok-pairs.pairs (c.in_ok-pairs.ensures.long ∙ c.len-2.ensures) (λ class less. c.in_ok-pairs.ensures.own class (let count = c.len-2.ensures in omega (arith, less, count)))
