use Rattle.std.proofs.Common.{◌≡◌, ◌≤◌, ◌++◌, ◌∷◌, [], length, length-append, sym, ap, subst, ◌∙◌, arith}
use Rattle.ms_minim.specs.inner.Partition.{IsInhabited}
use Rattle.ms_minim.specs.inner.Split.{AreZeros}
use Rattle.ms_minim.proofs.PartitionLemmas.{AreZeros-more, IsInhabited-zeros, HaveOneClass-zeros}
use Rattle.ms_minim.proofs.refinement.one_class.Goals as goal

pub loop-init : goal.loop-init
loop-init c =
    let none : length c.new-classes.result ≡ 0 = ap length c.new-classes.ensures in
    (λ place less. absurd (omega (arith, none, less)), none)

pub loop-preserved : goal.loop-preserved
loop-preserved c = (
  subst AreZeros (sym c.in_ok-push.ensures.ok) (AreZeros-more c.loop.classes c.loop.invariant.0),
  ap length c.in_ok-push.ensures.ok ∙ (let longer = length-append c.loop.classes (0 ∷ []) in let count = c.loop.invariant.1 in omega (arith, longer, count)),
)

pub returns-clause-inhabited : goal.returns-clause-inhabited
returns-clause-inhabited c =
    let members_are = c.in_ok-push-2.ensures.ok ∙ ap (λ list. list ++ 0 ∷ []) c.new-members.ensures in
    let some : 1 ≤ length c.loop.classes = let past = c.loop-test.false in let count = c.loop.invariant.1 in let one = c.requires in omega (arith, past, count, one) in
    subst (IsInhabited c.loop.classes) (sym members_are) (IsInhabited-zeros c.loop.classes c.loop.invariant.0 some)

pub returns-clause-one : goal.returns-clause-one
returns-clause-one c =
    let all : length c.loop.classes ≡ c.args.states = let past = c.loop-test.false in let count = c.loop.invariant.1 in let end = c.loop.auto.counter-end in omega (arith, past, count, end) in
    HaveOneClass-zeros c.loop.classes c.args.states c.loop.invariant.0 all
