use Rattle.std.proofs.Common.{◌<◌, inl, inr, ⊎_elim, arith}
use Rattle.std.proofs.lemmas.Bool.{cases_lt}
use Rattle.ms_arena.proofs.HalvesLemmas.{TestsAt-level, TestsFrom-level}
use Rattle.ms_cert.proofs.difference.first_of_both.Goals as goal

pub returns-else-first-eq-LEAF_LEVEL-clause-some : goal.returns-else-first-eq-LEAF_LEVEL-clause-some
returns-else-first-eq-LEAF_LEVEL-clause-some c =
    let nodes = c.args.store.now.nodes in
    let var = c.min-first.result in
    let least = c.min-first.ensures in
    let level = c.level-one_level.ensures.level in
    let other_level = c.level-other_level.ensures.level in
    let most = c.level-one_level.ensures.most in
    let also = c.level-other_level.ensures.most in
    let inner = c.if-first-eq-LEAF_LEVEL.false in
    let small : var < 4294967296 = omega (arith, least, most, also, inner) in
    record {
      from_one = TestsFrom-level nodes var c.args.one (omega (arith, least, level));
      from_other = TestsFrom-level nodes var c.args.other (omega (arith, least, other_level));
      tested = ⊎_elim
          (λ less. inr (TestsAt-level nodes var c.args.other c.requires.other (omega (arith, least, other_level, less)) small))
          (λ more. inl (TestsAt-level nodes var c.args.one c.requires.one (omega (arith, least, level, more)) small))
          (cases_lt c.level-other_level.result c.level-one_level.result);
    }
