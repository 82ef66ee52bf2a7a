use Rattle.std.proofs.Common.{◌≡◌, ◌<◌, min, ⊎_elim, arith}
use Rattle.ms_arena.specs.Halves.{level_of}
use Rattle.ms_arena.proofs.HalvesLemmas.{TestsFrom-level}
use Rattle.ms_diagram.proofs.ApplyLemmas.{tested_at_least}
use Rattle.ms_diagram.proofs.store.Store.branch_pair.Goals as goal

pub returns : goal.returns
returns c =
    let nodes = c.args.self.now.nodes in
    let var = c.min-var.result in
    let least : var ≡ min (level_of nodes c.args.f) (level_of nodes c.args.g) = cc in
    let small : var < 4294967296 =
    ⊎_elim (λ inner. omega (arith, c.level.ensures.inner inner)) (λ inner. omega (arith, c.level-2.ensures.inner inner)) c.requires.inner in
    record {
      from_f = TestsFrom-level nodes var c.args.f (omega arith);
      from_g = TestsFrom-level nodes var c.args.g (omega arith);
      tested = tested_at_least nodes c.args.f c.args.g var c.requires.valid_f c.requires.valid_g least small;
      low_is = λ i. (c.halves-low_f.ensures.low i, c.halves-low_g.ensures.low i);
      high_is = λ i. (c.halves-low_f.ensures.high i, c.halves-low_g.ensures.high i);
    }
