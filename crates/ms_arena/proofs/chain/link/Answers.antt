use Rattle.std.proofs.Common.{ap, ◌∙◌}
use Rattle.ms_arena.specs.inner.Chain.{nodes_of}
use Rattle.ms_arena.proofs.CellLemmas.{nodes_of-set, AreLinked-link}
use Rattle.ms_arena.proofs.chain.link.Goals as goal

pub returns-clause-linked : goal.returns-clause-linked
returns-clause-linked c =
    rw (c.set_next.ensures.cells c.get.result c.get.ensures)
    (AreLinked-link c.args.cells.now.cells c.args.heads.now c.args.place c.bucket-head.result c.get.result c.get.ensures c.bucket-head.ensures.value c.bucket-head.ensures.within c.requires.linked)

pub returns-clause-nodes : goal.returns-clause-nodes
returns-clause-nodes c =
    ap nodes_of (c.set_next.ensures.cells c.get.result c.get.ensures) ∙ nodes_of-set c.args.cells.now.cells c.args.place c.get.result _ c.get.ensures
