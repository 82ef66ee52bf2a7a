use Rattle.std.proofs.lemmas.Option.{slice_get-get_or}
use Rattle.ms_diagram.proofs.ListedLemmas.{lists_of-set, AreChained-link}
use Rattle.ms_diagram.proofs.listed.link.Goals as goal

pub returns-clause-chained : goal.returns-clause-chained
returns-clause-chained c =
    AreChained-link c.args.cells.now c.args.heads.now c.args.place c.bucket-head.result _ (slice_get-get_or c.args.cells.now c.args.place _ c.requires.place)
    c.bucket-head.ensures.value c.bucket-head.ensures.within c.requires.chained

pub returns-clause-lists : goal.returns-clause-lists
returns-clause-lists c = lists_of-set c.args.cells.now c.args.place _ _ (slice_get-get_or c.args.cells.now c.args.place _ c.requires.place)
