use Rattle.std.proofs.Common.{get_or}
use Rattle.std.proofs.lemmas.Bool.{le-leb, leb-true}
use Rattle.ms_dfa.specs.Files.{content_of_file}
use Rattle.ms_dfafile_outside.proofs.ArrivalLemmas.{gap-told}
use Rattle.ms_dfafile_outside.proofs.arrival.has_no_gap.Goals as goal

pub returns-in-Seen : goal.returns-in-Seen
returns-in-Seen c =
    let told = gap-told (content_of_file c.args.plain.now) c.args.arrival.reference c.args.arrival.label c.args.arrival.level c.first_tested.result c.in-Seen.field-0 c.args.sets.now
    c.requires.content c.requires.named c.requires.sets c.requires.come.within c.first_tested.ensures c.in-Seen.is in (
      λ test. told.0 (leb-true (get_or c.args.sets.now c.first_tested.result 0) (get_or c.args.sets.now c.args.arrival.level 0) test),
      λ gap. le-leb (get_or c.args.sets.now c.first_tested.result 0) (get_or c.args.sets.now c.args.arrival.level 0) (told.1 gap),
    )
