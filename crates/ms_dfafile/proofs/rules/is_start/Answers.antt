use Rattle.std.proofs.Common.{length}
use Rattle.ms_dfa.specs.Files.{content_of_file}
use Rattle.ms_dfafile.proofs.RulesLemmas.{start-told}
use Rattle.ms_dfafile.proofs.rules.is_start.Goals as goal

pub returns-in-Some : goal.returns-in-Some
returns-in-Some c = start-told (content_of_file c.args.plain.now) (length c.args.known.now) c.args.plain.now.start c.in-Some.tests c.requires.all c.in-Some.ensures
