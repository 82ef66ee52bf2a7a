use Rattle.ms_dfa.specs.Files.{content_of_file}
use Rattle.ms_logic_words.specs.Content.{bits_at}
use Rattle.ms_cert.specs.inner.Levels.{reached_of}
use Rattle.ms_cert.proofs.BegunLemmas.{begun-start, makes-start}
use Rattle.ms_cert.proofs.levels.begin.Goals as goal

pub walk-requires-clause-makes : goal.walk-requires-clause-makes
walk-requires-clause-makes c = makes-start (content_of_file c.args.plain.now) c.requires (record { truth = c.new.result; letters = c.new-2.result }) (bits_at c.deref.result.now)

pub returns : goal.returns
returns c = begun-start (content_of_file c.args.plain.now) (reached_of c.walk.new.found) c.in_ok-walk.ensures.reached c.in_ok-walk.ensures.level c.in_ok-walk.ensures.leads
