use Rattle.std.proofs.Common.{subst}
use Rattle.ms_dfa.specs.Files.{content_of_file}
use Rattle.ms_app.specs.Counts.{IsCanonicalOf}
use Rattle.ms_app.proofs.content.in_second_version.Goals as goal

pub returns-in-Two : goal.returns-in-Two
returns-in-Two c = λ problem value. subst (λ version. IsCanonicalOf version problem (content_of_file c.args.content)) c.in-Two.is (c.requires.content problem value)
