use Rattle.ms_minim.proofs.ExampleOrigins.{upper_alone}
use Rattle.ms_minim.proofs.examples.worked_are_closed.Goals as goal

pub returns-clause-upper : goal.returns-clause-upper
returns-clause-upper c = upper_alone
