use Rattle.std.proofs.Common.{lit<}
use Rattle.ms_minim.specs.inner.Examples.{three_states}
use Rattle.ms_minim.proofs.ExampleOrigins.{comes_from_root, itself_origin, letter_leads, three_origins, wrong_origin}
use Rattle.ms_minim.proofs.examples.worked_are_origins.Goals as goal

pub returns-clause-least : goal.returns-clause-least
returns-clause-least c = three_origins 1 (lit< tt) letter_leads

pub returns-clause-another : goal.returns-clause-another
returns-clause-another c = three_origins 3 (lit< tt) (comes_from_root three_states 3)

pub returns-clause-itself : goal.returns-clause-itself
returns-clause-itself c = itself_origin

pub returns-clause-wrong_origin : goal.returns-clause-wrong_origin
returns-clause-wrong_origin c = wrong_origin
