use Rattle.ms_names_checked.proofs.Worked.{nothing-refused, spelled, word-refused}
use Rattle.ms_names_checked.proofs.examples.worked_spellings.Goals as goal

pub returns : goal.returns
returns c = record { name = spelled; word = word-refused; nothing = nothing-refused }
