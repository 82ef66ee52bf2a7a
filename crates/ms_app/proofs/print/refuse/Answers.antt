use Rattle.std.proofs.Common.{inr}
use Rattle.ms_app.proofs.print.refuse.Goals as goal

pub returns-in-Err-clause-printed : goal.returns-in-Err-clause-printed
returns-in-Err-clause-printed g c = inr c.out_of_memory.ensures
