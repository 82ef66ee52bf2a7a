use Rattle.ms_logic_starts.proofs.NeededApartLemmas.{needed_leave_apart}
use Rattle.ms_logic_starts.proofs.needed.law_of_left.Goals as goal

pub returns : goal.returns
returns g c = record { apart = needed_leave_apart _ _ }
