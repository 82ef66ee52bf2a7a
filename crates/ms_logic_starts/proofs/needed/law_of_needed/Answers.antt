use Rattle.ms_logic_starts.proofs.NeededApartLemmas.{needed_lead_apart}
use Rattle.ms_logic_starts.proofs.needed.law_of_needed.Goals as goal

pub returns : goal.returns
returns g c =
    record { apart = λ nodes old more count ordered reduced functions needed. needed_lead_apart _ _ _ nodes old more count needed ordered reduced functions }
