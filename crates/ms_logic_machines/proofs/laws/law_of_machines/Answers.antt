use Rattle.ms_logic_machines.proofs.Quotients.{machines_have_canonical_contents}
use Rattle.ms_logic_machines.proofs.laws.law_of_machines.Goals as goal

pub returns : goal.returns
returns g c = record { contents = machines_have_canonical_contents }
