use Rattle.ms_build_source.proofs.FilledSources.{bodies_filled, spreads_filled}
use Rattle.ms_build_source.proofs.call_laws.laws_of_calls.Goals as goal

pub returns : goal.returns
returns c = record { spreads = spreads_filled; bodies = bodies_filled }
