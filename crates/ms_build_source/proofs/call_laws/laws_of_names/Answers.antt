use Rattle.ms_build_source.proofs.PredicateNames.{bodies_follow, defaults_follow, spreads_follow}
use Rattle.ms_build_source.proofs.call_laws.laws_of_names.Goals as goal

pub returns : goal.returns
returns c = record { spreads = spreads_follow; bodies = bodies_follow; defaults = defaults_follow }
