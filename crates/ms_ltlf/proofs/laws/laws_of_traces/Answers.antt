use Rattle.ms_ltlf.proofs.Truths.{decided, eventually_is_dual, eventually_is_until, next_is_dual, until_is_dual, until_unfolds}
use Rattle.ms_ltlf.proofs.laws.laws_of_traces.Goals as goal

pub returns : goal.returns
returns c =
    record { decided = decided; next_is_dual = next_is_dual; eventually_is_dual = eventually_is_dual; until_is_dual = until_is_dual; eventually_is_until = eventually_is_until; until_unfolds = until_unfolds }
