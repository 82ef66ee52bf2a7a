use Rattle.ms_lower.proofs.KeptScopes.{have_orders, keep_scopes}
use Rattle.ms_lower.proofs.SameNumbers.{keep_roots}
use Rattle.ms_lower.proofs.laws.laws_of_numbers.Goals as goal

pub returns : goal.returns
returns c = record { keep_roots = keep_roots; keep_scopes = keep_scopes; have_orders = have_orders }
