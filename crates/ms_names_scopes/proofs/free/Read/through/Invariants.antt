use Rattle.std.proofs.Common.{reverse}
use Rattle.ms_names_rules.specs.Reads.{with_predicates}
use Rattle.ms_names_scopes.proofs.FreeVariables.{Reached}
use Rattle.ms_names_scopes.proofs.free.Read.through.Given as goal

abbrev pub invariant-loop-p : goal.invariant-loop-p
invariant-loop-p l = Reached l.read l.predicates (with_predicates (reverse l.predicates) l.readings)

abbrev pub decreases-loop-p : goal.decreases-loop-p
decreases-loop-p l = l.read.left
