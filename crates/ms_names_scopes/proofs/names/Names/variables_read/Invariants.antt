use Rattle.std.specs.BTreeSet.{btree_set_len, contains}
use Rattle.std.specs.Ordering.{nat_cmp}
use Rattle.ms_names_scopes.proofs.NamesRead.{Noted}
use Rattle.ms_names_scopes.proofs.names.Names.variables_read.Given as goal

abbrev pub invariant-loop-place : goal.invariant-loop-place
invariant-loop-place l = Noted l.read l.self-inside.entries.items (contains nat_cmp l.places) l.numbers l.names

abbrev pub decreases-loop-place : goal.decreases-loop-place
decreases-loop-place l = btree_set_len l.places
