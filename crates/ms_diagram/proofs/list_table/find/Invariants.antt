use Rattle.ms_diagram.proofs.ListedLemmas.{LeadsToKey}
use Rattle.ms_diagram.proofs.list_table.find.Given as goal

abbrev pub invariant-loop-link : goal.invariant-loop-link
invariant-loop-link l = LeadsToKey l.roots l.cells l.heads l.key l.link

abbrev pub decreases-loop-link : goal.decreases-loop-link
decreases-loop-link l = l.link
