use Rattle.ms_arena.proofs.CellLemmas.{LeadsToNode}
use Rattle.ms_arena.proofs.chain.find_in_chain.Given as goal

abbrev pub invariant-loop-link : goal.invariant-loop-link
invariant-loop-link l = LeadsToNode l.cells.cells l.heads l.node l.link

abbrev pub decreases-loop-link : goal.decreases-loop-link
decreases-loop-link l = l.link
