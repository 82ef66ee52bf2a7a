use Rattle.std.proofs.Common.{◌≡◌, length}
use Rattle.ms_dfa_explore.specs.Explored.{Follows}
use Rattle.ms_minim.specs.inner.Quotient.{quotient_findings}
use Rattle.ms_minim.proofs.settled.own_states.Given as goal

-- the states so far
abbrev pub invariant-loop-number : goal.invariant-loop-number
invariant-loop-number l =
    (length l.states ≡ l.number)
    × Follows l.tables.images.store.nodes (quotient_findings l.source.automaton.now l.source.partition.classes l.source.partition.members l.pairs) l.states
