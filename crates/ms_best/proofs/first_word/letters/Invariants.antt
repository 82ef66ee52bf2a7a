use Rattle.std.proofs.Common.{◌≡◌, ◌<◌, ◌≤◌, ◌-◌, ◌++◌, length}
use Rattle.ms_best.specs.inner.Least.{least_letters}
use Rattle.ms_best.proofs.first_word.letters.Given as goal

abbrev pub invariant-reading : goal.invariant-reading
invariant-reading l = record {
  state : l.state < length l.automaton.states;
  few : length l.letters ≤ l.count;
  sofar :
      l.letters ++ least_letters l.automaton l.distances.values.items (l.count - length l.letters) l.state
      ≡ least_letters l.automaton l.distances.values.items l.count l.fn.from;
}

abbrev pub decreases-reading : goal.decreases-reading
decreases-reading l = l.count - length l.letters
