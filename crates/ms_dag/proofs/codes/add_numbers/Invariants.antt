use Rattle.std.proofs.Common.{◌≡◌, ◌++◌, ◌∷◌, length, take}
use Rattle.ms_dag.proofs.codes.add_numbers.Given as goal

abbrev pub invariant-loop-number : goal.invariant-loop-number
invariant-loop-number l = l.codes ≡ l.fn.codes ++ length l.numbers ∷ take l.number-index l.numbers
