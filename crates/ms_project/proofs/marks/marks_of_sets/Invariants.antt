use Rattle.std.proofs.Common.{◌≡◌, take}
use Rattle.std.specs.Prelude.{map as map_list}
use Rattle.ms_quotient.specs.Closure.{no_marks}
use Rattle.ms_quotient.specs.Way.{union_along}
use Rattle.ms_project.proofs.marks.marks_of_sets.Given as goal

abbrev pub invariant-loop-number : goal.invariant-loop-number
invariant-loop-number l = l.made ≡ map_list (λ set. union_along l.marks set no_marks) (take l.number l.sets)
