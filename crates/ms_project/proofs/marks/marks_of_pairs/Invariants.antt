use Rattle.std.proofs.Common.{◌≡◌, take}
use Rattle.std.specs.Prelude.{map as map_list}
use Rattle.ms_project.specs.Paired.{marks_of_pair}
use Rattle.ms_project.proofs.marks.marks_of_pairs.Given as goal

abbrev pub invariant-loop-number : goal.invariant-loop-number
invariant-loop-number l = l.made ≡ map_list (marks_of_pair l.body l.domain) (take l.number l.pairs)
