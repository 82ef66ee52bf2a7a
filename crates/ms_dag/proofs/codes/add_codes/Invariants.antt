use Rattle.std.proofs.Common.{◌≡◌, ◌++◌, take}
use Rattle.ms_dag.proofs.codes.add_codes.Given as goal

abbrev pub invariant-loop-code : goal.invariant-loop-code
invariant-loop-code l = l.codes ≡ l.fn.codes ++ take l.code-index l.more
