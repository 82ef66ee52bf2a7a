use Rattle.std.proofs.Common.{◌++◌}
use Rattle.std.specs.Fmt.{decimal}
use Rattle.ms_dfafile.specs.Spelling.{line}
use Rattle.ms_cert.proofs.reading.front.Goals as goal

pub returns-in_err-rest : goal.returns-in_err-rest
returns-in_err-rest c = rw c.from_residual.ensures (λ n rest small same. c.in_err-rest.ensures.none (line (decimal n) ++ rest) same)
