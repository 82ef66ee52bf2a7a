use Rattle.std.proofs.Common.{◌++◌}
use Rattle.ms_dfafile.specs.Spelling.{line, mode_text}
use Rattle.ms_dfafile.proofs.parts.mode.Goals as goal

pub returns-in_err-rest : goal.returns-in_err-rest
returns-in_err-rest c = rw c.from_residual.ensures (λ mode rest fits same. c.in_err-rest.ensures.none (line (mode_text mode) ++ rest) same)
