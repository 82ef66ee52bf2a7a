use Rattle.std.proofs.Common.{◌++◌}
use Rattle.ms_dfafile.specs.Spelling.{line, version_text}
use Rattle.ms_dfafile.proofs.parts.version.Goals as goal

pub returns-in_err-rest : goal.returns-in_err-rest
returns-in_err-rest c = rw c.from_residual.ensures (λ version rest fits same. c.in_err-rest.ensures.none (line (version_text version) ++ rest) same)
