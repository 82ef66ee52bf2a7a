use Rattle.ms_dfafile.proofs.PartsLemmas.{version_missing}
use Rattle.ms_dfafile.proofs.parts.first_lines.Goals as goal

pub returns-in_err-version : goal.returns-in_err-version
returns-in_err-version c = rw c.from_residual.ensures (version_missing c.args.bytes.now c.in_err-version.ensures)
