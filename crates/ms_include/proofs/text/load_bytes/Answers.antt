use Rattle.ms_include.proofs.Bounds.{read-within}
use Rattle.ms_include.proofs.text.load_bytes.Goals as goal

pub returns-clause-bounded : goal.returns-clause-bounded
returns-clause-bounded c = read-within 0 c.args.bytes c.in-Ok.parsed c.in-Ok.ensures.read
