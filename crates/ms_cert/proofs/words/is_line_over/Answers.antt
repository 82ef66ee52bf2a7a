use Rattle.ms_cert.proofs.WordsLemmas.{line-over}
use Rattle.ms_cert.proofs.words.is_line_over.Goals as goal

pub returns-in-By : goal.returns-in-By
returns-in-By c = line-over c.args.plain.now c.args.layout.now c.requires c.args.line.now c.in-By.field-0 c.in-By.letters c.in-By.is c.slice.result.now c.slice.ensures c.have_bits.result c.have_bits.ensures
