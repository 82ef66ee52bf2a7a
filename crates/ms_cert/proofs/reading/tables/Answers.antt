use Rattle.ms_cert.proofs.LinesLemmas.{word-one_form}
use Rattle.ms_cert.proofs.PartsLemmas.{tables-fault}
use Rattle.ms_cert.proofs.reading.tables.Goals as goal

pub counted_lines-requires : goal.counted_lines-requires
counted_lines-requires c = word-one_form

pub returns-in-Err-ending : goal.returns-in-Err-ending
returns-in-Err-ending c = tables-fault c.args.count c.args.bytes.now c.in-Ok.found.0 c.in-Ok.found.1.now c.in-Ok.ensures c.in-Err-ending.fault c.in-Err-ending.ensures
