use Rattle.ms_cert.proofs.LinesLemmas.{word-told}
use Rattle.ms_cert.proofs.word.word.Goals as goal

pub returns-in-Err : goal.returns-in-Err
returns-in-Err c = word-told c.args.bytes.now c.in-Some.rest.now c.in-Ok.truth c.in-Ok.rest.now c.in-Some.ensures.found c.in-Ok.ensures c.in-Err.fault c.in-Err.ensures
