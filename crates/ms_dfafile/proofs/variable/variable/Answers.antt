use Rattle.ms_dfafile.proofs.LineLemmas.{name-field, name_missing, name_told}
use Rattle.ms_dfafile.proofs.variable.variable.Goals as goal

pub returns-in_default-field : goal.returns-in_default-field
returns-in_default-field c =
    name_missing c.args.bytes.now c.in-Some.order c.in-Some.rest.now c.in-Some.ensures (λ name behind is. c.in_default-field.ensures.none name behind (name-field name is))

pub returns-in-Err : goal.returns-in-Err
returns-in-Err c =
    name_told c.args.bytes.now c.in-Some.order c.in-Some.rest.now c.in-Some-field.text.now c.in-Some-field.rest.now c.in-Some.ensures c.in-Some-field.ensures.found c.in-Some-field.ensures.inside c.in-Err.fault c.in-Err.ensures
