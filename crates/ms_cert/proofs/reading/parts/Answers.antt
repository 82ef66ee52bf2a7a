use Rattle.std.proofs.Common.{arith}
use Rattle.ms_cert.proofs.PartsLemmas.{front-missing, no-states, parts-given}
use Rattle.ms_cert.proofs.reading.parts.Goals as goal

pub returns-in_default : goal.returns-in_default
returns-in_default c = front-missing c.args.bytes.now c.in_default.ensures

pub returns-then-count-eq0 : goal.returns-then-count-eq0
returns-then-count-eq0 c = no-states c.args.bytes.now c.in-Some.count c.in-Some.rest.now c.in-Some.ensures c.if-count-eq0.true

pub returns : goal.returns
returns c = parts-given c.args.bytes.now c.in-Some.count c.in-Some.rest.now c.in-Some.ensures (omega (arith, c.if-count-eq0.false)) c.tables.result c.tables.ensures
