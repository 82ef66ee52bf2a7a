use Rattle.std.proofs.Common.{arith}
use Rattle.ms_edge.proofs.Spans.{entries_in-appended}
use Rattle.ms_edge.proofs.log.append.Goals as goal

pub returns-clause-entries : goal.returns-clause-entries
returns-clause-entries c =
    let start = c.args.buffer.now.ok.0 in
    rw (c.extend-2.ensures.items, c.extend.ensures.items, c.push_span.ensures.items)
    (entries_in-appended _ _ _ _ _ c.requires.within (omega arith) (omega arith) (omega arith))
