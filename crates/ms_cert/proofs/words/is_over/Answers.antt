use Rattle.ms_cert.proofs.WordsLemmas.{other-truth, word-over}
use Rattle.ms_cert.proofs.words.is_over.Goals as goal

pub returns-then-len-layout : goal.returns-then-len-layout
returns-then-len-layout c = word-over c.args.plain.now c.args.layout.now c.requires c.args.word.now c.slice.result.now c.slice.ensures c.have_bits.result c.have_bits.ensures c.len.result c.len.ensures c.if-len-layout.true

pub returns-else-len-layout : goal.returns-else-len-layout
returns-else-len-layout c = other-truth c.args.plain.now c.args.layout.now c.requires c.args.word.now c.len.result c.len.ensures c.if-len-layout.false
