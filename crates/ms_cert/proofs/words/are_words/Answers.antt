use Rattle.std.proofs.Common.{arith}
use Rattle.ms_dfafile_outside.proofs.FileLemmas.{length-states}
use Rattle.ms_cert.proofs.words.are_words.Goals as goal

pub returns : goal.returns
returns c = (
  λ told. record {
    count = omega (arith, length-states c.args.plain.now, c.len.ensures, c.if-words-len.false);
    over = c.are_over.ensures.0 c.if-not-are_over.false;
    ends = c.end_there.ensures.0 told;
  },
  λ are. c.end_there.ensures.1 are.ends,
)
