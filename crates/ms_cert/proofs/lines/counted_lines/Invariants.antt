use Rattle.ms_dfafile.proofs.ReadingLemmas.{HasRead}
use Rattle.ms_cert.proofs.lines.counted_lines.Given as goal

-- the lines so far, and what is left
abbrev pub invariant-loop : goal.invariant-loop
invariant-loop g l = HasRead g.T.Line.text g.T.Line.Fits l.bytes l.list l.rest l.counter
