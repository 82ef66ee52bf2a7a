use Rattle.std.proofs.Common.{Err, ap, arith}
use Rattle.std.specs.List.{flat_map}
use Rattle.ms_dfafile.specs.inner.Reading.{AreLines}
use Rattle.ms_dfafile.proofs.ReadingLemmas.{Finds-fault, line_missing}
use Rattle.ms_cert.proofs.lines.counted_lines.Goals as goal

pub returns-in-Err : goal.returns-in-Err
returns-in-Err g c =
    let text = g.T.Line.text in
    let so_far = c.loop.invariant in
    Finds-fault (flat_map text) (AreLines g.T.Line.Fits c.args.count) c.args.bytes.now c.in-Err.fault (λ is_text.
    line_missing text g.T.Line.Fits c.requires c.args.count c.args.bytes.now c.loop.list c.loop.rest.now (omega (arith, so_far.long)) so_far.fits so_far.parts (c.in-Err.ensures.none (ap Err is_text)))
