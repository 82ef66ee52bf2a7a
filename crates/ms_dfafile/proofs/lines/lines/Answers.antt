use Rattle.std.proofs.Common.{length, ◌++◌}
use Rattle.std.specs.List.{flat_map}
use Rattle.ms_dfafile.proofs.ReadingLemmas.{section-behind, section-found}
use Rattle.ms_dfafile.proofs.lines.lines.Goals as goal

pub returns-in_default-number : goal.returns-in_default-number
returns-in_default-number g c =
    λ lines rest are same.
    c.in_default-number.ensures (length lines) (flat_map g.T.Line.text lines ++ rest) are.0
    (section-behind c.args.word.now g.T.Line.text lines c.args.bytes.now c.in-Some.rest.now rest c.in-Some.ensures.found same)

pub returns : goal.returns
returns g c =
    section-found g.T.Line.text g.T.Line.Fits c.requires c.args.word.now c.args.bytes.now c.in-Some.rest.now c.in-Some-number.rest.now c.in-Some-number.count
    c.in-Some.ensures.found c.in-Some-number.ensures c.counted_lines.result c.counted_lines.ensures
