use Rattle.std.proofs.Common.{◌<◌, length, rules}
use Rattle.ms_best.proofs.Users.{leads_letter, leads_low, leads_high}
use Rattle.ms_best.proofs.Searching.{one_further, nearer_of}
use Rattle.ms_best.proofs.distance.distance.Goals as goal

pub bounds-distances-next : goal.bounds-distances-next
bounds-distances-next c = c.requires.within c.in-Letter.next (leads_letter c.args.vertex c.in-Letter.next c.in-Letter.is)

pub bounds-distances-low : goal.bounds-distances-low
bounds-distances-low c = c.requires.within c.in-Choice.low (leads_low c.args.vertex c.in-Choice.low c.in-Choice.high c.in-Choice.is)

pub bounds-distances-high : goal.bounds-distances-high
bounds-distances-high c = c.requires.within c.in-Choice.high (leads_high c.args.vertex c.in-Choice.low c.in-Choice.high c.in-Choice.is)

pub returns-then-next-far : goal.returns-then-next-far
returns-then-next-far c =
    one_further c.args.far c.args.distances.now c.args.vertex c.in-Letter.next c.in-Letter.is
    (c.requires.within c.in-Letter.next (leads_letter c.args.vertex c.in-Letter.next c.in-Letter.is)) c.if-next-far.true

pub returns-in-Choice : goal.returns-in-Choice
returns-in-Choice c =
    nearer_of c.args.far c.args.distances.now c.args.vertex c.in-Choice.low c.in-Choice.high c.min.result c.in-Choice.is
    (c.requires.within c.in-Choice.low (leads_low c.args.vertex c.in-Choice.low c.in-Choice.high c.in-Choice.is))
    (c.requires.within c.in-Choice.high (leads_high c.args.vertex c.in-Choice.low c.in-Choice.high c.in-Choice.is))
    c.min.ensures

pub offset_bounds-distances-next : goal.offset_bounds-distances-next
offset_bounds-distances-next c =
    let within : c.in-Letter.next < length c.args.distances.now = c.requires.within c.in-Letter.next (leads_letter c.args.vertex c.in-Letter.next c.in-Letter.is) in
    search rules

pub offset_bounds-distances-low : goal.offset_bounds-distances-low
offset_bounds-distances-low c =
    let within : c.in-Choice.low < length c.args.distances.now
    = c.requires.within c.in-Choice.low (leads_low c.args.vertex c.in-Choice.low c.in-Choice.high c.in-Choice.is) in
    search rules

pub offset_bounds-distances-high : goal.offset_bounds-distances-high
offset_bounds-distances-high c =
    let within : c.in-Choice.high < length c.args.distances.now
    = c.requires.within c.in-Choice.high (leads_high c.args.vertex c.in-Choice.low c.in-Choice.high c.in-Choice.is) in
    search rules
