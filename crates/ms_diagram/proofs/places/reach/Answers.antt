use Rattle.std.proofs.Common.{◌≡◌, ◌+◌, take, arith}
use Rattle.std.proofs.lemmas.List.{take_all}
use Rattle.ms_diagram.proofs.PlaceLemmas.{place_entries-longer}
use Rattle.ms_diagram.proofs.places.reach.Goals as goal

pub returns-clause-entries : goal.returns-clause-entries
returns-clause-entries c first =
    let old = c.args.slots.now.items in
    let all : take (c.args.at + 1) old ≡ old = take_all (c.args.at + 1) old (omega (arith, c.len.ensures, c.if-at-len.false, c.args.slots.now.ok.0)) in
    rw (c.in-Ok.ensures.items, all) (place_entries-longer first old _)
