use Rattle.std.proofs.Common.{◌≡◌, ℕ, List, sym, ap, subst, ◌∙◌}
use Rattle.ms_quotient.specs.Way.{IsClosedWhereSeen, written_along}
use Rattle.ms_quotient.proofs.WayLemmas.{closed_along}
use Rattle.ms_quotient.proofs.close.close_from.Goals as goal

pub returns-clause-closed : goal.returns-clause-closed
returns-clause-closed c =
    let next = c.args.places.now.next.now in
    let marks = c.args.places.now.marks.now in
    let way = c.in_ok-way.way in
    let told = c.in_ok-way.ensures in
    let written : c.go_back.new.closed ≡ written_along marks c.args.closed.now way.places c.marks_at_end-end.result =
    c.go_back.ensures ∙ ap (λ (places : List ℕ). written_along marks c.args.closed.now places c.marks_at_end-end.result) c.slice.ensures in
    subst (IsClosedWhereSeen next marks c.go_on.new.seen) (sym written)
    (closed_along next marks c.args.closed.now c.args.seen.now c.go_on.new.seen c.args.start way.end way.places c.marks_at_end-end.result c.requires.long told.way told.places c.marks_at_end-end.ensures told.along c.requires.closed)
