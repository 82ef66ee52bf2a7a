use Rattle.std.proofs.Common.{◌≡◌, ℕ, ◌<◌, ◌≤◌, ◌-◌, ⊎_elim, List, length, get_or, drop, take, sym, ap, subst, ◌∙◌, arith}
use Rattle.std.proofs.lemmas.List.{take_rest}
use Rattle.ms_quotient.specs.declared.marks.Marks.{Marks}
use Rattle.ms_quotient.specs.Closure.{AreMarksFrom, no_marks}
use Rattle.ms_quotient.specs.Way.{union_along}
use Rattle.ms_quotient.proofs.WayLemmas.{AreMarksFrom-end, IsOn-place}
use Rattle.ms_quotient.proofs.close.marks_at_end.Goals as goal

pub returns-then-ring-len : goal.returns-then-ring-len
returns-then-ring-len c =
    let next = c.args.places.now.next.now in
    let marks = c.args.places.now.marks.now in
    let way = c.args.way.now in
    let ring = c.place_on-ring.result in
    let less : ring < length way.places = omega (arith, c.if-ring-len.true, c.len.ensures) in
    let read : take (length c.slice-then-ring-len.result.now - ring) (drop ring c.slice-then-ring-len.result.now) ≡ drop ring way.places =
    take_rest c.slice-then-ring-len.result.now ring ∙ ap (drop ring) c.slice-then-ring-len.ensures in
    let found : c.union_along.result ≡ union_along marks (drop ring way.places) no_marks =
    c.union_along.ensures ∙ ap (λ (places : List ℕ). union_along marks places c.none.result) read ∙ ap (union_along marks (drop ring way.places)) c.none.ensures in
    let at : get_or way.places ring 0 ≡ way.end =
    ap (λ (places : List ℕ). get_or places ring 0) (sym c.slice.ensures) ∙ c.place_on-ring.ensures.found (subst (λ (places : List ℕ). ring < length places) (sym c.slice.ensures) less) in
    subst (λ (met : Marks). AreMarksFrom next marks way.end met) (sym found)
    (AreMarksFrom-end next marks c.requires.way.0 way.end ring way.places c.requires.way.1 less at)

pub returns-else-ring-len : goal.returns-else-ring-len
returns-else-ring-len c =
    let way = c.args.way.now in
    let past : length way.places ≤ c.place_on-ring.result = omega (arith, c.if-ring-len.false, c.len.ensures) in
    ⊎_elim (λ on.
    let at = IsOn-place way.end way.places on in
    absurd (c.place_on-ring.ensures.before at.0 (omega (arith, at.1, past)) (ap (λ (places : List ℕ). get_or places at.0 0) c.slice.ensures ∙ at.2)))
    (λ closed. closed) c.requires.closed
