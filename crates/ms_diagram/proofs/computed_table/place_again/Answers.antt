use Rattle.std.proofs.Common.{◌≡◌, ◌<◌, ◌+◌, [], length, get_or, set, arith, sym, subst, ◌∙◌}
use Rattle.std.proofs.lemmas.List.{length-set}
use Rattle.ms_diagram.specs.declared.computed_table.Bucket.{Bucket}
use Rattle.ms_diagram.specs.inner.Computed.{ArePlaced, entries_in, entries_of, held}
use Rattle.ms_diagram.specs.inner.Notes.{KeepsOnly}
use Rattle.ms_diagram.proofs.ComputedLemmas.{placed-cleared, placed-done, only-cleared, of-bucket, own-held, rest-held, kept-put}
use Rattle.ms_diagram.proofs.computed_table.place_again.Goals as goal

-- what a read beyond the list would give
abbrev zeros : Bucket
zeros = record { first = record { left = 0; right = 0; made = 0 }; second = record { left = 0; right = 0; made = 0 } }

pub loop-place-preserved : goal.loop-place-preserved
loop-place-preserved c =
    let all = entries_of c.args.buckets.now in
    let buckets = c.loop-place.buckets in
    let at = c.loop-place.place in
    let high = c.args.count in
    let within : at < length buckets = omega (arith, c.requires.within, c.loop-place.invariant.0, c.loop-place-test.true) in
    let bucket : Bucket = get_or buckets at zeros in
    let cleared = set buckets at c.empty.result in
    let placed : ArePlaced (at + 1, high) (length buckets) 0 cleared =
    subst (λ (none : Bucket). ArePlaced (at + 1, high) (length buckets) 0 (set buckets at none)) (sym c.empty.ensures)
    (placed-cleared (length buckets) at high 0 at buckets c.loop-place.invariant.1 (omega arith)) in
    let rest : KeepsOnly all (entries_of cleared) = subst (λ (none : Bucket). KeepsOnly all (entries_of (set buckets at none))) (sym c.empty.ensures)
    (λ entry among. c.loop-place.invariant.2 entry (only-cleared at buckets entry among)) in
    let theirs : KeepsOnly all (entries_in bucket []) = λ entry among. c.loop-place.invariant.2 entry (of-bucket buckets at zeros within entry among) in
    let second = kept-put all (entries_of cleared) (entries_of c.put.new.buckets) bucket.second rest
    (λ entry own. theirs entry (rest-held entry bucket.first (held bucket.second []) own)) c.put.ensures.only in (
      c.put-in-loop-place.ensures.room ∙ c.put.ensures.room ∙ length-set buckets at c.empty.result ∙ c.loop-place.invariant.0,
      c.put-in-loop-place.ensures.placed (at + 1, high) (c.put.ensures.placed (at + 1, high)
          (subst (λ count. ArePlaced (at + 1, high) count 0 cleared) (sym (length-set buckets at c.empty.result)) placed)),
      kept-put all (entries_of c.put.new.buckets) (entries_of c.put-in-loop-place.new.buckets) bucket.first second
          (λ entry own. theirs entry (own-held entry bucket.first (held bucket.second []) own)) c.put-in-loop-place.ensures.only,
    )

pub returns : goal.returns
returns c =
    let buckets = c.loop-place.buckets in
    let high = c.args.count in
    let done : c.loop-place.place ≡ high = omega (arith, c.loop-place-test.false, c.loop-place.auto.place-end) in
    record { room = omega (arith, c.requires.room, c.loop-place.invariant.0); placed = placed-done high (length buckets) 0 buckets (subst (λ low. ArePlaced (low, high) (length buckets) 0 buckets) done c.loop-place.invariant.1); only = c.loop-place.invariant.2 }
