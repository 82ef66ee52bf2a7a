use Rattle.std.proofs.Common.{inl, arith, length, set, sym, subst}
use Rattle.std.proofs.lemmas.List.{length-set}
use Rattle.ms_diagram.specs.declared.computed_table.Bucket.{Bucket}
use Rattle.ms_diagram.specs.inner.Computed.{ArePlaced}
use Rattle.ms_diagram.proofs.ComputedLemmas.{placed-at, placed-set, only-put, noted-put}
use Rattle.ms_diagram.proofs.computed_table.put.Goals as goal

pub returns-clause-placed : goal.returns-clause-placed
returns-clause-placed c waiting placed =
    let buckets = c.args.buckets.now in
    let place = c.place-place.result in
    let bucket : Bucket = record { first = c.args.slot; second = _ } in
    subst (λ count. ArePlaced waiting count 0 (set buckets place bucket)) (sym (length-set buckets place bucket))
    (placed-set waiting (length buckets) 0 place buckets bucket placed (λ full. inl (omega (arith, c.place-place.ensures.value))) (placed-at waiting (length buckets) 0 place buckets _ placed c.place-place.ensures.within))

pub returns-clause-only : goal.returns-clause-only
returns-clause-only c = only-put c.place-place.result c.args.buckets.now _ c.args.slot c.place-place.ensures.within

pub returns-clause-noted : goal.returns-clause-noted
returns-clause-noted c placed full =
    let buckets = c.args.buckets.now in
    let place = c.place-place.result in
    noted-put (length buckets) place buckets c.args.slot _
    (placed-set (0, 0) (length buckets) 0 place buckets _ placed (λ full. inl (omega (arith, c.place-place.ensures.value))) (placed-at (0, 0) (length buckets) 0 place buckets _ placed c.place-place.ensures.within))
    c.place-place.ensures.within (sym c.place-place.ensures.value) full
