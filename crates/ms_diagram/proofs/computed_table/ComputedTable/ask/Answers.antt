use Rattle.std.proofs.Common.{◌≡◌, arith, length, [], sym, ap, ◌∙◌}
use Rattle.std.specs.Map.{lookup}
use Rattle.ms_diagram.specs.declared.computed_table.Bucket.{Bucket}
use Rattle.ms_diagram.specs.inner.Computed.{entries_in, place_of}
use Rattle.ms_diagram.proofs.ComputedLemmas.{lookup-bucket}
use Rattle.ms_diagram.proofs.PairLemmas.{numbers_eq}
use Rattle.ms_diagram.proofs.computed_table.ComputedTable.ask.Goals as goal

pub returns : goal.returns
returns c =
    let buckets = c.self.inside.buckets.items in
    let codes = c.args.codes in
    let same : c.place-place.result ≡ place_of (length buckets) codes = c.place-place.ensures.value ∙ ap (λ count. place_of count codes) (c.len.ensures ∙ c.self.inside.buckets.ok.0) in
    c.find.ensures
    ∙ ap (λ (bucket : Bucket). lookup (numbers_eq codes) (entries_in bucket [])) c.index.ensures
    ∙ sym (lookup-bucket 0 (length buckets) codes 0 c.place-place.result buckets _ c.self.invariant
    (omega (arith, same)) (omega (arith, c.place-place.ensures.within, c.len.ensures, c.self.inside.buckets.ok.0)))
    ∙ ap (lookup (numbers_eq codes)) c.self.view_is
