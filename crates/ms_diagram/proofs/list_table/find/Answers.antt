use Rattle.std.proofs.Common.{◌≡◌, ◌+◌, ◌-◌, ◌<◌, get_or, length, slice_get, Some, sym, ap, subst, ◌∙◌, arith}
use Rattle.std.proofs.lemmas.List.{length-map}
use Rattle.std.proofs.lemmas.Option.{slice_get-get_or}
use Rattle.ms_diagram.specs.declared.listed.Cell.{Cell}
use Rattle.ms_diagram.specs.Hash.{hash_of}
use Rattle.ms_diagram.specs.inner.Listed.{bucket_of, bucket_in, lists_of}
use Rattle.ms_arena.specs.inner.Chain.{IsLast}
use Rattle.ms_diagram.proofs.ListedLemmas.{listed_at, link_falls, LeadsToKey, LeadsToKey-head, LeadsToKey-next, lookup-here, lookup-end}
use Rattle.ms_diagram.proofs.list_table.find.Goals as goal

pub loop-link-init : goal.loop-link-init
loop-link-init c =
    let roots = c.args.roots.now in
    let cells = c.args.cells.now in
    let heads = c.args.heads.now in
    let key = c.args.key.now in
    let same = c.bucket.ensures.value ∙ ap (λ hash. bucket_of (length heads) hash) (c.key.invariant ∙ ap hash_of c.key.view_is) in
    LeadsToKey-head roots cells heads key c.requires _
    (subst (λ bucket. IsLast (bucket_in (length heads)) (lists_of cells) (length cells) bucket (get_or heads c.bucket.result 0)) same
    (c.requires.chained.headed c.bucket.result c.bucket.ensures.within))

pub is_of-requires : goal.is_of-requires
is_of-requires c =
    let within = c.loop-link.invariant.within in
    let test = c.loop-link-test.true in
    listed_at c.args.roots.now c.args.cells.now c.args.heads.now c.requires (c.loop-link.link - 1) _ (omega (arith, within, test, length-map c.args.cells.now (λ (cell : Cell). cell.listed)))

pub returns-then-is_of : goal.returns-then-is_of
returns-then-is_of c =
    let roots = c.args.roots.now in
    let cells = c.args.cells.now in
    let within = c.loop-link.invariant.within in
    let test = c.loop-link-test.true in
    let place = c.loop-link.link - 1 in
    let inside : place < length cells = omega (arith, within, test, length-map cells (λ (cell : Cell). cell.listed)) in
    let same : c.loop-link.link ≡ place + 1 = omega (arith, test) in
    sym (lookup-here roots cells c.args.heads.now c.args.key.now c.requires place _ (slice_get-get_or cells place _ inside) (sym c.if-is_of.ensures)
    (subst (LeadsToKey roots cells c.args.heads.now c.args.key.now) same c.loop-link.invariant))

pub loop-link-smaller : goal.loop-link-smaller
loop-link-smaller c =
    let cells = c.args.cells.now in
    let within = c.loop-link.invariant.within in
    let test = c.loop-link-test.true in
    let place = c.loop-link.link - 1 in
    let inside : place < length cells = omega (arith, within, test, length-map cells (λ (cell : Cell). cell.listed)) in
    let falls : (cell : Cell) → slice_get cells place ≡ Some cell → cell.link < c.loop-link.link =
    λ cell held. let earlier = link_falls cells c.args.heads.now place cell c.requires.chained held in omega (arith, earlier, test) in
    falls _ (slice_get-get_or cells place _ inside)

pub loop-link-preserved : goal.loop-link-preserved
loop-link-preserved c =
    let roots = c.args.roots.now in
    let cells = c.args.cells.now in
    let within = c.loop-link.invariant.within in
    let test = c.loop-link-test.true in
    let place = c.loop-link.link - 1 in
    let inside : place < length cells = omega (arith, within, test, length-map cells (λ (cell : Cell). cell.listed)) in
    let same : c.loop-link.link ≡ place + 1 = omega (arith, test) in
    LeadsToKey-next roots cells c.args.heads.now c.args.key.now c.requires place _ (slice_get-get_or cells place _ inside) (sym c.if-is_of.ensures)
    (subst (LeadsToKey roots cells c.args.heads.now c.args.key.now) same c.loop-link.invariant)

pub returns : goal.returns
returns c =
    let ended = c.loop-link-test.false in
    sym (lookup-end c.args.roots.now c.args.cells.now c.args.heads.now c.args.key.now c.requires c.loop-link.link c.loop-link.invariant (omega (arith, ended)))
