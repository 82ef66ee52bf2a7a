use Rattle.std.proofs.Common.{◌≡◌, ◌+◌, Some, slice_get, slice_index_or, subst, sym, take, arith}
use Rattle.std.proofs.lemmas.Option.{slice_get-get_or}
use Rattle.ms_build_source.specs.inner.Copies.{AreRootCopies, IsRootCopy}
use Rattle.ms_build_source.proofs.ExportFiles.{more_copies, root_at}
use Rattle.ms_build_source.proofs.roots.root_copies.Goals as goal

pub root_copy-requires-clause-root : goal.root_copy-requires-clause-root
root_copy-requires-clause-root c =
    let uses = c.args.uses.now in
    let place = c.loop-place.place in
    let used = slice_index_or uses place c.index-uses-place.result in
    let less = c.loop-place-test.true in
    let plan = c.args.built.now.plan in
    let r = root_at plan 1 uses c.requires.roots place used (slice_get-get_or uses place c.index-uses-place.result (omega (arith, less))) in
    let next : 1 + place ≡ place + 1 = omega arith in
    (r.0, subst (λ m. slice_get plan.dag.now.roots m ≡ Some r.0) next r.1, r.2)

pub loop-place-preserved : goal.loop-place-preserved
loop-place-preserved c =
    let uses = c.args.uses.now in
    let place = c.loop-place.place in
    let used = slice_index_or uses place c.index-uses-place.result in
    let less = c.loop-place-test.true in
    let plan = c.args.built.now.plan in
    let next : place + 1 ≡ 1 + place = omega arith in
    let copy = subst (λ m. IsRootCopy c.args.making.version plan m used.names c.in_ok-copy.copy) next c.in_ok-copy.ensures.copy in
    let more =
    more_copies c.args.making.version plan 1 uses place c.loop-place.copies used c.in_ok-copy.copy c.loop-place.invariant (slice_get-get_or uses place c.index-uses-place.result (omega (arith, less))) copy in
    subst (AreRootCopies c.args.making.version plan 1 (take (place + 1) uses)) (sym c.in-Ok.ensures.ok) more
