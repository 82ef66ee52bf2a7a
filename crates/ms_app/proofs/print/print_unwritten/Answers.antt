use Rattle.std.proofs.Common.{◌≡◌, inl, inr, refl, subst, List, ℕ, [], ◌∷◌, ◌++◌, codes}
use Rattle.ms_edge.specs.Sink.{grown}
use Rattle.ms_app.proofs.Compared.{rose_within}
use Rattle.ms_app.proofs.Printing.{IsInPart, first_part, grown_twice, later_part}
use Rattle.ms_app.proofs.print.print_unwritten.Goals as goal

abbrev beginning : List ℕ
beginning = codes "61 write fault: "

pub returns-in-Err-clause-printed : goal.returns-in-Err-clause-printed
returns-in-Err-clause-printed g c =
    let before = g.S.Sink.told c.args.out.now in
    let after = g.S.Sink.told c.write_all.new.out in
    inr (refl, c.in-Err.ensures.cause, first_part before.taken after.taken beginning (c.args.name.now ++ 10 ∷ []) c.in-Err.field-0.taken c.in-Err.ensures.fewer c.in-Err.ensures.front)

pub returns-in-Err-write_all-clause-printed : goal.returns-in-Err-write_all-clause-printed
returns-in-Err-write_all-clause-printed g c =
    let before = g.S.Sink.told c.args.out.now in
    let middle = g.S.Sink.told c.write_all.new.out in
    let after = g.S.Sink.told c.write_all-2.new.out in
    let P : List ℕ → Type 0 = λ name. IsInPart before.taken after.taken (beginning ++ (name ++ 10 ∷ [])) in
    inr (
      refl,
      rose_within before.faults middle.faults after.faults c.in-Ok.ensures.faults_last c.in-Err-write_all.ensures.cause,
      subst P c.bytes.ensures (later_part before.taken middle.taken after.taken beginning c.bytes.result.now (10 ∷ []) c.in-Err-write_all.field-0.taken c.in-Ok.ensures.all c.in-Err-write_all.ensures.fewer c.in-Err-write_all.ensures.front),
    )

pub returns-in-Ok-write_all-2-clause-printed : goal.returns-in-Ok-write_all-2-clause-printed
returns-in-Ok-write_all-2-clause-printed g c =
    let before = g.S.Sink.told c.args.out.now in
    let middle = g.S.Sink.told c.write_all.new.out in
    let later = g.S.Sink.told c.write_all-2.new.out in
    let after = g.S.Sink.told c.write_all-3.new.out in
    let both = grown_twice before.taken middle.taken later.taken beginning c.bytes.result.now c.in-Ok.ensures.all c.in-Ok-write_all.ensures.all in
    inl (refl, subst (λ name. after.taken ≡ grown before.taken ((beginning ++ name) ++ 10 ∷ [])) c.bytes.ensures (grown_twice before.taken later.taken after.taken (beginning ++ c.bytes.result.now) (10 ∷ []) both c.in-Ok-write_all-2.ensures.all))

pub returns-in-Err-write_all-2-clause-printed : goal.returns-in-Err-write_all-2-clause-printed
returns-in-Err-write_all-2-clause-printed g c =
    let before = g.S.Sink.told c.args.out.now in
    let middle = g.S.Sink.told c.write_all.new.out in
    let later = g.S.Sink.told c.write_all-2.new.out in
    let after = g.S.Sink.told c.write_all-3.new.out in
    let P : List ℕ → Type 0 = λ name. IsInPart before.taken after.taken ((beginning ++ name) ++ (10 ∷ [])) in
    let both = grown_twice before.taken middle.taken later.taken beginning c.bytes.result.now c.in-Ok.ensures.all c.in-Ok-write_all.ensures.all in
    let rose = rose_within middle.faults later.faults after.faults c.in-Ok-write_all.ensures.faults_last c.in-Err-write_all-2.ensures.cause in
    inr (
      refl,
      rose_within before.faults middle.faults after.faults c.in-Ok.ensures.faults_last rose,
      subst P c.bytes.ensures (later_part before.taken later.taken after.taken (beginning ++ c.bytes.result.now) (10 ∷ []) [] c.in-Err-write_all-2.field-0.taken both c.in-Err-write_all-2.ensures.fewer c.in-Err-write_all-2.ensures.front),
    )
