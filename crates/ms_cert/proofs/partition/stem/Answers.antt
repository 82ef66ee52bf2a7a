use Rattle.std.proofs.Common.{slice_index_or, arith}
use Rattle.std.proofs.lemmas.Option.{slice_get-get_or}
use Rattle.ms_cert.proofs.StemLemmas.{stems-here, stems-up}
use Rattle.ms_cert.proofs.partition.stem.Goals as goal

pub rising-init : goal.rising-init
rising-init c = record { within = c.requires.class; stems = λ stem stems. stems }

pub rising-preserved : goal.rising-preserved
rising-preserved c =
    let parents = c.args.parents.now in
    let own = c.rising.own in
    let was = c.rising.invariant in
    let within = was.within in
    let above = c.if-own-bound.false in
    let held = slice_get-get_or parents own 0 within in
    let before = c.requires.earlier own (slice_index_or parents own 0) held (omega (arith, above)) in
    record {
      within = omega (arith, before, within);
      stems = λ stem stems. was.stems stem (stems-up parents c.args.bound own (slice_index_or parents own 0) stem (omega (arith, above)) held stems);
    }

pub returns-then-own-bound : goal.returns-then-own-bound
returns-then-own-bound c = c.rising.invariant.stems c.rising.own (stems-here c.args.parents.now c.args.bound c.rising.own c.if-own-bound.true)
