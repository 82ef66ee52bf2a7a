use Rattle.std.proofs.Common.{◌-◌, ◌<◌, nat_lt, length, sym, ap, ◌∙◌, arith}
use Rattle.std.proofs.lemmas.Option.{get_or_from_slice_get, slice_get_within}
use Rattle.ms_report.proofs.Decimals.{decimal-by-last}
use Rattle.ms_report.proofs.binary.has_decimal.Goals as goal

pub returns-in-Some : goal.returns-in-Some
returns-in-Some c =
    let set = c.args.set.now in
    let there = sym c.in-Some.ensures.value in
    let some : length set - 1 < length set = slice_get_within set (length set - 1) c.in-Some.greatest.now there in
    ap (λ last. nat_lt last 128) (sym (get_or_from_slice_get set (length set - 1) c.in-Some.greatest.now 0 there)) ∙ decimal-by-last set c.requires (omega (arith, some))
