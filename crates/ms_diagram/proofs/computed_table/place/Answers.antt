use Rattle.std.proofs.Common.{◌≡◌, ◌+◌, ◌-◌, ◌*◌, ◌/◌, arith, bit_and, ap, ◌∙◌}
use Rattle.ms_diagram.specs.Hash.{scattered}
use Rattle.ms_diagram.specs.inner.Computed.{place_of, row_of}
use Rattle.ms_diagram.proofs.computed_table.place.Goals as goal

pub returns-clause-value : goal.returns-clause-value
unfolding place_of
returns-clause-value c =
    let left = c.args.codes.0 in
    let right = c.args.codes.1 in
    let pair : c.scatter.result ≡ scattered (4294967296 * (left / 2048) + right / 2) = c.scatter.ensures.value ∙ ap scattered (omega (arith, c.from.ensures, c.from-2.ensures)) in
    let row : c.scatter-row.result ≡ row_of c.args.codes = c.scatter-row.ensures.value ∙ ap scattered pair in
    ap (λ number. bit_and number (c.args.buckets - 1)) (omega (arith, row, c.from-3.ensures))
