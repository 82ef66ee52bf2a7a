use Rattle.std.proofs.Common.{◌≡◌, ◌+◌, ◌*◌, Bool, if◌then◌else◌, ap, sym, ◌∙◌}
use Rattle.std.proofs.lemmas.Bool.{ne_eqb}
use Rattle.ms_diagram.specs.Hash.{scattered}
use Rattle.ms_minim.specs.inner.Hash.{mixed}
use Rattle.ms_minim.proofs.hashes.joined.Goals as goal

pub returns : goal.returns
unfolding mixed
returns c =
    let ends : c.scatter-ends.result ≡ scattered (4294967296 * c.args.low + c.args.high) = c.scatter-ends.ensures.value ∙ (λ i. scattered (4294967296 * c.from.ensures i + c.from-2.ensures i)) in
    let all : c.scatter.result ≡ mixed c.args.var c.args.low c.args.high = c.scatter.ensures.value ∙ (λ i. scattered (4294967296 * c.from-3.ensures i + ends i)) in
    all ∙ sym (ap (λ (same : Bool). if same then c.args.low else mixed c.args.var c.args.low c.args.high) (ne_eqb c.args.low c.args.high c.if-low-high.false))
