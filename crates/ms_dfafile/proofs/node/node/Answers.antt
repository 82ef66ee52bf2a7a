use Rattle.std.proofs.Common.{ℕ, ◌++◌, append_assoc, ◌∙◌, refl}
use Rattle.std.specs.Fmt.{decimal}
use Rattle.ms_dfafile.specs.inner.Reading.{IsSmall, IsSmallRef}
use Rattle.ms_dfafile.specs.Spelling.{field, line, ref_text}
use Rattle.ms_dfafile.proofs.LineLemmas.{IsSmallFront, front-one_form, front_text}
use Rattle.ms_dfafile.proofs.NumberLemmas.{number-one_form}
use Rattle.ms_dfafile.proofs.PairLemmas.{both_found, second_missing}
use Rattle.ms_dfafile.proofs.node.node.Goals as goal

pub returns-in_err-low : goal.returns-in_err-low
returns-in_err-low c =
    rw c.from_residual-in_err-low.ensures (λ node rest fits same.
    second_missing (λ (n : ℕ). field (decimal n)) IsSmall (λ r. field (ref_text r)) IsSmallRef (number-one_form 32 refl) c.args.bytes.now c.in_ok-var.var c.in_ok-var.rest.now c.in_ok-var.ensures c.in_err-low.ensures
    (node.var, node.low) (line (ref_text node.high) ++ rest) (fits.0, fits.1) (same ∙ append_assoc (front_text (node.var, node.low)) (line (ref_text node.high)) rest))

pub returns-in_err-high : goal.returns-in_err-high
returns-in_err-high c =
    let front = both_found (λ (n : ℕ). field (decimal n)) IsSmall (λ r. field (ref_text r)) IsSmallRef c.args.bytes.now c.in_ok-var.var c.in_ok-var.rest.now c.in_ok-low.low c.in_ok-low.rest.now c.in_ok-var.ensures c.in_ok-low.ensures in
    rw c.from_residual-in_err-high.ensures (λ node rest fits same.
    second_missing front_text IsSmallFront (λ r. line (ref_text r)) IsSmallRef front-one_form c.args.bytes.now (c.in_ok-var.var, c.in_ok-low.low) c.in_ok-low.rest.now front c.in_err-high.ensures
    ((node.var, node.low), node.high) rest ((fits.0, fits.1), fits.2) same)
