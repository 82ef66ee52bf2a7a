use Rattle.std.proofs.Common.{◌≡◌, ℕ, ◌++◌, map, List, sym, ◌∙◌, ap, arith}
use Rattle.std.proofs.lemmas.Nat.Bits.{shr_and_one}
use Rattle.ms_presburger.specs.declared.summand.Summand.TheVariants.{Shifted}
use Rattle.ms_presburger.proofs.Bits.{bits_below, bits-none, bits-one, bits-whole}
use Rattle.ms_presburger.proofs.summands.append_bits.Goals as goal
use Rattle.ms_presburger.proofs.summands.append_bits.Goals.{then-factor-j-eq1+in_ok-push, else-factor-j-eq1}

pub loop-j-preserved : goal.loop-j-preserved
loop-j-preserved c =
    let x = c.args.x in
    let n = c.args.factor in
    let j = c.loop-j.j in
    elim c.if-factor-j-eq1.branch [
      | then-factor-j-eq1+in_ok-push w ↦
          w.terms-is ∙ (w.in_ok-push.ensures.ok ∙ bits-one x n j c.args.terms.now c.loop-j.terms (sym (shr_and_one n j) ∙ w.if-factor-j-eq1.true) c.loop-j.invariant)
      | else-factor-j-eq1 w ↦
          w.terms-is ∙ bits-none x n j c.args.terms.now c.loop-j.terms (λ one. w.if-factor-j-eq1.false (shr_and_one n j ∙ one)) c.loop-j.invariant
    ]

pub returns : goal.returns
returns c =
    let x = c.args.x in
    let n = c.args.factor in
    let end : c.loop-j.j ≡ 64 = omega arith in
    c.loop-j.invariant
    ∙ (ap (λ (k : ℕ). c.args.terms.now ++ map (λ j. Shifted x j) (bits_below n k)) end
    ∙ ap (λ (bits : List ℕ). c.args.terms.now ++ map (λ j. Shifted x j) bits) (bits-whole n 64 c.ranges.factor.fits))
