use Rattle.std.proofs.Common.{◌≡◌, ◌<◌, ◌++◌, ◌∷◌, [], false, cond, length, get_or, ap, sym, ◌∙◌}
use Rattle.std.specs.List.{filter}
use Rattle.std.proofs.lemmas.List.{get_or_default, append-nil}
use Rattle.ms_logic.specs.FiniteSet.{numbers_below}
use Rattle.ms_logic_words.specs.inner.Decoding.{bit_in}
use Rattle.ms_best.proofs.PassingPositions.{filter_more_numbers}
use Rattle.ms_best.proofs.decoding.positions.Goals as goal
use Rattle.ms_best.proofs.decoding.positions.Goals.{then-bit+in-Ok, else-bit}

pub loop-position-preserved : goal.loop-position-preserved
loop-position-preserved c =
    let position = c.loop-position.position in
    let letters = c.args.letters.now in
    let within : position < length letters = rw (← c.slice-letter-items.ensures) c.loop-position-test.true in
    let bit : bit_in letters c.args.column position ≡ c.bit.result
    = ap (λ l. get_or l c.args.column false) (sym (c.letter-item.is ∙ ap (λ items. get_or items position c.letter-item.result) c.slice-letter-items.ensures ∙ get_or_default letters position c.letter-item.result [] within))
    ∙ sym c.bit.ensures in
    let more = filter_more_numbers (bit_in letters c.args.column) position in
    elim c.if-bit.branch [
      | then-bit+in-Ok w ↦
          (w.found-is ∙ w.in-Ok.ensures.ok ∙ ap (λ l. l ++ position ∷ []) c.loop-position.invariant
          ∙ sym (more ∙ ap (λ b. filter (bit_in letters c.args.column) (numbers_below position) ++ cond b (position ∷ []) []) (bit ∙ w.if-bit.true)))
      | else-bit w ↦
          (w.found-is ∙ c.loop-position.invariant
          ∙ sym (more ∙ ap (λ b. filter (bit_in letters c.args.column) (numbers_below position) ++ cond b (position ∷ []) []) (bit ∙ w.if-bit.false) ∙ append-nil _))
    ]
