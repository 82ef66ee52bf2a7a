use Rattle.std.proofs.Common.{◌≡◌, ◌<◌, [], true, false, length, get_or, ap, sym, ◌∙◌, arith}
use Rattle.std.proofs.lemmas.List.{get_or_default}
use Rattle.ms_logic.specs.FiniteSet.{least}
use Rattle.ms_logic_words.specs.inner.Decoding.{bit_in}
use Rattle.ms_best.proofs.PassingPositions.{least_passing, none_passing}
use Rattle.ms_best.proofs.decoding.first_position.Goals as goal

pub returns-then-bit : goal.returns-then-bit
returns-then-bit c =
    let position = c.loop-position.position in
    let letters = c.args.letters.now in
    let within : position < length letters = rw (← c.slice-letter-items.ensures) c.loop-position-test.true in
    let bit : bit_in letters c.args.column position ≡ true
    = ap (λ l. get_or l c.args.column false) (sym (c.letter-item.is ∙ ap (λ items. get_or items position c.letter-item.result) c.slice-letter-items.ensures ∙ get_or_default letters position c.letter-item.result [] within))
    ∙ sym c.bit.ensures ∙ c.if-bit.true in
    sym (least_passing (bit_in letters c.args.column) 0 (length letters) position (omega arith) (omega (arith, within)) (λ q from below. c.loop-position.invariant q below) bit)

pub returns : goal.returns
returns c =
    sym (ap least (none_passing (bit_in c.args.letters.now c.args.column) 0 (length c.args.letters.now)
    (λ q from below. c.loop-position.invariant q (omega (arith, below, c.loop-position-test.false, ap length c.slice-letter-items.ensures)))))
