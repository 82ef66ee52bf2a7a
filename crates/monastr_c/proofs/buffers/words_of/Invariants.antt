use Rattle.std.proofs.Common.{◌≡◌, ◌++◌, All, IsUtf8, drop}
use Rattle.monastr_c.specs.Buffers.{pieces}
use Rattle.monastr_c.proofs.buffers.words_of.Given as goal

-- the words so far are text, and with the pieces behind them they are all pieces
abbrev pub invariant-loop-length : goal.invariant-loop-length
invariant-loop-length l =
    (l.words ++ pieces l.rest (drop l.length-index l.lengths) ≡ pieces l.bytes l.lengths) × All IsUtf8 l.words
