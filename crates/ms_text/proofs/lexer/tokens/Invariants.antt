use Rattle.std.proofs.Common.{◌≡◌, ◌-◌, length}
use Rattle.ms_text.specs.inner.Kept.{tokens_in}
use Rattle.ms_text.proofs.Lists.{ReadSoFar}
use Rattle.ms_text.proofs.lexer.tokens.Given as goal

abbrev pub invariant-loop-token : goal.invariant-loop-token
invariant-loop-token l = record { same : l.bytes ≡ l.fn.bytes; read : ReadSoFar l.bytes l.from (tokens_in l.bytes l.all) }

abbrev pub decreases-loop-token : goal.decreases-loop-token
decreases-loop-token l = length l.bytes - l.from
