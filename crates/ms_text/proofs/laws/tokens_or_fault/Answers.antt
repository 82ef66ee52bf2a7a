use Rattle.std.proofs.Common.{length, inl, inr, ⊎_elim, arith}
use Rattle.ms_text.proofs.Decisions.{reading_told}
use Rattle.ms_text.proofs.OneFault.{no_fault}
use Rattle.ms_text.proofs.laws.tokens_or_fault.Goals as goal

pub returns-clause-told : goal.returns-clause-told
returns-clause-told c bytes =
    ⊎_elim (λ listed. inl listed) (λ fault. inr (fault.1, fault.2, (fault.0, fault.3))) (reading_told (length bytes) 0 bytes (omega arith))

pub returns-clause-apart : goal.returns-clause-apart
returns-clause-apart c bytes tokens at cause listed fault = no_fault 0 bytes tokens fault.0 at cause listed fault.1
