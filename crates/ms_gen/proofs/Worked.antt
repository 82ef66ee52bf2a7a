-- The examples that are worked by hand.
use Rattle.std.proofs.Common.{ℕ, List, [], codes, inr, refl, lit≤}
use Rattle.ms_text.specs.Fault.{HasFault}
use Rattle.ms_text.specs.declared.fault.Cause.TheVariants as causes
use Rattle.ms_text.proofs.Here.{fault_here}
use Rattle.ms_text.proofs.OneFault.{no_fault}
use Rattle.ms_gen.specs.Generated.{generated}
use Rattle.ms_gen.specs.Accepted.{IsAccepted}
use Rattle.ms_gen.proofs.Accepting.{sources-are-accepted}

pub one : (name : List ℕ) → IsAccepted name (generated 1)
one name = sources-are-accepted 1 name (record { some = lit≤ tt; small = lit≤ tt })

has-fault : HasFault (codes "\"") 0 causes.Unclosed
has-fault = ([], fault_here 0 (codes "\"") causes.Unclosed (inr (record { content = []; behind = []; made_up = refl; passes = refl; ends = tt })))

pub unclosed : (name : List ℕ) → ¬ IsAccepted name (codes "\"")
unclosed name accepted =
    let reads = accepted.is_loaded.reads in no_fault 0 (codes "\"") reads.tokens has-fault.0 0 causes.Unclosed reads.are_tokens has-fault.1
