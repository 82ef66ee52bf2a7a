use Rattle.std.proofs.Common.{ℕ, List, subst}
use Rattle.ms_cert.specs.inner.Partition.{IsIn}
use Rattle.ms_cert.proofs.partition.put.Goals as goal

pub assign-requires : goal.assign-requires
assign-requires c = λ state there. c.requires.states state (subst (λ (s : List ℕ). IsIn s state) c.slice.ensures there)
