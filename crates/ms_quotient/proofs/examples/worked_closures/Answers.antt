use Rattle.std.proofs.Common.{ℕ, zero, suc, IsTrue}
use Rattle.std.proofs.lemmas.Bool.{false≢true}
use Rattle.ms_quotient.specs.Closure.{marks_at, place_after}
use Rattle.ms_quotient.specs.inner.Examples.{marks_of_ring, way_into_ring}
use Rattle.ms_quotient.proofs.examples.worked_closures.Goals as goal

-- Yes stands at no place of the ring
not_on_ring : (steps : ℕ) → (IsTrue (marks_at marks_of_ring (place_after way_into_ring steps 1)).yes → ⊥) × (IsTrue (marks_at marks_of_ring (place_after way_into_ring steps 2)).yes → ⊥)
not_on_ring zero = (λ yes. false≢true yes, λ yes. false≢true yes)
not_on_ring (suc steps) = ((not_on_ring steps).1, (not_on_ring steps).0)

pub returns-clause-not_back : goal.returns-clause-not_back
returns-clause-not_back c stands = (not_on_ring stands.0).0 stands.1
