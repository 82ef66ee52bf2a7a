use Rattle.std.proofs.Common.{codes, refl, arith}
use Rattle.ms_app.specs.inner.Examples.{export_to}
use Rattle.ms_app.proofs.ExampleFiles.{first_alone}
use Rattle.ms_app.proofs.examples.worked_files.Goals as goal

pub returns-clause-not_free : goal.returns-clause-not_free
returns-clause-not_free c = λ free. free 0 (export_to (codes "e.aut")) (omega arith) (0, omega arith, refl)

pub returns-clause-taken : goal.returns-clause-taken
returns-clause-taken c =
    record { place = 0; used = export_to (codes "e.aut"); here = refl; first = λ k d less. absurd (omega (arith, less)); taken = (0, omega arith, refl); is = refl }

pub returns-clause-unnamed : goal.returns-clause-unnamed
returns-clause-unnamed c = λ why. let never = why.taken.1 in absurd (omega (arith, never))

pub returns-clause-certificate : goal.returns-clause-certificate
returns-clause-certificate c =
    record { place = 0; used = export_to (codes "e.cert"); here = refl; first = λ k d less. absurd (omega (arith, less)); taken = (1, omega arith, refl); is = refl }

pub returns-clause-first : goal.returns-clause-first
returns-clause-first c = λ why. first_alone why.place why.used why.here why.first why.is
