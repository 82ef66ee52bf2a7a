use Rattle.std.proofs.Common.{◌≤◌, refl, arith}
use Rattle.ms_dag.specs.inner.Examples.{between}
use Rattle.ms_build.proofs.ExampleLemmas.{last_uses}
use Rattle.ms_build.proofs.examples.worked_last_uses.Goals as goal

pub returns-clause-least : goal.returns-clause-least
returns-clause-least c = last_uses 1 (omega arith)

pub returns-clause-later : goal.returns-clause-later
returns-clause-later c = last_uses 7 (omega arith)

pub returns-clause-too_early : goal.returns-clause-too_early
returns-clause-too_early c = λ are. let late : 1 ≤ 0 = are.children 1 between 0 (omega arith) refl (0, omega arith, refl) (omega arith) in omega (arith, late)

pub returns-clause-root_let_go : goal.returns-clause-root_let_go
returns-clause-root_let_go c = λ are. let late : 4294967295 ≤ 1 = are.ends 1 (0, omega arith, refl) (omega arith) in omega (arith, late)

pub returns-clause-too_short : goal.returns-clause-too_short
returns-clause-too_short c = λ are. let all = are.all in omega (arith, all)
