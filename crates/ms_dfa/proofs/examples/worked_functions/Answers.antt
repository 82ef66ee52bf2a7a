use Rattle.std.proofs.Common.{◌≡◌, false, arith}
use Rattle.ms_dfa.proofs.examples.worked_functions.Goals as goal

pub returns-clause-own : goal.returns-clause-own
returns-clause-own c = λ ignores.
    let same : 0 ≡ 1 = ignores (λ var. false) in omega (arith, same)
