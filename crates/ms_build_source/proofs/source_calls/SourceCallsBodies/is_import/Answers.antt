use Rattle.std.proofs.Common.{ℕ, ◌<◌, IsTrue, nat_lt, arith}
use Rattle.std.proofs.lemmas.Bool.Decides.{nat_tests}
use Rattle.ms_build_source.proofs.CallLemmas.{import_itself}
use Rattle.ms_build_source.proofs.source_calls.SourceCallsBodies.is_import.Goals as goal

is_below : (a b : ℕ) → IsTrue (nat_lt a b) → a < b
is_below a b less = grind (arith, nat_tests, less)

tells_below : (a b : ℕ) → a < b → IsTrue (nat_lt a b)
tells_below a b less = grind (arith, nat_tests, less)

pub returns-clause-own : goal.returns-clause-own
returns-clause-own c =
    let count = c.len.ensures in (
      λ inside. let less = is_below c.args.import c.len.result inside in omega (arith, less, count),
      λ less. tells_below c.args.import c.len.result (omega (arith, less, count)),
    )

pub returns-clause-itself : goal.returns-clause-itself
returns-clause-itself c = λ inside xs.
    let count = c.len.ensures in
    let less = is_below c.args.import c.len.result inside in
    import_itself c.args.self.now.checked.now c.args.import xs (omega (arith, less, count))
