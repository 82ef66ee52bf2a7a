use Rattle.std.proofs.Common.{◌≡◌, drop}
use Rattle.std.specs.Prelude.{flat_map}
use Rattle.ms_names_rules.specs.Rules.{faults_of_placed}
use Rattle.ms_names_scopes.specs.inner.Found.{with_faults}
use Rattle.ms_names_scopes.proofs.checker.Checker.check_ints.Given as goal

-- what is found so far and the faults of the rest are the faults of all
abbrev pub invariant-loop-int : goal.invariant-loop-int
invariant-loop-int l =
    with_faults l.self (flat_map (faults_of_placed l.self.scope) (drop l.int-index l.ints))
    ≡ with_faults l.initial.self (flat_map (faults_of_placed l.initial.self.scope) l.ints)
