use Rattle.std.proofs.Common.{◌≡◌, drop}
use Rattle.ms_names_rules.specs.Rules.{faults_of_exports}
use Rattle.ms_names_rules.specs.Uses.{with_files}
use Rattle.ms_names_scopes.specs.inner.Found.{with_faults}
use Rattle.ms_names_scopes.proofs.checker.Checker.check_each.Given as goal

-- what is found so far and what the rest gives is what all give
abbrev pub invariant-loop-export : goal.invariant-loop-export
invariant-loop-export l = record {
  state :
      with_faults l.self (faults_of_exports l.files (drop l.export-index l.exports))
      ≡ with_faults l.initial.self (faults_of_exports l.initial.files l.exports);
  files : with_files l.files (drop l.export-index l.exports) ≡ with_files l.initial.files l.exports;
}
