use Rattle.std.proofs.Common.{◌≡◌, ◌++◌, [], drop}
use Rattle.ms_names_rules.specs.Reads.{readings_of_renames}
use Rattle.ms_names_rules.specs.Rules.{faults_of_renames}
use Rattle.ms_names_rules.specs.Uses.{pairs_of}
use Rattle.ms_names_scopes.specs.inner.Found.{noted}
use Rattle.ms_names_scopes.proofs.checker.Checker.pairs.Given as goal

-- what is found so far and what the rest gives is what all give
abbrev pub invariant-loop-rename : goal.invariant-loop-rename
invariant-loop-rename l = record {
  scope : l.self.scope ≡ l.initial.self.scope;
  state :
      noted l.self (faults_of_renames l.initial.self.scope l.lefts l.rights (drop l.rename-index l.renames))
      (readings_of_renames l.initial.self.scope (drop l.rename-index l.renames))
      ≡ noted l.initial.self (faults_of_renames l.initial.self.scope [] [] l.renames) (readings_of_renames l.initial.self.scope l.renames);
  value : l.pairs ++ pairs_of l.initial.self.scope (drop l.rename-index l.renames) ≡ pairs_of l.initial.self.scope l.renames;
}
