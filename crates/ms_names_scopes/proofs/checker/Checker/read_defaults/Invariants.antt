use Rattle.std.proofs.Common.{◌≡◌, [], take}
use Rattle.ms_names_rules.specs.Reads.{readings_of_bounds}
use Rattle.ms_parse_grammar.specs.View.{variables_of}
use Rattle.ms_names_scopes.specs.inner.Found.{noted}
use Rattle.ms_names_scopes.proofs.checker.Checker.read_defaults.Given as goal

-- what is read so far
abbrev pub invariant-loop-bound : goal.invariant-loop-bound
invariant-loop-bound l =
    l.self ≡ noted l.initial.self [] (readings_of_bounds l.initial.self.scope (variables_of (take l.bound-index l.bounds)))
