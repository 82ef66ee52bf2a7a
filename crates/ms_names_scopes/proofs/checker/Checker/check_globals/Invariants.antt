use Rattle.std.proofs.Common.{◌++◌, take}
use Rattle.ms_names_rules.specs.Declarations.{declared_names}
use Rattle.ms_parse_grammar.specs.View.{variables_of}
use Rattle.ms_names_scopes.proofs.Repeats.{BoundsSeen}
use Rattle.ms_names_scopes.proofs.checker.Checker.check_globals.Given as goal

abbrev pub invariant-loop-bound : goal.invariant-loop-bound
invariant-loop-bound l = BoundsSeen l.initial.self (declared_names l.initial.self.scope) (variables_of (take l.bound-index l.bounds)) l.self (l.seen ++ declared_names l.self.scope)
