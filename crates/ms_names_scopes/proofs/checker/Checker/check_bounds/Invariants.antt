use Rattle.std.proofs.Common.{[], take}
use Rattle.ms_parse_grammar.specs.View.{variables_of}
use Rattle.ms_names_scopes.proofs.Repeats.{BoundsSeen}
use Rattle.ms_names_scopes.proofs.checker.Checker.check_bounds.Given as goal

abbrev pub invariant-loop-bound : goal.invariant-loop-bound
invariant-loop-bound l = BoundsSeen l.initial.self [] (variables_of (take l.bound-index l.bounds)) l.self l.seen
