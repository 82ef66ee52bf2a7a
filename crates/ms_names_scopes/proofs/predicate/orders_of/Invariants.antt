use Rattle.std.proofs.Common.{◌≡◌, take}
use Rattle.ms_names_rules.specs.Declarations.{orders_of_bounds}
use Rattle.ms_parse_grammar.specs.View.{variables_of}
use Rattle.ms_names_scopes.proofs.predicate.orders_of.Given as goal

-- the orders so far
abbrev pub invariant-loop-bound : goal.invariant-loop-bound
invariant-loop-bound l = l.orders ≡ orders_of_bounds (variables_of (take l.bound-index l.bounds))
