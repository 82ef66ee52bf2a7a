use Rattle.std.proofs.Common.{◌≡◌, ◌+◌, drop, map}
use Rattle.ms_names_rules.specs.Declarations.{count_of_globals}
use Rattle.ms_parse_grammar.specs.View.{declared_of}
use Rattle.ms_names.proofs.progress.count_globals.Given as goal

-- the count so far and that of the rest is the count of all
abbrev pub invariant-loop-item : goal.invariant-loop-item
invariant-loop-item l = l.count + count_of_globals (map declared_of (drop l.item-index l.items)) ≡ count_of_globals (map declared_of l.items)
