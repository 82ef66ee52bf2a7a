use Rattle.std.proofs.Common.{drop, map}
use Rattle.ms_parse_grammar.specs.View.{declared_of}
use Rattle.ms_names.proofs.Sources.{Goes}
use Rattle.ms_names.proofs.progress.Progress.declare_all.Given as goal

-- what is found and kept so far with what the rest gives is what all give
abbrev pub invariant-loop-item : goal.invariant-loop-item
invariant-loop-item l = Goes l.initial.self l.self (map declared_of l.items) (map declared_of (drop l.item-index l.items))
