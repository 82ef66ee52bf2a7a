use Rattle.std.proofs.Common.{◌≡◌, ◌++◌, drop, map}
use Rattle.std.specs.Vec.Iter.{into_iter_items}
use Rattle.ms_logic.specs.View.{declaration_of}
use Rattle.ms_names.specs.inner.Progress.{globals_with, kept_globals, listed_bounds}
use Rattle.ms_names.proofs.progress.add_globals.Given as goal
use Rattle.ms_names.proofs.Sources.{listed_bound}
use Rattle.ms_parse_grammar.specs.View.{variables_of}

-- the globals so far and those of the rest are all globals
abbrev pub invariant-loop-bound : goal.invariant-loop-bound
invariant-loop-bound l =
    kept_globals l.list ++ globals_with l.at l.item (map declaration_of (into_iter_items l.params)) (map listed_bound (drop l.bound-index l.bounds))
    ≡ kept_globals l.initial.list ++ globals_with l.at l.item (map declaration_of (into_iter_items l.initial.params)) (listed_bounds (variables_of l.bounds))
