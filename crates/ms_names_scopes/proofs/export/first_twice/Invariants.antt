use Rattle.std.proofs.Common.{◌≡◌, ◌≤◌, length, drop}
use Rattle.std.specs.Option.{option_copied}
use Rattle.ms_names_rules.specs.Rules.{first_name_twice}
use Rattle.ms_names_scopes.proofs.export.first_twice.Given as goal

-- the names that are left, and what is found among those behind them
abbrev pub invariant-loop-left : goal.invariant-loop-left
invariant-loop-left l = record {
  left : l.left ≤ length l.names;
  behind : l.behind ≡ drop l.left l.names;
  found : option_copied l.found ≡ first_name_twice (drop l.left l.names);
}

abbrev pub decreases-loop-left : goal.decreases-loop-left
decreases-loop-left l = l.left
