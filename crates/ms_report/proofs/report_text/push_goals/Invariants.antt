use Rattle.std.proofs.Common.{◌≡◌, ◌++◌, take, string_bytes}
use Rattle.std.specs.List.{flat_map}
use Rattle.ms_report.specs.Report.{goal_text}
use Rattle.ms_report.proofs.report_text.push_goals.Given as goal

-- the goals so far
abbrev pub invariant-loop-goal : goal.invariant-loop-goal
invariant-loop-goal l = string_bytes l.text ≡ string_bytes l.initial.text ++ flat_map (goal_text l.names) (take l.goal-index l.goals)
