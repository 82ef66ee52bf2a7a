use Rattle.std.proofs.Common.{◌≡◌, ◌++◌, take, string_bytes}
use Rattle.ms_report.specs.Report.{lines_text}
use Rattle.ms_report.specs.inner.Shown.{spelled}
use Rattle.ms_report.proofs.shown_text.push_lines.Given as goal

-- the lines so far
abbrev pub invariant-loop-i : goal.invariant-loop-i
invariant-loop-i l = string_bytes l.text ≡ string_bytes l.initial.text ++ lines_text (spelled l.spelling) (take l.i l.names) (take l.i l.values)
