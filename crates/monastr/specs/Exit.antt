-- The exit status of the program (docs/FORMATS.md, "Exit status").
use Rattle.std.specs.Prelude.{ℕ}
use Rattle.ms_edge.specs.declared.refusal.Status.{Status}
use Rattle.ms_edge.specs.declared.refusal.Status.TheVariants.{Done, Usage, Refused, Limit, FileFault, SinkFault, NoMemory}

-- the exit status with which a run ends that ended so
abbrev pub exit_of : Status → ℕ
exit_of Done = 0
exit_of Usage = 1
exit_of Refused = 2
exit_of Limit = 3
exit_of FileFault = 4
exit_of SinkFault = 5
exit_of NoMemory = 6

-- the exit status where the words after the program's name cannot be read
abbrev pub exit_without_words : ℕ
exit_without_words = 7
