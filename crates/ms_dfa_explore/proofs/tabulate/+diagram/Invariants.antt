use Rattle.std.proofs.Common.{length}
use Rattle.ms_dfa_explore.proofs.tabulate.+diagram.Given as goal

abbrev pub decreases-diagram : goal.decreases-diagram
decreases-diagram g l = length l.tracks.now
