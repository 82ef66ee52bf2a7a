use Rattle.ms_arena.specs.Halves.{size_of}
use Rattle.ms_cert.proofs.levels.+walk.Given as goal

-- each end is before its node
abbrev pub decreases-walk : goal.decreases-walk
decreases-walk l = size_of l.root
