use Rattle.ms_arena.specs.Halves.{size_of}
use Rattle.ms_minim_canonical.proofs.walk.+walk.Given as goal

abbrev pub decreases-walk : goal.decreases-walk
decreases-walk l = size_of l.root
