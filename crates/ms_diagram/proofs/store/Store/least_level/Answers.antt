use Rattle.std.proofs.Common.{arith}
use Rattle.ms_diagram.proofs.RootLemmas.{least_level-most}
use Rattle.ms_diagram.proofs.store.Store.least_level.Goals as goal

pub loop-root-init : goal.loop-root-init
loop-root-init c = let most = least_level-most c.args.self.now.nodes c.args.roots.now in (omega arith, omega arith, λ full k d low high. absurd (omega arith))
