use Rattle.ms_build.proofs.LeastLemmas.{fewest_by_residuals}
use Rattle.ms_build.proofs.leaves.relation.Goals as goal

pub returns-clause-least : goal.returns-clause-least
returns-clause-least c =
    let made = c.in_ok-made.made in
    let is = c.in_ok-made.ensures in
    record { fewest = fewest_by_residuals made is.reached is.differ; reached = is.reached; differ = is.differ }
