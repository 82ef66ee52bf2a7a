use Rattle.ms_build.proofs.children.least.Goals as goal

pub returns-in-Ok-clause-least : goal.returns-in-Ok-clause-least
returns-in-Ok-clause-least c = record { fewest = c.in-Ok.ensures.fewest; reached = c.in-Ok.ensures.reached; differ = c.in-Ok.ensures.differ }
