use Rattle.ms_diagram.specs.Collect.{IsSetOf, leaf_values}
use Rattle.ms_diagram.proofs.NumberingLemmas.{AddsOnly-numbers}
use Rattle.ms_diagram.proofs.store.Store.set_leaf.Goals as goal

pub returns-clause-added : goal.returns-clause-added
returns-clause-added c =
    AddsOnly-numbers (IsSetOf (leaf_values c.args.roots.now)) c.args.sets.now c.number.new.self c.in-Ok.set.items c.number.ensures.numbers
    (record { rising = c.in-Ok.ensures.rising; same = c.in-Ok.ensures.same })
