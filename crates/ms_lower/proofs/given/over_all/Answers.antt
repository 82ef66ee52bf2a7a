use Rattle.std.proofs.Common.{◌++◌, ap, ◌∙◌}
use Rattle.std.specs.Option.{option_to_list}
use Rattle.ms_logic_core.specs.CoreForm.{core_form_of}
use Rattle.ms_lower.specs.inner.Given.{below_all}
use Rattle.ms_lower.proofs.ValueLists.{below_last}
use Rattle.ms_lower.proofs.given.over_all.Goals as goal

pub loop-last-preserved : goal.loop-last-preserved
loop-last-preserved c =
    ap (below_all c.pop.new.self.items) c.in_ok-core.ensures
    ∙ (below_last c.loop-last.outer.items c.pop.new.self.items c.in-Some.last (core_form_of c.loop-last.core) (c.pop.ensures.items ∙ ap (λ o. c.pop.new.self.items ++ option_to_list o) c.in-Some.is)
    ∙ c.loop-last.invariant)
