use Rattle.std.proofs.Common.{◌≤◌}
use Rattle.ms_logic.proofs.source.Form.TheLaws.{the_size}
use Rattle.ms_logic.proofs.+form_drop.Given as goal

-- what is left is no larger than the whole
abbrev pub invariant-source::Form::drop-loop-self : goal.invariant-source::Form::drop-loop-self
invariant-source::Form::drop-loop-self l = the_size l.self ≤ the_size l.fn.self
