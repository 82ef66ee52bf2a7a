use Rattle.std.proofs.Common.{length, arith}
use Rattle.std.proofs.lemmas.Bool.{ltb-true, ltb-false}
use Rattle.ms_parse_steps.proofs.Stacks.{stack_length}
use Rattle.ms_parse_steps.proofs.enter.has_room.Goals as goal

pub returns-clause-yes : goal.returns-clause-yes
returns-clause-yes c less = omega (arith, ltb-true (length c.args.stack.now) 299 less, stack_length c.args.stack.now)

pub returns-clause-no : goal.returns-clause-no
returns-clause-no c not_less = omega (arith, ltb-false (length c.args.stack.now) 299 not_less, stack_length c.args.stack.now)
