use Rattle.ms_parse_stack.proofs.Steps.{ended_more}
use Rattle.ms_parse_stack.proofs.following.end.Goals as goal

pub returns-else-is_empty : goal.returns-else-is_empty
returns-else-is_empty g c = ended_more g.G.Grammar c.is_empty.result c.args.begun.now.frames (g.G.Grammar.tree_of c.args.operand.formula) c.is_empty.ensures c.if-is_empty.false
