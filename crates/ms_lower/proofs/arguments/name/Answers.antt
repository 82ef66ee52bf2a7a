use Rattle.std.proofs.Common.{sym, arith}
use Rattle.ms_logic.specs.View.{binding_of}
use Rattle.ms_lower.proofs.ValueLists.{get_map_beyond, name_within}
use Rattle.ms_lower.proofs.arguments.name.Goals as goal

pub returns-then-i-bindings : goal.returns-then-i-bindings
returns-then-i-bindings c = name_within c.args.bindings.now c.args.i c.index-bindings-i.result (omega arith) c.index-bindings-i.is

pub returns-else-i-bindings : goal.returns-else-i-bindings
returns-else-i-bindings c = sym (get_map_beyond binding_of (λ b. b.0) c.args.bindings.now c.args.i c.if-i-bindings.false)
