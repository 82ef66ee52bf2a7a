-- A quantifier with its variables so far, as the code holds it.
use Rattle.ms_list.specs.declared.at.At.{At}
use Rattle.ms_logic.specs.declared.mode.Order.{Order}
use Rattle.ms_logic.specs.declared.mode.Quant.{Quant}
use Rattle.ms_parse_grammar.specs.Tree.{Variables}
use Rattle.ms_parse_grammar.specs.View.{variables_of}
use Rattle.ms_parse_steps.specs.declared.operand.Binder.{Binder}

-- its place, its word and its variables
abbrev pub binder_of : Binder → At × Quant × Order × Variables
binder_of b = (b.at, b.quant, b.order, variables_of b.bounds.list)
