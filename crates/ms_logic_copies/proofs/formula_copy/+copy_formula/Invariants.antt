use Rattle.std.proofs.Common.{◌≡◌, take}
use Rattle.ms_logic_copies.proofs.formula_copy.+copy_formula.Given as goal

abbrev pub invariant-copy_all-loop-operand : goal.invariant-copy_all-loop-operand
invariant-copy_all-loop-operand l = l.made ≡ take l.operand-index l.operands

abbrev pub invariant-copy_bindings-loop-binding : goal.invariant-copy_bindings-loop-binding
invariant-copy_bindings-loop-binding l = l.made ≡ take l.binding-index l.bindings

abbrev pub invariant-copy_arguments-loop-argument : goal.invariant-copy_arguments-loop-argument
invariant-copy_arguments-loop-argument l = l.made ≡ take l.argument-index l.arguments
