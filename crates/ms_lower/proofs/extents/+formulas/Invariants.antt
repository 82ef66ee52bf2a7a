use Rattle.std.proofs.Common.{drop, map}
use Rattle.ms_logic_core.specs.Size.{extents_of_arguments, extents_of_each}
use Rattle.ms_logic.specs.View.{argument_of, arguments, binding_of, formula_of, forms}
use Rattle.ms_lower.specs.inner.Extents.{known_extents}
use Rattle.ms_lower.proofs.Counting.{CountsWith}
use Rattle.ms_lower.proofs.extents.+formulas.Given as goal

abbrev pub invariant-count_each-loop-operand : goal.invariant-count_each-loop-operand
invariant-count_each-loop-operand l =
    CountsWith l.limit (extents_of_each (known_extents l.known) (forms (map formula_of (drop l.operand-index l.operands))))
    (extents_of_each (known_extents l.known) (forms (map formula_of l.operands))) l.counted

abbrev pub invariant-count_arguments-loop-argument : goal.invariant-count_arguments-loop-argument
invariant-count_arguments-loop-argument l =
    CountsWith l.limit (extents_of_arguments (known_extents l.known) (arguments (map argument_of (drop l.argument-index l.arguments))))
    (extents_of_arguments (known_extents l.known) (arguments (map argument_of l.arguments))) l.counted

abbrev pub invariant-count_bindings-loop-binding : goal.invariant-count_bindings-loop-binding
invariant-count_bindings-loop-binding l =
    CountsWith l.limit (extents_of_arguments (known_extents l.known) (arguments (map (λ b. b.1) (map binding_of (drop l.binding-index l.bindings)))))
    (extents_of_arguments (known_extents l.known) (arguments (map (λ b. b.1) (map binding_of l.bindings)))) l.counted
