use Rattle.std.proofs.Common.{◌≡◌, map, take}
use Rattle.ms_logic.specs.View.{formula_of}
use Rattle.ms_ltlf.specs.View.{temporal_of}
use Rattle.ms_ltlf.specs.Strings.{string_form}
use Rattle.ms_ltlf.proofs.formulas.+formulas.Given as goal

abbrev pub invariant-formulas_at-loop-operand : goal.invariant-formulas_at-loop-operand
invariant-formulas_at-loop-operand l = map formula_of l.made ≡ map (λ operand. string_form (temporal_of operand) l.x) (take l.operand-index l.operands)
