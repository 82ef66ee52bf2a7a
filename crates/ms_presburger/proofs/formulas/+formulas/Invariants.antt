use Rattle.std.proofs.Common.{◌≡◌, map, take}
use Rattle.ms_logic.specs.View.{formula_of}
use Rattle.ms_presburger.specs.Sets.{Scope, set_form}
use Rattle.ms_presburger.specs.View.{arithmetic_of, arithmetics}
use Rattle.ms_presburger.specs.inner.Scopes.{AreAllFactorsSmall, IsAsIn, variable_in}
use Rattle.ms_presburger.proofs.formulas.+formulas.Given as goal

abbrev pub invariant-formulas_at-loop-operand : goal.invariant-formulas_at-loop-operand
invariant-formulas_at-loop-operand l = record {
  made : (scope : Scope) → IsAsIn scope l.initial.bindings → map formula_of l.made ≡ map (λ operand. set_form (arithmetic_of operand) scope l.x) (take l.operand-index l.operands);
  kept : IsAsIn (variable_in l.initial.bindings) l.bindings;
  small : AreAllFactorsSmall (arithmetics (map arithmetic_of (take l.operand-index l.operands)));
}
