use Rattle.ms_logic_spread.proofs.ExportsOnce.{exports_stand_once}
use Rattle.ms_logic_spread.proofs.Roots.{free_variables_are_seen, numbered_formulas_keep_value, questions_keep_values, roots_keep_values}
use Rattle.ms_logic_spread.proofs.laws.laws_of_roots.Goals as goal

pub returns : goal.returns
returns c = record {
  free_variables = free_variables_are_seen;
  formulas = numbered_formulas_keep_value;
  exports = exports_stand_once;
  questions = questions_keep_values;
  values = roots_keep_values;
}
