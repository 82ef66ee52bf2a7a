use Rattle.ms_logic_spread.proofs.SameRoots.{same_formulas_have_one_value, same_roots_have_one_value, same_main_root_keeps_value, same_roots_keep_values}
use Rattle.ms_logic_spread.proofs.laws.laws_of_same_roots.Goals as goal

pub returns : goal.returns
returns c = record { formulas = same_formulas_have_one_value; one_value = same_roots_have_one_value; main = same_main_root_keeps_value; values = same_roots_keep_values }
