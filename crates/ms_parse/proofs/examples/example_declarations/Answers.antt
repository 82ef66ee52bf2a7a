use Rattle.std.proofs.Common.{refl}
use Rattle.ms_parse.proofs.Trials.{reads_by_trial}
use Rattle.ms_parse.proofs.examples.example_declarations.Goals as goal

pub returns : goal.returns
returns c = record {
  sum = reads_by_trial 40 _ _ refl;
  include = reads_by_trial 40 _ _ refl;
  default = reads_by_trial 40 _ _ refl;
  bare_macro = reads_by_trial 40 _ _ refl;
  empty_brackets = reads_by_trial 40 _ _ refl;
  renaming = reads_by_trial 40 _ _ refl;
  export = reads_by_trial 40 _ _ refl;
  pconst = reads_by_trial 40 _ _ refl;
  least = reads_by_trial 40 _ _ refl;
  restrict = reads_by_trial 40 _ _ refl;
  goal = reads_by_trial 40 _ _ refl;
  goal_of_that_name = reads_by_trial 40 _ _ refl;
  goal_as_formula = reads_by_trial 40 _ _ refl;
  goal_as_operand = reads_by_trial 40 _ _ refl;
  goal_as_variable = reads_by_trial 40 _ _ refl;
  two_formulas = reads_by_trial 40 _ _ refl;
}
