use Rattle.std.proofs.Common.{refl}
use Rattle.ms_parse.proofs.Trials.{refused_by_trial}
use Rattle.ms_parse.proofs.examples.example_refusals.Goals as goal

pub returns : goal.returns
returns c = record {
  open_lists = refused_by_trial 40 _ refl;
  comma_at_the_end = refused_by_trial 40 _ refl;
  two_relations = refused_by_trial 40 _ refl;
  bare_in = refused_by_trial 40 _ refl;
  no_kind = refused_by_trial 40 _ refl;
  no_semicolon = refused_by_trial 40 _ refl;
  negated_term = refused_by_trial 40 _ refl;
  goal_without_formula = refused_by_trial 40 _ refl;
  two_titles = refused_by_trial 40 _ refl;
  word_alone = refused_by_trial 40 _ refl;
}
