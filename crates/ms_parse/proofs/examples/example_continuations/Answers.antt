use Rattle.std.proofs.Common.{refl, true, [], ◌∷◌, codes}
use Rattle.ms_logic.specs.declared.mode.Rel.TheVariants.{Equal}
use Rattle.ms_parse_grammar.specs.declared.operator.Binary.TheVariants.{Relation}
use Rattle.ms_parse_grammar.specs.declared.operator.Prefix.TheVariants.{Negation}
use Rattle.ms_parse_grammar.specs.Symbol.{name, text, prefix_operator, infix_operator, sign, semicolon, left_out, word_true, open_round, open_curly, close_curly, comma, placed}
use Rattle.ms_parse.specs.inner.Examples.{at, row, a, b, x, p, goal_name, repeated}
use Rattle.ms_parse.proofs.Continuations.{follows_by_trial, misplaced_by_trial, too_deep_by_trial}
use Rattle.ms_parse_steps.proofs.Refusals.{word_follows, word_shuts}
use Rattle.ms_parse.proofs.examples.example_continuations.Goals as goal

pub returns : goal.returns
returns c = record {
  at_the_beginning = follows_by_trial 40 (row []) refl;
  behind_a_comma = follows_by_trial 40 (row (open_curly ∷ x ∷ comma ∷ [])) refl;
  bracket_behind_a_comma = misplaced_by_trial 40 (row (open_curly ∷ x ∷ comma ∷ [])) (placed close_curly (at 3)) refl (λ none. refl);
  behind_a_relation = follows_by_trial 40 (row (a ∷ infix_operator (Relation Equal) ∷ b ∷ [])) refl;
  second_relation = misplaced_by_trial 40 (row (a ∷ infix_operator (Relation Equal) ∷ b ∷ [])) (placed (infix_operator (Relation Equal)) (at 3)) refl (λ none. refl);
  without_semicolon = follows_by_trial 40 (row (word_true ∷ [])) refl;
  word_left_out = misplaced_by_trial 40 [] (placed (left_out (codes "tree")) (at 0)) refl (λ none. refl);
  behind_goal = follows_by_trial 40 (row (goal_name ∷ [])) refl;
  behind_a_title = follows_by_trial 40 (row (goal_name ∷ text (codes "t") ∷ [])) refl;
  title_without_formula = misplaced_by_trial 40 (row (goal_name ∷ text (codes "t") ∷ [])) (placed semicolon (at 2)) refl (λ none. refl);
  second_title = misplaced_by_trial 40 (row (goal_name ∷ text (codes "t") ∷ [])) (placed (text (codes "u")) (at 2)) refl (λ none. refl);
  title_behind_another_name = misplaced_by_trial 40 (row (a ∷ [])) (placed (text (codes "t")) (at 1)) refl (λ none. refl);
  title_in_a_formula = misplaced_by_trial 40 (row (prefix_operator Negation ∷ goal_name ∷ [])) (placed (text (codes "t")) (at 2)) refl (λ none. refl);
  behind_the_mode = word_follows (at 0);
  mode_without_semicolon = word_shuts (at 0) (placed word_true (at 1)) (λ place same. let never : ⊥ = cc in never);
  string_mode = follows_by_trial 40 (row (name (codes "m2l") ∷ sign true ∷ name (codes "str") ∷ [])) refl;
  deepest_bracket = follows_by_trial 400 (row (repeated 299 open_round [])) refl;
  bracket_too_deep = (too_deep_by_trial 400 (row (repeated 299 open_round [])) (placed open_round (at 299)) refl).0;
  bracket_at_any_depth = (too_deep_by_trial 400 (row (repeated 299 open_round [])) (placed open_round (at 299)) refl).1;
  empty_call_at_the_depth = follows_by_trial 400 (row (repeated 299 open_round (p ∷ open_round ∷ []))) refl;
  argument_too_deep = (too_deep_by_trial 400 (row (repeated 299 open_round (p ∷ open_round ∷ []))) (placed x (at 301)) refl).0;
  argument_at_any_depth = (too_deep_by_trial 400 (row (repeated 299 open_round (p ∷ open_round ∷ []))) (placed x (at 301)) refl).1;
  no_argument_at_any_depth = misplaced_by_trial 400 (row (repeated 299 open_round (p ∷ open_round ∷ []))) (placed comma (at 301)) refl (λ none. refl);
}
