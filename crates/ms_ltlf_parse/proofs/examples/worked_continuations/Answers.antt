use Rattle.std.proofs.Common.{[], ◌∷◌, lit≤, refl}
use Rattle.ms_ltlf_parse.specs.Symbol.{other, word_true, open_bracket, semicolon}
use Rattle.ms_parse_stack.specs.inner.Examples.{repeated}
use Rattle.ms_ltlf_parse.specs.inner.Examples.{a, b, and, U, R}
use Rattle.ms_parse_stack.proofs.Trials.{too_deep_by_trial}
use Rattle.ms_ltlf_parse.proofs.Readings.{follows, follows_deeper, goes_on, recognises}
use Rattle.ms_ltlf_parse.proofs.examples.worked_continuations.Goals as goal

pub returns : goal.returns
returns c = record {
  at_the_beginning = follows [] tt (lit≤ tt);
  behind_an_operator = follows (a ∷ U ∷ []) tt (lit≤ tt);
  operator_behind_an_operator = λ any. goes_on (a ∷ U ∷ R ∷ []) any;
  until_behind_until = follows (a ∷ U ∷ b ∷ R ∷ []) tt (lit≤ tt);
  without_semicolon = follows (word_true ∷ []) tt (lit≤ tt);
  at_the_end = follows (a ∷ semicolon ∷ []) tt (lit≤ tt);
  behind_the_end = λ any. goes_on (a ∷ semicolon ∷ a ∷ []) any;
  in_brackets = follows (open_bracket ∷ a ∷ and ∷ []) tt (lit≤ tt);
  end_in_brackets = λ any. goes_on (open_bracket ∷ a ∷ semicolon ∷ []) any;
  no_symbol = λ any. goes_on (other ∷ []) any;
  deepest_bracket = follows (repeated 299 open_bracket []) tt (lit≤ tt);
  bracket_too_deep = λ any. too_deep_by_trial recognises (repeated 300 open_bracket []) refl any;
  bracket_at_any_depth = follows_deeper (repeated 300 open_bracket []) tt;
  operand_at_the_depth = follows (repeated 299 open_bracket (a ∷ [])) tt (lit≤ tt);
  operator_too_deep = λ any. too_deep_by_trial recognises (repeated 299 open_bracket (a ∷ U ∷ [])) refl any;
  operator_at_any_depth = follows_deeper (repeated 299 open_bracket (a ∷ U ∷ [])) tt;
  deep_on_the_left = follows (a ∷ U ∷ repeated 298 open_bracket []) tt (lit≤ tt);
  deeper_on_the_left = λ any. too_deep_by_trial recognises (a ∷ U ∷ repeated 299 open_bracket []) refl any;
}
