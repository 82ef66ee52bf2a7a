use Rattle.std.proofs.Common.{[], ◌∷◌, ◌++◌, lit≤, refl}
use Rattle.ms_presburger_parse.specs.Symbol.{name, number, word_true, plus, comma, colon, open_bracket, semicolon}
use Rattle.ms_parse_stack.specs.inner.Examples.{repeated}
use Rattle.ms_presburger_parse.specs.inner.Examples.{a, c, x, y, ex, all, and, equals}
use Rattle.ms_parse_stack.proofs.Trials.{too_deep_by_trial}
use Rattle.ms_presburger_parse.proofs.Readings.{follows, follows_deeper, goes_on, recognises}
use Rattle.ms_presburger_parse.proofs.examples.worked_continuations.Goals as goal

pub returns : goal.returns
returns c = record {
  at_the_beginning = follows [] tt (lit≤ tt);
  behind_a_quantifier = follows (ex ∷ []) tt (lit≤ tt);
  quantifier_as_a_name = λ any. goes_on (ex ∷ all ∷ []) any;
  behind_a_comma = follows (ex ∷ name x ∷ comma ∷ []) tt (lit≤ tt);
  behind_a_name = follows (name x ∷ []) tt (lit≤ tt);
  second_name = λ any. goes_on (name x ∷ name y ∷ []) any;
  behind_a_number = follows (number 5 ∷ []) tt (lit≤ tt);
  second_number = λ any. goes_on (number 5 ∷ number 5 ∷ []) any;
  name_behind_a_right_number = follows (name x ∷ equals ∷ number 5 ∷ name y ∷ []) tt (lit≤ tt);
  more_parts = follows (name x ∷ equals ∷ number 5 ∷ plus ∷ []) tt (lit≤ tt);
  end_behind_a_right_number = follows (name x ∷ equals ∷ number 5 ∷ semicolon ∷ []) tt (lit≤ tt);
  end_behind_a_left_number = λ any. goes_on (number 5 ∷ semicolon ∷ []) any;
  behind_the_end = λ any. goes_on (word_true ∷ semicolon ∷ word_true ∷ []) any;
  in_brackets = follows (open_bracket ∷ word_true ∷ and ∷ []) tt (lit≤ tt);
  end_in_brackets = λ any. goes_on (open_bracket ∷ word_true ∷ semicolon ∷ []) any;
  deepest_bracket = follows (repeated 299 open_bracket []) tt (lit≤ tt);
  bracket_too_deep = λ any. too_deep_by_trial recognises (repeated 300 open_bracket []) refl any;
  bracket_at_any_depth = follows_deeper (repeated 300 open_bracket []) tt;
  deepest_word = follows (repeated 299 open_bracket (word_true ∷ [])) tt (lit≤ tt);
  deepest_name = follows (repeated 298 open_bracket (name x ∷ [])) tt (lit≤ tt);
  name_too_deep = λ any. too_deep_by_trial recognises (repeated 299 open_bracket (name x ∷ [])) refl any;
  name_at_any_depth = follows_deeper (repeated 299 open_bracket (name x ∷ [])) tt;
  number_too_deep = λ any. too_deep_by_trial recognises (repeated 299 open_bracket (number 5 ∷ [])) refl any;
  number_at_any_depth = follows_deeper (repeated 299 open_bracket (number 5 ∷ [])) tt;
  deepest_comparison = follows (repeated 298 open_bracket a) tt (lit≤ tt);
  operator_too_deep = λ any. too_deep_by_trial recognises (repeated 298 open_bracket (a ++ and ∷ [])) refl any;
  operator_at_any_depth = follows_deeper (repeated 298 open_bracket (a ++ and ∷ [])) tt;
  deepest_quantifier = follows (repeated 298 open_bracket (ex ∷ name x ∷ colon ∷ [])) tt (lit≤ tt);
  quantifier_too_deep = λ any. too_deep_by_trial recognises (repeated 299 open_bracket (ex ∷ [])) refl any;
  quantifier_at_any_depth = follows_deeper (repeated 299 open_bracket (ex ∷ [])) tt;
}
