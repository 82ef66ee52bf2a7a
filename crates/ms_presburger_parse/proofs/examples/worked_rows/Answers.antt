use Rattle.std.proofs.Common.{[], ◌∷◌}
use Rattle.ms_logic.specs.declared.mode.Rel.TheVariants as relations
use Rattle.ms_presburger_parse.specs.Symbol.{name, number, word_true, relation, plus, comma, colon, open_bracket, close_bracket, semicolon, other}
use Rattle.ms_presburger_parse.specs.inner.Examples.{c, x, y, z, ex, and, equals}
use Rattle.ms_parse_stack.proofs.Trials.{none_by_trial}
use Rattle.ms_presburger_parse.proofs.Readings.{recognises}
use Rattle.ms_presburger_parse.proofs.examples.worked_rows.Goals as goal

pub returns : goal.returns
returns c = record {
  nothing = λ f reads. none_by_trial recognises [] tt (f, reads);
  no_semicolon = λ f reads. none_by_trial recognises (word_true ∷ []) tt (f, reads);
  only_semicolon = λ f reads. none_by_trial recognises (semicolon ∷ []) tt (f, reads);
  behind_the_semicolon = λ f reads. none_by_trial recognises (word_true ∷ semicolon ∷ word_true ∷ semicolon ∷ []) tt (f, reads);
  two_semicolons = λ f reads. none_by_trial recognises (word_true ∷ semicolon ∷ semicolon ∷ []) tt (f, reads);
  only_a_sum = λ f reads. none_by_trial recognises (name x ∷ plus ∷ name y ∷ semicolon ∷ []) tt (f, reads);
  no_right_sum = λ f reads. none_by_trial recognises (name x ∷ equals ∷ semicolon ∷ []) tt (f, reads);
  no_left_sum = λ f reads. none_by_trial recognises (equals ∷ name x ∷ semicolon ∷ []) tt (f, reads);
  two_relations = λ f reads. none_by_trial recognises (name x ∷ equals ∷ name y ∷ equals ∷ name z ∷ semicolon ∷ []) tt (f, reads);
  sum_in_brackets = λ f reads. none_by_trial recognises (open_bracket ∷ name x ∷ close_bracket ∷ equals ∷ name y ∷ semicolon ∷ []) tt (f, reads);
  two_numbers = λ f reads. none_by_trial recognises (number 5 ∷ number 5 ∷ equals ∷ name x ∷ semicolon ∷ []) tt (f, reads);
  name_before_number = λ f reads. none_by_trial recognises (name x ∷ number 5 ∷ equals ∷ name y ∷ semicolon ∷ []) tt (f, reads);
  relation_of_sets = λ f reads. none_by_trial recognises (name x ∷ relation relations.Sub ∷ name y ∷ semicolon ∷ []) tt (f, reads);
  two_formulas = λ f reads. none_by_trial recognises (word_true ∷ word_true ∷ semicolon ∷ []) tt (f, reads);
  no_left_operand = λ f reads. none_by_trial recognises (and ∷ word_true ∷ semicolon ∷ []) tt (f, reads);
  open_bracket_left = λ f reads. none_by_trial recognises (open_bracket ∷ word_true ∷ semicolon ∷ []) tt (f, reads);
  bracket_too_many = λ f reads. none_by_trial recognises (word_true ∷ close_bracket ∷ semicolon ∷ []) tt (f, reads);
  empty_brackets = λ f reads. none_by_trial recognises (open_bracket ∷ close_bracket ∷ semicolon ∷ []) tt (f, reads);
  no_name = λ f reads. none_by_trial recognises (ex ∷ colon ∷ word_true ∷ semicolon ∷ []) tt (f, reads);
  no_comma = λ f reads. none_by_trial recognises (ex ∷ name x ∷ name y ∷ colon ∷ word_true ∷ semicolon ∷ []) tt (f, reads);
  comma_before_the_colon = λ f reads. none_by_trial recognises (ex ∷ name x ∷ comma ∷ colon ∷ word_true ∷ semicolon ∷ []) tt (f, reads);
  no_body = λ f reads. none_by_trial recognises (ex ∷ name x ∷ colon ∷ semicolon ∷ []) tt (f, reads);
  no_symbol = λ f reads. none_by_trial recognises (other ∷ semicolon ∷ []) tt (f, reads);
}
