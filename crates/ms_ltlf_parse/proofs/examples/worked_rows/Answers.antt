use Rattle.std.proofs.Common.{[], ◌∷◌}
use Rattle.ms_ltlf_parse.specs.Symbol.{other, open_bracket, close_bracket, semicolon}
use Rattle.ms_ltlf_parse.specs.inner.Examples.{a, b, and, U}
use Rattle.ms_parse_stack.proofs.Trials.{none_by_trial}
use Rattle.ms_ltlf_parse.proofs.Readings.{recognises}
use Rattle.ms_ltlf_parse.proofs.examples.worked_rows.Goals as goal

pub returns : goal.returns
returns c = record {
  nothing = λ names f reads. none_by_trial recognises [] tt (names, f, reads);
  no_semicolon = λ names f reads. none_by_trial recognises (a ∷ []) tt (names, f, reads);
  only_semicolon = λ names f reads. none_by_trial recognises (semicolon ∷ []) tt (names, f, reads);
  behind_the_semicolon = λ names f reads. none_by_trial recognises (a ∷ semicolon ∷ b ∷ semicolon ∷ []) tt (names, f, reads);
  two_semicolons = λ names f reads. none_by_trial recognises (a ∷ semicolon ∷ semicolon ∷ []) tt (names, f, reads);
  two_operands = λ names f reads. none_by_trial recognises (a ∷ b ∷ semicolon ∷ []) tt (names, f, reads);
  no_right_operand = λ names f reads. none_by_trial recognises (a ∷ U ∷ semicolon ∷ []) tt (names, f, reads);
  no_left_operand = λ names f reads. none_by_trial recognises (and ∷ a ∷ semicolon ∷ []) tt (names, f, reads);
  open_bracket_left = λ names f reads. none_by_trial recognises (open_bracket ∷ a ∷ semicolon ∷ []) tt (names, f, reads);
  bracket_too_many = λ names f reads. none_by_trial recognises (a ∷ close_bracket ∷ semicolon ∷ []) tt (names, f, reads);
  empty_brackets = λ names f reads. none_by_trial recognises (open_bracket ∷ close_bracket ∷ semicolon ∷ []) tt (names, f, reads);
  no_symbol = λ names f reads. none_by_trial recognises (other ∷ semicolon ∷ []) tt (names, f, reads);
}
