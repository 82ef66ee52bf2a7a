use Rattle.std.proofs.Common.{◌≡◌, [], ◌∷◌, lit≤, refl, ap, arith}
use Rattle.std.specs.Prelude.{codes}
use Rattle.ms_list.specs.declared.at.At.{At}
use Rattle.ms_text.specs.TokenList.{token_at}
use Rattle.ms_text.specs.declared.keyword.Keyword.TheVariants as words
use Rattle.ms_text.specs.declared.mark.Mark.TheVariants as marks
use Rattle.ms_text.specs.declared.token.Kind.TheVariants as kinds
use Rattle.ms_presburger_parse.specs.Reading.{CanFollow, CanFollowAtAnyDepth}
use Rattle.ms_presburger_parse.specs.Symbol.{name, other, open_bracket, semicolon, symbol_of, symbols, word_true}
use Rattle.ms_parse_stack.specs.inner.Examples.{behind_brackets, repeated, text}
use Rattle.ms_presburger_parse.specs.inner.Examples.{ex, x, y}
use Rattle.ms_presburger_parse.specs.inner.Reached.{reached}
use Rattle.ms_parse_stack.proofs.Faults.{ends_early, fault_of_nothing, is_misplaced, is_too_deep}
use Rattle.ms_presburger_parse.proofs.Faults.{problem_fault}
use Rattle.ms_parse_stack.proofs.Trials.{too_deep_by_trial}
use Rattle.ms_presburger_parse.proofs.Readings.{follows, follows_deeper, goes_on, recognises}
use Rattle.ms_presburger_parse.proofs.examples.worked_refusals.Goals as goal

pub returns-clause-second_name : goal.returns-clause-second_name
returns-clause-second_name c =
    problem_fault (is_misplaced recognises 7 (text (codes "x y=1;") (token_at kinds.Name 0 1 ∷ token_at kinds.Name 2 1 ∷ token_at (kinds.Mark marks.Equal) 3 1 ∷ token_at (kinds.Number 1) 4 1 ∷ token_at (kinds.Mark marks.Semicolon) 5 1 ∷ [])) 1 (token_at kinds.Name 2 1) refl (follows (name x ∷ []) tt (lit≤ tt), goes_on (name x ∷ name y ∷ [])))

pub returns-clause-quantifier_as_a_name : goal.returns-clause-quantifier_as_a_name
returns-clause-quantifier_as_a_name c =
    problem_fault (is_misplaced recognises 0 (text (codes "ex ex: true;") (token_at kinds.Name 0 2 ∷ token_at kinds.Name 3 2 ∷ token_at (kinds.Mark marks.Colon) 5 1 ∷ token_at (kinds.Word words.True) 7 4 ∷ token_at (kinds.Mark marks.Semicolon) 11 1 ∷ [])) 1 (token_at kinds.Name 3 2) refl (follows (ex ∷ []) tt (lit≤ tt), goes_on (ex ∷ ex ∷ [])))

pub returns-clause-behind_the_semicolon : goal.returns-clause-behind_the_semicolon
returns-clause-behind_the_semicolon c =
    problem_fault (is_misplaced recognises 0 (text (codes "true;x") (token_at (kinds.Word words.True) 0 4 ∷ token_at (kinds.Mark marks.Semicolon) 4 1 ∷ token_at kinds.Name 5 1 ∷ [])) 2 (token_at kinds.Name 5 1) refl (follows (word_true ∷ semicolon ∷ []) tt (lit≤ tt), goes_on (word_true ∷ semicolon ∷ name x ∷ [])))

pub returns-clause-word_left_out : goal.returns-clause-word_left_out
returns-clause-word_left_out c =
    problem_fault (is_misplaced recognises 0 (text (codes "tree;") (token_at kinds.LeftOut 0 4 ∷ token_at (kinds.Mark marks.Semicolon) 4 1 ∷ [])) 0 (token_at kinds.LeftOut 0 4) refl (follows [] tt (lit≤ tt), goes_on (other ∷ [])))

pub returns-clause-ends_early : goal.returns-clause-ends_early
returns-clause-ends_early c =
    let lexed = text (codes "x = ") (token_at kinds.Name 0 1 ∷ token_at (kinds.Mark marks.Equal) 2 1 ∷ []) in
    problem_fault (ends_early recognises 0 lexed (reached (symbols lexed)) refl tt (lit≤ tt))

pub returns-clause-without_semicolon : goal.returns-clause-without_semicolon
returns-clause-without_semicolon c =
    let lexed = text (codes "true") (token_at (kinds.Word words.True) 0 4 ∷ []) in
    problem_fault (ends_early recognises 0 lexed (reached (symbols lexed)) refl tt (lit≤ tt))

pub returns-clause-too_deep : goal.returns-clause-too_deep
returns-clause-too_deep c =
    problem_fault (is_too_deep recognises 0 (behind_brackets 300 [] []) 299 (token_at (kinds.Mark marks.OpenParenthesis) 299 1) refl (follows (repeated 299 open_bracket []) tt (lit≤ tt), too_deep_by_trial recognises (repeated 300 open_bracket []) refl, follows_deeper (repeated 300 open_bracket []) tt))

pub returns-clause-sum_too_deep : goal.returns-clause-sum_too_deep
returns-clause-sum_too_deep c =
    let lexed = behind_brackets 299 (codes "x=1") (token_at kinds.Name 299 1 ∷ token_at (kinds.Mark marks.Equal) 300 1 ∷ token_at (kinds.Number 1) 301 1 ∷ []) in
    problem_fault (is_too_deep recognises 0 lexed 299 (token_at kinds.Name 299 1) refl (follows (repeated 299 open_bracket []) tt (lit≤ tt), too_deep_by_trial recognises (repeated 299 open_bracket (name x ∷ [])) refl, follows_deeper (repeated 299 open_bracket (name x ∷ [])) tt))

pub returns-clause-empty : goal.returns-clause-empty
returns-clause-empty c =
    let lexed = text [] [] in
    problem_fault (ends_early recognises 0 lexed (reached (symbols lexed)) refl tt (lit≤ tt))

pub returns-clause-other_place : goal.returns-clause-other_place
returns-clause-other_place c fault =
    let at : 1 ≡ 0 = ap (λ (a : At). a.place) (fault_of_nothing symbol_of CanFollow CanFollowAtAnyDepth 0 [] (record { file = 0; place = 1 }) fault.names) in
    omega (arith, at)
