use Rattle.std.proofs.Common.{◌≡◌, [], ◌∷◌, lit≤, refl, sym, ap, subst, arith}
use Rattle.std.specs.Prelude.{codes}
use Rattle.ms_list.specs.declared.at.At.{At}
use Rattle.ms_text.specs.TokenList.{token_at}
use Rattle.ms_text.specs.declared.mark.Mark.TheVariants as marks
use Rattle.ms_text.specs.declared.token.Kind.TheVariants as kinds
use Rattle.ms_ltlf.proofs.Views.{temporal_of-Prop}
use Rattle.ms_ltlf_parse.specs.Reading.{CanFollow, CanFollowAtAnyDepth, Reads}
use Rattle.ms_ltlf_parse.specs.Symbol.{other, open_bracket, semicolon, symbol_of, symbols}
use Rattle.ms_parse_stack.specs.inner.Examples.{repeated, text}
use Rattle.ms_ltlf_parse.specs.inner.Examples.{a, b, first, only_a, open_brackets}
use Rattle.ms_ltlf_parse.specs.inner.Reached.{reached}
use Rattle.ms_parse_stack.proofs.Faults.{ends_early, fault_of_nothing, is_misplaced, is_too_deep}
use Rattle.ms_ltlf_parse.proofs.Faults.{trace_fault}
use Rattle.ms_parse_stack.proofs.Trials.{too_deep_by_trial}
use Rattle.ms_ltlf_parse.proofs.Readings.{follows, follows_deeper, goes_on, recognises}
use Rattle.ms_ltlf_parse.proofs.examples.worked_refusals.Goals as goal

pub returns-clause-second_operand : goal.returns-clause-second_operand
returns-clause-second_operand c =
    trace_fault (is_misplaced recognises 7 (text (codes "a b;") (token_at kinds.Name 0 1 ∷ token_at kinds.Name 2 1 ∷ token_at (kinds.Mark marks.Semicolon) 3 1 ∷ [])) 1 (token_at kinds.Name 2 1) refl (follows (a ∷ []) tt (lit≤ tt), goes_on (a ∷ b ∷ [])))

pub returns-clause-behind_the_semicolon : goal.returns-clause-behind_the_semicolon
returns-clause-behind_the_semicolon c =
    trace_fault (is_misplaced recognises 0 (text (codes "a;b") (token_at kinds.Name 0 1 ∷ token_at (kinds.Mark marks.Semicolon) 1 1 ∷ token_at kinds.Name 2 1 ∷ [])) 2 (token_at kinds.Name 2 1) refl (follows (a ∷ semicolon ∷ []) tt (lit≤ tt), goes_on (a ∷ semicolon ∷ b ∷ [])))

pub returns-clause-word_left_out : goal.returns-clause-word_left_out
returns-clause-word_left_out c =
    trace_fault (is_misplaced recognises 0 (text (codes "tree;") (token_at kinds.LeftOut 0 4 ∷ token_at (kinds.Mark marks.Semicolon) 4 1 ∷ [])) 0 (token_at kinds.LeftOut 0 4) refl (follows [] tt (lit≤ tt), goes_on (other ∷ [])))

pub returns-clause-ends_early : goal.returns-clause-ends_early
returns-clause-ends_early c =
    let lexed = text (codes "a U ") (token_at kinds.Name 0 1 ∷ token_at kinds.Name 2 1 ∷ []) in
    trace_fault (ends_early recognises 0 lexed (reached (symbols lexed)) refl tt (lit≤ tt))

pub returns-clause-too_deep : goal.returns-clause-too_deep
returns-clause-too_deep c =
    trace_fault (is_too_deep recognises 0 (open_brackets 300) 299 (token_at (kinds.Mark marks.OpenParenthesis) 299 1) refl (follows (repeated 299 open_bracket []) tt (lit≤ tt), too_deep_by_trial recognises (repeated 300 open_bracket []) refl, follows_deeper (repeated 300 open_bracket []) tt))

pub returns-clause-empty : goal.returns-clause-empty
returns-clause-empty c =
    let lexed = text [] [] in
    trace_fault (ends_early recognises 0 lexed (reached (symbols lexed)) refl tt (lit≤ tt))

reads_a : Reads (a ∷ semicolon ∷ []) only_a first
reads_a = record { read = record { is_spelled = refl; grammatical = tt; numbered = refl; named = omega arith }; shallow = lit≤ tt }

pub returns-clause-reads : goal.returns-clause-reads
returns-clause-reads c = subst (Reads (a ∷ semicolon ∷ []) only_a) (sym (temporal_of-Prop 0)) reads_a

pub returns-clause-no_fault : goal.returns-clause-no_fault
returns-clause-no_fault c fault = fault.reads_none only_a first reads_a

pub returns-clause-other_place : goal.returns-clause-other_place
returns-clause-other_place c fault =
    let at : 1 ≡ 0 = ap (λ (a : At). a.place) (fault_of_nothing symbol_of CanFollow CanFollowAtAnyDepth 0 [] (record { file = 0; place = 1 }) fault.names) in
    omega (arith, at)
