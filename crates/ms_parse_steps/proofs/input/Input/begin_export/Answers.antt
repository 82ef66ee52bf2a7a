use Rattle.std.proofs.Common.{rules, ◌≡◌, ◌≤◌, ◌-◌, ◌+◌, suc, ℕ, List, length, ap, ◌∷◌, ◌∙◌, sym, arith}
use Rattle.std.specs.Prelude.{Err}
use Rattle.ms_list.specs.declared.at.At.{At}
use Rattle.ms_parse_grammar.specs.Grammar.{greatest_depth}
use Rattle.ms_parse_grammar.specs.Symbol.{text, comma, Placed}
use Rattle.ms_parse_grammar.specs.declared.operator.Bracket.TheVariants.{Export}
use Rattle.ms_parse_steps.specs.declared.punctuation.Punctuation.TheVariants as marks
use Rattle.ms_parse_steps.specs.inner.Machine.{bracket_frame, wanted, took, misplaced, too_deep, mark_then, text_then, Move}
use Rattle.ms_parse_steps.specs.inner.Stack.{stack_of}
use Rattle.ms_parse_steps.specs.inner.Terminals.{behind, IsNext, NoText}
use Rattle.ms_parse_steps.specs.inner.Said.{text_of}
use Rattle.ms_parse_steps.proofs.Steps.{entered}
use Rattle.ms_parse_steps.proofs.Taking.{mark_missing, text_found, said_missing}
use Rattle.ms_parse_steps.proofs.input.Input.begin_export.Goals as goal

pub returns-in_err-inside : goal.returns-in_err-inside
returns-in_err-inside c context =
    let is : c.from_residual.result ≡ Err c.in_err-inside.field-0.0 = search rules in
    let further : At → List ℕ → List Placed → Move = λ a t. mark_then comma (took (wanted context (bracket_frame c.args.at (Export a t) ∷ stack_of c.args.stack.now.items))) in
    rw is (rw c.deref.ensures.value at (c.in_err-inside.ensures.step (text_then further)))

pub returns-in_default : goal.returns-in_default
returns-in_default c context =
    let none : NoText (behind c.args.self.file c.args.self.tokens.now c.in_ok-inside.inside) = search rules in
    let further : At → List ℕ → List Placed → Move = λ a t. mark_then comma (took (wanted context (bracket_frame c.args.at (Export a t) ∷ stack_of c.args.stack.now.items))) in
    (rw c.deref.ensures.value at (c.in_ok-inside.ensures.step (text_then further))) ∙ said_missing text_of further _ none

pub returns-in_default-behind_mark : goal.returns-in_default-behind_mark
returns-in_default-behind_mark c context =
    let file = c.args.self.file in
    let lexed = c.args.self.tokens.now in
    let inside = c.in_ok-inside.inside in
    let texts : IsNext file lexed inside (text c.in-Some.text) c.in-Some.at_text = search rules in
    let further : At → List ℕ → List Placed → Move = λ a t. mark_then comma (took (wanted context (bracket_frame c.args.at (Export a t) ∷ stack_of c.args.stack.now.items))) in
    (rw c.deref.ensures.value at (c.in_ok-inside.ensures.step (text_then further))) ∙ text_found further file lexed inside c.in-Some.text c.in-Some.at_text texts
    ∙ mark_missing marks.Comma _ misplaced (behind file lexed (inside + 1)) c.in_default-behind_mark.ensures.none

pub returns : goal.returns
returns c context =
    let file = c.args.self.file in
    let lexed = c.args.self.tokens.now in
    let st = stack_of c.args.stack.now.items in
    let from = behind file lexed (c.args.i - 1) in
    let inside = c.in_ok-inside.inside in
    let f = bracket_frame c.args.at (Export c.in-Some.at_text c.in-Some.text) in
    let texts : IsNext file lexed inside (text c.in-Some.text) c.in-Some.at_text = search rules in
    let room : suc (suc (length st)) ≤ greatest_depth = rw c.deref.ensures.value at c.in_ok-inside.ensures.room in
    let further : At → List ℕ → List Placed → Move = λ a t. mark_then comma (took (wanted context (bracket_frame c.args.at (Export a t) ∷ st))) in
    rw ((rw c.deref.ensures.value at (c.in_ok-inside.ensures.step (text_then further))) ∙ text_found further file lexed inside c.in-Some.text c.in-Some.at_text texts
    ∙ ap (mark_then comma (took (wanted context (f ∷ st)))) c.in-Some-behind_mark.ensures.some.1 ∙ sym (entered greatest_depth context f st (too_deep from) (behind file lexed c.in-Some-behind_mark.next) room (omega arith)))
    (c.enter.ensures context file lexed (too_deep from) (search rules))
