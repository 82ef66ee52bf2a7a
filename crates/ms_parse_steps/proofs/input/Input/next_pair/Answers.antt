use Rattle.std.proofs.Common.{rules, ◌≡◌, ◌++◌, ◌∷◌, [], List, sym, ap, subst, ◌∙◌}
use Rattle.std.specs.Prelude.{Err}
use Rattle.ms_logic.specs.declared.source.Rename.{Rename}
use Rattle.ms_parse_grammar.specs.Symbol.{comma, Placed}
use Rattle.ms_parse_grammar.specs.Tree.{atom, imported}
use Rattle.ms_parse_steps.specs.declared.punctuation.Punctuation.TheVariants as marks
use Rattle.ms_parse_steps.specs.inner.Machine.{holding, pair_wanted, next_pair, mark_then, pair_then, Move, took}
use Rattle.ms_parse_steps.specs.inner.Outcomes.{ActsAs}
use Rattle.ms_parse_steps.specs.inner.Stack.{stack_of}
use Rattle.ms_parse_steps.specs.inner.Terminals.{behind}
use Rattle.ms_parse_steps.proofs.Taking.{stops_as, mark_missing}
use Rattle.ms_parse_steps.proofs.input.Input.next_pair.Goals as goal

pub returns : goal.returns
returns c context frames =
    let file = c.args.self.file in
    let lexed = c.args.self.tokens.now in
    let st = stack_of frames in
    let further : Rename → List Placed → Move = λ pair. took (pair_wanted context st c.args.at c.args.text (c.args.pairs ++ pair ∷ [])) in
    mark_missing marks.CloseRound (took (holding context (atom c.args.at (imported c.args.text c.args.pairs)) st)) (mark_then comma (pair_then further)) (behind file lexed c.args.i) c.in_default.ensures.none
    ∙ ap (mark_then comma (pair_then further)) c.in-Some-behind_mark.ensures.some.1 ∙ c.in_ok-pair.ensures further
    ∙ ap (λ xs. took (pair_wanted context st c.args.at c.args.text xs) (behind file lexed c.in_ok-pair.next)) (sym c.in_ok-push.ensures.ok)

pub returns-in_err-pair : goal.returns-in_err-pair
returns-in_err-pair c context frames =
    let file = c.args.self.file in
    let lexed = c.args.self.tokens.now in
    let st = stack_of frames in
    let stop = c.in_err-pair.field-0.0 in
    let is : c.from_residual-in_err-pair.result ≡ Err stop = search rules in
    let further : Rename → List Placed → Move = λ pair. took (pair_wanted context st c.args.at c.args.text (c.args.pairs ++ pair ∷ [])) in
    subst (λ r. ActsAs context file lexed (next_pair context st c.args.at c.args.text c.args.pairs (behind file lexed c.args.i)) frames r) (sym is)
    (stops_as file lexed (next_pair context st c.args.at c.args.text c.args.pairs (behind file lexed c.args.i)) (pair_then further (behind file lexed c.in-Some-behind_mark.from)) stop
    (mark_missing marks.CloseRound (took (holding context (atom c.args.at (imported c.args.text c.args.pairs)) st)) (mark_then comma (pair_then further)) (behind file lexed c.args.i) c.in_default.ensures.none
    ∙ ap (mark_then comma (pair_then further)) c.in-Some-behind_mark.ensures.some.1)
    (c.in_err-pair.ensures further))
