use Rattle.std.proofs.Common.{rules, ◌≡◌, ◌≤◌, ◌-◌, suc, List, length, ◌∷◌, ◌∙◌, sym, arith}
use Rattle.std.specs.Prelude.{Err}
use Rattle.ms_parse_grammar.specs.Grammar.{greatest_depth}
use Rattle.ms_parse_grammar.specs.Symbol.{Placed}
use Rattle.ms_parse_grammar.specs.declared.operator.Bracket.TheVariants.{Restriction}
use Rattle.ms_parse_steps.specs.inner.Machine.{bracket_frame, wanted, took, too_deep}
use Rattle.ms_parse_steps.specs.inner.Stack.{stack_of}
use Rattle.ms_parse_steps.specs.inner.Terminals.{behind}
use Rattle.ms_parse_steps.proofs.Steps.{entered}
use Rattle.ms_parse_steps.proofs.input.Input.begin_restrict.Goals as goal

pub returns-in_err-next : goal.returns-in_err-next
returns-in_err-next c context =
    let is : c.from_residual.result ≡ Err c.in_err-next.field-0.0 = search rules in
    rw is (rw c.deref.ensures.value at (c.in_err-next.ensures.step (took (wanted context (bracket_frame c.args.at Restriction ∷ stack_of c.args.stack.now.items)))))

pub returns : goal.returns
returns c context =
    let st = stack_of c.args.stack.now.items in
    let f = bracket_frame c.args.at Restriction in
    let from : List Placed = behind c.args.self.file c.args.self.tokens.now (c.args.i - 1) in
    let room : suc (suc (length st)) ≤ greatest_depth = rw c.deref.ensures.value at c.in_ok-next.ensures.room in
    rw (rw c.deref.ensures.value at (c.in_ok-next.ensures.step (took (wanted context (f ∷ st)))) ∙ sym (entered greatest_depth context f st (too_deep from) _ room (omega arith)))
    (c.enter.ensures context c.args.self.file c.args.self.tokens.now (too_deep from) (search rules))
