use Rattle.std.proofs.Common.{rules, ◌≡◌, ◌-◌, sym, subst}
use Rattle.std.specs.Prelude.{Err}
use Rattle.ms_parse_grammar.specs.Grammar.{greatest_depth}
use Rattle.ms_parse_grammar.specs.View.{expression_of}
use Rattle.ms_parse_steps.specs.inner.Machine.{shift_int}
use Rattle.ms_parse_steps.specs.inner.Outcomes.{ActsAs}
use Rattle.ms_parse_steps.specs.inner.Stack.{stack_of}
use Rattle.ms_parse_steps.specs.inner.Terminals.{behind}
use Rattle.ms_parse_steps.proofs.Taking.{acts_as}
use Rattle.ms_parse_steps.proofs.input.Input.shift_int.Goals as goal

pub returns : goal.returns
returns c context = acts_as context c.args.self.file c.args.self.tokens.now _ _ c.args.stack.now c.shift_by.result (c.in_ok-number.ensures.step context) (c.shift_by.ensures context c.args.self.file c.args.self.tokens.now)

pub returns-in_err-number : goal.returns-in_err-number
returns-in_err-number c context =
    let file = c.args.self.file in
    let lexed = c.args.self.tokens.now in
    let is : c.from_residual.result ≡ Err c.in_err-number.field-0.0 = search rules in
    subst (λ r. ActsAs context file lexed (shift_int greatest_depth context c.args.minus (expression_of c.args.operand.expr) (stack_of c.args.stack.now) (behind file lexed (c.args.i - 1)) (behind file lexed c.args.i)) c.args.stack.now r) (sym is)
    (c.in_err-number.ensures.step context)
