use Rattle.std.proofs.Common.{sym, ap, ◌∙◌}
use Rattle.ms_parse_grammar.specs.Tree.{shifted}
use Rattle.ms_parse_grammar.specs.View.{expression_of}
use Rattle.ms_parse_grammar.proofs.Views.{form_of-Shift}
use Rattle.ms_parse_steps.specs.inner.Machine.{holding, took}
use Rattle.ms_parse_steps.specs.inner.Stack.{stack_of}
use Rattle.ms_parse_steps.specs.inner.Terminals.{behind}
use Rattle.ms_parse_steps.proofs.settle.shift_by.Goals as goal

pub returns : goal.returns
returns c context file lexed =
    let start = c.args.operand.start in
    let e = expression_of c.args.operand.expr in
    ap (λ x. took (holding context x (stack_of c.args.stack.now)) (behind file lexed c.args.i))
    (sym (c.in_ok-made.ensures.ok ∙ form_of-Shift c.in_ok-boxed.field-0 c.args.number start ∙ ap (λ x. shifted start (expression_of x) c.args.number) c.in_ok-boxed.ensures.ok
    ∙ ap (λ a. shifted a e c.args.number) c.args.operand.begins))
