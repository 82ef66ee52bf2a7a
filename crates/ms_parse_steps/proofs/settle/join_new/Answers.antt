use Rattle.std.proofs.Common.{◌≡◌, ◌≤◌, ◌-◌, leb, suc, ap, sym, ◌∙◌, arith}
use Rattle.std.proofs.lemmas.Bool.{le-leb}
use Rattle.ms_parse_grammar.specs.Grammar.{junction_level, level, greatest_depth}
use Rattle.ms_parse_grammar.specs.Reads.{place}
use Rattle.ms_parse_grammar.specs.Tree.{no_expressions, and_expression}
use Rattle.ms_parse_grammar.specs.View.{expression_of, expressions_of}
use Rattle.ms_parse_steps.specs.inner.Machine.{enter, joined_frame, misplaced, too_deep}
use Rattle.ms_parse_steps.specs.inner.Stack.{stack_of}
use Rattle.ms_parse_steps.specs.inner.Terminals.{behind}
use Rattle.ms_parse_steps.proofs.Frames.{chosen_yes}
use Rattle.ms_parse_steps.proofs.settle.join_new.Goals as goal

pub returns : goal.returns
returns c context file lexed =
    let st = stack_of c.args.stack.now.items in
    let e = expression_of c.args.first.expr in
    let from = behind file lexed (c.args.i - 1) in
    let ts = behind file lexed c.args.i in
    let high : suc (junction_level c.args.op) ≤ level e = omega (arith, c.level.ensures, c.least_operand.ensures) in
    let pushed : expressions_of c.push_expression.new.list ≡ and_expression no_expressions e = c.in_ok-push_expression.ensures.ok ∙ ap (λ xs. and_expression (expressions_of xs) e) c.new-list.ensures in
    rw (chosen_yes (leb (suc (junction_level c.args.op)) (level e)) (enter greatest_depth context (joined_frame (place e) c.args.op (and_expression no_expressions e)) st (too_deep from) ts) (misplaced from) (le-leb (suc (junction_level c.args.op)) (level e) high)
    ∙ ap (λ a. enter greatest_depth context (joined_frame a c.args.op (and_expression no_expressions e)) st (too_deep from) ts) (sym c.args.first.begins)
    ∙ ap (λ es. enter greatest_depth context (joined_frame c.args.first.start c.args.op es) st (too_deep from) ts) (sym pushed))
    (c.begin_frame.ensures context file lexed)
