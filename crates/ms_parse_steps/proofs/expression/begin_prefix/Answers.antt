use Rattle.std.proofs.Common.{◌≡◌, ◌≤◌, ◌-◌, leb, ap, ◌∙◌, arith}
use Rattle.std.proofs.lemmas.Bool.{le-leb}
use Rattle.ms_parse_grammar.specs.Grammar.{prefix_level, greatest_depth}
use Rattle.ms_parse_steps.specs.inner.Machine.{prefix_frame, need, enter, misplaced, too_deep}
use Rattle.ms_parse_steps.specs.inner.Stack.{stack_of}
use Rattle.ms_parse_steps.specs.inner.Terminals.{behind}
use Rattle.ms_parse_steps.proofs.Frames.{chosen_yes}
use Rattle.ms_parse_steps.proofs.expression.begin_prefix.Goals as goal

pub returns : goal.returns
returns c context file lexed =
    let st = stack_of c.args.stack.now.items in
    let from = behind file lexed (c.args.i - 1) in
    let least : c.need.result ≡ need st = c.need.ensures ∙ ap (λ x. need (stack_of x)) c.deref.ensures.value in
    let low : need st ≤ prefix_level c.args.op = omega (arith, c.level_of.ensures) in
    rw (chosen_yes (leb (need st) (prefix_level c.args.op)) (enter greatest_depth context (prefix_frame c.args.at c.args.op) st (too_deep from) (behind file lexed c.args.i)) (misplaced from) (le-leb (need st) (prefix_level c.args.op) low))
    (c.begin_frame.ensures context file lexed)
