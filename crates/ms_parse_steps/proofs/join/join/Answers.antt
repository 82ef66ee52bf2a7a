use Rattle.std.proofs.Common.{ap, sym, ◌∙◌, ◌∷◌, ◌-◌}
use Rattle.ms_parse_grammar.specs.Tree.{and_expression}
use Rattle.ms_parse_grammar.specs.View.{expression_of, expressions_of}
use Rattle.ms_parse_steps.specs.inner.Machine.{enter, join, join_new, joined_frame, too_deep}
use Rattle.ms_parse_steps.specs.inner.Frames.{frame_of}
use Rattle.ms_parse_steps.specs.inner.Terminals.{behind}
use Rattle.ms_parse_steps.specs.inner.Stack.{stack_of}
use Rattle.ms_parse_steps.proofs.Joins.{first_joined, other_joined}
use Rattle.ms_parse_steps.proofs.Moves.{further_joined}
use Rattle.ms_parse_steps.proofs.join.join.Goals as goal
use Rattle.ms_parse_grammar.specs.Grammar.{greatest_depth}

pub returns-in_default : goal.returns-in_default
returns-in_default c context file lexed =
    let e = expression_of c.args.operand.expr in
    let ts = behind file lexed c.args.i in
    rw (ap (λ x. join greatest_depth context c.args.op e x (behind file lexed (c.args.i - 1)) ts) c.in_default.ensures.top ∙ first_joined greatest_depth context c.args.op e (behind file lexed (c.args.i - 1)) ts ∙ ap (λ x. join_new greatest_depth context c.args.op e x (behind file lexed (c.args.i - 1)) ts) (sym c.in_default.ensures.none))
    (c.join_new.ensures context file lexed)

pub returns-in-Further : goal.returns-in-Further
returns-in-Further c context file lexed =
    let e = expression_of c.args.operand.expr in
    let ts = behind file lexed c.args.i in
    let below = stack_of c.pop_frame.new.stack.items in
    let chain = c.in-Further.chain in
    let es = expressions_of chain.operands.list in
    let from = behind file lexed (c.args.i - 1) in
    rw (ap (λ x. join greatest_depth context c.args.op e x from ts) (c.in-Some.ensures.top ∙ ap (λ f. f ∷ below) (c.in-Further.ensures.0 ∙ ap (λ op. joined_frame chain.at op es) c.in-Further.ensures.1))
    ∙ further_joined greatest_depth context c.args.op chain.at es e below from ts ∙ ap (λ op. enter greatest_depth context (joined_frame chain.at op (and_expression es e)) below (too_deep from) ts) (sym c.in-Further.ensures.1))
    (c.join_further.ensures context file lexed)

pub returns-in_ok-push_frame-in-Other : goal.returns-in_ok-push_frame-in-Other
returns-in_ok-push_frame-in-Other c context file lexed =
    let e = expression_of c.args.operand.expr in
    let ts = behind file lexed c.args.i in
    let below = stack_of c.pop_frame.new.stack.items in
    let f = frame_of c.in-Some.frame in
    rw (ap (λ x. join greatest_depth context c.args.op e x (behind file lexed (c.args.i - 1)) ts) c.in-Some.ensures.top ∙ other_joined greatest_depth context c.args.op e f below (behind file lexed (c.args.i - 1)) ts c.in-Other.ensures.1
    ∙ ap (λ x. join_new greatest_depth context c.args.op e x (behind file lexed (c.args.i - 1)) ts) (sym (c.in_ok-push_frame-in-Other.ensures.ok ∙ ap (λ g. g ∷ below) c.in-Other.ensures.0)))
    (c.join_new-in-Other.ensures context file lexed)
