use Rattle.std.proofs.Common.{ap, sym, ◌∙◌}
use Rattle.ms_parse_grammar.specs.Grammar.{greatest_depth}
use Rattle.ms_parse_grammar.specs.Tree.{listed, no_expressions}
use Rattle.ms_parse_grammar.specs.View.{expressions_of}
use Rattle.ms_parse_steps.specs.inner.Machine.{list_frame, holding, took, enter, enter_list, unopened}
use Rattle.ms_parse_steps.specs.inner.Stack.{stack_of}
use Rattle.ms_parse_steps.specs.inner.Terminals.{behind}
use Rattle.ms_parse_steps.proofs.Taking.{mark_found, mark_missing}
use Rattle.ms_parse_steps.proofs.input.Input.begin_list.Goals as goal

pub returns-in-Some : goal.returns-in-Some
returns-in-Some c context =
    let st = stack_of c.args.stack.now.items in
    let ts = behind c.args.self.file c.args.self.tokens.now c.in-Some.next in
    let at = c.args.at in
    let l = c.args.listing in
    rw (sym c.closing.ensures) (mark_found c.closing.result (took (holding context (listed at l no_expressions) st)) (enter_list greatest_depth context at l st) (behind c.args.self.file c.args.self.tokens.now c.args.i) ts c.in-Some.ensures.some
    ∙ ap (λ e. took (holding context e st) ts) (sym (c.in_ok-operand.ensures.ok ∙ c.listed.ensures at ∙ ap (λ es. listed at l (expressions_of es)) c.new-list.ensures)))

pub returns : goal.returns
returns c context =
    let st = stack_of c.args.stack.now.items in
    let ts = behind c.args.self.file c.args.self.tokens.now c.args.i in
    let at = c.args.at in
    let l = c.args.listing in
    rw (sym c.closing.ensures) (rw (mark_missing c.closing.result (took (holding context (listed at l no_expressions) st)) (enter_list greatest_depth context at l st) ts c.in_default.ensures.none
    ∙ ap (λ es. enter greatest_depth context (list_frame at l (expressions_of es)) st (unopened ts) ts) (sym c.new-list.ensures))
    (c.enter.ensures context c.args.self.file c.args.self.tokens.now (unopened ts) c.stop_inside.ensures))
