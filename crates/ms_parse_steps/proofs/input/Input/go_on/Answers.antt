use Rattle.std.proofs.Common.{rules, ◌≡◌, ◌+◌, ◌-◌, ℕ, List, ap, ◌∙◌}
use Rattle.ms_parse_grammar.specs.Grammar.{greatest_depth}
use Rattle.ms_parse_grammar.specs.View.{document_of, expression_of}
use Rattle.ms_parse_steps.specs.inner.Ends.{ends_part}
use Rattle.ms_parse_steps.specs.inner.Machine.{in_part, go_on}
use Rattle.ms_parse_steps.specs.inner.Stack.{stack_of}
use Rattle.ms_parse_steps.specs.inner.Configurations.{context_of}
use Rattle.ms_parse_steps.specs.inner.Terminals.{symbol_with, behind, IsNext}
use Rattle.ms_parse_steps.proofs.Ending.{held_settled}
use Rattle.ms_parse_steps.proofs.Taking.{symbol_behind}
use Rattle.ms_parse_steps.proofs.input.Input.go_on.Goals as goal

pub returns : goal.returns
returns c =
    let file = c.args.self.file in
    let lexed = c.args.self.tokens.now in
    let i = c.args.i in
    let context = context_of (document_of c.args.parser.now.source) c.args.context in
    let e = expression_of c.args.operand.expr in
    let st = stack_of c.args.parser.now.stack.items in
    let sign = c.in-Some.terminal in
    let at = c.in-Some.field-0-1 in
    let next : (bytes : List ℕ) × IsNext file lexed i (symbol_with sign bytes) at = search rules in
    let s = symbol_with sign next.0 in
    let same : c.ends_part-is_end.result ≡ ends_part (in_part st) s = c.ends_part-is_end.ensures next.0 ∙ ap (λ x. ends_part (in_part (stack_of x)) s) c.deref.ensures.value in
    rw (symbol_behind (λ a. go_on greatest_depth context e st) file lexed i s at next.1
    ∙ held_settled greatest_depth context e (expression_of c.in_ok-operand.operand.expr) st (stack_of c.collapse.new.stack.items) s (behind file lexed (i + 1 - 1)) (behind file lexed (i + 1)) c.bound-looseness.result (c.bound-looseness.ensures next.0 (in_part st) same) c.in_ok-operand.ensures)
    (c.settle.ensures next.0 (in_part st) same)
