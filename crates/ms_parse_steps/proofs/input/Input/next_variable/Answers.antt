use Rattle.std.proofs.Common.{rules, ◌+◌, ℕ, List, ◌∙◌}
use Rattle.ms_parse_grammar.specs.Grammar.{greatest_depth}
use Rattle.ms_parse_grammar.specs.Symbol.{name}
use Rattle.ms_parse_grammar.specs.View.{variables_of}
use Rattle.ms_parse_steps.specs.inner.Machine.{behind_variable, symbol_then}
use Rattle.ms_parse_steps.specs.inner.Stack.{stack_of}
use Rattle.ms_parse_steps.specs.inner.Terminals.{symbol_with, IsNext}
use Rattle.ms_parse_steps.proofs.Taking.{name_found, symbol_second}
use Rattle.ms_parse_steps.proofs.input.Input.next_variable.Goals as goal

pub returns : goal.returns
returns c context =
    let file = c.args.self.file in
    let lexed = c.args.self.tokens.now in
    let i = c.args.i in
    let further = behind_variable greatest_depth context (stack_of c.args.stack.now.items) c.args.binder.at c.args.binder.quant c.args.binder.order (variables_of c.args.binder.bounds.list) in
    let names : IsNext file lexed i (name c.in-Some.name) c.in-Some.at_name = search rules in
    let next : (bytes : List ℕ) × IsNext file lexed (i + 1) (symbol_with c.in-Some-terminal_at.terminal bytes) c.in-Some-terminal_at.field-0-1 = search rules in
    rw (name_found (λ a n. symbol_then (λ x. further a n)) file lexed i c.in-Some.name c.in-Some.at_name names
    ∙ symbol_second (λ x. further c.in-Some.at_name c.in-Some.name) file lexed i (symbol_with c.in-Some-terminal_at.terminal next.0) c.in-Some-terminal_at.field-0-1 next.1)
    (c.behind_variable.ensures context file lexed next.0)
