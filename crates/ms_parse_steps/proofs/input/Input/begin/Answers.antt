use Rattle.std.proofs.Common.{rules, suc, ℕ, List}
use Rattle.ms_parse_grammar.specs.Grammar.{greatest_depth}
use Rattle.ms_parse_grammar.specs.Symbol.{name}
use Rattle.ms_parse_steps.specs.inner.Machine.{begin}
use Rattle.ms_parse_steps.specs.inner.Stack.{stack_of}
use Rattle.ms_parse_steps.specs.inner.Terminals.{symbol_with, behind, IsNext, NoName}
use Rattle.ms_parse_steps.proofs.Taking.{no_name_terminal, symbol_found, symbol_behind}
use Rattle.ms_parse_steps.proofs.input.Input.begin.Goals as goal

pub returns-in-Some : goal.returns-in-Some
returns-in-Some c context =
    let file = c.args.self.file in
    let lexed = c.args.self.tokens.now in
    let names : IsNext file lexed c.args.i (name c.in-Some.name) c.in-Some.at = search rules in
    rw (symbol_found (begin greatest_depth context (stack_of c.args.stack.now.items)) file lexed c.args.i (name c.in-Some.name) c.in-Some.at names) (c.begin_name.ensures context)

pub returns : goal.returns
returns c context =
    let file = c.args.self.file in
    let lexed = c.args.self.tokens.now in
    let i = c.args.i in
    let found = c.in-Some-terminal_at.terminal in
    let at = c.in-Some-terminal_at.at in
    let none : NoName (behind file lexed i) = search rules in
    let next : (bytes : List ℕ) × IsNext file lexed i (symbol_with found bytes) at = search rules in
    rw (symbol_behind (begin greatest_depth context (stack_of c.args.stack.now.items)) file lexed i (symbol_with found next.0) at next.1)
    (c.begin_terminal.ensures context next.0 (no_name_terminal (behind file lexed i) (behind file lexed (suc i)) found next.0 at none next.1))
