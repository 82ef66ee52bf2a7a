use Rattle.std.proofs.Common.{rules, ◌+◌, ℕ, List, ◌∙◌}
use Rattle.ms_parse_grammar.specs.Symbol.{name}
use Rattle.ms_parse_grammar.specs.View.{document_of, variables_of}
use Rattle.ms_parse_steps.specs.inner.Kinds.{IsKind}
use Rattle.ms_parse_steps.specs.inner.Machine.{behind_parameter, name_then, symbol_then}
use Rattle.ms_parse_steps.specs.inner.Configurations.{head_of}
use Rattle.ms_parse_steps.specs.inner.Terminals.{symbol_with, behind, IsNext}
use Rattle.ms_parse_steps.proofs.Taking.{kind_found, name_found, symbol_second}
use Rattle.ms_parse_steps.proofs.input.Input.next_parameter.Goals as goal

pub returns : goal.returns
returns c =
    let file = c.args.self.file in
    let lexed = c.args.self.tokens.now in
    let s = c.args.signature in
    let vs = variables_of s.parameters in
    let from = c.in-Some.from in
    let further = behind_parameter (document_of c.args.parser.now.source) (head_of s) vs in
    let kinds : IsKind vs c.in-Some.order (behind file lexed c.args.i) (behind file lexed from) = search rules in
    let names : IsNext file lexed from (name c.in-Some-2.name) c.in-Some-2.at_name = search rules in
    let next : (bytes : List ℕ) × IsNext file lexed (from + 1) (symbol_with c.in-Some-terminal_at.terminal bytes) c.in-Some-terminal_at.field-0-1 = search rules in
    rw (kind_found vs c.in-Some.order (λ o. name_then (λ a n. symbol_then (λ x. further o a n))) (behind file lexed c.args.i) (behind file lexed from) kinds
    ∙ name_found (λ a n. symbol_then (λ x. further c.in-Some.order a n)) file lexed from c.in-Some-2.name c.in-Some-2.at_name names
    ∙ symbol_second (λ x. further c.in-Some.order c.in-Some-2.at_name c.in-Some-2.name) file lexed from (symbol_with c.in-Some-terminal_at.terminal next.0) c.in-Some-terminal_at.field-0-1 next.1)
    (c.behind_parameter.ensures next.0)
