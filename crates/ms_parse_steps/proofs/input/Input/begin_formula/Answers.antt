use Rattle.std.proofs.Common.{ap, sym}
use Rattle.ms_parse_grammar.specs.Grammar.{greatest_depth}
use Rattle.ms_parse_grammar.specs.View.{document_of}
use Rattle.ms_parse_steps.specs.declared.parser.Parser.{Parser}
use Rattle.ms_parse_steps.specs.inner.Machine.{in_formula, step, wanted}
use Rattle.ms_parse_steps.specs.inner.Stack.{stack_of}
use Rattle.ms_parse_steps.specs.inner.Terminals.{behind}
use Rattle.ms_parse_steps.proofs.Taking.{steps_as}
use Rattle.ms_parse_steps.proofs.input.Input.begin_formula.Goals as goal

pub returns : goal.returns
returns c =
    let file = c.args.self.file in
    let lexed = c.args.self.tokens.now in
    let ts = behind file lexed c.args.i in
    let context = in_formula (document_of c.args.parser.now.source) c.args.at in
    let after : Parser = record { source = c.args.parser.now.source; stack = c.begin-taken.new.stack } in
    steps_as file lexed _ _ after c.inside.result (ap (λ x. step greatest_depth (wanted context (stack_of x)) ts) (sym c.clear.ensures.items))
    (c.inside.ensures file lexed (step greatest_depth (wanted context (stack_of c.clear.new.self.items)) ts) after (c.begin-taken.ensures context))
