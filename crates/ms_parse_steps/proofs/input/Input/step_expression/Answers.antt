use Rattle.ms_parse_grammar.specs.View.{document_of}
use Rattle.ms_parse_steps.specs.declared.parser.Parser.{Parser}
use Rattle.ms_parse_steps.specs.inner.Configurations.{context_of}
use Rattle.ms_parse_steps.proofs.input.Input.step_expression.Goals as goal

pub returns-in-Wanted : goal.returns-in-Wanted
returns-in-Wanted c =
    let context = context_of (document_of c.args.parser.now.source) c.args.context in
    let after : Parser = record { source = c.args.parser.now.source; stack = c.begin.new.stack } in
    rw c.in-Wanted.is (c.inside.ensures c.args.self.file c.args.self.tokens.now _ after (c.begin.ensures context))

pub returns-in-Variable : goal.returns-in-Variable
returns-in-Variable c =
    let context = context_of (document_of c.args.parser.now.source) c.args.context in
    let after : Parser = record { source = c.args.parser.now.source; stack = c.next_variable.new.stack } in
    rw c.in-Variable.is (c.inside-in-Variable.ensures c.args.self.file c.args.self.tokens.now _ after (c.next_variable.ensures context))

pub returns-in-Part : goal.returns-in-Part
returns-in-Part c =
    let context = context_of (document_of c.args.parser.now.source) c.args.context in
    let after : Parser = record { source = c.args.parser.now.source; stack = c.next_part.new.stack } in
    rw c.in-Part.is (c.inside-in-Part.ensures c.args.self.file c.args.self.tokens.now _ after (c.next_part.ensures context))

pub returns-in-Pair : goal.returns-in-Pair
returns-in-Pair c =
    let context = context_of (document_of c.args.parser.now.source) c.args.context in
    rw c.in-Pair.is (c.inside-in-Pair.ensures c.args.self.file c.args.self.tokens.now _ c.args.parser.now (c.next_pair.ensures context c.args.parser.now.stack.items))
