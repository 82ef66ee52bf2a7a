use Rattle.std.proofs.Common.{arith}
use Rattle.ms_parse_grammar.specs.Grammar.{greatest_depth}
use Rattle.ms_parse_grammar.specs.Symbol.{symbols}
use Rattle.ms_parse_grammar.specs.View.{document_of}
use Rattle.ms_parse_steps.specs.inner.Terminals.{behind}
use Rattle.ms_parse_steps.specs.inner.Stack.{stack_of}
use Rattle.ms_parse_steps.specs.inner.Configurations.{configuration_of}
use Rattle.ms_parse_steps.proofs.Loops.{reads_made}
use Rattle.ms_parse_steps.proofs.Reached.{step_shortens}
use Rattle.ms_parse_steps.proofs.Stopping.{comes_first, comes_next, stops_at}
use Rattle.ms_parse_steps.proofs.run.read.Goals as goal

pub steps-init : goal.steps-init
steps-init c = comes_first (symbols c.args.file c.args.tokens.now) (behind c.args.file c.args.tokens.now c.start-source.result.1) (document_of c.start-source.result.0) c.start-source.ensures

pub steps-preserved : goal.steps-preserved
steps-preserved c =
    let file = c.args.file in
    let lexed = c.args.tokens.now in
    let s = configuration_of (document_of c.steps.parser.source) (stack_of c.steps.parser.stack.items) c.steps.state in
    let s' = configuration_of (document_of c.step.new.parser.source) (stack_of c.step.new.parser.stack.items) c.in-Ok.next in
    comes_next (symbols file lexed) s s' (behind file lexed c.steps.i) (behind file lexed c.in-Ok.behind) c.steps.invariant
    (c.is_finished.ensures.no (document_of c.steps.parser.source) (stack_of c.steps.parser.stack.items) c.steps-test.true) c.in-Ok.ensures

pub steps-smaller : goal.steps-smaller
steps-smaller c =
    let file = c.args.file in
    let lexed = c.args.tokens.now in
    step_shortens greatest_depth (configuration_of (document_of c.steps.parser.source) (stack_of c.steps.parser.stack.items) c.steps.state) (configuration_of (document_of c.step.new.parser.source) (stack_of c.step.new.parser.stack.items) c.in-Ok.next)
    (behind file lexed c.steps.i) (behind file lexed c.in-Ok.behind) (omega arith) (c.steps.invariant.reached greatest_depth (omega arith)).fits c.in-Ok.ensures

pub returns-in-Err-clause-err : goal.returns-in-Err-clause-err
returns-in-Err-clause-err c =
    let file = c.args.file in
    let lexed = c.args.tokens.now in
    stops_at file lexed (configuration_of (document_of c.steps.parser.source) (stack_of c.steps.parser.stack.items) c.steps.state) (behind file lexed c.steps.i) c.in-Err.stop c.steps.invariant
    (c.is_finished.ensures.no (document_of c.steps.parser.source) (stack_of c.steps.parser.stack.items) c.steps-test.true) c.in-Err.ensures

pub returns-clause-ok : goal.returns-clause-ok
returns-clause-ok c =
    let file = c.args.file in
    let lexed = c.args.tokens.now in
    let d = document_of c.steps.parser.source in
    let st = stack_of c.steps.parser.stack.items in
    reads_made (symbols file lexed) (configuration_of d st c.steps.state) (behind file lexed c.steps.i) d c.steps.invariant.same (c.is_finished.ensures.yes d st c.steps-test.false)
