use Rattle.std.proofs.Common.{rules}
use Rattle.ms_parse_grammar.specs.Grammar.{greatest_depth}
use Rattle.ms_parse_grammar.specs.View.{document_of}
use Rattle.ms_parse_steps.specs.inner.Goals.{BeginsGoal}
use Rattle.ms_parse_steps.proofs.Declaring.{goal_begun}
use Rattle.ms_parse_steps.proofs.input.Input.begin_named.Goals as goal

pub returns-in-Some : goal.returns-in-Some
returns-in-Some c n next =
    let file = c.args.self.file in
    let lexed = c.args.self.tokens.now in
    let begins : BeginsGoal file lexed c.args.i c.in-Some.title c.in-Some.at_title = search rules in
    rw (goal_begun greatest_depth (document_of c.args.parser.now.source) c.args.at n file lexed c.args.i c.in-Some.title c.in-Some.at_title next begins)
    (c.begin_expression.ensures file lexed)
