use Rattle.std.proofs.Common.{refl}
use Rattle.ms_parse_grammar.specs.Grammar.{greatest_depth}
use Rattle.ms_parse_grammar.specs.declared.operator.Bracket.TheVariants.{Emptiness}
use Rattle.ms_parse_grammar.specs.Tree.{atom, empty_set}
use Rattle.ms_parse_steps.specs.declared.punctuation.Punctuation.TheVariants as marks
use Rattle.ms_parse_steps.specs.inner.Machine.{bracket_frame, holding, took, too_deep, enter}
use Rattle.ms_parse_steps.specs.inner.Stack.{stack_of}
use Rattle.ms_parse_steps.specs.inner.Terminals.{behind}
use Rattle.ms_parse_steps.proofs.Taking.{mark_found}
use Rattle.ms_parse_steps.proofs.input.Input.begin_empty.Goals as goal

pub returns : goal.returns
returns c context =
    let st = stack_of c.args.stack.now.items in
    let from = behind c.args.self.file c.args.self.tokens.now c.args.i in
    let inside = enter greatest_depth context (bracket_frame c.args.at Emptiness) st (too_deep from) in
    rw (mark_found marks.OpenRound inside (took (holding context (atom c.args.at empty_set) st)) from (behind c.args.self.file c.args.self.tokens.now c.in-Some.next) c.in-Some.ensures.some)
    (c.enter.ensures context c.args.self.file c.args.self.tokens.now (too_deep from) refl)
