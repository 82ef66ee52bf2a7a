use Rattle.std.proofs.Common.{rules}
use Rattle.ms_parse_grammar.specs.Symbol.{text}
use Rattle.ms_parse_steps.specs.declared.punctuation.Punctuation.TheVariants as marks
use Rattle.ms_parse_steps.specs.inner.Machine.{misplaced}
use Rattle.ms_parse_steps.specs.inner.Terminals.{IsNext}
use Rattle.ms_parse_steps.proofs.Taking.{one_more, mark_missing}
use Rattle.ms_parse_steps.proofs.input.Input.begin_include.Goals as goal

pub returns : goal.returns
returns c =
    let texts : IsNext c.args.self.file c.args.self.tokens.now c.args.i (text c.in-Some.text) c.in-Some.at_text = search rules in
    rw (texts, one_more c.args.self.file c.args.self.tokens.now c.args.i, c.in-Some-behind_mark.ensures.some.1) (c.declared.ensures c.args.self.file c.args.self.tokens.now)

pub returns-in_default-behind_mark : goal.returns-in_default-behind_mark
returns-in_default-behind_mark c =
    let texts : IsNext c.args.self.file c.args.self.tokens.now c.args.i (text c.in-Some.text) c.in-Some.at_text = search rules in
    rw (texts, one_more c.args.self.file c.args.self.tokens.now c.args.i) (mark_missing marks.Semicolon _ misplaced _ c.in_default-behind_mark.ensures.none)
