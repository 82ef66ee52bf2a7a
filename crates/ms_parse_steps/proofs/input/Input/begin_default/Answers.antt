use Rattle.std.proofs.Common.{rules}
use Rattle.ms_parse_grammar.specs.Symbol.{name}
use Rattle.ms_parse_steps.specs.declared.punctuation.Punctuation.TheVariants as marks
use Rattle.ms_parse_steps.specs.inner.Machine.{misplaced}
use Rattle.ms_parse_steps.specs.inner.Terminals.{IsNext}
use Rattle.ms_parse_steps.proofs.Taking.{one_more, mark_missing}
use Rattle.ms_parse_steps.proofs.input.Input.begin_default.Goals as goal

pub returns-in_default-behind_mark : goal.returns-in_default-behind_mark
returns-in_default-behind_mark c =
    let names : IsNext c.args.self.file c.args.self.tokens.now c.in-Some.inside (name c.in-Some-2.name) c.in-Some-2.field-0-1 = search rules in
    rw (c.in-Some.ensures.some.1, names, one_more c.args.self.file c.args.self.tokens.now c.in-Some.inside) (mark_missing marks.CloseRound _ misplaced _ c.in_default-behind_mark.ensures.none)

pub returns : goal.returns
returns c =
    let names : IsNext c.args.self.file c.args.self.tokens.now c.in-Some.inside (name c.in-Some-2.name) c.in-Some-2.field-0-1 = search rules in
    rw (c.in-Some.ensures.some.1, names, one_more c.args.self.file c.args.self.tokens.now c.in-Some.inside, c.in-Some-behind_mark.ensures.some.1, c.in-Some-behind_mark-2.ensures.some.1) (c.begin_expression.ensures c.args.self.file c.args.self.tokens.now)

pub returns-in_default-behind_mark-2 : goal.returns-in_default-behind_mark-2
returns-in_default-behind_mark-2 c =
    let names : IsNext c.args.self.file c.args.self.tokens.now c.in-Some.inside (name c.in-Some-2.name) c.in-Some-2.field-0-1 = search rules in
    rw (c.in-Some.ensures.some.1, names, one_more c.args.self.file c.args.self.tokens.now c.in-Some.inside, c.in-Some-behind_mark.ensures.some.1) (mark_missing marks.Equal _ misplaced _ c.in_default-behind_mark-2.ensures.none)
