use Rattle.std.proofs.Common.{rules, ◌+◌, refl}
use Rattle.ms_parse_grammar.specs.Symbol.{name}
use Rattle.ms_parse_steps.specs.declared.punctuation.Punctuation.TheVariants as marks
use Rattle.ms_parse_steps.specs.inner.Machine.{misplaced, too_deep}
use Rattle.ms_parse_steps.specs.inner.Terminals.{behind, IsNext}
use Rattle.ms_parse_steps.proofs.Taking.{one_more, mark_missing}
use Rattle.ms_parse_steps.proofs.input.Input.next_part.Goals as goal

pub returns : goal.returns
returns c context =
    let names : IsNext c.args.self.file c.args.self.tokens.now c.args.i (name c.in-Some.name) c.in-Some.at_name = search rules in
    rw (names, one_more c.args.self.file c.args.self.tokens.now c.args.i, c.in-Some-behind_mark.ensures.some.1)
    (rw c.in-Some-behind_mark.ensures.some.1 at (c.enter.ensures context c.args.self.file c.args.self.tokens.now (too_deep (behind c.args.self.file c.args.self.tokens.now (c.args.i + 1))) refl))

pub returns-in_default-behind_mark : goal.returns-in_default-behind_mark
returns-in_default-behind_mark c context =
    let names : IsNext c.args.self.file c.args.self.tokens.now c.args.i (name c.in-Some.name) c.in-Some.at_name = search rules in
    rw (names, one_more c.args.self.file c.args.self.tokens.now c.args.i) (mark_missing marks.Equal _ misplaced _ c.in_default-behind_mark.ensures.none)
