use Rattle.std.proofs.Common.{rules, refl}
use Rattle.ms_parse_grammar.specs.Symbol.{name}
use Rattle.ms_parse_steps.specs.declared.punctuation.Punctuation.TheVariants as marks
use Rattle.ms_parse_steps.specs.inner.Machine.{misplaced}
use Rattle.ms_parse_steps.specs.inner.Terminals.{behind, IsNext, NoName}
use Rattle.ms_parse_steps.proofs.Taking.{one_more, mark_missing, name_missing}
use Rattle.ms_parse_steps.proofs.input.Input.pair_at.Goals as goal

pub returns-in_default-behind_mark : goal.returns-in_default-behind_mark
returns-in_default-behind_mark c further =
    let left : IsNext c.args.self.file c.args.self.tokens.now c.args.i (name c.in-Some.left) c.in-Some.at = search rules in
    rw (left, one_more c.args.self.file c.args.self.tokens.now c.args.i) (mark_missing marks.Arrow _ misplaced _ c.in_default-behind_mark.ensures.none)

pub returns-in_default-2 : goal.returns-in_default-2
returns-in_default-2 c further =
    let left : IsNext c.args.self.file c.args.self.tokens.now c.args.i (name c.in-Some.left) c.in-Some.at = search rules in
    let none : NoName (behind c.args.self.file c.args.self.tokens.now c.in-Some-behind_mark.to) = search rules in
    rw (left, one_more c.args.self.file c.args.self.tokens.now c.args.i, c.in-Some-behind_mark.ensures.some.1) (name_missing _ _ none)

pub returns : goal.returns
returns c further =
    let left : IsNext c.args.self.file c.args.self.tokens.now c.args.i (name c.in-Some.left) c.in-Some.at = search rules in
    let right : IsNext c.args.self.file c.args.self.tokens.now c.in-Some-behind_mark.to (name c.in-Some-2.right) c.in-Some-2.at_right = search rules in
    rw (left, one_more c.args.self.file c.args.self.tokens.now c.args.i, c.in-Some-behind_mark.ensures.some.1, right, one_more c.args.self.file c.args.self.tokens.now c.in-Some-behind_mark.to) refl
