use Rattle.std.proofs.Common.{[], ◌∷◌, ◌∙◌, sym}
use Rattle.std.proofs.lemmas.Bool.Decides.{Decides-eqb}
use Rattle.std.proofs.lemmas.List.{take_rest}
use Rattle.std.proofs.lemmas.Slice.Eq.{starts_is}
use Rattle.ms_text.proofs.Gaps.{blank_front, line_front, block_front}
use Rattle.ms_text.proofs.gap.piece_length.Goals as goal

pub returns-then-is_blank-clause-some : goal.returns-then-is_blank-clause-some
returns-then-is_blank-clause-some c =
    blank_front c.args.rest.now (sym c.is_empty.ensures ∙ c.if-is_empty.false) (sym c.is_blank.ensures ∙ c.if-is_blank.true)

pub returns-then-rest-eq35-clause-some : goal.returns-then-rest-eq35-clause-some
returns-then-rest-eq35-clause-some c =
    line_front c.args.rest.now _ c.line_length.result (sym c.is_empty.ensures ∙ c.if-is_empty.false) c.if-rest-eq35.true (take_rest c.args.rest.now 1) c.line_length.ensures.run

pub returns-in-Some-clause-some : goal.returns-in-Some-clause-some
returns-in-Some-clause-some c =
    block_front c.args.rest.now _ c.in-Some.length ((starts_is Decides-eqb c.args.rest.now (47 ∷ 42 ∷ []) c.starts_with.result c.starts_with.ensures.value).0 c.if-starts_with.true)
    (take_rest c.args.rest.now 2) c.in-Some.ensures.closed c.in-Some.ensures.within c.in-Some.ensures.first
