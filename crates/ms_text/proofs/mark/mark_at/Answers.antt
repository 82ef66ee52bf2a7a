use Rattle.std.proofs.Common.{◌∙◌, ◌++◌, drop, length, ap, arith}
use Rattle.std.proofs.lemmas.Bool.Decides.{Decides-eqb}
use Rattle.std.proofs.lemmas.Option.{slice_get-get_or}
use Rattle.std.proofs.lemmas.Slice.Eq.{starts_is}
use Rattle.ms_text.specs.Spelling.{mark_spelling}
use Rattle.ms_text.specs.declared.mark.TheConstants.{MARKS}
use Rattle.ms_text.proofs.Tables.{front_step, longest_mark, mark_place}
use Rattle.ms_text.proofs.mark.mark_at.Goals as goal

pub returns-then-starts_with-clause-mark : goal.returns-then-starts_with-clause-mark
returns-then-starts_with-clause-mark c = (
  drop (length c.as_bytes.result.now) c.args.rest.now,
  (starts_is Decides-eqb c.args.rest.now c.as_bytes.result.now c.starts_with.result c.starts_with.ensures.value).0 c.if-starts_with.true
      ∙ ap (λ front. front ++ drop (length c.as_bytes.result.now) c.args.rest.now) (c.as_bytes.ensures.value ∙ c.spelling.ensures),
)

pub returns-then-starts_with-clause-longest : goal.returns-then-starts_with-clause-longest
returns-then-starts_with-clause-longest c =
    longest_mark c.args.rest.now c.loop-mark.mark-index _ c.loop-mark.invariant (slice_get-get_or MARKS c.loop-mark.mark-index _ c.loop-mark-test.true)

pub loop-mark-preserved : goal.loop-mark-preserved
loop-mark-preserved c =
    front_step mark_spelling c.args.rest.now MARKS c.loop-mark.mark-index _ c.as_bytes.result.now c.starts_with.result c.loop-mark.invariant c.loop-mark-test.true
    (c.as_bytes.ensures.value ∙ c.spelling.ensures) c.starts_with.ensures.value c.if-starts_with.false

pub returns-clause-no_mark : goal.returns-clause-no_mark
returns-clause-no_mark c mark behind begins =
    let place = mark_place mark in
    let below = place.1 in
    c.loop-mark.invariant place.0 mark (omega arith) place.2 (behind, begins)
