use Rattle.std.proofs.Common.{◌∙◌, arith}
use Rattle.std.proofs.lemmas.Bool.{false≢true}
use denote.Enum.Declared.{tag_of}
use Rattle.ms_text.specs.Spelling.{left_out_spelling}
use Rattle.ms_text.specs.contracts.keyword.LeftOutWord.{the_type}
use Rattle.ms_text.specs.declared.keyword.TheConstants.{LEFT_OUT_WORDS}
use Rattle.ms_text.proofs.Tables.{search_step, left_out_at, left_out_below}
use Rattle.ms_text.proofs.keyword.is_left_out.Goals as goal

pub loop-word-preserved : goal.loop-word-preserved
loop-word-preserved c =
    search_step left_out_spelling c.args.slice.now LEFT_OUT_WORDS c.loop-word.word-index _ c.as_bytes.result.now c.eq.result c.loop-word.invariant c.loop-word-test.true
    (c.as_bytes.ensures.value ∙ c.spelling.ensures) c.eq.ensures c.if-eq.false

pub returns : goal.returns
returns c = (
  λ is_true. absurd (false≢true is_true),
  λ found. absurd (c.loop-word.invariant (tag_of the_type found.0) found.0 (omega (arith, left_out_below found.0)) (left_out_at found.0) found.1),
)
