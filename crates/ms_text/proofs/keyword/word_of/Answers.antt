use Rattle.std.proofs.Common.{◌∙◌, arith}
use denote.Enum.Declared.{tag_of}
use Rattle.ms_text.specs.Spelling.{word_spelling}
use Rattle.ms_text.specs.contracts.keyword.Keyword.{the_type}
use Rattle.ms_text.specs.declared.keyword.TheConstants.{WORDS}
use Rattle.ms_text.proofs.Tables.{search_step, word_at, word_below}
use Rattle.ms_text.proofs.keyword.word_of.Goals as goal

pub loop-word-preserved : goal.loop-word-preserved
loop-word-preserved c =
    search_step word_spelling c.args.slice.now WORDS c.loop-word.word-index _ c.as_bytes.result.now c.eq.result c.loop-word.invariant c.loop-word-test.true
    (c.as_bytes.ensures.value ∙ c.spelling.ensures) c.eq.ensures c.if-eq.false

pub returns-clause-no_word : goal.returns-clause-no_word
returns-clause-no_word c word =
    c.loop-word.invariant (tag_of the_type word) word (omega (arith, word_below word)) (word_at word)
