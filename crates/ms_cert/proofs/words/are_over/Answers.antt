use Rattle.std.proofs.Common.{refl, arith}
use Rattle.std.proofs.lemmas.Option.{slice_get_within}
use Rattle.ms_dfa.specs.Files.{content_of_file}
use Rattle.ms_logic_words.specs.Content.{IsWordOver}
use Rattle.ms_cert.proofs.ListLemmas.{held-more}
use Rattle.ms_cert.proofs.words.are_over.Goals as goal

pub loop-word-preserved : goal.loop-word-preserved
loop-word-preserved c =
    held-more (IsWordOver (content_of_file c.args.plain.now).variables) c.args.words.now c.loop-word.word-index c.word-item.result c.loop-word-test.true c.word-item.is c.loop-word.invariant (c.is_over.ensures.0 c.if-not-is_over.false)

pub returns : goal.returns
returns c = (
  λ yes i word held. c.loop-word.invariant i word (let within = slice_get_within c.args.words.now i word held in omega (arith, within, c.loop-word-test.false)) held,
  λ all. refl,
)
