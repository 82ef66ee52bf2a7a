use Rattle.std.proofs.Common.{ap, ◌∙◌}
use Rattle.ms_dfa.specs.Files.{content_of_file}
use Rattle.ms_logic_words.specs.Content.{next_state}
use Rattle.ms_cert.proofs.ContentLemmas.{run-more}
use Rattle.ms_cert.proofs.running.state_after.Goals as goal

pub loop-letter-preserved : goal.loop-letter-preserved
loop-letter-preserved c =
    let content = content_of_file c.args.plain.now in (
      c.step-state.ensures.state,
      run-more content c.args.letters.now c.loop-letter.letter-index c.letter-item.result c.loop-letter-test.true c.letter-item.is c.args.from c.loop-letter.state c.step-state.result c.loop-letter.invariant.1
          (c.step-state.ensures.next ∙ ap (next_state content c.loop-letter.state) c.slice.ensures),
    )
