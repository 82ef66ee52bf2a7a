use Rattle.std.proofs.Common.{◌≡◌, ℕ, List, [], ◌∷◌, ◌++◌, All, IsUtf8, drop, get_or, take, subst, ap, sym, ◌∙◌}
use Rattle.std.proofs.lemmas.List.{append-nil, drop_all}
use Rattle.monastr_c.specs.Buffers.{pieces}
use Rattle.monastr_c.proofs.Spelled.{no_text-at, pieces-more, texts-more}
use Rattle.monastr_c.proofs.buffers.words_of.Goals as goal

pub returns-in-Err-clause-not_text : goal.returns-in-Err-clause-not_text
returns-in-Err-clause-not_text c = λ is.
    no_text-at c.loop-length.words (pieces c.args.bytes.now c.args.lengths.now) c.loop-length.rest.now c.args.lengths.now c.loop-length.length-index
    c.loop-length-test.true c.loop-length.invariant.0 (rw c.split.ensures.front at c.in-Err.ensures.cases.0)

pub loop-length-preserved : goal.loop-length-preserved
loop-length-preserved c =
    let words = c.loop-length.words in
    let word = take (get_or c.args.lengths.now c.loop-length.length-index 0) c.loop-length.rest.now in
    let grown : c.push_word.new.words ≡ words ++ word ∷ [] =
    c.in_ok-push_word-in-Ok.ensures.ok ∙ ap (λ (last : List ℕ). words ++ last ∷ []) (c.in-Ok.ensures.cases.0 ∙ c.split.ensures.front) in
    let text = rw c.split.ensures.front at c.in-Ok.ensures.cases.1 in (
      rw (grown, c.split.ensures.back)
          (pieces-more words c.loop-length.rest.now c.args.lengths.now c.loop-length.length-index c.loop-length-test.true ∙ c.loop-length.invariant.0),
      rw grown (texts-more words word c.loop-length.invariant.1 text),
    )

pub returns-clause-texts : goal.returns-clause-texts
returns-clause-texts c =
    let ended : drop c.loop-length.length-index c.args.lengths.now ≡ [] = drop_all _ _ c.loop-length-test.false in
    let whole : c.loop-length.words ≡ pieces c.args.bytes.now c.args.lengths.now =
    sym (append-nil c.loop-length.words) ∙ (rw ended at c.loop-length.invariant.0) in
    subst (λ (words : List (List ℕ)). All IsUtf8 words) whole c.loop-length.invariant.1
