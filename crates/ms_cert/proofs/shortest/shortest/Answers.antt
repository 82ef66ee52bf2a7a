use Rattle.std.proofs.Common.{◌≡◌, ℕ, ◌+◌, length, Some, sym, ap, subst, ◌∙◌, arith}
use Rattle.std.proofs.lemmas.Bool.{false≢true}
use Rattle.std.proofs.lemmas.Option.{same_Some}
use Rattle.ms_dfa.specs.Files.{content_of_file}
use Rattle.ms_dfa.specs.declared.plain.FileSign.{FileSign}
use Rattle.ms_cert.specs.Certificate.{is_sign}
use Rattle.ms_cert.proofs.ContentLemmas.{sign-at}
use Rattle.ms_cert.proofs.LengthsLemmas.{letters-held}
use Rattle.ms_cert.proofs.ListLemmas.{get-item}
use Rattle.ms_cert.proofs.ShortestLemmas.{IsBest, best-other, best-own, shortest-best}
use Rattle.ms_cert.proofs.SignsLemmas.{is_sign-own, is_sign-true}
use Rattle.ms_cert.proofs.shortest.shortest.Goals as goal
use Rattle.ms_cert.proofs.shortest.shortest.Goals.{then-is_same, else-is_same}

pub loop-place-preserved : goal.loop-place-preserved
loop-place-preserved c =
    let content = content_of_file c.args.plain.now in
    let words = c.args.words.now in
    let place = c.loop-place.place in
    let here = sign-at c.args.plain.now place c.get.result.now c.get.ensures in
    let held = get-item words place c.index-words-place.result c.loop-place-test.true c.index-words-place.is in
    elim c.if-is_same.branch [
      | then-is_same w ↦ (
          let same = is_sign-true c.get.result.now.sign c.args.sign (sym c.is_same.ensures ∙ w.if-is_same.true) in
          subst (IsBest content words c.args.sign (place + 1)) (sym w.best-is)
          (best-own content words c.args.sign place w.len.result w.lesser.result c.loop-place.best (here ∙ ap (λ (s : FileSign). Some s) same) (letters-held words place c.index-words-place.result held ∙ sym w.len.ensures) w.lesser.ensures c.loop-place.invariant))
      | else-is_same w ↦
          subst (IsBest content words c.args.sign (place + 1)) (sym w.best-is)
          (best-other content words c.args.sign place c.loop-place.best (λ is.
          let same : c.get.result.now.sign ≡ c.args.sign = same_Some c.get.result.now.sign c.args.sign (sym here ∙ is) in
          false≢true (sym w.if-is_same.false ∙ c.is_same.ensures ∙ ap (λ (s : FileSign). is_sign s c.args.sign) same ∙ is_sign-own c.args.sign)) c.loop-place.invariant)
    ]

pub returns : goal.returns
returns c =
    let content = content_of_file c.args.plain.now in
    let all : c.loop-place.place ≡ length content.states = omega (arith, c.loop-place-test.false, c.loop-place.auto.place-end, c.requires.words.count) in
    shortest-best content c.requires.content c.args.words.now c.requires.words c.requires.lengths c.args.sign c.loop-place.best
    (subst (λ (n : ℕ). IsBest content c.args.words.now c.args.sign n c.loop-place.best) all c.loop-place.invariant)
