use Rattle.std.proofs.Common.{◌≡◌, ℕ, List, length, sym, ap, subst, ◌∙◌}
use Rattle.std.proofs.lemmas.Bool.{false≢true}
use Rattle.ms_dfa.specs.Files.{content_of_file}
use Rattle.ms_dfafile_outside.proofs.ContentLemmas.{valid-part}
use Rattle.ms_dfafile_outside.proofs.FileLemmas.{length-states}
use Rattle.ms_cert.specs.inner.Lengths.{HasSteps, most_at}
use Rattle.ms_cert.proofs.LengthsLemmas.{grow-by_steps, most-known, start-to}
use Rattle.ms_cert.proofs.lengths.grow_by_letters.Goals as goal

pub returns-then-most_at-ne0 : goal.returns-then-most_at-ne0
returns-then-most_at-ne0 c =
    let plain = c.args.plain.now in
    let content = content_of_file plain in
    let words = c.args.words.now in
    let most = most-known plain.nodes words c.requires.content.ordered c.in_ok-known.known (length plain.nodes) plain.start c.in_ok-known.ensures (valid-part content plain.start c.requires.content.start_named) in
    let is : c.most_at.result ≡ most_at words c.in_ok-known.known plain.start = c.most_at.ensures ∙ ap (λ (known : List ℕ). most_at words known plain.start) c.slice.ensures in (
      λ no. absurd (false≢true no),
      λ grow. absurd (c.if-most_at-ne0.true (is ∙ start-to content c.requires.content words (c.requires.count ∙ sym (length-states plain)) grow (most_at words c.in_ok-known.known plain.start) most)),
    )

pub returns : goal.returns
returns c =
    let plain = c.args.plain.now in
    let words = c.args.words.now in
    let is : c.most_at.result ≡ most_at words c.in_ok-known.known plain.start = c.most_at.ensures ∙ ap (λ (known : List ℕ). most_at words known plain.start) c.slice.ensures in
    let told = grow-by_steps plain words c.in_ok-known.known c.requires.content c.requires.count c.in_ok-known.ensures (sym is ∙ c.if-most_at-ne0.false) in
    let steps = λ (known : List ℕ) (same : known ≡ c.in_ok-known.known) (h : HasSteps plain words known). subst (HasSteps plain words) same h in (
      λ yes. told.0 (steps c.slice-2.result.now c.slice-2.ensures (c.has_steps.ensures.0 yes)),
      λ grow. c.has_steps.ensures.1 (subst (HasSteps plain words) (sym c.slice-2.ensures) (told.1 grow)),
    )
