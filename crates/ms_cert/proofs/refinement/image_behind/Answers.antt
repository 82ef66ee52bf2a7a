use Rattle.std.proofs.Common.{ℕ, List, length, sym, ap, subst, ◌∙◌}
use Rattle.std.proofs.lemmas.Option.{same_Some}
use Rattle.ms_arena.specs.Diagram.{IsBefore}
use Rattle.ms_arena.specs.declared.node.Ref.{Ref}
use Rattle.ms_dfa.specs.Files.{content_of_file}
use Rattle.ms_dfa.specs.declared.plain.FileState.{FileState}
use Rattle.ms_dfafile_outside.proofs.ContentLemmas.{valid-part}
use Rattle.ms_dfafile_outside.proofs.FileLemmas.{state-at, state_of}
use Rattle.ms_cert.specs.inner.Images.{IsImage, image_of}
use Rattle.ms_cert.proofs.ImageLemmas.{image-read}
use Rattle.ms_cert.proofs.refinement.image_behind.Goals as goal

pub image-requires : goal.image-requires
image-requires c =
    let plain = c.args.round.now.file.now.plain.now in
    let state = c.get.result.now in
    subst (λ (n : ℕ). IsBefore n state.next) (sym (ap length c.slice.ensures ∙ c.requires.images.long))
    (valid-part (content_of_file plain) state.next (c.requires.content.next_named c.args.state (state_of state) (state-at plain c.args.state state c.get.ensures)))

pub returns : goal.returns
returns c = λ own held.
    let plain = c.args.round.now.file.now.plain.now in
    let classes = c.args.round.now.classes.now in
    let images = c.args.round.now.images.now in
    let state = c.get.result.now in
    let valid = valid-part (content_of_file plain) state.next (c.requires.content.next_named c.args.state (state_of state) (state-at plain c.args.state state c.get.ensures)) in
    subst (λ (s : FileState). IsImage images.store.nodes plain.nodes classes s.next c.image.result) (same_Some state own (sym c.get.ensures ∙ held))
    (image-read images.store.nodes plain.nodes classes images.list state.next c.image.result c.requires.images.each
    (subst (λ (n : ℕ). IsBefore n state.next) (sym c.requires.images.long) valid)
    (c.image.ensures ∙ ap (λ (l : List Ref). image_of l classes state.next) c.slice.ensures))
