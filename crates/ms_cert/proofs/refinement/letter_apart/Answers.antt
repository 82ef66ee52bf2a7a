use Rattle.std.proofs.Common.{◌≡◌, Bool, true, false, List, length, sym, ap, subst, ◌∙◌}
use Rattle.ms_arena.specs.Diagram.{leaf_of}
use Rattle.ms_arena.proofs.Lists.{slice_get-held}
use Rattle.ms_dfa.proofs.GatheredLemmas.{length-gathered}
use Rattle.ms_dfa.specs.Files.{content_of_file}
use Rattle.ms_logic_words.specs.Content.{bits_at, is_in_letters}
use Rattle.ms_dfafile_outside.proofs.FileLemmas.{state-at, state_of}
use Rattle.ms_cert.specs.inner.Difference.{TestBelow}
use Rattle.ms_cert.specs.inner.Refinement.{LeadsApart}
use Rattle.ms_cert.proofs.RefinementLemmas.{image-letter, together-images}
use Rattle.ms_cert.proofs.refinement.letter_apart.Goals as goal

pub same-requires-clause-valid_left : goal.same-requires-clause-valid_left
same-requires-clause-valid_left c = let held = slice_get-held c.args.round.now.file.now.plain.now.states c.args.one c.requires.one in (c.image_behind-one_image.ensures held.0 held.1).valid

pub same-requires-clause-valid_right : goal.same-requires-clause-valid_right
same-requires-clause-valid_right c = let held = slice_get-held c.args.round.now.file.now.plain.now.states c.args.other c.requires.other in (c.image_behind-other_image.ensures held.0 held.1).valid

pub returns-then-same-clause-none : goal.returns-then-same-clause-none
returns-then-same-clause-none c =
    let plain = c.args.round.now.file.now.plain.now in
    let one = slice_get-held plain.states c.args.one c.requires.one in
    let other = slice_get-held plain.states c.args.other c.requires.other in
    together-images (content_of_file plain) c.args.round.now.classes.now c.args.round.now.images.now.store.nodes c.args.one c.args.other (state_of one.0) (state_of other.0) c.image_behind-one_image.result c.image_behind-other_image.result
    (state-at plain c.args.one one.0 one.1) (state-at plain c.args.other other.0 other.1)
    (c.image_behind-one_image.ensures one.0 one.1) (c.image_behind-other_image.ensures other.0 other.1) (c.same.ensures.equal.0 c.if-same.true)

pub bits_apart-requires : goal.bits_apart-requires
bits_apart-requires c =
    let plain = c.args.round.now.file.now.plain.now in
    let one = slice_get-held plain.states c.args.one c.requires.one in
    let other = slice_get-held plain.states c.args.other c.requires.other in
    record {
      one = (c.image_behind-one_image.ensures one.0 one.1).valid;
      other = (c.image_behind-other_image.ensures other.0 other.1).valid;
      below = subst (TestBelow c.args.round.now.images.now.store.nodes) (sym c.len-count.ensures) c.requires.images.below;
      differ = λ same. let yes = c.same.ensures.equal.1 same in let no = c.if-same.false in let clash : true ≡ false = sym yes ∙ no in cc;
    }

pub returns-clause-apart : goal.returns-clause-apart
returns-clause-apart c =
    let plain = c.args.round.now.file.now.plain.now in
    let content = content_of_file plain in
    let classes = c.args.round.now.classes.now in
    let nodes = c.args.round.now.images.now.store.nodes in
    let bits = bits_at c.as_slice.result.now in
    let one = slice_get-held plain.states c.args.one c.requires.one in
    let other = slice_get-held plain.states c.args.other c.requires.other in
    let first = image-letter content classes c.requires.content nodes c.args.one (state_of one.0) c.image_behind-one_image.result bits (state-at plain c.args.one one.0 one.1) (c.image_behind-one_image.ensures one.0 one.1) in
    let second = image-letter content classes c.requires.content nodes c.args.other (state_of other.0) c.image_behind-other_image.result bits (state-at plain c.args.other other.0 other.1) (c.image_behind-other_image.ensures other.0 other.1) in
    subst (LeadsApart content classes c.args.one c.args.other) (sym c.in_ok-letter.ensures)
    (λ same. c.in_ok-bits.ensures.apart (ap (λ (b : List Bool). leaf_of nodes c.image_behind-one_image.result (bits_at b)) (sym c.as_slice.ensures.value) ∙ sym first ∙ same ∙ second ∙ ap (λ (b : List Bool). leaf_of nodes c.image_behind-other_image.result (bits_at b)) c.as_slice.ensures.value))

pub returns-clause-long : goal.returns-clause-long
returns-clause-long c =
    let variables = (content_of_file c.args.round.now.file.now.plain.now).variables in
    ap length c.in_ok-letter.ensures ∙ length-gathered is_in_letters variables (bits_at c.as_slice.result.now) 0
