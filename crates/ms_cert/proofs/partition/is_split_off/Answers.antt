use Rattle.std.proofs.Common.{◌≡◌, Option, Some, false, sym, ap, ◌∙◌, arith}
use Rattle.std.specs.Option.{option_map_or}
use Rattle.std.proofs.lemmas.List.{get_or_read}
use Rattle.std.proofs.lemmas.Option.{slice_get_within}
use Rattle.ms_dfa.specs.Files.{content_of_file}
use Rattle.ms_dfa.specs.declared.plain.FileSign.{FileSign}
use Rattle.ms_logic_words.specs.Content.{sign_at, state_after}
use Rattle.ms_cert.specs.Certificate.{is_sign}
use Rattle.ms_cert.specs.inner.Partition.{HasTail, classes_of}
use Rattle.ms_cert.proofs.ContentLemmas.{sign-at}
use Rattle.ms_cert.proofs.TellingLemmas.{tail-tells-read}
use Rattle.ms_cert.proofs.partition.is_split_off.Goals as goal

pub index-requires : goal.index-requires
index-requires c =
    let parts = classes_of c.args.partition.now in
    let has : HasTail parts c.args.splitter.now = c.requires.behind c.if-splitter-gt0.true in
    let within = slice_get_within parts.splitters c.args.splitter.now.tail has.tail has.there in
    let long = c.requires.partition.splitters_count in
    omega (arith, within, long, c.args.partition.now.parents.ok.0)

pub returns-then-own-splitter : goal.returns-then-own-splitter
returns-then-own-splitter c =
    let parts = classes_of c.args.partition.now in
    let has : HasTail parts c.args.splitter.now = c.requires.behind c.if-splitter-gt0.true in
    let tells = tail-tells-read (content_of_file c.args.file.now.plain.now) parts c.requires.partition c.args.splitter.now c.if-splitter-gt0.true has c.slice.result.now (c.get.ensures ∙ ap Some (sym c.slice.ensures))
    c.args.state c.class_behind-class.result c.in-Some.own c.class_behind-class.ensures.class c.as_slice.result.now c.as_slice.ensures.value c.in-Some.ensures in
    sym (tells.0 c.if-own-splitter.true)

pub returns-then-own-index : goal.returns-then-own-index
returns-then-own-index c =
    let parts = classes_of c.args.partition.now in
    let has : HasTail parts c.args.splitter.now = c.requires.behind c.if-splitter-gt0.true in
    let tells = tail-tells-read (content_of_file c.args.file.now.plain.now) parts c.requires.partition c.args.splitter.now c.if-splitter-gt0.true has c.slice.result.now (c.get.ensures ∙ ap Some (sym c.slice.ensures))
    c.args.state c.class_behind-class.result c.in-Some.own c.class_behind-class.ensures.class c.as_slice.result.now c.as_slice.ensures.value c.in-Some.ensures in
    let within = slice_get_within parts.splitters c.args.splitter.now.tail has.tail has.there in
    let long = c.requires.partition.splitters_count in
    let parent = get_or_read parts.parents c.args.splitter.now.tail c.index.result.now (omega (arith, within, long)) c.index.ensures 0 in
    sym (tells.1 (c.if-own-index.true ∙ parent))

pub returns : goal.returns
returns c =
    let plain = c.args.file.now.plain.now in
    let content = content_of_file plain in
    let splitter = c.args.splitter.now in
    let last = c.state_after-last.result in
    let after : last ≡ state_after content c.args.state splitter.letters = c.state_after-last.ensures.after ∙ ap (state_after content c.args.state) c.slice-2.ensures in
    c.is_same.ensures
    ∙ sym (ap (λ (found : Option FileSign). option_map_or (λ s. is_sign s splitter.sign) found false) (ap (sign_at content) (sym after) ∙ sign-at plain last c.get-2.result.now c.get-2.ensures))
