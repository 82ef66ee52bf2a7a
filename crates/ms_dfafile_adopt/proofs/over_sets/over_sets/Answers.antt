use Rattle.std.proofs.Common.{arith, List, length, map, slice_get, refl, ap, sym, subst, ◌∙◌}
use Rattle.std.proofs.lemmas.List.{length-map}
use Rattle.ms_arena.specs.declared.node.Node.{Node}
use Rattle.ms_arena.specs.declared.node.Ref.{Ref}
use Rattle.ms_arena.specs.Diagram.{IsBefore}
use Rattle.ms_dfa.specs.Files.{file_states_of}
use Rattle.ms_dfa.specs.Automaton.{IsAutomaton}
use Rattle.ms_dfa.specs.declared.plain.FileSign.{FileSign}
use Rattle.ms_dfa.specs.declared.plain.FileState.{FileState}
use Rattle.ms_logic_words.specs.Content.{StateOf}
use Rattle.ms_dfafile_adopt.specs.Short.{IsFileOverSets}
use Rattle.ms_logic.specs.declared.mode.Mode.TheVariants.{M2lStr}
use Rattle.ms_product.proofs.ChangeLemmas.{content_is}
use Rattle.ms_rename.specs.inner.Image.{image_of}
use Rattle.ms_dfafile_adopt.specs.inner.Images.{HaveBecome, own_state}
use Rattle.ms_dfafile_adopt.specs.Readings.{own_variables}
use Rattle.ms_dfafile_adopt.specs.Sets.{as_sets}
use Rattle.ms_dfafile_adopt.proofs.OverSetsLemmas.{IsAutomaton-said, IsOverSets-made, said_over, states_before}
use Rattle.ms_dfafile_adopt.proofs.over_sets.over_sets.Goals as goal

pub own_states-requires : goal.own_states-requires
own_states-requires c i state held =
    let plain = c.args.plain.now in
    subst (λ (images : List Ref). IsBefore (length images) state.next) (sym c.slice-3.ensures)
    (states_before plain c.requires.file.content c.in-Ok.images (c.in-Ok.ensures.long ∙ ap length c.slice.ensures) i state
    (ap (λ (states : List FileState). slice_get states i) (sym c.slice-2.ensures) ∙ held))

pub make-requires : goal.make-requires
make-requires c =
    let plain = c.args.plain.now in
    let rules = c.requires.file.content in
    let nodes = c.images.new.store.nodes in
    let images = c.in-Ok.images in
    let have = subst (λ (old : List Node). HaveBecome nodes old images) c.slice.ensures c.in-Ok.ensures.images in
    let long = c.in-Ok.ensures.long ∙ ap length c.slice.ensures in
    let same = content_is nodes M2lStr c.in-Ok-set_tracks.sets c.image-start.result c.in-Ok-own_states.states (said_over plain rules nodes images have long (as_sets (own_variables plain))) refl refl
    (c.in-Ok-set_tracks.ensures ∙ ap as_sets c.requires.tracks) (c.image-start.ensures ∙ ap (λ (list : List Ref). image_of list plain.start) c.slice-4.ensures)
    (c.in-Ok-own_states.ensures ∙ (λ i. map (own_state (c.slice-3.ensures i)) (file_states_of (c.slice-2.ensures i)))) in
    subst IsAutomaton (sym same) (IsAutomaton-said plain rules nodes images have long c.len.ensures.store.ordered c.len.ensures.store.reduced c.requires.file.few_states)

pub returns-clause-said : goal.returns-clause-said
returns-clause-said c =
    let plain = c.args.plain.now in
    let rules = c.requires.file.content in
    let nodes = c.images.new.store.nodes in
    let images = c.in-Ok.images in
    let have = subst (λ (old : List Node). HaveBecome nodes old images) c.slice.ensures c.in-Ok.ensures.images in
    let long = c.in-Ok.ensures.long ∙ ap length c.slice.ensures in
    let same = content_is nodes M2lStr c.in-Ok-set_tracks.sets c.image-start.result c.in-Ok-own_states.states (said_over plain rules nodes images have long (as_sets (own_variables plain))) refl refl
    (c.in-Ok-set_tracks.ensures ∙ ap as_sets c.requires.tracks) (c.image-start.ensures ∙ ap (λ (list : List Ref). image_of list plain.start) c.slice-4.ensures)
    (c.in-Ok-own_states.ensures ∙ (λ i. map (own_state (c.slice-3.ensures i)) (file_states_of (c.slice-2.ensures i)))) in
    subst (IsFileOverSets plain) (sym (c.make.ensures ∙ same)) (record {
      automaton = IsAutomaton-said plain rules nodes images have long c.len.ensures.store.ordered c.len.ensures.store.reduced c.requires.file.few_states;
      is = IsOverSets-made plain rules nodes images have long;
      states = length-map (file_states_of plain.states) (own_state images) ∙ length-map {B = StateOf FileSign} plain.states (λ state. record { sign = state.sign; next = state.next });
      nodes = (let few = c.in-Ok.ensures.few in let all = ap length c.slice.ensures in omega (arith, few, all));
    })
