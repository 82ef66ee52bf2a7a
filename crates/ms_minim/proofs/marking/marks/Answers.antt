use Rattle.std.proofs.Common.{◌<◌, List, length, ◌+◌, refl, sym, subst, arith}
use Rattle.ms_arena.specs.declared.node.Ref.{Ref}
use Rattle.ms_arena.specs.Diagram.{IsBefore}
use Rattle.ms_arena.proofs.Appending.{Extends-same}
use Rattle.ms_logic_words.specs.Content.{is_in_letters}
use Rattle.ms_minim.specs.inner.Marks.{MarksSoFar}
use Rattle.ms_minim.specs.inner.Partition.{IsRoot}
use Rattle.ms_minim.proofs.ImageLemmas.{IsImage-read, Meets-read, root_before}
use Rattle.ms_minim.proofs.MarkLemmas.{MarksSoFar-more, AreMarks-all}
use Rattle.ms_minim.proofs.OriginLemmas.{seen_next}
use Rattle.ms_minim.proofs.marking.marks.Goals as goal

pub image-reference-requires : goal.image-reference-requires
image-reference-requires c =
    let content = c.args.automaton.now in
    let within : c.loop-state.state < length content.states = let less = c.loop-state-test.true in let states = c.states-state-end.ensures.states in omega (arith, less, states) in
    root_before content c.args.classes.now c.args.origins.now c.args.images.now c.requires.images c.next_ref-root.result (is_in_letters, c.next_ref-root.ensures.followed)
    (seen_next content c.args.origins.now c.requires.origins c.loop-state.state within c.next_ref-root.result c.next_ref-root.ensures.next)

pub loop-state-preserved : goal.loop-state-preserved
loop-state-preserved c =
    let content = c.args.automaton.now in
    let classes = c.args.classes.now in
    let images = c.args.images.now in
    let nodes = images.store.nodes in
    let limit = images.store.limit in
    let root = c.next_ref-root.result in
    let within : c.loop-state.state < length content.states = let less = c.loop-state-test.true in let states = c.states-state-end.ensures.states in omega (arith, less, states) in
    let is : IsRoot content root = (is_in_letters, c.next_ref-root.ensures.followed) in
    let seen = seen_next content c.args.origins.now c.requires.origins c.loop-state.state within root c.next_ref-root.ensures.next in
    let image = IsImage-read content classes c.args.origins.now images c.requires.images root is seen images.list classes c.image-reference.result refl refl c.image-reference.ensures in
    let meets = Meets-read content classes c.args.origins.now images c.requires.images root is seen c.requires.classes images.list classes c.image-reference.result refl refl c.image-reference.ensures in
    subst (λ made. MarksSoFar nodes limit c.mark.new.known content classes made (c.loop-state.state + 1)) (sym c.in_ok-push.ensures.ok)
    (MarksSoFar-more nodes limit c.loop-state.known content classes c.loop-state.made c.loop-state.state c.loop-state.invariant nodes limit (Extends-same nodes) c.requires.images.store
    root c.image-reference.result image.valid meets within
    c.next_ref-root.ensures.next c.mark.new.known c.in_ok-found.found c.in_ok-found.ensures.extends c.in_ok-found.ensures.numbering c.in_ok-found.ensures.number)

pub returns : goal.returns
returns c = AreMarks-all c.args.images.now.store.nodes c.args.images.now.store.limit c.loop-state.known c.args.automaton.now c.args.classes.now c.loop-state.made c.loop-state.state c.loop-state.invariant
    (let past = c.loop-state-test.false in let at_most = c.loop-state.auto.state-end in let states = c.states-state-end.ensures.states in omega (arith, past, at_most, states))
