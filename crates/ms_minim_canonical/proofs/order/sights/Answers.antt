use Rattle.std.proofs.Common.{◌≡◌, ◌<◌, length, slice_get, slice_index_or, Some, sym, ap, ◌∙◌, arith}
use Rattle.std.proofs.lemmas.Option.{slice_get-get_or}
use Rattle.ms_arena.specs.declared.node.Ref.TheVariants.{Leaf}
use Rattle.ms_dfa.specs.declared.state.State.{State}
use Rattle.ms_logic_words.specs.declared.sign.Sign.TheVariants.{Yes}
use Rattle.ms_minim_canonical.proofs.WalkOverLemmas.{AreSights-more, AreSights-none}
use Rattle.ms_minim_canonical.proofs.order.sights.Goals as goal

pub loop-done-init : goal.loop-done-init
loop-done-init c =
    let now = c.in_ok-walk.ensures in
    AreSights-none c.args.store.now.nodes c.len.ensures.store.ordered c.args.start c.args.states.now c.requires.start c.new.result.keys c.new-2.result.keys
    c.walk.new.seen.states.keys c.walk.new.seen.places.keys c.new.ensures.empty c.new-2.ensures.empty now.states now.places now.known

-- the state that is next, and how many there are
abbrev state_none : State
state_none = record { sign = Yes; next = Leaf 0 }

pub bounds-states-state : goal.bounds-states-state
bounds-states-state c =
    let keys = c.as_slice.ensures.keys in
    let less = c.loop-done-test.true in
    let len = c.len-in-loop-done.ensures.len in
    let within : c.loop-done.done < length c.as_slice.result.now = (let long = ap length keys in omega (arith, less, len, long)) in
    c.loop-done.invariant.below c.loop-done.done (slice_index_or c.as_slice.result.now c.loop-done.done 0)
    (ap (λ list. slice_get list c.loop-done.done) (sym keys) ∙ slice_get-get_or c.as_slice.result.now c.loop-done.done 0 within)

pub walk-requires-in-loop-done-clause-valid : goal.walk-requires-in-loop-done-clause-valid
walk-requires-in-loop-done-clause-valid c =
    let keys = c.as_slice.ensures.keys in
    let less = c.loop-done-test.true in
    let len = c.len-in-loop-done.ensures.len in
    let within : c.loop-done.done < length c.as_slice.result.now = (let long = ap length keys in omega (arith, less, len, long)) in
    let n = slice_index_or c.as_slice.result.now c.loop-done.done 0 in
    let there : slice_get c.loop-done.seen.states.keys c.loop-done.done ≡ Some n
    = ap (λ list. slice_get list c.loop-done.done) (sym keys) ∙ slice_get-get_or c.as_slice.result.now c.loop-done.done 0 within in
    let below = c.loop-done.invariant.below c.loop-done.done n there in
    (c.requires.next n (slice_index_or c.args.states.now n state_none) (slice_get-get_or c.args.states.now n state_none below)).valid

pub loop-done-preserved : goal.loop-done-preserved
loop-done-preserved c =
    let keys = c.as_slice.ensures.keys in
    let less = c.loop-done-test.true in
    let len = c.len-in-loop-done.ensures.len in
    let within : c.loop-done.done < length c.as_slice.result.now = (let long = ap length keys in omega (arith, less, len, long)) in
    let n = slice_index_or c.as_slice.result.now c.loop-done.done 0 in
    let there : slice_get c.loop-done.seen.states.keys c.loop-done.done ≡ Some n
    = ap (λ list. slice_get list c.loop-done.done) (sym keys) ∙ slice_get-get_or c.as_slice.result.now c.loop-done.done 0 within in
    let below = c.loop-done.invariant.below c.loop-done.done n there in
    let state = slice_index_or c.args.states.now n state_none in
    let held = slice_get-get_or c.args.states.now n state_none below in
    let now = c.in_ok-walk-2.ensures in
    AreSights-more c.args.store.now.nodes c.len.ensures.store.ordered c.args.start c.args.states.now c.loop-done.seen.states.keys c.loop-done.seen.places.keys c.loop-done.done c.loop-done.invariant
    n there state held
    c.walk-in-loop-done.new.seen.states.keys now.states c.walk-in-loop-done.new.seen.places.keys now.places now.known (c.requires.next n state held)
