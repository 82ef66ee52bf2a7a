use Rattle.std.proofs.Common.{◌≡◌, ◌<◌, length, slice_get, slice_index_or, Some, sym, ap, ◌∙◌}
use Rattle.std.proofs.lemmas.Option.{slice_get-get_or}
use Rattle.ms_arena.specs.declared.node.Ref.TheVariants.{Leaf}
use Rattle.ms_dfa.specs.declared.state.State.{State}
use Rattle.ms_logic_words.specs.declared.sign.Sign.TheVariants.{Yes}
use Rattle.ms_minim_canonical.specs.inner.Renumbering.{IsStateOf}
use Rattle.ms_minim_canonical.proofs.Paired.{paired-one}
use Rattle.ms_minim_canonical.proofs.renumber.renamed_states.Goals as goal

pub loop-number-preserved : goal.loop-number-preserved
loop-number-preserved c =
    let keys = c.as_slice-number-items.ensures.keys in
    let index = c.loop-number.number-index in
    let n = slice_index_or c.as_slice-number-items.result.now index 0 in
    let none : State = record { sign = Yes; next = Leaf 0 } in
    let state = slice_index_or c.args.states.now n none in
    let there : slice_get c.args.seen.now.states.keys index ≡ Some n
    = ap (λ list. slice_get list index) (sym keys) ∙ slice_get-get_or c.as_slice-number-items.result.now index 0 c.loop-number-test.true in
    let below : n < length c.args.states.now = c.requires index n there in
    paired-one (IsStateOf c.args.version c.args.states.now c.args.seen.now.states.keys c.args.seen.now.places.keys) c.args.seen.now.states.keys c.as_slice-number-items.result.now index
    c.loop-number.made c.push.new.list (record { sign = c.file_sign-sign.result; next = c.in_ok-next.next }) keys c.loop-number-test.true c.loop-number.invariant
    (state, slice_get-get_or c.args.states.now n none below, c.file_sign-sign.ensures, c.in_ok-next.ensures) c.in_ok-push.ensures.ok
