use Rattle.std.proofs.Common.{◌+◌, ◌∷◌, [], length, ap, sym, subst, ◌∙◌, length-append}
use Rattle.ms_logic_words.specs.Content.{next_state, sign_at}
use Rattle.ms_dfafile_adopt.specs.inner.Open.{ChangesEach}
use Rattle.ms_dfafile_adopt.proofs.OpenLemmas.{ChangesEach-more}
use Rattle.ms_dfafile_adopt.proofs.changes.changed_states.Goals as goal

pub loop-state-preserved : goal.loop-state-preserved
loop-state-preserved c =
    let a = c.args.a.now in
    let place = c.loop-state.state in
    let was = c.loop-state.invariant in
    let pushed = c.in_ok-push.ensures.ok in
    let behind = ap (sign_at a) (ap (next_state a place) (sym c.requires) ∙ sym c.step-behind.ensures.state) ∙ c.sign-in-loop-state.ensures in (
      ap length pushed ∙ length-append c.loop-state.made (record { sign = c.change_sign-sign.result; next = c.next_ref-next.result } ∷ []) ∙ ap (λ n. n + 1) was.0,
      subst (ChangesEach a) (sym pushed)
          (ChangesEach-more a c.loop-state.made place c.sign.result c.sign-in-loop-state.result c.change_sign-sign.result c.next_ref-next.result was.1 was.0 c.sign.ensures c.next_ref-next.ensures.next
          behind c.change_sign-sign.ensures),
    )
