use Rattle.std.proofs.Common.{◌++◌, ◌∷◌, [], List, ℕ, ap, sym, ◌∙◌}
use Rattle.ms_cert.proofs.ListLemmas.{numbers-more}
use Rattle.ms_cert.proofs.separation.all_states.Goals as goal

pub loop-state-preserved : goal.loop-state-preserved
loop-state-preserved c = c.in_ok-push.ensures.ok ∙ ap (λ (states : List ℕ). states ++ c.loop-state.state ∷ []) c.loop-state.invariant ∙ sym (numbers-more c.loop-state.state)
