use Rattle.std.proofs.Common.{◌<◌, ℕ, length, subst, sym, ◌∙◌}
use Rattle.ms_dfa.proofs.States.{state_in, next_is_followed, next_state_at}
use Rattle.ms_dfa.proofs.automaton.Automaton.step.Goals as goal

pub follow-requires-clause-root : goal.follow-requires-clause-root
follow-requires-clause-root c =
    next_is_followed _ _ c.self.view_is c.self.invariant.closed c.args.state c.get.result.now (state_in c.self.inside.states c.args.state c.get.result.now c.get.ensures)

pub returns-clause-state : goal.returns-clause-state
returns-clause-state c =
    c.follow.ensures
    ∙ next_state_at _ _ c.self.view_is c.args.state c.get.result.now c.args.letter.now (state_in c.self.inside.states c.args.state c.get.result.now c.get.ensures)

pub returns-clause-within : goal.returns-clause-within
returns-clause-within c =
    let followed = next_is_followed _ _ c.self.view_is c.self.invariant.closed c.args.state c.get.result.now (state_in c.self.inside.states c.args.state c.get.result.now c.get.ensures) in
    subst (λ (n : ℕ). n < length c.args.self.now.states) (sym c.follow.ensures) (followed.states _)
