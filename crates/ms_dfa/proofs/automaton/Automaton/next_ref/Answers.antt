use Rattle.ms_dfa.proofs.States.{state_in, next_is_followed}
use Rattle.ms_dfa.proofs.automaton.Automaton.next_ref.Goals as goal

pub returns-clause-followed : goal.returns-clause-followed
returns-clause-followed c =
    next_is_followed _ _ c.self.view_is c.self.invariant.closed c.args.state c.get.result.now (state_in c.self.inside.states c.args.state c.get.result.now c.get.ensures)
