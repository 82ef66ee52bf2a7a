use Rattle.ms_dfafile_adopt.proofs.OpenLemmas.{IsAutomaton-same_states}
use Rattle.ms_dfafile_adopt.proofs.in_mode.as_ws1s.Goals as goal

pub with_states-requires : goal.with_states-requires
with_states-requires c = IsAutomaton-same_states c.args.a.now c.states.ensures.automaton c.requires.mode c.in_ok-states.states c.in_ok-states.ensures c.requires.none
