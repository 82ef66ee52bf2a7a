use Rattle.ms_dfafile_adopt.proofs.OpenLemmas.{IsAutomaton-changed, TellsChanges-made, changed, tells_by}
use Rattle.ms_dfafile_adopt.proofs.changes.changes.Goals as goal

pub with_states-requires : goal.with_states-requires
with_states-requires c = IsAutomaton-changed c.args.a.now c.states.ensures.automaton c.requires c.in_ok-states.states c.in_ok-states.ensures

pub returns : goal.returns
returns c =
    let a = c.args.a.now in
    let states = c.in_ok-states.states in
    tells_by a (changed a c.states.ensures.automaton c.requires states c.in_ok-states.ensures) (TellsChanges-made a c.states.ensures.automaton c.requires states c.in_ok-states.ensures) c.with_states.result
    c.with_states.ensures
