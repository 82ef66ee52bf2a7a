-- The states of the machine that the code's states stand for, and when the code takes the machine's steps.
use Rattle.std.specs.Prelude.{Result}
use Rattle.ms_ltlf.specs.View.{temporal_of}
use Rattle.ms_ltlf.specs.declared.trace.Ltl.{Ltl}
use Rattle.ms_ltlf_parse.specs.declared.operator.Binary.{Binary}
use Rattle.ms_ltlf_parse.specs.declared.operator.Prefix.{Prefix}
use Rattle.ms_ltlf_parse.specs.declared.frame.TemporalLogic.{TemporalLogic}
use Rattle.ms_ltlf_parse.specs.contracts.frame.TemporalLogicGrammar.TheImpl.{ghosts}
use Rattle.ms_parse_stack.specs.declared.begun.Begun as stacks
use Rattle.ms_parse_stack.specs.declared.outcome.Outcome as outcomes
use Rattle.ms_parse_stack.specs.declared.stop.Stop.{Stop}
use Rattle.ms_parse_stack.specs.inner.Opened as opened
use Rattle.ms_parse_stack.specs.inner.States as states
use Rattle.ms_ltlf_parse.specs.inner.Machine as machines
use Rattle.ms_ltlf_parse.specs.inner.Machine.{shortest}

-- a frame of the code
abbrev pub Frame : Type 0
Frame = states.CodeFrame ghosts

-- the frame that one of the code's stands for
abbrev pub frame_of : Frame → machines.Frame
frame_of frame = opened.frame_of temporal_of frame

-- what the code has begun, with the depth that it keeps
abbrev pub Begun : Type 0
Begun = stacks.Begun Frame

-- what the code has read last
abbrev pub Outcome : Type 0
Outcome = outcomes.Outcome TemporalLogic Ltl Prefix Binary ghosts

-- the state that the code stands in
abbrev pub state_of : Begun → Outcome → machines.State
state_of begun outcome = states.state_of ghosts begun outcome

-- what is kept as the depth is that of the shortest formula that begins so, which is not too deep
abbrev pub IsMeasured : Begun → Outcome → Type 0
IsMeasured begun outcome = states.IsMeasured ghosts begun (shortest (state_of begun outcome))

-- the code is in this state, or has stopped before it
abbrev pub ComesTo : machines.State → Begun → Result Outcome Stop → Type 0
ComesTo s begun result = states.ComesTo ghosts s begun result
