-- The states of the machine that the code's states stand for, and when the code takes the machine's steps.
use Rattle.std.specs.Prelude.{◌≡◌, ◌<◌, ◌≤◌, List, map, Result}
use Rattle.ms_parse_stack.specs.declared.begun.Begun.{Begun}
use Rattle.ms_parse_stack.specs.declared.frame.Frame as code
use Rattle.ms_parse_stack.specs.declared.grammar.Grammar.{Ghosts}
use Rattle.ms_parse_stack.specs.declared.operand.Operand.{Operand}
use Rattle.ms_parse_stack.specs.declared.outcome.Outcome.{Outcome}
use Rattle.ms_parse_stack.specs.declared.outcome.Outcome.TheVariants as outcomes
use Rattle.ms_parse_stack.specs.declared.stop.Stop.{Stop}
use Rattle.ms_parse_stack.specs.inner.Frames.{Frame}
use Rattle.ms_parse_stack.specs.inner.Machine.{State, within, done, stopped, GoesOn, plugged, shortest}
use Rattle.ms_parse_stack.specs.inner.Opened.{frame_of}
use Rattle.ms_parse_stack.specs.inner.Stopped.{Gives}

module _ {Grammar Tree Prefix Binary : Type 0} (g : Ghosts Grammar Tree Prefix Binary) where
  -- a frame of the code
  abbrev pub CodeFrame : Type 0
  CodeFrame = code.Frame Grammar Tree Prefix Binary g

  -- a state of the machine
  abbrev pub Standing : Type 0
  Standing = State Prefix Binary g.Place g.Tree

  -- the stack that the code's frames stand for
  abbrev pub stack_of : List CodeFrame → List (Frame Prefix Binary g.Tree)
  stack_of frames = map (frame_of g.tree_of) frames

  -- the state with this stack, by what has been read last
  abbrev pub state_with : List (Frame Prefix Binary g.Tree) → Outcome Grammar Tree Prefix Binary g → Standing
  state_with frames outcomes.Wanted = within frames g.machine.wanted
  state_with frames (outcomes.Holding operand) = within frames (g.machine.holding (g.tree_of operand.formula))
  state_with frames (outcomes.Done operand) = done (g.tree_of operand.formula)

  -- the state that the code stands in
  abbrev pub state_of : Begun CodeFrame → Outcome Grammar Tree Prefix Binary g → Standing
  state_of begun outcome = state_with (stack_of begun.frames) outcome

  -- the stack, and the formula of an operand that stands on it
  abbrev pub held_of : Begun CodeFrame → Operand Grammar Tree Prefix Binary g → List (Frame Prefix Binary g.Tree) × g.Tree
  held_of begun operand = (stack_of begun.frames, g.tree_of operand.formula)

  -- what is kept as the depth is that of this formula, which is not too deep
  pub record IsMeasured (begun : Begun CodeFrame) (whole : g.Tree) : Type 0 where
    pub measured : begun.deepest ≡ g.depth whole
    pub shallow : begun.deepest ≤ 300

  -- the same of the whole that the stack becomes with an operand
  abbrev pub IsMeasuredWith : Begun CodeFrame → Operand Grammar Tree Prefix Binary g → Type 0
  IsMeasuredWith begun operand = IsMeasured begun (plugged g.machine (stack_of begun.frames) (g.tree_of operand.formula))

  -- the code is in this state, by the states that its outcomes stand for, or has stopped before it
  abbrev pub Comes : {Code : Type 0} → (Begun CodeFrame → Code → Standing) → Standing → Begun CodeFrame → Result Code Stop → Type 0
  Comes {Code} state s begun result = Gives (λ (outcome : Code). (s ≡ state begun outcome) × IsMeasured begun (shortest g.machine (state begun outcome))) (s ≡ stopped) (GoesOn s × (300 < g.depth (shortest g.machine s))) result

  -- so for a step of this crate, by what has been read last
  abbrev pub ComesTo : Standing → Begun CodeFrame → Result (Outcome Grammar Tree Prefix Binary g) Stop → Type 0
  ComesTo s begun result = Comes state_of s begun result
