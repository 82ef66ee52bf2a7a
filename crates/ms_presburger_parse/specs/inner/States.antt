-- The states of the machine that the code's states stand for, and when the code takes the machine's steps.
use Rattle.std.specs.Prelude.{◌≡◌, ◌≤◌, List, map, Option, Some, None, Result, IfSome}
use Rattle.ms_presburger.specs.Tree.{Arithmetic, depth}
use Rattle.ms_presburger.specs.View.{arithmetic_of}
use Rattle.ms_presburger.specs.declared.linear.Linear.{Linear}
use Rattle.ms_presburger_parse.specs.declared.frame.LinearArithmetic.{LinearArithmetic}
use Rattle.ms_presburger_parse.specs.contracts.frame.LinearArithmeticGrammar.TheImpl.{ghosts}
use Rattle.ms_presburger_parse.specs.declared.operator.Binary.{Binary}
use Rattle.ms_presburger_parse.specs.declared.operator.Prefix.{Prefix}
use Rattle.ms_parse_stack.specs.declared.operand.Operand as operands
use Rattle.ms_parse_stack.specs.inner.Opened as opened
use Rattle.ms_presburger_parse.specs.declared.place.Place.{Place}
use Rattle.ms_presburger_parse.specs.declared.place.Place.TheVariants as places
use Rattle.ms_presburger_parse.specs.declared.place.Side.{Side}
use Rattle.ms_presburger_parse.specs.declared.place.Side.TheVariants as sides
use Rattle.ms_presburger_parse.specs.declared.state.Outcome.{Outcome}
use Rattle.ms_presburger_parse.specs.declared.state.Outcome.TheVariants as outcomes
use Rattle.ms_parse_stack.specs.declared.begun.Begun as stacks
use Rattle.ms_parse_stack.specs.declared.stop.Stop.{Stop}
use Rattle.ms_parse_stack.specs.inner.States as states
use Rattle.ms_parse_stack.specs.inner.Stopped.{Gives}
use Rattle.ms_presburger_parse.specs.inner.Machine as machines
use Rattle.ms_presburger_parse.specs.inner.Machine.{shortest}
use Rattle.ms_parse_stack.specs.inner.Machine.{within, done}

-- a frame of the code
abbrev pub Frame : Type 0
Frame = states.CodeFrame ghosts

-- a formula that the code has read, with its depth
abbrev pub Operand : Type 0
Operand = operands.Operand LinearArithmetic Linear Prefix Binary ghosts

-- the frame that one of the code's stands for
abbrev pub frame_of : Frame → machines.Frame
frame_of frame = opened.frame_of arithmetic_of frame

-- the stack that the code's frames stand for
abbrev pub stack_of : List Frame → List machines.Frame
stack_of fs = map frame_of fs

-- what the code has begun, with the depth that it keeps
abbrev pub Begun : Type 0
Begun = stacks.Begun Frame

-- the sum of a comparison in which the code's side stands
abbrev pub side_of : Side → machines.Side
side_of sides.Left = machines.on_left
side_of (sides.Right r left) = machines.on_right r left

-- the place that the code's place stands for
abbrev pub place_of : Place → machines.Place
place_of places.Wanted = machines.wanted
place_of (places.Naming q xs) = machines.naming q xs
place_of (places.Named q xs) = machines.named q xs
place_of (places.Adding side parts) = machines.adding (side_of side) parts
place_of (places.Added side before last) = machines.added (side_of side) before last
place_of (places.Holding operand) = machines.holding (arithmetic_of operand.formula)

-- the state with this stack, by what has been read last
abbrev pub state_with : List machines.Frame → Outcome → machines.State
state_with fs (outcomes.Within place) = within fs (place_of place)
state_with fs (outcomes.Done operand) = done (arithmetic_of operand.formula)

-- the state that the code stands in
abbrev pub state_of : Begun → Outcome → machines.State
state_of begun outcome = state_with (stack_of begun.frames) outcome

-- what is kept as the depth is that of the shortest formula that begins so, which is not too deep
abbrev pub IsMeasured : Begun → Outcome → Type 0
IsMeasured begun outcome = states.IsMeasured ghosts begun (shortest (state_of begun outcome))

-- the code is in this state, or has stopped before it
abbrev pub ComesTo : machines.State → Begun → Result Outcome Stop → Type 0
ComesTo s begun result = states.Comes ghosts state_of s begun result

-- the place that a symbol leads to within the innermost formula
abbrev pub MovesTo : Option machines.Place → Result Place Stop → Type 0
MovesTo next result = Gives (λ (place : Place). next ≡ Some (place_of place)) (next ≡ None) ⊥ result

-- the formula that has been read, if it may end here
abbrev pub HasOperand : Option Arithmetic → Result Operand Stop → Type 0
HasOperand held result = Gives (λ (made : Operand). held ≡ Some (arithmetic_of made.formula)) (held ≡ None) ⊥ result

-- what a symbol does to the depth of the shortest formula that goes on

-- it becomes 2, and was no more
abbrev pub BecomesTwo : (machines.Place → Option machines.Place) → Type 0
BecomesTwo move = (p : machines.Place) → IfSome (move p) (λ q. (depth (machines.completed p) ≤ 2) × (depth (machines.completed q) ≡ 2))

-- it stays as it was
abbrev pub KeepsDepth : (machines.Place → Option machines.Place) → Type 0
KeepsDepth move = (p : machines.Place) → IfSome (move p) (λ q. depth (machines.completed q) ≡ depth (machines.completed p))
