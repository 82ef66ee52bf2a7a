-- The stack that the code keeps, whose top is its last entry.
use Rattle.std.specs.Prelude.{◌≡◌, ◌<◌, ℕ, List, [], ◌∷◌, Option, Some, None, Result}
use Rattle.std.specs.Prelude.{Ok, Err}
use Rattle.ms_parse_steps.specs.declared.frame.Frame.{Frame}
use Rattle.ms_parse_steps.specs.declared.operand.Operand.{Operand}
use Rattle.ms_parse_steps.specs.declared.stop.Stop.{Stop}
use Rattle.ms_parse_steps.specs.declared.stop.Stop.TheVariants.{Memory, Refused, TooDeep}
use Rattle.ms_parse_grammar.specs.Grammar.{depth}
use Rattle.ms_parse_steps.specs.inner.Machine as machine
use Rattle.ms_parse_steps.specs.inner.Frames.{frame_of}
use Rattle.ms_parse_grammar.specs.Tree.{Expression}
use Rattle.ms_parse_grammar.specs.View.{expression_of}

abbrev pub stack_on : List machine.Frame → List Frame → List machine.Frame
stack_on below [] = below
stack_on below (f ∷ fs) = stack_on (frame_of f ∷ below) fs

abbrev pub stack_of : List Frame → List machine.Frame
stack_of frames = stack_on [] frames

-- a refusal at the token with this number comes where the expression is too deep
abbrev pub IsTooDeep : Expression → ℕ → Stop → Type 0
IsTooDeep e i Memory = Unit {0}
IsTooDeep e i (Refused j) = ⊥
IsTooDeep e i (TooDeep j) = (300 < depth e) × (j ≡ i)

-- what `collapse` gives before the token with this number, with the stack that it leaves
abbrev pub CollapsesTo : Option machine.Top → ℕ → Result Operand Stop → List Frame → Type 0
CollapsesTo top i (Ok made) frames = top ≡ Some (expression_of made.expr, stack_of frames)
CollapsesTo top i (Err Memory) frames = Unit {0}
CollapsesTo top i (Err (Refused j)) frames = ⊥
CollapsesTo top i (Err (TooDeep j)) frames = (top ≡ None) × (j ≡ i)
