-- A machine that reads symbols from left to right. It keeps a stack of frames, the formulas that have been begun, and its place in the
-- innermost of them.
use Rattle.std.specs.Prelude.{◌≡◌, ℕ, suc, List, [], ◌∷◌, Option, Some, None, IfSome}
use Rattle.ms_parse_stack.specs.declared.junction.Junction.{Junction}
use Rattle.ms_parse_stack.specs.declared.sign.Sign.{Sign}
use Rattle.ms_parse_stack.specs.declared.sign.Sign.TheVariants as signs
use Rattle.ms_parse_stack.specs.inner.Frames.{AreDeep, Operators, Frame, in_brackets, behind_infix, filled, link, yields}
use Rattle.ms_parse_stack.specs.inner.Settled as stacks

-- where the machine stands
pub data State (Prefix Binary Place Formula : Type 0) : Type 0 where
  -- formulas have been begun
  within : (frames : List (Frame Prefix Binary Formula)) (p : Place) → State Prefix Binary Place Formula
  -- the last symbol has been read
  done : (f : Formula) → State Prefix Binary Place Formula
  -- the last symbol could not stand there
  stopped : State Prefix Binary Place Formula

-- the last symbol could stand there
abbrev pub GoesOn : {Prefix Binary Place Formula : Type 0} → State Prefix Binary Place Formula → Type 0
GoesOn (within frames p) = Unit {0}
GoesOn (done f) = Unit {0}
GoesOn stopped = ⊥

-- The operators, and the places in the innermost formula: where a formula is wanted, and where one has been read.
pub record Machine (Prefix Binary Place Formula : Type 0) : Type 0 where
  pub operators : Operators Prefix Binary Formula
  pub wanted : Place
  pub holding : Formula → Place
  -- the formula that has been read, if it may end here
  pub operand : Place → Option Formula
  -- the shortest formula that goes on so
  pub completed : Place → Formula

-- Formulas have a depth: each operator makes one that is one deeper than the deepest of its operands, where a formula is wanted the least
-- one completes it, and one that has been read completes itself.
pub record IsDepth {Prefix Binary Place Formula : Type 0} (m : Machine Prefix Binary Place Formula) (depth : Formula → ℕ) : Type 0 where
  pub operators_deep : AreDeep m.operators depth
  pub wanted_deep : depth (m.completed m.wanted) ≡ 1
  pub holding_deep : (f : Formula) → m.completed (m.holding f) ≡ f
  pub operand_deep : (p : Place) → IfSome (m.operand p) (λ f. m.completed p ≡ f)

-- what a symbol does
pub data Action (Prefix Binary Place Formula : Type 0) : Type 0 where
  -- leads on within the innermost formula
  moves : (move : Place → Option Place) → Action Prefix Binary Place Formula
  -- begins a frame
  enters : (opens : Place → Option (Frame Prefix Binary Formula)) → Action Prefix Binary Place Formula
  -- stands behind an operand
  follows : (sign : Sign Binary) → Action Prefix Binary Place Formula
  -- stands in no formula
  stops : Action Prefix Binary Place Formula

module _ {Prefix Binary Place Formula : Type 0} (m : Machine Prefix Binary Place Formula) where
  -- the formula that the whole stack becomes
  abbrev pub plugged : List (Frame Prefix Binary Formula) → Formula → Formula
  plugged frames f = stacks.plugged (filled m.operators) frames f

  -- the stack and the operand, after all frames that end there are filled
  abbrev pub settled : ℕ → List (Frame Prefix Binary Formula) → Formula → List (Frame Prefix Binary Formula) × Formula
  settled least frames f = stacks.settled (filled m.operators) (yields m.operators least) frames f

  -- the place that a symbol leads to, if it can stand there
  abbrev pub stay : List (Frame Prefix Binary Formula) → Option Place → State Prefix Binary Place Formula
  stay frames (Some p) = within frames p
  stay frames None = stopped

  -- a symbol that leads on within the innermost formula
  abbrev pub moved : (Place → Option Place) → State Prefix Binary Place Formula → State Prefix Binary Place Formula
  moved move (within frames p) = stay frames (move p)
  moved move (done f) = stopped
  moved move stopped = stopped

  -- the frame that a symbol begins, if it can stand there
  abbrev pub begin : List (Frame Prefix Binary Formula) → Option (Frame Prefix Binary Formula) → State Prefix Binary Place Formula
  begin frames (Some frame) = within (frame ∷ frames) m.wanted
  begin frames None = stopped

  -- a symbol that begins a frame
  abbrev pub entered : (Place → Option (Frame Prefix Binary Formula)) → State Prefix Binary Place Formula → State Prefix Binary Place Formula
  entered opens (within frames p) = begin frames (opens p)
  entered opens (done f) = stopped
  entered opens stopped = stopped

  -- an operator behind an operand
  abbrev pub infixed : Binary → List (Frame Prefix Binary Formula) × Formula → State Prefix Binary Place Formula
  infixed op (frames, f) = within (behind_infix op f ∷ frames) m.wanted

  -- an operator of a list behind an operand
  abbrev pub linked : Junction → List (Frame Prefix Binary Formula) × Formula → State Prefix Binary Place Formula
  linked op (frames, f) = within (link op f frames) m.wanted

  -- what ends brackets, behind their operand
  abbrev pub closed : List (Frame Prefix Binary Formula) × Formula → State Prefix Binary Place Formula
  closed (in_brackets ∷ frames, f) = within frames (m.holding (m.operators.brackets f))
  closed (frames, f) = stopped

  -- what ends the whole, behind its formula
  abbrev pub ended : List (Frame Prefix Binary Formula) × Formula → State Prefix Binary Place Formula
  ended ([], f) = done f
  ended (frame ∷ frames, f) = stopped

  -- what a symbol does that wants a left operand of this level, if one has been read
  abbrev pub acts : ℕ → (List (Frame Prefix Binary Formula) × Formula → State Prefix Binary Place Formula) → List (Frame Prefix Binary Formula) → Option Formula → State Prefix Binary Place Formula
  acts least act frames (Some f) = act (settled least frames f)
  acts least act frames None = stopped

  -- so in each state
  abbrev pub behind : ℕ → (List (Frame Prefix Binary Formula) × Formula → State Prefix Binary Place Formula) → State Prefix Binary Place Formula → State Prefix Binary Place Formula
  behind least act (within frames p) = acts least act frames (m.operand p)
  behind least act (done f) = stopped
  behind least act stopped = stopped

  -- the least level of the operand before a sign
  abbrev pub least_before : Sign Binary → ℕ
  least_before (signs.Infix op) = m.operators.left_level op
  least_before (signs.Joining op) = suc (m.operators.junction_level op)
  least_before signs.Close = 0
  least_before signs.End = 0

  -- what a sign does with the operand
  abbrev pub put : Sign Binary → List (Frame Prefix Binary Formula) × Formula → State Prefix Binary Place Formula
  put (signs.Infix op) held = infixed op held
  put (signs.Joining op) held = linked op held
  put signs.Close held = closed held
  put signs.End held = ended held

  -- a step over a symbol
  abbrev pub performed : Action Prefix Binary Place Formula → State Prefix Binary Place Formula → State Prefix Binary Place Formula
  performed (moves move) s = moved move s
  performed (enters opens) s = entered opens s
  performed (follows sign) s = behind (least_before sign) (put sign) s
  performed stops s = stopped

  -- the steps over some symbols
  abbrev pub run : {Symbol : Type 0} → (Symbol → Action Prefix Binary Place Formula) → State Prefix Binary Place Formula → List Symbol → State Prefix Binary Place Formula
  run action s [] = s
  run action s (x ∷ more) = run action (performed (action x) s) more

  -- the beginning
  abbrev pub start : State Prefix Binary Place Formula
  start = within [] m.wanted

  -- the formula that the shortest row of symbols gives that begins so
  abbrev pub shortest : State Prefix Binary Place Formula → Formula
  shortest (within frames p) = plugged frames (m.completed p)
  shortest (done f) = f
  shortest stopped = m.completed m.wanted
