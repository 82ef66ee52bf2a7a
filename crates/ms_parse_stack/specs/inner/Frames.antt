-- Formulas that operators make, and frames: formulas that have been begun, up to the operand that follows.
use Rattle.std.specs.Prelude.{◌≡◌, ℕ, suc, max, Bool, false, nat_le, List, [], ◌∷◌, ◌++◌}
use Rattle.ms_parse_stack.specs.declared.junction.Junction.{Junction}
use Rattle.ms_parse_stack.specs.declared.junction.Junction.TheVariants.{Conjunction, Disjunction}

-- What the operators of a grammar make, and the least levels of their operands. Operators stand before an operand, between two, or
-- between two and more, which are of a higher level.
pub record Operators (Prefix Binary Formula : Type 0) : Type 0 where
  pub brackets : Formula → Formula
  pub prefixed : Prefix → Formula → Formula
  pub binary : Binary → Formula → Formula → Formula
  pub joined : Junction → List Formula → Formula
  -- the level of brackets, and of each formula with an operator before its operand
  pub highest_level : ℕ
  pub prefix_level : ℕ
  pub prefix_operand : Prefix → ℕ
  pub binary_level : Binary → ℕ
  pub left_level : Binary → ℕ
  pub right_level : Binary → ℕ
  pub junction_level : Junction → ℕ

-- the greatest depth of some formulas
abbrev pub depth_of_each : {Formula : Type 0} → (Formula → ℕ) → List Formula → ℕ
depth_of_each depth [] = 0
depth_of_each depth (f ∷ fs) = max (depth f) (depth_of_each depth fs)

-- each operator makes a formula one deeper than the deepest of its operands
pub record AreDeep {Prefix Binary Formula : Type 0} (o : Operators Prefix Binary Formula) (depth : Formula → ℕ) : Type 0 where
  pub brackets_deep : (f : Formula) → depth (o.brackets f) ≡ suc (depth f)
  pub prefixed_deep : (op : Prefix) (f : Formula) → depth (o.prefixed op f) ≡ suc (depth f)
  pub binary_deep : (op : Binary) (f g : Formula) → depth (o.binary op f g) ≡ suc (max (depth f) (depth g))
  pub joined_deep : (op : Junction) (fs : List Formula) → depth (o.joined op fs) ≡ suc (depth_of_each depth fs)

-- a formula that has been begun, up to the part that follows
pub data Frame (Prefix Binary Formula : Type 0) : Type 0 where
  in_brackets : Frame Prefix Binary Formula
  behind_prefix : (op : Prefix) → Frame Prefix Binary Formula
  -- the left operand, and the operator behind it
  behind_infix : (op : Binary) (left : Formula) → Frame Prefix Binary Formula
  -- operands, and the operator behind each
  behind_joining : (op : Junction) (operands : List Formula) → Frame Prefix Binary Formula

module _ {Prefix Binary Formula : Type 0} where
  -- how deep the parts are that a frame has before its hole
  abbrev pub inside : (Formula → ℕ) → Frame Prefix Binary Formula → ℕ
  inside depth in_brackets = 0
  inside depth (behind_prefix op) = 0
  inside depth (behind_infix op left) = depth left
  inside depth (behind_joining op operands) = depth_of_each depth operands

  -- a further operand of the same list, or the first of a list
  abbrev pub link : Junction → Formula → List (Frame Prefix Binary Formula) → List (Frame Prefix Binary Formula)
  link Conjunction f (behind_joining Conjunction operands ∷ frames) = behind_joining Conjunction (operands ++ f ∷ []) ∷ frames
  link Disjunction f (behind_joining Disjunction operands ∷ frames) = behind_joining Disjunction (operands ++ f ∷ []) ∷ frames
  link op f frames = behind_joining op (f ∷ []) ∷ frames

module _ {Prefix Binary Formula : Type 0} (o : Operators Prefix Binary Formula) where
  -- the least level of what follows
  abbrev pub hole : Frame Prefix Binary Formula → ℕ
  hole in_brackets = 0
  hole (behind_prefix op) = o.prefix_operand op
  hole (behind_infix op left) = o.right_level op
  hole (behind_joining op operands) = suc (o.junction_level op)

  -- the least level of what follows the whole stack
  abbrev pub hole_of : List (Frame Prefix Binary Formula) → ℕ
  hole_of [] = 0
  hole_of (frame ∷ frames) = hole frame

  -- the level of the formula that has been begun
  abbrev pub frame_level : Frame Prefix Binary Formula → ℕ
  frame_level in_brackets = o.highest_level
  frame_level (behind_prefix op) = o.prefix_level
  frame_level (behind_infix op left) = o.binary_level op
  frame_level (behind_joining op operands) = o.junction_level op

  -- the formula that a frame becomes with the part that follows
  abbrev pub filled : Frame Prefix Binary Formula → Formula → Formula
  filled in_brackets f = o.brackets f
  filled (behind_prefix op) f = o.prefixed op f
  filled (behind_infix op left) f = o.binary op left f
  filled (behind_joining op operands) f = o.joined op (operands ++ f ∷ [])

  -- what has been begun ends before a symbol that wants a left operand of this level
  abbrev pub yields : ℕ → Frame Prefix Binary Formula → Bool
  yields least in_brackets = false
  yields least (behind_prefix op) = nat_le least (o.prefix_operand op)
  yields least (behind_infix op left) = nat_le least (o.binary_level op)
  yields least (behind_joining op operands) = nat_le least (o.junction_level op)
