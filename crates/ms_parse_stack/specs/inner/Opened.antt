-- The frames that the code's frames stand for, by the formulas that the code's formulas stand for.
use Rattle.std.specs.Prelude.{◌≡◌, List, [], ◌∷◌, map}
use Rattle.ms_parse_stack.specs.declared.grammar.Grammar.{Ghosts}
use Rattle.ms_parse_stack.specs.declared.frame.Frame as code
use Rattle.ms_parse_stack.specs.declared.frame.Frame.TheVariants as frames
use Rattle.ms_parse_stack.specs.declared.junction.Junction.{Junction}
use Rattle.ms_parse_stack.specs.declared.link.Link.{Link}
use Rattle.ms_parse_stack.specs.declared.link.Link.TheVariants as links
use Rattle.ms_parse_stack.specs.inner.Frames.{Frame, in_brackets, behind_prefix, behind_infix, behind_joining, link}

module _ {Grammar Tree Prefix Binary Formula : Type 0} {ghosts : Ghosts Grammar Tree Prefix Binary} (formula_of : Tree → Formula) where
  -- the frame that one of the code's stands for
  abbrev pub frame_of : code.Frame Grammar Tree Prefix Binary ghosts → Frame Prefix Binary Formula
  frame_of frames.Brackets = in_brackets
  frame_of (frames.Prefix op) = behind_prefix op
  frame_of (frames.Infix op left) = behind_infix op (formula_of left.formula)
  frame_of (frames.Joining op operands) = behind_joining op (map formula_of operands.list)

  -- a frame as one of a list of the same operator, or another
  abbrev pub IsLink : Junction → Link Grammar Tree Prefix Binary ghosts → Frame Prefix Binary Formula → Type 0
  IsLink op (links.Further operands) frame = frame ≡ behind_joining op (map formula_of operands.list)
  IsLink op (links.Other other) frame =
      (frame_of other ≡ frame) × ((f : Formula) (below : List (Frame Prefix Binary Formula)) → link op f (frame ∷ below) ≡ behind_joining op (f ∷ []) ∷ frame ∷ below)
