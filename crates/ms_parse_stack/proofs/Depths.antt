-- How deep formulas are that are made of a stack.
use Rattle.std.proofs.Common.{◌≡◌, ℕ, suc, ◌+◌, ◌≤◌, max, List, [], ◌∷◌, ◌++◌, length, map, arith}
use Rattle.std.proofs.lemmas.List.{length-map}
use Rattle.ms_parse_stack.specs.inner.Frames.{Operators, AreDeep, Frame, in_brackets, behind_prefix, behind_infix, behind_joining, depth_of_each, filled, inside}
use Rattle.ms_parse_stack.specs.inner.Settled.{plugged}

-- Formulas have a depth. `inside` is how deep the parts are that a frame has before its hole.
pub record Depths {Frame Formula : Type 0} (filled : Frame → Formula → Formula) : Type 0 where
  pub depth : Formula → ℕ
  pub inside : Frame → ℕ
  pub depth-filled : (frame : Frame) (f : Formula) → depth (filled frame f) ≡ suc (max (inside frame) (depth f))

module _ {Frame Formula : Type 0} {filled : Frame → Formula → Formula} (d : Depths filled) where
  -- the greatest depth that the parts before the holes reach in the whole
  abbrev outside : List Frame → ℕ
  outside [] = 0
  outside (frame ∷ frames) = max (outside frames) (length frames + suc (d.inside frame))

  pub depth-plugged : (frames : List Frame) (f : Formula) → d.depth (plugged filled frames f) ≡ max (outside frames) (length frames + d.depth f)
  depth-plugged [] f = omega arith
  depth-plugged (frame ∷ frames) f = omega (arith, depth-plugged frames (filled frame f), d.depth-filled frame f)

  pub depth-plugged-le : (frames : List Frame) (f g : Formula) → d.depth f ≤ d.depth g → d.depth (plugged filled frames f) ≤ d.depth (plugged filled frames g)
  depth-plugged-le frames f g h = omega (arith, depth-plugged frames f, depth-plugged frames g)

  -- a formula in the place of another that is as deep
  pub same_depth : (frames : List Frame) (f g : Formula) → d.depth f ≡ d.depth g → d.depth (plugged filled frames f) ≡ d.depth (plugged filled frames g)
  same_depth frames f g same = omega (arith, depth-plugged frames f, depth-plugged frames g)

  -- the part in the hole is no deeper than the whole, by all frames around it
  pub depth-part : (frames : List Frame) (f : Formula) → length frames + d.depth f ≤ d.depth (plugged filled frames f)
  depth-part frames f = omega (arith, depth-plugged frames f)

  -- The depth of the whole where a formula on the code's stack gives way to one that is no less deep.
  pub replaced : {Code : Type 0} (frame_of : Code → Frame) (frames : List Code) (f g : Formula) (n : ℕ) → n ≡ d.depth (plugged filled (map frame_of frames) f) → d.depth f ≤ d.depth g
      → d.depth (plugged filled (map frame_of frames) g) ≡ max n (length frames + d.depth g)
  replaced frame_of frames f g n same less = omega (arith, length-map frames frame_of, depth-plugged (map frame_of frames) f, depth-plugged (map frame_of frames) g)

  -- The depth of the whole where a frame has been begun upon the code's stack, in the place of a formula that was no deeper.
  pub entered : {Code : Type 0} (frame_of : Code → Frame) (frame : Frame) (frames : List Code) (f g : Formula) (n : ℕ) → d.depth g ≡ 1 → n ≡ d.depth (plugged filled (map frame_of frames) f) → d.depth f ≤ suc (max (d.inside frame) 1)
      → d.depth (plugged filled (frame ∷ map frame_of frames) g) ≡ max n (length frames + suc (max (d.inside frame) 1))
  entered frame_of frame frames f g n least same small =
      let deep = d.depth-filled frame g in
      omega (arith, replaced frame_of frames f (filled frame g) n same (omega (arith, small, deep, least)), deep, least)

pub depth-more : {Formula : Type 0} (depth : Formula → ℕ) (fs : List Formula) (f : Formula) → depth_of_each depth (fs ++ f ∷ []) ≡ max (depth_of_each depth fs) (depth f)
depth-more depth [] f = omega arith
depth-more depth (e ∷ fs) f = omega (arith, depth-more depth fs f)

module _ {Prefix Binary Formula : Type 0} (o : Operators Prefix Binary Formula) (depth : Formula → ℕ) (d : AreDeep o depth) where
  pub depth-filled : (frame : Frame Prefix Binary Formula) (f : Formula) → depth (filled o frame f) ≡ suc (max (inside depth frame) (depth f))
  depth-filled in_brackets f = omega (arith, d.brackets_deep f)
  depth-filled (behind_prefix op) f = omega (arith, d.prefixed_deep op f)
  depth-filled (behind_infix op left) f = d.binary_deep op left f
  depth-filled (behind_joining op operands) f = omega (arith, d.joined_deep op (operands ++ f ∷ []), depth-more depth operands f)

  -- the depths of formulas that operators make
  abbrev pub depths : Depths (filled o)
  depths = record { depth = depth; inside = inside depth; depth-filled = depth-filled }
