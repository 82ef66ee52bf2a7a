-- Stacks of frames. A frame is a formula that has been begun, up to the part that follows: with that part it is filled.
use Rattle.std.specs.Prelude.{◌≡◌, Bool, false, if◌then◌else◌, List, [], ◌∷◌}

module _ {Frame Formula : Type 0} (filled : Frame → Formula → Formula) where
  -- the formula that the whole stack becomes
  abbrev pub plugged : List Frame → Formula → Formula
  plugged [] f = f
  plugged (frame ∷ frames) f = plugged frames (filled frame f)

  -- the stack and the formula, after all frames on top are filled that yield to what follows
  abbrev pub settled : (Frame → Bool) → List Frame → Formula → List Frame × Formula
  settled yields [] f = ([], f)
  settled yields (frame ∷ frames) f = if yields frame then settled yields frames (filled frame f) else (frame ∷ frames, f)

-- nothing on the stack yields to what follows
abbrev pub rests : {Frame : Type 0} → (Frame → Bool) → List Frame → Type 0
rests yields [] = Unit {0}
rests yields (frame ∷ frames) = yields frame ≡ false
