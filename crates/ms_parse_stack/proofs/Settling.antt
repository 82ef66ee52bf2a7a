-- What holds of a stack and a formula after frames are filled.
use Rattle.std.proofs.Common.{◌≡◌, Bool, true, false, List, [], ◌∷◌, refl, sym, ap, subst, inl, inr}
use Rattle.std.specs.Prelude.{if◌then◌else◌}
use Rattle.std.proofs.lemmas.Bool.{cases_Bool}
use Rattle.ms_parse_stack.specs.inner.Settled.{plugged, settled, rests}

module _ {Frame Formula : Type 0} (filled : Frame → Formula → Formula) where
  module _ (yields : Frame → Bool) where
    pub settled-pop : (frame : Frame) (frames : List Frame) (f : Formula) → yields frame ≡ true → settled filled yields (frame ∷ frames) f ≡ settled filled yields frames (filled frame f)
    settled-pop frame frames f h = ap (λ b. if b then settled filled yields frames (filled frame f) else (frame ∷ frames, f)) h

    pub settled-stay : (frame : Frame) (frames : List Frame) (f : Formula) → yields frame ≡ false → settled filled yields (frame ∷ frames) f ≡ (frame ∷ frames, f)
    settled-stay frame frames f h = ap (λ b. if b then settled filled yields frames (filled frame f) else (frame ∷ frames, f)) h

    pub settled-rests : (frames : List Frame) (f : Formula) → rests yields frames → settled filled yields frames f ≡ (frames, f)
    settled-rests [] f h = refl
    settled-rests (frame ∷ frames) f h = settled-stay frame frames f h

    -- what filling one frame keeps holds of the whole
    pub settled_by : (P : List Frame × Formula → Type 0) → ((frame : Frame) (frames : List Frame) (f : Formula) → yields frame ≡ true → P (frame ∷ frames, f) → P (frames, filled frame f))
        → (frames : List Frame) (f : Formula) → P (frames, f) → P (settled filled yields frames f) × rests yields (settled filled yields frames f).0
    settled_by P pop [] f h = (h, tt)
    settled_by P pop (frame ∷ frames) f h =
        let Q : List Frame × Formula → Type 0 = λ p. P p × rests yields p.0 in
        elim (cases_Bool (yields frame)) [
          | inl e ↦ subst Q (sym (settled-pop frame frames f e)) (settled_by P pop frames (filled frame f) (pop frame frames f e h))
          | inr e ↦ subst Q (sym (settled-stay frame frames f e)) (h, e)
        ]

    -- the whole stays as it is
    pub plugged-settled : (frames : List Frame) (f : Formula) → plugged filled (settled filled yields frames f).0 (settled filled yields frames f).1 ≡ plugged filled frames f
    plugged-settled frames f =
        let P : List Frame × Formula → Type 0 = λ p. plugged filled p.0 p.1 ≡ plugged filled frames f in
        (settled_by P (λ frame rest g e h. h) frames f refl).0
