-- The stack of the code with one more frame.
use Rattle.std.proofs.Common.{◌≡◌, ℕ, ◌+◌, List, [], ◌∷◌, ◌++◌, length, Option, Some, None, refl, sym, ap, ◌∙◌, arith, ◌<◌, take, get_or}
use Rattle.std.proofs.lemmas.List.{take_more}
use Rattle.std.proofs.Math.Seq.{take-length}
use Rattle.std.specs.Prelude.{MatchOption, option_to_list}
use Rattle.ms_parse_steps.specs.declared.frame.Frame.{Frame}
use Rattle.ms_parse_steps.specs.inner.Machine as machine
use Rattle.ms_parse_steps.specs.inner.Frames.{frame_of}
use Rattle.ms_parse_steps.specs.inner.Stack.{stack_on, stack_of}

stack_push_on : (below : List machine.Frame) (fs : List Frame) (f : Frame) → stack_on below (fs ++ f ∷ []) ≡ frame_of f ∷ stack_on below fs
stack_push_on below [] f = refl
stack_push_on below (g ∷ gs) f = stack_push_on (frame_of g ∷ below) gs f

pub stack_push : (fs : List Frame) (f : Frame) → stack_of (fs ++ f ∷ []) ≡ frame_of f ∷ stack_of fs
stack_push fs f = stack_push_on [] fs f

no_items : (fs : List Frame) → length fs ≡ 0 → fs ≡ []
no_items [] none = refl
no_items (f ∷ fs) none = absurd (omega (arith, none))

pub popped : (r : Option Frame) (old new : List Frame) (m n : ℕ) → m ≡ length old → old ≡ new ++ option_to_list r → MatchOption r ((m ≡ 0) × (n ≡ 0)) (λ f. n + 1 ≡ m)
    → MatchOption r (stack_of old ≡ []) (λ f. stack_of old ≡ frame_of f ∷ stack_of new)
popped None old new m n long same cases = ap stack_of (no_items old (sym long ∙ cases.0))
popped (Some f) old new m n long same cases = ap stack_of same ∙ stack_push new f

pub popped_none : (r : Option Frame) (new : List Frame) (m n : ℕ) → n ≡ length new → MatchOption r ((m ≡ 0) × (n ≡ 0)) (λ f. n + 1 ≡ m) → MatchOption r (stack_of new ≡ []) (λ f. n + 1 ≡ m)
popped_none None new m n long cases = ap stack_of (no_items new (sym long ∙ cases.1))
popped_none (Some f) new m n long cases = cases

stack_on_length : (below : List machine.Frame) (fs : List Frame) → length (stack_on below fs) ≡ length below + length fs
stack_on_length below [] = omega arith
stack_on_length below (f ∷ fs) = omega (arith, stack_on_length (frame_of f ∷ below) fs)

pub stack_length : (fs : List Frame) → length (stack_of fs) ≡ length fs
stack_length fs = omega (arith, stack_on_length [] fs)

-- the frames up to one of them, and that one on top
pub stack_take : (fs : List Frame) (k : ℕ) (d : Frame) → k < length fs → stack_of (take (k + 1) fs) ≡ frame_of (get_or fs k d) ∷ stack_of (take k fs)
stack_take fs k d within = ap stack_of (take_more fs k d within) ∙ stack_push (take k fs) (get_or fs k d)

pub stack_whole : (fs : List Frame) (n : ℕ) → n ≡ length fs → stack_of fs ≡ stack_of (take n fs)
stack_whole fs n whole = ap stack_of (sym (ap (λ k. take k fs) whole ∙ take-length fs))

pub stack_frame : (fs : List Frame) (n k : ℕ) (d : Frame) → n ≡ k + 1 → k < length fs → stack_of (take n fs) ≡ frame_of (get_or fs k d) ∷ stack_of (take k fs)
stack_frame fs n k d next within = ap (λ m. stack_of (take m fs)) next ∙ stack_take fs k d within

pub stack_top : (fs : List Frame) (k : ℕ) (d : Frame) → k + 1 ≡ length fs → stack_of fs ≡ frame_of (get_or fs k d) ∷ stack_of (take k fs)
stack_top fs k d whole = stack_whole fs (k + 1) whole ∙ stack_frame fs (k + 1) k d refl (omega arith)
