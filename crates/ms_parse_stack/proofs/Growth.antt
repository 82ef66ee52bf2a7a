-- With each symbol the shortest formula that begins so becomes deeper or stays as deep as it was.
use Rattle.std.proofs.Common.{◌≡◌, ℕ, suc, ◌≤◌, max, List, [], ◌∷◌, ◌++◌, Option, Some, None, sym, ap, subst, inl, inr, arith, le_refl, IfSome}
use Rattle.ms_parse_stack.specs.declared.junction.Junction.{Junction}
use Rattle.ms_parse_stack.specs.declared.sign.Sign.TheVariants as signs
use Rattle.ms_parse_stack.specs.inner.Frames.{Frame, in_brackets, behind_prefix, behind_infix, behind_joining, inside, filled, yields, link}
use Rattle.ms_parse_stack.specs.inner.Machine.{IsDepth, Machine, State, within, done, stopped, GoesOn, Action, moves, enters, follows, stops, plugged, settled, stay, begin, infixed, linked, closed, ended, acts, behind, performed, run, shortest}
use Rattle.ms_parse_stack.specs.inner.Settled.{rests}
use Rattle.ms_parse_stack.proofs.Depths.{depth-more, depth-plugged-le, depths}
use Rattle.ms_parse_stack.proofs.Fitting.{AreLevelled, link_cases}
use Rattle.ms_parse_stack.proofs.Runs.{run_on}
use Rattle.ms_parse_stack.proofs.Settling.{settled_by, plugged-settled}

module _ {Prefix Binary Place Formula : Type 0} (m : Machine Prefix Binary Place Formula) (depth : Formula → ℕ) where
  abbrev Stack : Type 0
  Stack = List (Frame Prefix Binary Formula)

  abbrev Standing : Type 0
  Standing = State Prefix Binary Place Formula

  -- what makes the shortest formula no less deep
  abbrev pub IsGrowing : Action Prefix Binary Place Formula → Type 0
  IsGrowing (moves move) = (p : Place) → IfSome (move p) (λ q. depth (m.completed p) ≤ depth (m.completed q))
  IsGrowing (enters opens) = (p : Place) → IfSome (opens p) (λ frame. depth (m.completed p) ≤ suc (max (inside depth frame) 1))
  IsGrowing _ = Unit {0}

  abbrev ActGrows : ℕ → (Stack × Formula → Standing) → Type 0
  ActGrows least act = (held : Stack × Formula) → rests (yields m.operators least) held.0 → GoesOn (act held) → depth (plugged m held.0 held.1) ≤ depth (shortest m (act held))

  module _ (levelled : AreLevelled m.operators) (d : IsDepth m depth) where
    depth-filled : (frame : Frame Prefix Binary Formula) (f : Formula) → depth (filled m.operators frame f) ≡ suc (max (inside depth frame) (depth f))
    depth-filled frame f = (depths m.operators depth d.operators_deep).depth-filled frame f

    -- a formula becomes no less deep as the first part of a frame
    frame_grows : (frame : Frame Prefix Binary Formula) (frames : Stack) (f : Formula) → depth f ≤ suc (max (inside depth frame) 1) → depth (plugged m frames f) ≤ depth (plugged m (frame ∷ frames) (m.completed m.wanted))
    frame_grows frame frames f h = depth-plugged-le (depths m.operators depth d.operators_deep) frames f (filled m.operators frame (m.completed m.wanted)) (omega (arith, h, depth-filled frame (m.completed m.wanted), d.wanted_deep))

    infixed_grows : (op : Binary) → ActGrows (m.operators.left_level op) (infixed m op)
    infixed_grows op (frames, f) rest on = frame_grows (behind_infix op f) frames f (omega arith)

    link_grows : (op : Junction) (f : Formula) (frames : Stack) → rests (yields m.operators (suc (m.operators.junction_level op))) frames → depth (plugged m frames f) ≤ depth (plugged m (link op f frames) (m.completed m.wanted))
    link_grows op f frames rest =
        let least = m.completed m.wanted in
        elim (link_cases m.operators levelled op f frames rest) [
          | inl first ↦ subst (λ x. depth (plugged m frames f) ≤ depth (plugged m x least)) (sym first.is) (frame_grows (behind_joining op (f ∷ [])) frames f (omega arith))
          | inr further ↦
              let frame = behind_joining op further.operands in
              let more = behind_joining op (further.operands ++ f ∷ []) in
              let deeper : depth (filled m.operators frame f) ≤ depth (filled m.operators more least) =
              omega (arith, depth-filled frame f, depth-filled more least, depth-more depth further.operands f) in
              subst (λ x. depth (plugged m frames f) ≤ depth (plugged m x least)) (sym further.is)
              (subst (λ x. depth (plugged m x f) ≤ depth (plugged m (more ∷ further.below) least)) (sym further.top)
              (depth-plugged-le (depths m.operators depth d.operators_deep) further.below (filled m.operators frame f) (filled m.operators more least) deeper))
        ]

    linked_grows : (op : Junction) → ActGrows (suc (m.operators.junction_level op)) (linked m op)
    linked_grows op (frames, f) rest on = link_grows op f frames rest

    closed_grows : ActGrows 0 (closed m)
    closed_grows ([], f) rest on = absurd on
    closed_grows (in_brackets ∷ frames, f) rest on = subst (λ x. depth (plugged m frames (m.operators.brackets f)) ≤ depth (plugged m frames x)) (sym (d.holding_deep (m.operators.brackets f))) (le_refl _)
    closed_grows (behind_prefix op ∷ frames, f) rest on = absurd on
    closed_grows (behind_infix op left ∷ frames, f) rest on = absurd on
    closed_grows (behind_joining op operands ∷ frames, f) rest on = absurd on

    ended_grows : ActGrows 0 (ended m)
    ended_grows ([], f) rest on = le_refl _
    ended_grows (frame ∷ frames, f) rest on = absurd on

    acts_grows : (least : ℕ) (act : Stack × Formula → Standing) (frames : Stack) (p : Place) (held : Option Formula) → ActGrows least act → IfSome held (λ f. m.completed p ≡ f) → GoesOn (acts m least act frames held)
        → depth (plugged m frames (m.completed p)) ≤ depth (shortest m (acts m least act frames held))
    acts_grows least act frames p (Some f) further is on =
        let P : Stack × Formula → Type 0 = λ held. Unit {0} in
        let rest = (settled_by (filled m.operators) (yields m.operators least) P (λ frame below h e k. tt) frames f tt).1 in
        let Q : Formula → Type 0 = λ x. depth x ≤ depth (shortest m (act (settled m least frames f))) in
        subst Q (ap (plugged m frames) (sym is)) (subst Q (plugged-settled (filled m.operators) (yields m.operators least) frames f) (further (settled m least frames f) rest on))
    acts_grows least act frames p None further is on = absurd on

    behind_grows : (least : ℕ) (act : Stack × Formula → Standing) (t : Standing) → ActGrows least act → GoesOn (behind m least act t) → depth (shortest m t) ≤ depth (shortest m (behind m least act t))
    behind_grows least act (within frames p) further on = acts_grows least act frames p (m.operand p) further (d.operand_deep p) on
    behind_grows least act (done f) further on = absurd on
    behind_grows least act stopped further on = absurd on

    stay_grows : (frames : Stack) (p : Place) (next : Option Place) → IfSome next (λ q. depth (m.completed p) ≤ depth (m.completed q)) → GoesOn (stay m frames next) → depth (plugged m frames (m.completed p)) ≤ depth (shortest m (stay m frames next))
    stay_grows frames p (Some q) more on = depth-plugged-le (depths m.operators depth d.operators_deep) frames (m.completed p) (m.completed q) more
    stay_grows frames p None more on = absurd on

    begin_grows : (frames : Stack) (p : Place) (next : Option (Frame Prefix Binary Formula)) → IfSome next (λ frame. depth (m.completed p) ≤ suc (max (inside depth frame) 1)) → GoesOn (begin m frames next)
        → depth (plugged m frames (m.completed p)) ≤ depth (shortest m (begin m frames next))
    begin_grows frames p (Some frame) more on = frame_grows frame frames (m.completed p) more
    begin_grows frames p None more on = absurd on

    performed_grows : (a : Action Prefix Binary Place Formula) (t : Standing) → IsGrowing a → GoesOn (performed m a t) → depth (shortest m t) ≤ depth (shortest m (performed m a t))
    performed_grows (moves move) (within frames p) h on = stay_grows frames p (move p) (h p) on
    performed_grows (moves move) (done f) h on = absurd on
    performed_grows (moves move) stopped h on = absurd on
    performed_grows (enters opens) (within frames p) h on = begin_grows frames p (opens p) (h p) on
    performed_grows (enters opens) (done f) h on = absurd on
    performed_grows (enters opens) stopped h on = absurd on
    performed_grows (follows (signs.Infix op)) t h on = behind_grows (m.operators.left_level op) (infixed m op) t (infixed_grows op) on
    performed_grows (follows (signs.Joining op)) t h on = behind_grows (suc (m.operators.junction_level op)) (linked m op) t (linked_grows op) on
    performed_grows (follows signs.Close) t h on = behind_grows 0 (closed m) t closed_grows on
    performed_grows (follows signs.End) t h on = behind_grows 0 (ended m) t ended_grows on
    performed_grows stops t h on = absurd on

    pub run_grows : {Symbol : Type 0} (action : Symbol → Action Prefix Binary Place Formula) → ((x : Symbol) → IsGrowing (action x)) → (t : Standing) (xs : List Symbol) → GoesOn (run m action t xs)
        → depth (shortest m t) ≤ depth (shortest m (run m action t xs))
    run_grows action grows t [] on = le_refl _
    run_grows action grows t (x ∷ xs) on =
        let rest = run_grows action grows (performed m (action x) t) xs on in
        let first = performed_grows (action x) t (grows x) (run_on m action (performed m (action x) t) xs on) in
        omega arith
