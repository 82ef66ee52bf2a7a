-- What a machine has begun can be ended as a grammatical formula.
use Rattle.std.proofs.Common.{◌≡◌, ℕ, suc, ◌≤◌, true, List, [], ◌∷◌, ◌++◌, Option, Some, None, sym, subst, inl, inr, arith, leb-true, IfSome}
use Rattle.ms_parse_stack.specs.declared.junction.Junction.{Junction}
use Rattle.ms_parse_stack.specs.declared.sign.Sign.TheVariants as signs
use Rattle.ms_parse_stack.specs.inner.Frames.{Frame, in_brackets, behind_prefix, behind_infix, behind_joining, hole, hole_of, frame_level, filled, yields, link}
use Rattle.ms_parse_stack.specs.inner.Machine.{Machine, State, within, done, stopped, Action, moves, enters, follows, stops, plugged, settled, stay, moved, begin, entered, infixed, linked, closed, ended, acts, behind, performed, shortest}
use Rattle.ms_parse_stack.specs.inner.Settled.{rests}
use Rattle.ms_parse_stack.proofs.Fitting.{AreLevelled, hole_small, infix_fits, left_small, link_cases}
use Rattle.ms_parse_stack.proofs.Settling.{settled_by}

abbrev pub HasSome : {A : Type 0} → List A → Type 0
HasSome [] = ⊥
HasSome (x ∷ xs) = Unit {0}

-- What a grammar asks of formulas, of what stands before an operand, and at a place. The strength of a formula is the greatest level at
-- which a symbol takes it as a left operand.
pub record Grammar (Prefix Place Formula : Type 0) : Type 1 where
  pub IsGrammatical : Formula → Type 0
  pub IsSoundPrefix : Prefix → Type 0
  pub IsSoundPlace : Place → Type 0
  pub level : Formula → ℕ
  pub strength : Formula → ℕ

module _ {Prefix Binary Place Formula : Type 0} (m : Machine Prefix Binary Place Formula) (g : Grammar Prefix Place Formula) where
  abbrev Stack : Type 0
  Stack = List (Frame Prefix Binary Formula)

  abbrev Standing : Type 0
  Standing = State Prefix Binary Place Formula

  -- a grammatical formula of at least this level
  pub record IsPart (least : ℕ) (f : Formula) : Type 0 where
    pub enough : least ≤ g.level f
    pub grammatical : g.IsGrammatical f

  -- a grammatical formula that a symbol takes which wants this level on its left
  pub record IsLeft (least : ℕ) (f : Formula) : Type 0 where
    pub enough : least ≤ g.strength f
    pub grammatical : g.IsGrammatical f

  abbrev pub EachLeft : ℕ → List Formula → Type 0
  EachLeft least [] = Unit {0}
  EachLeft least (f ∷ fs) = IsLeft least f × EachLeft least fs

  pub record AreLeft (least : ℕ) (fs : List Formula) : Type 0 where
    pub some : HasSome fs
    pub each : EachLeft least fs

  -- what operators make of grammatical parts is grammatical, and so is what can end at a place
  pub record IsSoundGrammar : Type 0 where
    pub levelled : AreLevelled m.operators
    pub strength_level : (f : Formula) → g.strength f ≤ g.level f
    pub brackets_sound : (f : Formula) → g.IsGrammatical f → IsLeft m.operators.highest_level (m.operators.brackets f)
    pub prefixed_sound : (op : Prefix) (f : Formula) → g.IsSoundPrefix op → IsPart (m.operators.prefix_operand op) f → IsPart m.operators.prefix_level (m.operators.prefixed op f)
    pub binary_sound : (op : Binary) (f h : Formula) → IsLeft (m.operators.left_level op) f → IsPart (m.operators.right_level op) h → IsPart (m.operators.binary_level op) (m.operators.binary op f h)
    pub joined_sound : (op : Junction) (fs : List Formula) (h : Formula) → AreLeft (suc (m.operators.junction_level op)) fs → IsPart (suc (m.operators.junction_level op)) h
        → IsPart (m.operators.junction_level op) (m.operators.joined op (fs ++ h ∷ []))
    pub strong_prefixed : (least : ℕ) (op : Prefix) (f : Formula) → least ≤ m.operators.prefix_operand op → least ≤ g.strength f → least ≤ g.strength (m.operators.prefixed op f)
    pub strong_binary : (least : ℕ) (op : Binary) (f h : Formula) → least ≤ m.operators.binary_level op → least ≤ g.strength h → least ≤ g.strength (m.operators.binary op f h)
    pub strong_joined : (least : ℕ) (op : Junction) (fs : List Formula) (h : Formula) → least ≤ m.operators.junction_level op → least ≤ g.strength h → least ≤ g.strength (m.operators.joined op (fs ++ h ∷ []))
    pub wanted_sound : g.IsSoundPlace m.wanted
    pub holding_sound : (f : Formula) → IsLeft m.operators.highest_level f → g.IsSoundPlace (m.holding f)
    pub operand_sound : (p : Place) → g.IsSoundPlace p → IfSome (m.operand p) (IsLeft m.operators.highest_level)
    pub completed_sound : (p : Place) → g.IsSoundPlace p → IsPart m.operators.prefix_level (m.completed p)

  -- what a frame has before its hole is as the grammar asks
  abbrev pub IsSound : Frame Prefix Binary Formula → Type 0
  IsSound in_brackets = Unit {0}
  IsSound (behind_prefix op) = g.IsSoundPrefix op
  IsSound (behind_infix op left) = IsLeft (m.operators.left_level op) left
  IsSound (behind_joining op operands) = AreLeft (suc (m.operators.junction_level op)) operands

  -- so for each frame, and each fits into the hole of the one around it
  abbrev pub AreSound : Stack → Type 0
  AreSound [] = Unit {0}
  AreSound (frame ∷ frames) = IsSound frame × (hole_of m.operators frames ≤ frame_level m.operators frame) × AreSound frames

  -- the state's formulas are as the grammar asks
  abbrev pub IsSoundState : Standing → Type 0
  IsSoundState (within frames p) = AreSound frames × g.IsSoundPlace p
  IsSoundState (done f) = IsPart 0 f
  IsSoundState stopped = Unit {0}

  -- a frame that may stand in the hole of any other
  abbrev pub IsSoundFrame : Frame Prefix Binary Formula → Type 0
  IsSoundFrame frame = IsSound frame × (m.operators.prefix_level ≤ frame_level m.operators frame)

  -- what leads from sound places leads to sound places, and begins sound frames
  abbrev pub IsSoundAction : Action Prefix Binary Place Formula → Type 0
  IsSoundAction (moves move) = (p : Place) → g.IsSoundPlace p → IfSome (move p) g.IsSoundPlace
  IsSoundAction (enters opens) = (p : Place) → g.IsSoundPlace p → IfSome (opens p) IsSoundFrame
  IsSoundAction _ = Unit {0}

  -- a stack and an operand that a symbol finds which wants this level on its left
  pub record IsReady (least : ℕ) (held : Stack × Formula) : Type 0 where
    pub frames : AreSound held.0
    pub part : IsPart (hole_of m.operators held.0) held.1
    pub enough : least ≤ g.strength held.1

  abbrev ActSound : ℕ → (Stack × Formula → Standing) → Type 0
  ActSound least act = (held : Stack × Formula) → IsReady least held → rests (yields m.operators least) held.0 → IsSoundState (act held)

  each_more : (least : ℕ) (fs : List Formula) (f : Formula) → EachLeft least fs → IsLeft least f → EachLeft least (fs ++ f ∷ [])
  each_more least [] f hs h = (h, tt)
  each_more least (e ∷ fs) f hs h = (hs.0, each_more least fs f hs.1 h)

  has_more : (fs : List Formula) (f : Formula) → HasSome (fs ++ f ∷ [])
  has_more [] f = tt
  has_more (e ∷ fs) f = tt

  module _ (s : IsSoundGrammar) where
    filled_part : (frame : Frame Prefix Binary Formula) (f : Formula) → IsSound frame → IsPart (hole m.operators frame) f → IsPart (frame_level m.operators frame) (filled m.operators frame f)
    filled_part in_brackets f sound h =
        let left = s.brackets_sound f h.grammatical in
        record { enough = omega (arith, left.enough, s.strength_level (m.operators.brackets f)); grammatical = left.grammatical }
    filled_part (behind_prefix op) f sound h = s.prefixed_sound op f sound h
    filled_part (behind_infix op left) f sound h = s.binary_sound op left f sound h
    filled_part (behind_joining op operands) f sound h = s.joined_sound op operands f sound h

    weaker_part : (least less : ℕ) (f : Formula) → IsPart least f → less ≤ g.level f → IsPart less f
    weaker_part least less f h enough = record { enough = enough; grammatical = h.grammatical }

    fitting_part : (frame : Frame Prefix Binary Formula) (frames : Stack) (f : Formula) → AreSound (frame ∷ frames) → IsPart (hole m.operators frame) f → IsPart (hole_of m.operators frames) (filled m.operators frame f)
    fitting_part frame frames f sound h =
        let part = filled_part frame f sound.0 h in
        weaker_part (frame_level m.operators frame) (hole_of m.operators frames) (filled m.operators frame f) part (omega (arith, sound.1, part.enough))

    plugged_part : (frames : Stack) (f : Formula) → AreSound frames → IsPart (hole_of m.operators frames) f → IsPart 0 (plugged m frames f)
    plugged_part [] f sound h = h
    plugged_part (frame ∷ frames) f sound h = plugged_part frames (filled m.operators frame f) sound.2 (fitting_part frame frames f sound h)

    strong_filled : (least : ℕ) (frame : Frame Prefix Binary Formula) (f : Formula) → yields m.operators least frame ≡ true → least ≤ g.strength f → least ≤ g.strength (filled m.operators frame f)
    strong_filled least in_brackets f e h = cc
    strong_filled least (behind_prefix op) f e h = s.strong_prefixed least op f (leb-true least (m.operators.prefix_operand op) e) h
    strong_filled least (behind_infix op left) f e h = s.strong_binary least op left f (leb-true least (m.operators.binary_level op) e) h
    strong_filled least (behind_joining op operands) f e h = s.strong_joined least op operands f (leb-true least (m.operators.junction_level op) e) h

    ready_filled : (least : ℕ) (frame : Frame Prefix Binary Formula) (frames : Stack) (f : Formula) → yields m.operators least frame ≡ true → IsReady least (frame ∷ frames, f) → IsReady least (frames, filled m.operators frame f)
    ready_filled least frame frames f e ready = record {
      frames = ready.frames.2;
      part = fitting_part frame frames f ready.frames ready.part;
      enough = strong_filled least frame f e ready.enough;
    }

    acts_sound : (least : ℕ) (act : Stack × Formula → Standing) (frames : Stack) (held : Option Formula) → least ≤ m.operators.highest_level → ActSound least act → AreSound frames → IfSome held (IsLeft m.operators.highest_level)
        → IsSoundState (acts m least act frames held)
    acts_sound least act frames (Some f) small further sound h =
        let fits : hole_of m.operators frames ≤ g.level f = omega (arith, hole_small m.operators s.levelled frames, h.enough, s.strength_level f, s.levelled.prefix_small) in
        let wide : least ≤ g.strength f = omega (arith, h.enough) in
        let first : IsReady least (frames, f) = record { frames = sound; part = record { enough = fits; grammatical = h.grammatical }; enough = wide } in
        let ready = settled_by (filled m.operators) (yields m.operators least) (IsReady least) (ready_filled least) frames f first in
        further (settled m least frames f) ready.0 ready.1
    acts_sound least act frames None small further sound h = tt

    behind_sound : (least : ℕ) (act : Stack × Formula → Standing) (t : Standing) → least ≤ m.operators.highest_level → ActSound least act → IsSoundState t → IsSoundState (behind m least act t)
    behind_sound least act (within frames p) small further sound = acts_sound least act frames (m.operand p) small further sound.0 (s.operand_sound p sound.1)
    behind_sound least act (done f) small further sound = tt
    behind_sound least act stopped small further sound = tt

    infixed_sound : (op : Binary) → ActSound (m.operators.left_level op) (infixed m op)
    infixed_sound op (frames, f) ready rest = ((record { enough = ready.enough; grammatical = ready.part.grammatical }, infix_fits m.operators s.levelled op frames rest, ready.frames), s.wanted_sound)

    link_sound : (op : Junction) (f : Formula) (frames : Stack) → AreSound frames → IsLeft (suc (m.operators.junction_level op)) f → rests (yields m.operators (suc (m.operators.junction_level op))) frames → AreSound (link op f frames)
    link_sound op f frames sound h rest =
        elim (link_cases m.operators s.levelled op f frames rest) [
          | inl first ↦ subst AreSound (sym first.is) (record { some = tt; each = (h, tt) }, first.fits, sound)
          | inr further ↦
              let here = subst AreSound further.top sound in
              subst AreSound (sym further.is)
              (record { some = has_more further.operands f; each = each_more (suc (m.operators.junction_level op)) further.operands f here.0.each h }, here.1, here.2)
        ]

    linked_sound : (op : Junction) → ActSound (suc (m.operators.junction_level op)) (linked m op)
    linked_sound op (frames, f) ready rest = (link_sound op f frames ready.frames (record { enough = ready.enough; grammatical = ready.part.grammatical }) rest, s.wanted_sound)

    closed_sound : ActSound 0 (closed m)
    closed_sound ([], f) ready rest = tt
    closed_sound (in_brackets ∷ frames, f) ready rest = (ready.frames.2, s.holding_sound (m.operators.brackets f) (s.brackets_sound f ready.part.grammatical))
    closed_sound (behind_prefix op ∷ frames, f) ready rest = tt
    closed_sound (behind_infix op left ∷ frames, f) ready rest = tt
    closed_sound (behind_joining op operands ∷ frames, f) ready rest = tt

    ended_sound : ActSound 0 (ended m)
    ended_sound ([], f) ready rest = ready.part
    ended_sound (frame ∷ frames, f) ready rest = tt

    stay_sound : (frames : Stack) (next : Option Place) → AreSound frames → IfSome next g.IsSoundPlace → IsSoundState (stay m frames next)
    stay_sound frames (Some p) sound h = (sound, h)
    stay_sound frames None sound h = tt

    begin_sound : (frames : Stack) (next : Option (Frame Prefix Binary Formula)) → AreSound frames → IfSome next IsSoundFrame → IsSoundState (begin m frames next)
    begin_sound frames (Some frame) sound h =
        let fits : hole_of m.operators frames ≤ frame_level m.operators frame = omega (arith, hole_small m.operators s.levelled frames, h.1) in
        ((h.0, fits, sound), s.wanted_sound)
    begin_sound frames None sound h = tt

    moved_sound : (move : Place → Option Place) (t : Standing) → ((p : Place) → g.IsSoundPlace p → IfSome (move p) g.IsSoundPlace) → IsSoundState t → IsSoundState (moved m move t)
    moved_sound move (within frames p) h sound = stay_sound frames (move p) sound.0 (h p sound.1)
    moved_sound move (done f) h sound = tt
    moved_sound move stopped h sound = tt

    entered_sound : (opens : Place → Option (Frame Prefix Binary Formula)) (t : Standing) → ((p : Place) → g.IsSoundPlace p → IfSome (opens p) IsSoundFrame) → IsSoundState t → IsSoundState (entered m opens t)
    entered_sound opens (within frames p) h sound = begin_sound frames (opens p) sound.0 (h p sound.1)
    entered_sound opens (done f) h sound = tt
    entered_sound opens stopped h sound = tt

    -- each step leads from formulas that are as the grammar asks to such formulas
    pub performed_sound : (a : Action Prefix Binary Place Formula) (t : Standing) → IsSoundAction a → IsSoundState t → IsSoundState (performed m a t)
    performed_sound (moves move) t h sound = moved_sound move t h sound
    performed_sound (enters opens) t h sound = entered_sound opens t h sound
    performed_sound (follows (signs.Infix op)) t h sound = behind_sound (m.operators.left_level op) (infixed m op) t (left_small m.operators s.levelled op) (infixed_sound op) sound
    performed_sound (follows (signs.Joining op)) t h sound =
        behind_sound (suc (m.operators.junction_level op)) (linked m op) t (omega (arith, s.levelled.junction_small op, s.levelled.prefix_small)) (linked_sound op) sound
    performed_sound (follows signs.Close) t h sound = behind_sound 0 (closed m) t (omega arith) closed_sound sound
    performed_sound (follows signs.End) t h sound = behind_sound 0 (ended m) t (omega arith) ended_sound sound
    performed_sound stops t h sound = tt

    -- the shortest formula that begins so is grammatical
    pub shortest_sound : (t : Standing) → IsSoundState t → g.IsGrammatical (shortest m t)
    shortest_sound (within frames p) sound =
        let part = s.completed_sound p sound.1 in
        let fits : hole_of m.operators frames ≤ g.level (m.completed p) = omega (arith, hole_small m.operators s.levelled frames, part.enough) in
        (plugged_part frames (m.completed p) sound.0 (weaker_part m.operators.prefix_level (hole_of m.operators frames) (m.completed p) part fits)).grammatical
    shortest_sound (done f) sound = sound.grammatical
    shortest_sound stopped sound = (s.completed_sound m.wanted s.wanted_sound).grammatical
