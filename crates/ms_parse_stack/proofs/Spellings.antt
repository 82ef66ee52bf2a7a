-- The symbols that a machine has read, by what it has begun.
use Rattle.std.proofs.Common.{◌≡◌, ℕ, suc, true, List, [], ◌∷◌, ◌++◌, Option, Some, None, refl, sym, ap, ◌∙◌, subst, inl, inr, append_assoc, append-nil, IfSome}
use Rattle.ms_parse_stack.specs.declared.junction.Junction.{Junction}
use Rattle.ms_parse_stack.specs.declared.sign.Sign.TheVariants as signs
use Rattle.ms_parse_stack.specs.inner.Frames.{Frame, in_brackets, behind_prefix, behind_infix, behind_joining, filled, yields, link}
use Rattle.ms_parse_stack.specs.inner.Machine.{Machine, State, within, done, stopped, GoesOn, Action, moves, enters, follows, stops, plugged, settled, stay, begin, infixed, linked, closed, ended, acts, behind, performed, run, shortest}
use Rattle.ms_parse_stack.specs.inner.Settled.{rests}
use Rattle.ms_parse_stack.proofs.Fitting.{link_cases}
use Rattle.ms_parse_stack.proofs.Runs.{performed_on}
use Rattle.ms_parse_stack.proofs.Settling.{settled_by}
use Rattle.ms_parse_stack.proofs.Soundness.{Grammar, HasSome, IsSound, AreSound, IsSoundState, IsSoundAction, IsSoundGrammar, performed_sound}

-- The symbols of formulas, of operators, and of what has been read of the innermost formula, and those that end it.
pub record Spelling (Prefix Binary Place Formula Symbol : Type 0) : Type 0 where
  pub spelled : Formula → List Symbol
  pub before : Prefix → List Symbol
  pub infix_sign : Binary → Symbol
  pub joining_sign : Junction → Symbol
  pub open_sign : Symbol
  pub close_sign : Symbol
  pub end_sign : Symbol
  pub said : Place → List Symbol
  pub ending : Place → List Symbol

module _ {Prefix Binary Place Formula Symbol : Type 0} (w : Spelling Prefix Binary Place Formula Symbol) where
  -- further operands, each with the operator before it
  abbrev pub spelled_behind : Junction → List Formula → List Symbol
  spelled_behind op [] = []
  spelled_behind op (f ∷ fs) = w.joining_sign op ∷ w.spelled f ++ spelled_behind op fs

  -- operands with the operator between them
  abbrev pub spelled_between : Junction → List Formula → List Symbol
  spelled_between op [] = []
  spelled_between op (f ∷ fs) = w.spelled f ++ spelled_behind op fs

  -- the symbols of a frame before its hole, and behind it

  abbrev pub said_before : Frame Prefix Binary Formula → List Symbol
  said_before in_brackets = w.open_sign ∷ []
  said_before (behind_prefix op) = w.before op
  said_before (behind_infix op left) = w.spelled left ++ w.infix_sign op ∷ []
  said_before (behind_joining op operands) = spelled_between op operands ++ w.joining_sign op ∷ []

  abbrev pub left_open : Frame Prefix Binary Formula → List Symbol
  left_open in_brackets = w.close_sign ∷ []
  left_open (behind_prefix op) = []
  left_open (behind_infix op left) = []
  left_open (behind_joining op operands) = []

  -- so for a whole stack

  abbrev pub said_stack : List (Frame Prefix Binary Formula) → List Symbol
  said_stack [] = []
  said_stack (frame ∷ frames) = said_stack frames ++ said_before frame

  abbrev pub closing : List (Frame Prefix Binary Formula) → List Symbol
  closing [] = []
  closing (frame ∷ frames) = left_open frame ++ closing frames

  -- the symbols that a state has read
  abbrev pub said : State Prefix Binary Place Formula → List Symbol
  said (within frames p) = said_stack frames ++ w.said p
  said (done f) = w.spelled f ++ w.end_sign ∷ []
  said stopped = []

  -- the shortest row of symbols that ends what a state has begun
  abbrev pub rest : State Prefix Binary Place Formula → List Symbol
  rest (within frames p) = w.ending p ++ (closing frames ++ w.end_sign ∷ [])
  rest (done f) = []
  rest stopped = []

regroup : {Symbol : Type 0} (a b c d e : List Symbol) → a ++ ((b ++ (c ++ d)) ++ e) ≡ (a ++ b) ++ (c ++ (d ++ e))
regroup a b c d e = simp append_assoc

regroup-link : {Symbol : Type 0} (a b c : List Symbol) (x : Symbol) → a ++ ((b ++ (x ∷ c)) ++ x ∷ []) ≡ ((a ++ (b ++ x ∷ [])) ++ c) ++ x ∷ []
regroup-link a b c x = simp append_assoc

regroup-close : {Symbol : Type 0} (a b : List Symbol) (x y : Symbol) → a ++ (x ∷ (b ++ y ∷ [])) ≡ ((a ++ x ∷ []) ++ b) ++ y ∷ []
regroup-close a b x y = simp append_assoc

regroup-rest : {Symbol : Type 0} (a b c d e : List Symbol) → (a ++ b) ++ (c ++ (d ++ e)) ≡ (a ++ ((b ++ c) ++ d)) ++ e
regroup-rest a b c d e = simp append_assoc

module _ {Prefix Binary Place Formula Symbol : Type 0} (m : Machine Prefix Binary Place Formula) (g : Grammar Prefix Place Formula) (w : Spelling Prefix Binary Place Formula Symbol) where
  abbrev Stack : Type 0
  Stack = List (Frame Prefix Binary Formula)

  abbrev Standing : Type 0
  Standing = State Prefix Binary Place Formula

  -- what operators make is spelled with the operators, and so is what can end at a place
  pub record IsSpelling : Type 0 where
    pub brackets_spelled : (f : Formula) → w.spelled (m.operators.brackets f) ≡ w.open_sign ∷ w.spelled f ++ w.close_sign ∷ []
    pub prefixed_spelled : (op : Prefix) (f : Formula) → w.spelled (m.operators.prefixed op f) ≡ w.before op ++ w.spelled f
    pub binary_spelled : (op : Binary) (f h : Formula) → w.spelled (m.operators.binary op f h) ≡ w.spelled f ++ w.infix_sign op ∷ w.spelled h
    pub joined_spelled : (op : Junction) (fs : List Formula) → w.spelled (m.operators.joined op fs) ≡ spelled_between w op fs
    pub wanted_said : w.said m.wanted ≡ []
    pub holding_said : (f : Formula) → w.said (m.holding f) ≡ w.spelled f
    pub operand_said : (p : Place) → IfSome (m.operand p) (λ f. w.said p ≡ w.spelled f)
    pub completed_said : (p : Place) → w.spelled (m.completed p) ≡ w.said p ++ w.ending p

  -- the symbol is said with what it does
  abbrev pub IsSaid : Symbol → Action Prefix Binary Place Formula → Type 0
  IsSaid x (moves move) = (p : Place) → g.IsSoundPlace p → IfSome (move p) (λ q. w.said q ≡ w.said p ++ x ∷ [])
  IsSaid x (enters opens) = (p : Place) → IfSome (opens p) (λ frame. said_before w frame ≡ w.said p ++ x ∷ [])
  IsSaid x (follows (signs.Infix op)) = x ≡ w.infix_sign op
  IsSaid x (follows (signs.Joining op)) = x ≡ w.joining_sign op
  IsSaid x (follows signs.Close) = x ≡ w.close_sign
  IsSaid x (follows signs.End) = x ≡ w.end_sign
  IsSaid x stops = Unit {0}

  -- the symbol's action is sound, and it is said with it
  abbrev pub IsActing : (Symbol → Action Prefix Binary Place Formula) → Symbol → Type 0
  IsActing action x = IsSoundAction m g (action x) × IsSaid x (action x)

  abbrev pub AreActing : (Symbol → Action Prefix Binary Place Formula) → List Symbol → Type 0
  AreActing action [] = Unit {0}
  AreActing action (x ∷ xs) = IsActing action x × AreActing action xs

  -- The state has read these symbols, and what it has begun is as the grammar asks.
  pub record HasRead (front : List Symbol) (t : Standing) : Type 0 where
    pub sound : IsSoundState m g t
    pub is : GoesOn t → said w t ≡ front

  -- what an act does that finds a stack and an operand
  abbrev ActSays : ℕ → (Stack × Formula → Standing) → Symbol → Type 0
  ActSays least act x =
      (held : Stack × Formula) → AreSound m g held.0 → rests (yields m.operators least) held.0 → GoesOn (act held) → said w (act held) ≡ (said_stack w held.0 ++ w.spelled held.1) ++ x ∷ []

  -- filled frames have the same symbols
  record IsKept (whole : List Symbol) (held : Stack × Formula) : Type 0 where
    sound : AreSound m g held.0
    is : said_stack w held.0 ++ w.spelled held.1 ≡ whole

  behind-more : (op : Junction) (fs : List Formula) (f : Formula) → spelled_behind w op (fs ++ f ∷ []) ≡ spelled_behind w op fs ++ w.joining_sign op ∷ w.spelled f
  behind-more op [] f = ap (λ x. w.joining_sign op ∷ x) (append-nil (w.spelled f))
  behind-more op (e ∷ fs) f =
      ap (λ x. w.joining_sign op ∷ (w.spelled e ++ x)) (behind-more op fs f) ∙ ap (λ x. w.joining_sign op ∷ x) (sym (append_assoc (w.spelled e) (spelled_behind w op fs) (w.joining_sign op ∷ w.spelled f)))

  between-more : (op : Junction) (fs : List Formula) (f : Formula) → HasSome fs → spelled_between w op (fs ++ f ∷ []) ≡ spelled_between w op fs ++ w.joining_sign op ∷ w.spelled f
  between-more op [] f h = absurd h
  between-more op (e ∷ fs) f h = ap (λ x. w.spelled e ++ x) (behind-more op fs f) ∙ sym (append_assoc (w.spelled e) (spelled_behind w op fs) (w.joining_sign op ∷ w.spelled f))

  yielding-closed : (least : ℕ) (frame : Frame Prefix Binary Formula) → yields m.operators least frame ≡ true → left_open w frame ≡ []
  yielding-closed least in_brackets h = cc
  yielding-closed least (behind_prefix op) h = refl
  yielding-closed least (behind_infix op left) h = refl
  yielding-closed least (behind_joining op operands) h = refl

  module _ (sg : IsSoundGrammar m g) (k : IsSpelling) where
    spelled-filled : (frame : Frame Prefix Binary Formula) (f : Formula) → IsSound m g frame → w.spelled (filled m.operators frame f) ≡ said_before w frame ++ (w.spelled f ++ left_open w frame)
    spelled-filled in_brackets f sound = k.brackets_spelled f
    spelled-filled (behind_prefix op) f sound = k.prefixed_spelled op f ∙ ap (λ x. w.before op ++ x) (sym (append-nil (w.spelled f)))
    spelled-filled (behind_infix op left) f sound =
        k.binary_spelled op left f ∙ ap (λ x. w.spelled left ++ (w.infix_sign op ∷ x)) (sym (append-nil (w.spelled f))) ∙ sym (append_assoc (w.spelled left) (w.infix_sign op ∷ []) (w.spelled f ++ []))
    spelled-filled (behind_joining op operands) f sound =
        k.joined_spelled op (operands ++ f ∷ []) ∙ between-more op operands f sound.some ∙ ap (λ x. spelled_between w op operands ++ (w.joining_sign op ∷ x)) (sym (append-nil (w.spelled f)))
        ∙ sym (append_assoc (spelled_between w op operands) (w.joining_sign op ∷ []) (w.spelled f ++ []))

    -- the symbols of the whole
    spelled-plugged : (frames : Stack) (f : Formula) → AreSound m g frames → w.spelled (plugged m frames f) ≡ said_stack w frames ++ (w.spelled f ++ closing w frames)
    spelled-plugged [] f sound = sym (append-nil (w.spelled f))
    spelled-plugged (frame ∷ frames) f sound =
        spelled-plugged frames (filled m.operators frame f) sound.2
        ∙ ap (λ x. said_stack w frames ++ (x ++ closing w frames)) (spelled-filled frame f sound.0)
        ∙ regroup (said_stack w frames) (said_before w frame) (w.spelled f) (left_open w frame) (closing w frames)

    kept_filled : (least : ℕ) (whole : List Symbol) (frame : Frame Prefix Binary Formula) (frames : Stack) (f : Formula) → yields m.operators least frame ≡ true → IsKept whole (frame ∷ frames, f) → IsKept whole (frames, filled m.operators frame f)
    kept_filled least whole frame frames f e h =
        let same : w.spelled (filled m.operators frame f) ≡ said_before w frame ++ w.spelled f =
        spelled-filled frame f h.sound.0 ∙ ap (λ x. said_before w frame ++ (w.spelled f ++ x)) (yielding-closed least frame e) ∙ ap (λ x. said_before w frame ++ x) (append-nil (w.spelled f)) in
        record {
          sound = h.sound.2;
          is = ap (λ x. said_stack w frames ++ x) same ∙ sym (append_assoc (said_stack w frames) (said_before w frame) (w.spelled f)) ∙ h.is;
        }

    acts_said : (least : ℕ) (act : Stack × Formula → Standing) (x : Symbol) (frames : Stack) (p : Place) (held : Option Formula) → ActSays least act x → AreSound m g frames → IfSome held (λ f. w.said p ≡ w.spelled f)
        → GoesOn (acts m least act frames held) → said w (acts m least act frames held) ≡ (said_stack w frames ++ w.said p) ++ x ∷ []
    acts_said least act x frames p (Some f) further sound is on =
        let whole = said_stack w frames ++ w.spelled f in
        let all = settled_by (filled m.operators) (yields m.operators least) (IsKept whole) (kept_filled least whole) frames f (record { sound = sound; is = refl }) in
        further (settled m least frames f) all.0.sound all.1 on ∙ ap (λ y. y ++ x ∷ []) (all.0.is ∙ ap (λ y. said_stack w frames ++ y) (sym is))
    acts_said least act x frames p None further sound is on = absurd on

    behind_said : (least : ℕ) (act : Stack × Formula → Standing) (x : Symbol) (t : Standing) → ActSays least act x → IsSoundState m g t → GoesOn (behind m least act t) → said w (behind m least act t) ≡ said w t ++ x ∷ []
    behind_said least act x (within frames p) further sound on = acts_said least act x frames p (m.operand p) further sound.0 (k.operand_said p) on
    behind_said least act x (done f) further sound on = absurd on
    behind_said least act x stopped further sound on = absurd on

    -- a formula is wanted there
    wanted_said : (frames : Stack) → said w (within frames m.wanted) ≡ said_stack w frames
    wanted_said frames = ap (λ y. said_stack w frames ++ y) k.wanted_said ∙ append-nil (said_stack w frames)

    infixed_said : (op : Binary) → ActSays (m.operators.left_level op) (infixed m op) (w.infix_sign op)
    infixed_said op (frames, f) sound rest on = wanted_said (behind_infix op f ∷ frames) ∙ sym (append_assoc (said_stack w frames) (w.spelled f) (w.infix_sign op ∷ []))

    link_said : (op : Junction) (f : Formula) (frames : Stack) → AreSound m g frames → rests (yields m.operators (suc (m.operators.junction_level op))) frames → said_stack w (link op f frames) ≡ (said_stack w frames ++ w.spelled f) ++ w.joining_sign op ∷ []
    link_said op f frames sound rest =
        elim (link_cases m.operators sg.levelled op f frames rest) [
          | inl first ↦
              ap (said_stack w) first.is ∙ ap (λ x. said_stack w frames ++ (x ++ w.joining_sign op ∷ [])) (append-nil (w.spelled f))
              ∙ sym (append_assoc (said_stack w frames) (w.spelled f) (w.joining_sign op ∷ []))
          | inr further ↦
              let some = (subst (AreSound m g) further.top sound).0.some in
              ap (said_stack w) further.is ∙ ap (λ x. said_stack w further.below ++ (x ++ w.joining_sign op ∷ [])) (between-more op further.operands f some)
              ∙ regroup-link (said_stack w further.below) (spelled_between w op further.operands) (w.spelled f) (w.joining_sign op)
              ∙ ap (λ x. (said_stack w x ++ w.spelled f) ++ w.joining_sign op ∷ []) (sym further.top)
        ]

    linked_said : (op : Junction) → ActSays (suc (m.operators.junction_level op)) (linked m op) (w.joining_sign op)
    linked_said op (frames, f) sound rest on = wanted_said (link op f frames) ∙ link_said op f frames sound rest

    closed_said : ActSays 0 (closed m) w.close_sign
    closed_said ([], f) sound rest on = absurd on
    closed_said (in_brackets ∷ frames, f) sound rest on =
        ap (λ y. said_stack w frames ++ y) (k.holding_said (m.operators.brackets f) ∙ k.brackets_spelled f) ∙ regroup-close (said_stack w frames) (w.spelled f) w.open_sign w.close_sign
    closed_said (behind_prefix op ∷ frames, f) sound rest on = absurd on
    closed_said (behind_infix op left ∷ frames, f) sound rest on = absurd on
    closed_said (behind_joining op operands ∷ frames, f) sound rest on = absurd on

    ended_said : ActSays 0 (ended m) w.end_sign
    ended_said ([], f) sound rest on = refl
    ended_said (frame ∷ frames, f) sound rest on = absurd on

    stay_said : (frames : Stack) (p : Place) (x : Symbol) (next : Option Place) → IfSome next (λ q. w.said q ≡ w.said p ++ x ∷ []) → GoesOn (stay m frames next) → said w (stay m frames next) ≡ (said_stack w frames ++ w.said p) ++ x ∷ []
    stay_said frames p x (Some q) is on = ap (λ y. said_stack w frames ++ y) is ∙ sym (append_assoc (said_stack w frames) (w.said p) (x ∷ []))
    stay_said frames p x None is on = absurd on

    begin_said : (frames : Stack) (p : Place) (x : Symbol) (next : Option (Frame Prefix Binary Formula)) → IfSome next (λ frame. said_before w frame ≡ w.said p ++ x ∷ []) → GoesOn (begin m frames next)
        → said w (begin m frames next) ≡ (said_stack w frames ++ w.said p) ++ x ∷ []
    begin_said frames p x (Some frame) is on = wanted_said (frame ∷ frames) ∙ ap (λ y. said_stack w frames ++ y) is ∙ sym (append_assoc (said_stack w frames) (w.said p) (x ∷ []))
    begin_said frames p x None is on = absurd on

    performed_said : (a : Action Prefix Binary Place Formula) (x : Symbol) (t : Standing) → IsSaid x a → IsSoundState m g t → GoesOn (performed m a t) → said w (performed m a t) ≡ said w t ++ x ∷ []
    performed_said (moves move) x (within frames p) h sound on = stay_said frames p x (move p) (h p sound.1) on
    performed_said (moves move) x (done f) h sound on = absurd on
    performed_said (moves move) x stopped h sound on = absurd on
    performed_said (enters opens) x (within frames p) h sound on = begin_said frames p x (opens p) (h p) on
    performed_said (enters opens) x (done f) h sound on = absurd on
    performed_said (enters opens) x stopped h sound on = absurd on
    performed_said (follows (signs.Infix op)) x t h sound on = behind_said (m.operators.left_level op) (infixed m op) x t (subst (ActSays (m.operators.left_level op) (infixed m op)) (sym h) (infixed_said op)) sound on
    performed_said (follows (signs.Joining op)) x t h sound on =
        behind_said (suc (m.operators.junction_level op)) (linked m op) x t (subst (ActSays (suc (m.operators.junction_level op)) (linked m op)) (sym h) (linked_said op)) sound on
    performed_said (follows signs.Close) x t h sound on = behind_said 0 (closed m) x t (subst (ActSays 0 (closed m)) (sym h) closed_said) sound on
    performed_said (follows signs.End) x t h sound on = behind_said 0 (ended m) x t (subst (ActSays 0 (ended m)) (sym h) ended_said) sound on
    performed_said stops x t h sound on = absurd on

    module _ (action : Symbol → Action Prefix Binary Place Formula) where
      read_step : (front : List Symbol) (t : Standing) (x : Symbol) → IsActing action x → HasRead front t → HasRead (front ++ x ∷ []) (performed m (action x) t)
      read_step front t x acting h = record {
        sound = performed_sound m g sg (action x) t acting.0 h.sound;
        is = λ on. performed_said (action x) x t acting.1 h.sound on ∙ ap (λ y. y ++ x ∷ []) (h.is (performed_on m (action x) t on));
      }

      pub read_run : (front : List Symbol) (t : Standing) (xs : List Symbol) → AreActing action xs → HasRead front t → HasRead (front ++ xs) (run m action t xs)
      read_run front t [] acting h = subst (λ y. HasRead y t) (sym (append-nil front)) h
      read_run front t (x ∷ xs) acting h =
          subst (λ y. HasRead y (run m action (performed m (action x) t) xs)) (append_assoc front (x ∷ []) xs) (read_run (front ++ x ∷ []) (performed m (action x) t) xs acting.1 (read_step front t x acting.0 h))

    -- with what ends it, the state has read the shortest formula
    pub rest_spelled : (front : List Symbol) (t : Standing) → HasRead front t → GoesOn t → front ++ rest w t ≡ w.spelled (shortest m t) ++ w.end_sign ∷ []
    rest_spelled front (within frames p) h on =
        ap (λ x. x ++ rest w (within frames p)) (sym (h.is on))
        ∙ regroup-rest (said_stack w frames) (w.said p) (w.ending p) (closing w frames) (w.end_sign ∷ [])
        ∙ ap (λ x. (said_stack w frames ++ (x ++ closing w frames)) ++ w.end_sign ∷ []) (sym (k.completed_said p))
        ∙ ap (λ x. x ++ w.end_sign ∷ []) (sym (spelled-plugged frames (m.completed p) h.sound.0))
    rest_spelled front (done f) h on = append-nil front ∙ sym (h.is on)
    rest_spelled front stopped h on = absurd on
