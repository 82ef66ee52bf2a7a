-- A machine reads the symbols of each grammatical formula as that formula.
use Rattle.std.proofs.Common.{◌≡◌, ℕ, suc, ◌≤◌, true, List, [], ◌∷◌, ◌++◌, Some, refl, sym, ap, ◌∙◌, subst, arith, le-leb, append_assoc}
use Rattle.std.proofs.lemmas.Bool.{lt-leb}
use Rattle.ms_parse_stack.specs.declared.junction.Junction.{Junction}
use Rattle.ms_parse_stack.specs.declared.sign.Sign.TheVariants as signs
use Rattle.ms_parse_stack.specs.inner.Frames.{Frame, in_brackets, behind_prefix, behind_infix, behind_joining, hole_of, filled, yields}
use Rattle.ms_parse_stack.specs.inner.Machine.{Machine, State, within, done, Action, follows, settled, infixed, linked, closed, ended, acts, behind, performed, run, start}
use Rattle.ms_parse_stack.proofs.Fitting.{infix_rests, joining_rests, level_left, link_begins, link_further}
use Rattle.ms_parse_stack.proofs.Runs.{run-append}
use Rattle.ms_parse_stack.proofs.Settling.{settled-pop, settled-stay, settled-rests}
use Rattle.ms_parse_stack.proofs.Soundness.{Grammar, HasSome, IsPart, IsSoundGrammar}
use Rattle.ms_parse_stack.proofs.Spellings.{Spelling, IsSpelling, spelled_behind}

module _ {Prefix Binary Place Formula Symbol : Type 0} (m : Machine Prefix Binary Place Formula) (g : Grammar Prefix Place Formula) (w : Spelling Prefix Binary Place Formula Symbol) (action : Symbol → Action Prefix Binary Place Formula) where
  abbrev Stack : Type 0
  Stack = List (Frame Prefix Binary Formula)

  abbrev Standing : Type 0
  Standing = State Prefix Binary Place Formula

  -- What signs do, and that a formula binds for what stands behind it no more tightly than its operator and its last operand.
  pub record IsReader : Type 0 where
    pub infix_acts : (op : Binary) → action (w.infix_sign op) ≡ follows (signs.Infix op)
    pub joining_acts : (op : Junction) → action (w.joining_sign op) ≡ follows (signs.Joining op)
    pub close_acts : action w.close_sign ≡ follows signs.Close
    pub end_acts : action w.end_sign ≡ follows signs.End
    pub open_acts : (frames : Stack) → performed m (action w.open_sign) (within frames m.wanted) ≡ within (in_brackets ∷ frames) m.wanted
    pub prefix_acts : (op : Prefix) (frames : Stack) → g.IsSoundPrefix op → run m action (within frames m.wanted) (w.before op) ≡ within (behind_prefix op ∷ frames) m.wanted
    pub holding_operand : (f : Formula) → m.operand (m.holding f) ≡ Some f
    pub level_binary : (op : Binary) (f h : Formula) → g.level (m.operators.binary op f h) ≤ m.operators.binary_level op
    pub level_joined : (op : Junction) (fs : List Formula) → g.level (m.operators.joined op fs) ≤ m.operators.junction_level op
    pub weak_prefixed : (least : ℕ) (op : Prefix) (f : Formula) → IsPart m g (m.operators.prefix_operand op) f → least ≤ g.strength (m.operators.prefixed op f) → (least ≤ m.operators.prefix_operand op) × (least ≤ g.strength f)
    pub weak_binary : (least : ℕ) (op : Binary) (f h : Formula) → IsPart m g (m.operators.right_level op) h → least ≤ g.strength (m.operators.binary op f h) → (least ≤ m.operators.binary_level op) × (least ≤ g.strength h)
    pub weak_joined : (least : ℕ) (op : Junction) (fs : List Formula) (h : Formula) → IsPart m g (suc (m.operators.junction_level op)) h → least ≤ g.strength (m.operators.joined op (fs ++ h ∷ []))
        → (least ≤ m.operators.junction_level op) × (least ≤ g.strength h)

  -- The state holds the formula on the stack of these frames, as each symbol finds that takes it as a left operand.
  pub record Holds (frames : Stack) (f : Formula) (t : Standing) : Type 0 where
    pub stack : Stack
    pub place : Place
    pub held : Formula
    pub is : t ≡ within stack place
    pub has : m.operand place ≡ Some held
    pub settles : (least : ℕ) → least ≤ g.strength f → settled m least stack held ≡ settled m least frames f

  -- the machine reads this formula on each stack that has a place for it
  abbrev pub IsRead : Formula → Type 0
  IsRead f = (frames : Stack) → hole_of m.operators frames ≤ g.level f → Holds frames f (run m action (within frames m.wanted) (w.spelled f))

  -- an operand that others follow is as strong as the operator behind it asks
  abbrev pub IsStrongBefore : ℕ → List Formula → Formula → Type 0
  IsStrongBefore least [] f = Unit {0}
  IsStrongBefore least (h ∷ hs) f = least ≤ g.strength f

  -- operands of at least this level, which are read
  abbrev pub AreRead : ℕ → List Formula → Type 0
  AreRead least [] = Unit {0}
  AreRead least (f ∷ fs) = IsPart m g least f × IsRead f × IsStrongBefore least fs f × AreRead least fs

  -- The state has read operands of a list: a further operator goes on with the list, if it takes the last operand, and without one the
  -- list is whole.
  record IsList (op : Junction) (frames : Stack) (fs : List Formula) (f : Formula) (t : Standing) : Type 0 where
    goes : suc (m.operators.junction_level op) ≤ g.strength f → performed m (follows (signs.Joining op)) t ≡ within (behind_joining op (fs ++ f ∷ []) ∷ frames) m.wanted
    ends : HasSome fs → Holds frames (m.operators.joined op (fs ++ f ∷ [])) t

  some_left : (fs : List Formula) → HasSome (fs ++ []) → HasSome fs
  some_left [] h = h
  some_left (f ∷ fs) h = tt

  some_more : (fs gs : List Formula) (f : Formula) → HasSome ((fs ++ f ∷ []) ++ gs)
  some_more [] gs f = tt
  some_more (h ∷ fs) gs f = tt

  -- a symbol that takes the formula as a left operand finds it
  found : (frames : Stack) (f : Formula) (t : Standing) (least : ℕ) (act : Stack × Formula → Standing) → Holds frames f t → least ≤ g.strength f → behind m least act t ≡ act (settled m least frames f)
  found frames f t least act h enough = ap (behind m least act) h.is ∙ ap (acts m least act h.stack) h.has ∙ ap act (h.settles least enough)

  -- the frame on top of what holds a formula is filled with it, where the whole is taken
  holds_filled : (frame : Frame Prefix Binary Formula) (frames : Stack) (f : Formula) (t : Standing)
      → ((least : ℕ) → least ≤ g.strength (filled m.operators frame f) → (yields m.operators least frame ≡ true) × (least ≤ g.strength f)) → Holds (frame ∷ frames) f t → Holds frames (filled m.operators frame f) t
  holds_filled frame frames f t end h = record {
    stack = h.stack;
    place = h.place;
    held = h.held;
    is = h.is;
    has = h.has;
    settles = λ least enough. h.settles least (end least enough).1 ∙ settled-pop (filled m.operators) (yields m.operators least) frame frames f (end least enough).0;
  }

  module _ (s : IsSoundGrammar m g) (k : IsSpelling m g w) (r : IsReader) where
    pub holds_itself : (frames : Stack) (f : Formula) → Holds frames f (within frames (m.holding f))
    holds_itself frames f = record { stack = frames; place = m.holding f; held = f; is = refl; has = r.holding_operand f; settles = λ least h. refl }

    pub read_brackets : (f : Formula) → IsRead f → IsRead (m.operators.brackets f)
    read_brackets f read frames fits =
        let open_yet = within (in_brackets ∷ frames) m.wanted in
        let inner = run m action open_yet (w.spelled f) in
        let end : performed m (action w.close_sign) inner ≡ within frames (m.holding (m.operators.brackets f)) =
        ap (λ a. performed m a inner) r.close_acts ∙ found (in_brackets ∷ frames) f inner 0 (closed m) (read (in_brackets ∷ frames) (omega arith)) (omega arith) in
        let same = ap (run m action (within frames m.wanted)) (k.brackets_spelled f) ∙ ap (λ t. run m action t (w.spelled f ++ w.close_sign ∷ [])) (r.open_acts frames)
        ∙ run-append m action open_yet (w.spelled f) (w.close_sign ∷ []) ∙ end in
        subst (Holds frames (m.operators.brackets f)) (sym same) (holds_itself frames (m.operators.brackets f))

    pub read_prefixed : (op : Prefix) (f : Formula) → g.IsSoundPrefix op → IsPart m g (m.operators.prefix_operand op) f → IsRead f → IsRead (m.operators.prefixed op f)
    read_prefixed op f sound part read frames fits =
        let inner = run m action (within (behind_prefix op ∷ frames) m.wanted) (w.spelled f) in
        let same = ap (run m action (within frames m.wanted)) (k.prefixed_spelled op f) ∙ run-append m action (within frames m.wanted) (w.before op) (w.spelled f)
        ∙ ap (λ t. run m action t (w.spelled f)) (r.prefix_acts op frames sound) in
        subst (Holds frames (m.operators.prefixed op f)) (sym same)
        (holds_filled (behind_prefix op) frames f inner (λ least wide.
        let both = r.weak_prefixed least op f part wide in
        (le-leb least (m.operators.prefix_operand op) both.0, both.1)) (read (behind_prefix op ∷ frames) part.enough))

    pub read_binary : (op : Binary) (f h : Formula) → m.operators.left_level op ≤ g.strength f → IsPart m g (m.operators.right_level op) h → IsRead f → IsRead h → IsRead (m.operators.binary op f h)
    read_binary op f h strong part left right frames fits =
        let small : hole_of m.operators frames ≤ m.operators.binary_level op = omega (arith, fits, r.level_binary op f h) in
        let low : hole_of m.operators frames ≤ g.level f = omega (arith, small, level_left m.operators s.levelled op, strong, s.strength_level f) in
        let t = run m action (within frames m.wanted) (w.spelled f) in
        let inside = within (behind_infix op f ∷ frames) m.wanted in
        let here : performed m (action (w.infix_sign op)) t ≡ inside =
        ap (λ a. performed m a t) (r.infix_acts op) ∙ found frames f t (m.operators.left_level op) (infixed m op) (left frames low) strong
        ∙ ap (infixed m op) (settled-rests (filled m.operators) (yields m.operators (m.operators.left_level op)) frames f (infix_rests m.operators s.levelled op frames small)) in
        let same = ap (run m action (within frames m.wanted)) (k.binary_spelled op f h) ∙ run-append m action (within frames m.wanted) (w.spelled f) (w.infix_sign op ∷ w.spelled h) ∙ ap (λ u. run m action u (w.spelled h)) here in
        subst (Holds frames (m.operators.binary op f h)) (sym same)
        (holds_filled (behind_infix op f) frames h (run m action inside (w.spelled h)) (λ least wide.
        let both = r.weak_binary least op f h part wide in
        (le-leb least (m.operators.binary_level op) both.0, both.1)) (right (behind_infix op f ∷ frames) part.enough))

    list_begun : (op : Junction) (frames : Stack) (f : Formula) (t : Standing) → hole_of m.operators frames ≤ m.operators.junction_level op → Holds frames f t → IsList op frames [] f t
    list_begun op frames f t fits h = record {
      goes = λ enough.
          found frames f t (suc (m.operators.junction_level op)) (linked m op) h enough
          ∙ ap (linked m op) (settled-rests (filled m.operators) (yields m.operators (suc (m.operators.junction_level op))) frames f (joining_rests m.operators s.levelled op frames fits))
          ∙ ap (λ x. within x m.wanted) (link_begins m.operators s.levelled op f frames fits);
      ends = λ some. absurd some;
    }

    list_further : (op : Junction) (frames : Stack) (fs : List Formula) (f : Formula) (t : Standing) → IsPart m g (suc (m.operators.junction_level op)) f → Holds (behind_joining op fs ∷ frames) f t → IsList op frames fs f t
    list_further op frames fs f t part h = record {
      goes = λ enough.
          found (behind_joining op fs ∷ frames) f t (suc (m.operators.junction_level op)) (linked m op) h enough
          ∙ ap (linked m op)
          (settled-stay (filled m.operators) (yields m.operators (suc (m.operators.junction_level op))) (behind_joining op fs) frames f (lt-leb (suc (m.operators.junction_level op)) (m.operators.junction_level op) (omega arith)))
          ∙ ap (λ x. within x m.wanted) (link_further m.operators s.levelled op f fs frames);
      ends = λ some. holds_filled (behind_joining op fs) frames f t (λ least wide.
          let both = r.weak_joined least op fs f part wide in
          (le-leb least (m.operators.junction_level op) both.0, both.1)) h;
    }

    read_more : (op : Junction) (frames : Stack) (before : List Formula) (f : Formula) (fs : List Formula) (t : Standing) → IsList op frames before f t → IsStrongBefore (suc (m.operators.junction_level op)) fs f
        → AreRead (suc (m.operators.junction_level op)) fs → HasSome (before ++ fs) → Holds frames (m.operators.joined op (before ++ f ∷ fs)) (run m action t (spelled_behind w op fs))
    read_more op frames before f [] t list strong read some = list.ends (some_left before some)
    read_more op frames before f (h ∷ hs) t list strong read some =
        let inside = within (behind_joining op (before ++ f ∷ []) ∷ frames) m.wanted in
        let t' = run m action inside (w.spelled h) in
        let next = list_further op frames (before ++ f ∷ []) h t' read.0 (read.1 (behind_joining op (before ++ f ∷ []) ∷ frames) read.0.enough) in
        let rest = read_more op frames (before ++ f ∷ []) h hs t' next read.2 read.3 (some_more before hs f) in
        let goes = ap (λ a. performed m a t) (r.joining_acts op) ∙ list.goes strong in
        let same : run m action t (spelled_behind w op (h ∷ hs)) ≡ run m action t' (spelled_behind w op hs) =
        ap (λ u. run m action u (w.spelled h ++ spelled_behind w op hs)) goes ∙ run-append m action inside (w.spelled h) (spelled_behind w op hs) in
        subst (λ x. Holds frames (m.operators.joined op x) (run m action t (spelled_behind w op (h ∷ hs)))) (append_assoc before (f ∷ []) (h ∷ hs))
        (subst (Holds frames (m.operators.joined op ((before ++ f ∷ []) ++ h ∷ hs))) (sym same) rest)

    pub read_joined : (op : Junction) (f : Formula) (fs : List Formula) → HasSome fs → AreRead (suc (m.operators.junction_level op)) (f ∷ fs) → IsRead (m.operators.joined op (f ∷ fs))
    read_joined op f fs some read frames fits =
        let small : hole_of m.operators frames ≤ m.operators.junction_level op = omega (arith, fits, r.level_joined op (f ∷ fs)) in
        let low : hole_of m.operators frames ≤ g.level f = omega (arith, small, read.0.enough) in
        let t = run m action (within frames m.wanted) (w.spelled f) in
        let list = list_begun op frames f t small (read.1 frames low) in
        let same = ap (run m action (within frames m.wanted)) (k.joined_spelled op (f ∷ fs)) ∙ run-append m action (within frames m.wanted) (w.spelled f) (spelled_behind w op fs) in
        subst (Holds frames (m.operators.joined op (f ∷ fs))) (sym same) (read_more op frames [] f fs t list read.2 read.3 some)

    -- the whole, with the symbol that ends it
    pub reads_whole : (f : Formula) → IsRead f → run m action (start m) (w.spelled f ++ w.end_sign ∷ []) ≡ done f
    reads_whole f read =
        let t = run m action (start m) (w.spelled f) in
        run-append m action (start m) (w.spelled f) (w.end_sign ∷ []) ∙ ap (λ a. performed m a t) r.end_acts ∙ found [] f t 0 (ended m) (read [] (omega arith)) (omega arith)
