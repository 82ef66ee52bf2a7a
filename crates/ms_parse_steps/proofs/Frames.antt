-- What the stack of the automaton says of the symbols that have been read.
use Rattle.std.proofs.Common.{◌≡◌, ℕ, suc, ◌+◌, ◌≤◌, Bool, true, false, cond, ◌||◌, List, [], ◌∷◌, length, refl, sym, ap, subst, arith, Option, leb, Some, None}
use Rattle.std.proofs.lemmas.Bool.{false≢true, leb-true}
use Rattle.ms_logic.specs.declared.mode.Rel.TheVariants.{Equal, Member}
use Rattle.ms_parse_grammar.specs.Symbol.{name, prefix_operator, infix_operator, joining, quantifier, let_word, word_where, comma, colon, Placed}
use Rattle.ms_parse_grammar.specs.declared.operator.Binary.TheVariants.{Relation}
use Rattle.ms_parse_grammar.specs.Tree.{Expression, Expressions, no_expressions, and_expression, Variables, no_variables, and_variable, Parts, no_parts, and_part}
use Rattle.ms_parse_grammar.specs.Grammar.{binary_level, left_level, prefix_level, junction_level, level, ends_open, last_ends_open, is_in, has_bare_in, some_bare_in, domain_bare_in, part_bare_in, IsVariableList, IsPartList, IsGrammatical, AreGrammatical, AreOperands, HaveGrammaticalDomains, HaveGrammaticalValues, AreOfOrder, depth}
use Rattle.ms_parse_grammar.specs.Reads.{Starts, Follows, ReadsOpening, ReadsListOpening, FirstIsAt, ReadsExpression, ReadsSeparated, ReadsList, ReadsVariables, ReadsParts}
use Rattle.ms_parse_steps.specs.inner.Machine.{Frame, prefix_frame, left_frame, joined_frame, bracket_frame, list_frame, domain_frame, body_frame, part_frame, let_frame, need, in_part, frame_depth, ends, completed, Top, collapse}

-- entries with a comma behind each
abbrev pub EntriesSoFar : Expressions → List Placed → List Placed → Type 0
EntriesSoFar no_expressions from ts = from ≡ ts
EntriesSoFar (and_expression es e) from ts = (f : List Placed) × ReadsList true (and_expression es e) from f × Follows comma f ts

abbrev pub VariablesSoFar : Variables → List Placed → List Placed → Type 0
VariablesSoFar no_variables from ts = from ≡ ts
VariablesSoFar (and_variable vs at o n d) from ts = (f : List Placed) × ReadsVariables true (and_variable vs at o n d) from f × Follows comma f ts

abbrev pub PartsSoFar : Parts → List Placed → List Placed → Type 0
PartsSoFar no_parts from ts = from ≡ ts
PartsSoFar (and_part parts at n value) from ts = (f : List Placed) × ReadsParts true (and_part parts at n value) from f × Follows comma f ts

-- the symbols of a frame
abbrev pub FrameReads : Frame → List Placed → List Placed → Type 0
FrameReads (prefix_frame at op) from ts = Starts true (prefix_operator op) at from ts
FrameReads (left_frame op l) from ts = (f : List Placed) × ReadsExpression true l from f × Follows (infix_operator op) f ts
FrameReads (joined_frame at op es) from ts = (f : List Placed) × FirstIsAt true at es × ReadsSeparated true (joining op) es from f × Follows (joining op) f ts
FrameReads (bracket_frame at b) from ts = ReadsOpening true b at from ts
FrameReads (list_frame at l es) from ts = (f : List Placed) × ReadsListOpening true l at from f × EntriesSoFar es f ts
FrameReads (domain_frame at q o vs at_v n) from ts =
    (f g h : List Placed) × Starts true (quantifier q o) at from f × VariablesSoFar vs f g × Starts true (name n) at_v g h × Follows word_where h ts
FrameReads (body_frame at q o vs) from ts =
    (f g : List Placed) × Starts true (quantifier q o) at from f × ReadsVariables true vs f g × Follows colon g ts
FrameReads (part_frame at o parts at_n n) from ts =
    (f g h : List Placed) × Starts true (let_word o) at from f × PartsSoFar parts f g × Starts true (name n) at_n g h × Follows (infix_operator (Relation Equal)) h ts
FrameReads (let_frame at o parts) from ts =
    (f g : List Placed) × Starts true (let_word o) at from f × ReadsParts true parts f g × Follows (infix_operator (Relation Member)) g ts

-- a frame is grammatical on the frames below it
abbrev pub FrameGood : List Frame → Frame → Type 0
FrameGood st (prefix_frame at op) = need st ≤ prefix_level op
FrameGood st (left_frame op l) =
    (need st ≤ binary_level op) × (left_level op ≤ level l) × (ends_open l ≡ false) × IsGrammatical l × (in_part st ≡ true → (is_in op || has_bare_in l) ≡ false)
FrameGood st (joined_frame at op es) =
    (need st ≤ junction_level op) × AreOperands (suc (junction_level op)) es × (last_ends_open es ≡ false) × (in_part st ≡ true → some_bare_in es ≡ false)
FrameGood st (bracket_frame at b) = Unit {0}
FrameGood st (list_frame at l es) = AreGrammatical es
FrameGood st (domain_frame at q o vs at_v n) =
    (need st ≤ 4) × AreOfOrder o vs × HaveGrammaticalDomains vs × (in_part st ≡ true → domain_bare_in vs ≡ false)
FrameGood st (body_frame at q o vs) =
    (need st ≤ 4) × AreOfOrder o vs × HaveGrammaticalDomains vs × (in_part st ≡ true → domain_bare_in vs ≡ false) × IsVariableList vs
FrameGood st (part_frame at o parts at_n n) = (need st ≤ 4) × HaveGrammaticalValues parts
FrameGood st (let_frame at o parts) = (need st ≤ 4) × HaveGrammaticalValues parts × IsPartList parts

-- the symbols of the whole stack
abbrev pub InFrames : ℕ → List Frame → List Placed → List Placed → Type 0
InFrames limit [] from ts = from ≡ ts
InFrames limit (f ∷ st) from ts = (m : List Placed) × InFrames limit st from m × FrameReads f m ts × FrameGood st f × (suc (length st) + frame_depth f ≤ limit)

-- an expression has been read on the stack
pub record Held (limit : ℕ) (e : Expression) (st : List Frame) (from ts : List Placed) : Type 0 where
  pub middle : List Placed
  pub frames : InFrames limit st from middle
  pub reads : ReadsExpression true e middle ts
  pub grammatical : IsGrammatical e
  pub needs : need st ≤ level e
  pub deep : length st + depth e ≤ limit
  pub quiet : in_part st ≡ true → has_bare_in e ≡ false

pub both_false : (a b : Bool) → a ≡ false → b ≡ false → (a || b) ≡ false
both_false false b p q = q
both_false true b p q = absurd (false≢true (sym p))

pub values_quiet : (parts : Parts) → HaveGrammaticalValues parts → part_bare_in parts ≡ false
values_quiet no_parts good = refl
values_quiet (and_part parts at n value) good = both_false (part_bare_in parts) (has_bare_in value) (values_quiet parts good.0) good.1

-- a frame that ends is completed
completed_held : (limit : ℕ) (b : ℕ) (f : Frame) (e : Expression) (st : List Frame) (from ts : List Placed) → ends b f ≡ true → Held limit e (f ∷ st) from ts → Held limit (completed f e) st from ts
completed_held limit b (prefix_frame at op) e st from ts is held =
    let (m, below, starts, low, deep) = held.frames in
    record { middle = m; frames = below; reads = (held.middle, starts, held.reads); grammatical = (held.needs, held.grammatical); needs = low; deep = omega (arith, held.deep); quiet = held.quiet }
completed_held limit b (left_frame op l) e st from ts is held =
    let (m, below, reads, good, deep) = held.frames in
    record {
      middle = m;
      frames = below;
      reads = (reads.0, held.middle, refl, reads.1, reads.2, held.reads);
      grammatical = (good.1, good.2, good.3, held.needs, held.grammatical);
      needs = good.0;
      deep = omega (arith, held.deep, deep);
      quiet = λ p. both_false (is_in op || has_bare_in l) (has_bare_in e) (good.4 p) (held.quiet p);
    }
completed_held limit b (joined_frame at op no_expressions) e st from ts is held = absurd (held.frames.2.2)
completed_held limit b (joined_frame at op (and_expression es x)) e st from ts is held =
    let (m, below, reads, good, deep) = held.frames in
    record {
      middle = m;
      frames = below;
      reads = (reads.1, (reads.0, held.middle, reads.2, reads.3, held.reads));
      grammatical = (tt, (good.1, good.2, held.needs, held.grammatical));
      needs = good.0;
      deep = omega (arith, held.deep, deep);
      quiet = λ p. both_false (some_bare_in (and_expression es x)) (has_bare_in e) (good.3 p) (held.quiet p);
    }
completed_held limit b (bracket_frame at x) e st from ts is held = absurd (false≢true is)
completed_held limit b (list_frame at l es) e st from ts is held = absurd (false≢true is)
completed_held limit b (domain_frame at q o vs at_v n) e st from ts is held = absurd (false≢true is)
completed_held limit b (body_frame at q o vs) e st from ts is held =
    let (m, below, reads, good, deep) = held.frames in
    record {
      middle = m;
      frames = below;
      reads = (reads.0, reads.1, held.middle, reads.2, reads.3, reads.4, held.reads);
      grammatical = (good.4, good.1, good.2, held.grammatical);
      needs = good.0;
      deep = omega (arith, held.deep, deep);
      quiet = λ p. both_false (domain_bare_in vs) (has_bare_in e) (good.3 p) (held.quiet p);
    }
completed_held limit b (part_frame at o parts at_n n) e st from ts is held = absurd (false≢true is)
completed_held limit b (let_frame at o parts) e st from ts is held =
    let (m, below, reads, good, deep) = held.frames in
    record {
      middle = m;
      frames = below;
      reads = (reads.0, reads.1, held.middle, reads.2, reads.3, reads.4, held.reads);
      grammatical = (good.2, good.1, held.grammatical);
      needs = good.0;
      deep = omega (arith, held.deep, deep);
      quiet = λ p. both_false (part_bare_in parts) (has_bare_in e) (values_quiet parts good.1) (held.quiet p);
    }

completed_closed : (b : ℕ) (f : Frame) (e : Expression) → ends b f ≡ true → 1 ≤ b → ends_open e ≡ false → ends_open (completed f e) ≡ false
completed_closed b (prefix_frame at op) e is some closed = closed
completed_closed b (left_frame op l) e is some closed = closed
completed_closed b (joined_frame at op es) e is some closed = closed
completed_closed b (bracket_frame at x) e is some closed = closed
completed_closed b (list_frame at l es) e is some closed = closed
completed_closed b (domain_frame at q o vs at_v n) e is some closed = closed
completed_closed b (body_frame at q o vs) e is some closed = absurd (omega (arith, leb-true b 0 is))
completed_closed b (part_frame at o parts at_n n) e is some closed = closed
completed_closed b (let_frame at o parts) e is some closed = absurd (omega (arith, leb-true b 0 is))

below_part : (b : ℕ) (f : Frame) (st : List Frame) → ends b f ≡ true → in_part (f ∷ st) ≡ in_part st
below_part b (prefix_frame at op) st is = refl
below_part b (left_frame op l) st is = refl
below_part b (joined_frame at op es) st is = refl
below_part b (bracket_frame at x) st is = absurd (false≢true is)
below_part b (list_frame at l es) st is = absurd (false≢true is)
below_part b (domain_frame at q o vs at_v n) st is = refl
below_part b (body_frame at q o vs) st is = refl
below_part b (part_frame at o parts at_n n) st is = absurd (false≢true is)
below_part b (let_frame at o parts) st is = refl

-- the frame on top does not end
abbrev pub Stands : ℕ → List Frame → Type 0
Stands b [] = Unit {0}
Stands b (f ∷ st) = ends b f ≡ false

pub record Collapsed (limit : ℕ) (b : ℕ) (inside : Bool) (top : Expression × List Frame) (from ts : List Placed) : Type 0 where
  pub held : Held limit top.0 top.1 from ts
  pub closed : 1 ≤ b → ends_open top.0 ≡ false
  pub stands : Stands b top.1
  pub same_part : in_part top.1 ≡ inside

-- one or the other
pub chosen : {A : Type 0} (P : A → Type 0) (b : Bool) (x y : A) → (b ≡ true → P x) → (b ≡ false → P y) → P (cond b x y)
chosen P true x y one other = one refl
chosen P false x y one other = other refl

pub chosen_yes : {A : Type 0} (b : Bool) (x y : A) → b ≡ true → cond b x y ≡ x
chosen_yes b x y is = ap (λ t. cond t x y) is

pub chosen_no : {A : Type 0} (b : Bool) (x y : A) → b ≡ false → cond b x y ≡ y
chosen_no b x y is = ap (λ t. cond t x y) is

-- what has been completed, if it is not too deep
abbrev pub CollapsedTo : ℕ → ℕ → Bool → Option Top → List Placed → List Placed → Type 0
CollapsedTo limit b inside None from ts = Unit {0}
CollapsedTo limit b inside (Some top) from ts = Collapsed limit b inside top from ts

pub collapsed : (limit : ℕ) (b : ℕ) (st : List Frame) (e : Expression) (from ts : List Placed) → Held limit e st from ts → (1 ≤ b → ends_open e ≡ false) → CollapsedTo limit b (in_part st) (collapse limit b e st) from ts
collapsed limit b [] e from ts held closed = record { held = held; closed = closed; stands = tt; same_part = refl }
collapsed limit b (f ∷ st) e from ts held closed =
    chosen (λ top. CollapsedTo limit b (in_part (f ∷ st)) top from ts) (ends b f) (cond (leb (depth (completed f e)) limit) (collapse limit b (completed f e) st) None) (Some (e, f ∷ st))
    (λ is. chosen (λ top. CollapsedTo limit b (in_part (f ∷ st)) top from ts) (leb (depth (completed f e)) limit) (collapse limit b (completed f e) st) None
    (λ small. subst (λ p. CollapsedTo limit b p (collapse limit b (completed f e) st) from ts) (sym (below_part b f st is))
    (collapsed limit b st (completed f e) from ts (completed_held limit b f e st from ts is held) (λ some. completed_closed b f e is some (closed some))))
    (λ large. tt))
    (λ is_not. record { held = held; closed = closed; stands = is_not; same_part = refl })
