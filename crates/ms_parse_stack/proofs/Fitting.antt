-- How the levels of frames and of operators fit together.
use Rattle.std.proofs.Common.{◌≡◌, ℕ, suc, ◌<◌, ◌≤◌, ◌⊎◌, List, [], ◌∷◌, ◌++◌, refl, sym, ap, subst, inl, inr, arith}
use Rattle.std.proofs.Math.Nat.{eq-or-lt_of_le}
use Rattle.std.proofs.lemmas.Bool.{leb-false, lt-leb}
use Rattle.ms_parse_stack.specs.declared.junction.Junction.{Junction}
use Rattle.ms_parse_stack.specs.declared.junction.Junction.TheVariants.{Conjunction, Disjunction}
use Rattle.ms_parse_stack.specs.inner.Frames.{Operators, Frame, in_brackets, behind_prefix, behind_infix, behind_joining, hole_of, yields, link}
use Rattle.ms_parse_stack.specs.inner.Settled.{rests}

-- How the operators of a level group: to the left, to the right, or all of their operands make one list.
pub data Grouping : Type 0 where
  to_left : Grouping
  to_right : Grouping
  in_lists : Grouping

-- the least levels of the operands of an operator of a level

abbrev pub left_of : Grouping → ℕ → ℕ
left_of to_left level = level
left_of to_right level = suc level
left_of in_lists level = suc level

abbrev pub right_of : Grouping → ℕ → ℕ
right_of to_left level = suc level
right_of to_right level = level
right_of in_lists level = suc level

-- an operator that does not end before another takes formulas of the level of that one, and the other way round

same_fits : (g : Grouping) (level : ℕ) → (g ≡ in_lists → ⊥) → (level < left_of g level → right_of g level ≤ level) × (right_of g level ≤ level → level < left_of g level)
same_fits to_left level single = (λ h. omega arith, λ h. omega arith)
same_fits to_right level single = (λ h. omega arith, λ h. omega arith)
same_fits in_lists level single = absurd (single refl)

left_bounds : (g : Grouping) (level : ℕ) → (level ≤ left_of g level) × (left_of g level ≤ suc level)
left_bounds to_left level = (omega arith, omega arith)
left_bounds to_right level = (omega arith, omega arith)
left_bounds in_lists level = (omega arith, omega arith)

right_bounds : (g : Grouping) (level : ℕ) → (level ≤ right_of g level) × (right_of g level ≤ suc level)
right_bounds to_left level = (omega arith, omega arith)
right_bounds to_right level = (omega arith, omega arith)
right_bounds in_lists level = (omega arith, omega arith)

module _ (grouping : ℕ → Grouping) where
  abbrev Fits : ℕ → ℕ → Type 0
  Fits inner outer = (inner < left_of (grouping outer) outer → right_of (grouping inner) inner ≤ outer) × (right_of (grouping inner) inner ≤ outer → inner < left_of (grouping outer) outer)

  fits_le : (inner outer : ℕ) → (inner ≡ outer → grouping inner ≡ in_lists → ⊥) → inner ≤ outer → Fits inner outer
  fits_le inner outer single less =
      elim (eq-or-lt_of_le less) [
        | inl same ↦ subst (Fits inner) same (same_fits (grouping inner) inner (single same))
        | inr lower ↦ (λ h. omega (arith, lower, (right_bounds (grouping inner) inner).1), λ h. omega (arith, lower, (left_bounds (grouping outer) outer).0))
      ]

  pub fits : (inner outer : ℕ) → (inner ≡ outer → grouping inner ≡ in_lists → ⊥) → Fits inner outer
  fits inner outer single = (
    λ h. (fits_le inner outer single (omega (arith, h, (left_bounds (grouping outer) outer).1))).0 h,
    λ h. (fits_le inner outer single (omega (arith, h, (right_bounds (grouping inner) inner).0))).1 h,
  )

module _ {Prefix Binary Formula : Type 0} (o : Operators Prefix Binary Formula) where
  -- The levels of the operators. An operator before its operand takes formulas of its own level, or any, and then all others have a level
  -- above the least.
  pub record AreLevelled : Type 0 where
    pub grouping : ℕ → Grouping
    pub left : (op : Binary) → o.left_level op ≡ left_of (grouping (o.binary_level op)) (o.binary_level op)
    pub right : (op : Binary) → o.right_level op ≡ right_of (grouping (o.binary_level op)) (o.binary_level op)
    pub single : (op : Binary) → grouping (o.binary_level op) ≡ in_lists → ⊥
    pub lists : (op : Junction) → grouping (o.junction_level op) ≡ in_lists
    pub differ : o.junction_level Conjunction ≡ o.junction_level Disjunction → ⊥
    pub prefix_operands : (p : Prefix) → (o.prefix_operand p ≡ o.prefix_level) ⊎ ((o.prefix_operand p ≡ 0) × ((op : Binary) → 1 ≤ o.binary_level op))
    pub infix_small : (op : Binary) → suc (o.binary_level op) ≤ o.prefix_level
    pub junction_small : (op : Junction) → suc (o.junction_level op) ≤ o.prefix_level
    pub prefix_small : o.prefix_level ≤ o.highest_level

  module _ (l : AreLevelled) where
    pub left_small : (op : Binary) → o.left_level op ≤ o.highest_level
    left_small op = omega (arith, l.left op, (left_bounds (l.grouping (o.binary_level op)) (o.binary_level op)).1, l.infix_small op, l.prefix_small)

    -- on the sides of an operator stands at least its own level

    pub level_left : (op : Binary) → o.binary_level op ≤ o.left_level op
    level_left op = omega (arith, l.left op, (left_bounds (l.grouping (o.binary_level op)) (o.binary_level op)).0)

    pub level_right : (op : Binary) → o.binary_level op ≤ o.right_level op
    level_right op = omega (arith, l.right op, (right_bounds (l.grouping (o.binary_level op)) (o.binary_level op)).0)

    pub hole_small : (frames : List (Frame Prefix Binary Formula)) → hole_of o frames ≤ o.prefix_level
    hole_small [] = omega arith
    hole_small (in_brackets ∷ frames) = omega arith
    hole_small (behind_prefix p ∷ frames) =
        elim (l.prefix_operands p) [
          | inl tight ↦ omega (arith, tight)
          | inr loose ↦ omega (arith, loose.0)
        ]
    hole_small (behind_infix op left ∷ frames) = omega (arith, l.right op, (right_bounds (l.grouping (o.binary_level op)) (o.binary_level op)).1, l.infix_small op)
    hole_small (behind_joining op operands ∷ frames) = l.junction_small op

    infix_infix : (q op : Binary) → (o.binary_level q < o.left_level op → o.right_level q ≤ o.binary_level op) × (o.right_level q ≤ o.binary_level op → o.binary_level q < o.left_level op)
    infix_infix q op =
        let both = fits l.grouping (o.binary_level q) (o.binary_level op) (λ same. l.single q) in
        (λ h. omega (arith, l.right q, both.0 (omega (arith, l.left op, h))), λ h. omega (arith, l.left op, both.1 (omega (arith, l.right q, h))))

    joining_infix : (q : Junction) (op : Binary) → (o.junction_level q < o.left_level op → suc (o.junction_level q) ≤ o.binary_level op) × (suc (o.junction_level q) ≤ o.binary_level op → o.junction_level q < o.left_level op)
    joining_infix q op =
        let both = fits l.grouping (o.junction_level q) (o.binary_level op) (λ same lists. l.single op (subst (λ x. l.grouping x ≡ in_lists) same lists)) in
        let right = ap (λ g. right_of g (o.junction_level q)) (l.lists q) in
        (λ h. omega (arith, right, both.0 (omega (arith, l.left op, h))), λ h. omega (arith, l.left op, both.1 (omega (arith, right, h))))

    infix_joining : (q : Binary) (op : Junction) → o.binary_level q < suc (o.junction_level op) → o.right_level q ≤ o.junction_level op
    infix_joining q op h =
        let left = ap (λ g. left_of g (o.junction_level op)) (l.lists op) in
        omega (arith, l.right q, (fits l.grouping (o.binary_level q) (o.junction_level op) (λ same. l.single q)).0 (omega (arith, left, h)))

    joining_joining : (q op : Junction) → (o.junction_level q ≡ o.junction_level op → ⊥) → o.junction_level q < suc (o.junction_level op) → suc (o.junction_level q) ≤ o.junction_level op
    joining_joining q op other h =
        let less : o.junction_level q ≤ o.junction_level op = omega (arith, h) in
        elim (eq-or-lt_of_le less) [
          | inl same ↦ absurd (other same)
          | inr lower ↦ lower
        ]

    -- an operator that finds the frame on top fits into its hole
    pub infix_fits : (op : Binary) (frames : List (Frame Prefix Binary Formula)) → rests (yields o (o.left_level op)) frames → hole_of o frames ≤ o.binary_level op
    infix_fits op [] h = omega arith
    infix_fits op (in_brackets ∷ frames) h = omega arith
    infix_fits op (behind_prefix p ∷ frames) h =
        let below = leb-false (o.left_level op) (o.prefix_operand p) h in
        elim (l.prefix_operands p) [
          | inl tight ↦ absurd (omega (arith, below, tight, l.left op, (left_bounds (l.grouping (o.binary_level op)) (o.binary_level op)).1, l.infix_small op))
          | inr loose ↦ omega (arith, loose.0)
        ]
    infix_fits op (behind_infix q left ∷ frames) h = (infix_infix q op).0 (leb-false (o.left_level op) (o.binary_level q) h)
    infix_fits op (behind_joining q operands ∷ frames) h = (joining_infix q op).0 (leb-false (o.left_level op) (o.junction_level q) h)

    -- and the other way round: a formula that fits into the hole on top begins above it
    pub infix_rests : (op : Binary) (frames : List (Frame Prefix Binary Formula)) → hole_of o frames ≤ o.binary_level op → rests (yields o (o.left_level op)) frames
    infix_rests op [] h = tt
    infix_rests op (in_brackets ∷ frames) h = refl
    infix_rests op (behind_prefix p ∷ frames) h =
        elim (l.prefix_operands p) [
          | inl tight ↦ absurd (omega (arith, tight, l.infix_small op))
          | inr loose ↦ lt-leb (o.left_level op) (o.prefix_operand p) (omega (arith, loose.0, loose.1 op, level_left op))
        ]
    infix_rests op (behind_infix q left ∷ frames) h = lt-leb (o.left_level op) (o.binary_level q) ((infix_infix q op).1 h)
    infix_rests op (behind_joining q operands ∷ frames) h = lt-leb (o.left_level op) (o.junction_level q) ((joining_infix q op).1 h)

    pub joining_rests : (op : Junction) (frames : List (Frame Prefix Binary Formula)) → hole_of o frames ≤ o.junction_level op → rests (yields o (suc (o.junction_level op))) frames
    joining_rests op [] h = tt
    joining_rests op (in_brackets ∷ frames) h = refl
    joining_rests op (behind_prefix p ∷ frames) h = lt-leb (suc (o.junction_level op)) (o.prefix_operand p) (omega arith)
    joining_rests op (behind_infix q left ∷ frames) h = lt-leb (suc (o.junction_level op)) (o.binary_level q) (omega (arith, level_right q))
    joining_rests op (behind_joining q operands ∷ frames) h = lt-leb (suc (o.junction_level op)) (o.junction_level q) (omega arith)

    -- a list that fits into the hole on top is a new one
    pub link_begins : (op : Junction) (f : Formula) (frames : List (Frame Prefix Binary Formula)) → hole_of o frames ≤ o.junction_level op → link op f frames ≡ behind_joining op (f ∷ []) ∷ frames
    link_begins Conjunction f [] h = refl
    link_begins Disjunction f [] h = refl
    link_begins Conjunction f (in_brackets ∷ frames) h = refl
    link_begins Disjunction f (in_brackets ∷ frames) h = refl
    link_begins Conjunction f (behind_prefix p ∷ frames) h = refl
    link_begins Disjunction f (behind_prefix p ∷ frames) h = refl
    link_begins Conjunction f (behind_infix q left ∷ frames) h = refl
    link_begins Disjunction f (behind_infix q left ∷ frames) h = refl
    link_begins Conjunction f (behind_joining Conjunction operands ∷ frames) h = absurd (omega arith)
    link_begins Conjunction f (behind_joining Disjunction operands ∷ frames) h = refl
    link_begins Disjunction f (behind_joining Conjunction operands ∷ frames) h = refl
    link_begins Disjunction f (behind_joining Disjunction operands ∷ frames) h = absurd (omega arith)

    -- what `&` or `|` does with the stack: it begins a list, which fits into the hole on top, or goes on with one

    pub record Begins (op : Junction) (f : Formula) (frames : List (Frame Prefix Binary Formula)) : Type 0 where
      pub is : link op f frames ≡ behind_joining op (f ∷ []) ∷ frames
      pub fits : hole_of o frames ≤ o.junction_level op

    pub record GoesFurther (op : Junction) (f : Formula) (frames : List (Frame Prefix Binary Formula)) : Type 0 where
      pub operands : List Formula
      pub below : List (Frame Prefix Binary Formula)
      pub top : frames ≡ behind_joining op operands ∷ below
      pub is : link op f frames ≡ behind_joining op (operands ++ f ∷ []) ∷ below

    begins : (op : Junction) (f : Formula) (frames : List (Frame Prefix Binary Formula)) → hole_of o frames ≤ o.junction_level op → Begins op f frames ⊎ GoesFurther op f frames
    begins op f frames h = inl (record { is = link_begins op f frames h; fits = h })

    pub link_cases : (op : Junction) (f : Formula) (frames : List (Frame Prefix Binary Formula)) → rests (yields o (suc (o.junction_level op))) frames → Begins op f frames ⊎ GoesFurther op f frames
    link_cases op f [] h = begins op f [] (omega arith)
    link_cases op f (in_brackets ∷ frames) h = begins op f (in_brackets ∷ frames) (omega arith)
    link_cases op f (behind_prefix p ∷ frames) h = begins op f (behind_prefix p ∷ frames) (omega (arith, leb-false (suc (o.junction_level op)) (o.prefix_operand p) h))
    link_cases op f (behind_infix q left ∷ frames) h = begins op f (behind_infix q left ∷ frames) (infix_joining q op (leb-false (suc (o.junction_level op)) (o.binary_level q) h))
    link_cases Conjunction f (behind_joining Conjunction fs ∷ frames) h = inr (record { operands = fs; below = frames; top = refl; is = refl })
    link_cases Disjunction f (behind_joining Disjunction fs ∷ frames) h = inr (record { operands = fs; below = frames; top = refl; is = refl })
    link_cases Conjunction f (behind_joining Disjunction fs ∷ frames) h =
        begins Conjunction f (behind_joining Disjunction fs ∷ frames)
        (joining_joining Disjunction Conjunction (λ same. l.differ (sym same)) (leb-false (suc (o.junction_level Conjunction)) (o.junction_level Disjunction) h))
    link_cases Disjunction f (behind_joining Conjunction fs ∷ frames) h =
        begins Disjunction f (behind_joining Conjunction fs ∷ frames)
        (joining_joining Conjunction Disjunction l.differ (leb-false (suc (o.junction_level Disjunction)) (o.junction_level Conjunction) h))

    -- and one of the same operator goes on
    pub link_further : (op : Junction) (f : Formula) (operands : List Formula) (frames : List (Frame Prefix Binary Formula)) → link op f (behind_joining op operands ∷ frames) ≡ behind_joining op (operands ++ f ∷ []) ∷ frames
    link_further Conjunction f operands frames = refl
    link_further Disjunction f operands frames = refl
