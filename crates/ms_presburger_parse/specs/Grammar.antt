-- The grammar: which symbols spell a formula, and how tightly each operator binds.
use Rattle.std.specs.Prelude.{◌≡◌, ℕ, suc, ◌≤◌, Bool, true, false, List, [], ◌∷◌, ◌++◌, flat_map}
use Rattle.ms_logic.specs.declared.mode.Rel.{Rel}
use Rattle.ms_logic.specs.declared.mode.Rel.TheVariants.{Equal, Differs, Less, AtMost, Greater, AtLeast, Member, NotMember, Sub}
use Rattle.ms_presburger.specs.declared.linear.Part.{Part}
use Rattle.ms_presburger.specs.declared.linear.Part.TheVariants.{Number, Var, Times}
use Rattle.ms_presburger.specs.Tree.{Arithmetic, truth, falsity, comparison, brackets, negation, conjunction, disjunction, implication, equivalence, quantified, Arithmetics, no_arithmetics, more_arithmetics}
use Rattle.ms_presburger_parse.specs.Symbol.{Symbol, name, number, word_true, word_false, quantifier, negation_sign, infix_operator, joining, relation, plus, comma, colon, open_bracket, close_bracket}
use Rattle.ms_presburger_parse.specs.declared.operator.Binary.{Binary}
use Rattle.ms_presburger_parse.specs.declared.operator.Binary.TheVariants.{Equivalence, Implication}
use Rattle.ms_parse_stack.specs.declared.junction.Junction.{Junction}
use Rattle.ms_parse_stack.specs.declared.junction.Junction.TheVariants.{Conjunction, Disjunction}

-- the symbols of the items of a list, with a sign between them
abbrev pub separated : {A : Type 0} → Symbol → (A → List Symbol) → List A → List Symbol
separated sign said [] = []
separated sign said (x ∷ xs) = said x ++ flat_map (λ y. sign ∷ said y) xs

-- a number, a name, or a number times a name
abbrev pub spelled_part : Part → List Symbol
spelled_part (Number n) = number n ∷ []
spelled_part (Var x) = name x ∷ []
spelled_part (Times n x) = number n ∷ name x ∷ []

abbrev pub spelled_sum : List Part → List Symbol
spelled_sum parts = separated plus spelled_part parts

abbrev pub spelled_names : List (List ℕ) → List Symbol
spelled_names xs = separated comma (λ x. name x ∷ []) xs

-- the symbols of a formula
abbrev mutual
  pub spelled : Arithmetic → List Symbol
  spelled truth = word_true ∷ []
  spelled falsity = word_false ∷ []
  spelled (comparison r left right) = spelled_sum left ++ relation r ∷ spelled_sum right
  spelled (brackets f) = open_bracket ∷ spelled f ++ close_bracket ∷ []
  spelled (negation f) = negation_sign ∷ spelled f
  spelled (conjunction fs) = spelled_between Conjunction fs
  spelled (disjunction fs) = spelled_between Disjunction fs
  spelled (implication f g) = spelled f ++ infix_operator Implication ∷ spelled g
  spelled (equivalence f g) = spelled f ++ infix_operator Equivalence ∷ spelled g
  spelled (quantified q xs f) = quantifier q ∷ spelled_names xs ++ colon ∷ spelled f

  -- operands with the operator between them
  pub spelled_between : Junction → Arithmetics → List Symbol
  spelled_between op no_arithmetics = []
  spelled_between op (more_arithmetics f fs) = spelled f ++ spelled_behind op fs

  -- further operands, each with the operator before it
  pub spelled_behind : Junction → Arithmetics → List Symbol
  spelled_behind op no_arithmetics = []
  spelled_behind op (more_arithmetics f fs) = joining op ∷ spelled f ++ spelled_behind op fs

-- The levels, from the loosest: 1 `<=>`, 2 `=>`, 3 `|`, 4 `&`, 5 `~` and quantifiers, 6 comparisons, `true`, `false` and
-- brackets.

abbrev pub binary_level : Binary → ℕ
binary_level Equivalence = 1
binary_level Implication = 2

-- The least level of a left operand. `<=>` groups to the left, so one of its own level stands there without brackets.
abbrev pub left_level : Binary → ℕ
left_level Equivalence = 1
left_level Implication = 3

-- The least level of a right operand. `=>` groups to the right.
abbrev pub right_level : Binary → ℕ
right_level Equivalence = 2
right_level Implication = 2

-- the operands of `|` and `&` are of a higher level, so that all operands at one level make one list
abbrev pub junction_level : Junction → ℕ
junction_level Disjunction = 3
junction_level Conjunction = 4

-- the level of `~` and of quantifiers, and the least level of the operand of `~`
abbrev pub prefix_level : ℕ
prefix_level = 5

abbrev pub level : Arithmetic → ℕ
level truth = 6
level falsity = 6
level (comparison r left right) = 6
level (brackets f) = 6
level (negation f) = prefix_level
level (conjunction fs) = junction_level Conjunction
level (disjunction fs) = junction_level Disjunction
level (implication f g) = binary_level Implication
level (equivalence f g) = binary_level Equivalence
level (quantified q xs f) = prefix_level

-- The formula ends with the body of a quantifier, and no bracket closes behind it. What follows it would belong to that body,
-- which reaches as far to the right as it can.
abbrev mutual
  pub ends_open : Arithmetic → Bool
  ends_open truth = false
  ends_open falsity = false
  ends_open (comparison r left right) = false
  ends_open (brackets f) = false
  ends_open (negation f) = ends_open f
  ends_open (conjunction fs) = last_ends_open fs
  ends_open (disjunction fs) = last_ends_open fs
  ends_open (implication f g) = ends_open g
  ends_open (equivalence f g) = ends_open g
  ends_open (quantified q xs f) = true

  pub last_ends_open : Arithmetics → Bool
  last_ends_open no_arithmetics = false
  last_ends_open (more_arithmetics f no_arithmetics) = ends_open f
  last_ends_open (more_arithmetics f (more_arithmetics g fs)) = last_ends_open (more_arithmetics g fs)

-- the relations of numbers that can be written
abbrev pub compares : Rel → Bool
compares Equal = true
compares Differs = true
compares Less = true
compares AtMost = true
compares Greater = true
compares AtLeast = true
compares Member = false
compares NotMember = false
compares Sub = false

-- at least one item, and at least two operands

abbrev pub HasOne : {A : Type 0} → List A → Type 0
HasOne [] = ⊥
HasOne (x ∷ xs) = Unit {0}

abbrev pub HasTwo : Arithmetics → Type 0
HasTwo no_arithmetics = ⊥
HasTwo (more_arithmetics f no_arithmetics) = ⊥
HasTwo (more_arithmetics f (more_arithmetics g fs)) = Unit {0}

-- an operand that these follow does not end in an open body
abbrev pub IsClosedBefore : Arithmetics → Arithmetic → Type 0
IsClosedBefore no_arithmetics f = Unit {0}
IsClosedBefore (more_arithmetics g gs) f = ends_open f ≡ false

-- each operand binds as tightly as its operator asks, and a left operand does not end in an open body
abbrev mutual
  pub IsGrammatical : Arithmetic → Type 0
  IsGrammatical truth = Unit {0}
  IsGrammatical falsity = Unit {0}
  IsGrammatical (comparison r left right) = (compares r ≡ true) × HasOne left × HasOne right
  IsGrammatical (brackets f) = IsGrammatical f
  IsGrammatical (negation f) = (prefix_level ≤ level f) × IsGrammatical f
  IsGrammatical (conjunction fs) = HasTwo fs × AreOperands (suc (junction_level Conjunction)) fs
  IsGrammatical (disjunction fs) = HasTwo fs × AreOperands (suc (junction_level Disjunction)) fs
  IsGrammatical (implication f g) =
      (left_level Implication ≤ level f) × (ends_open f ≡ false) × IsGrammatical f × (right_level Implication ≤ level g) × IsGrammatical g
  IsGrammatical (equivalence f g) =
      (left_level Equivalence ≤ level f) × (ends_open f ≡ false) × IsGrammatical f × (right_level Equivalence ≤ level g) × IsGrammatical g
  IsGrammatical (quantified q xs f) = HasOne xs × IsGrammatical f

  -- grammatical operands of at least this level
  pub AreOperands : ℕ → Arithmetics → Type 0
  AreOperands least no_arithmetics = Unit {0}
  AreOperands least (more_arithmetics f fs) = (least ≤ level f) × IsClosedBefore fs f × IsGrammatical f × AreOperands least fs
