-- The grammar: which symbols spell a formula, and how tightly each operator binds.
use Rattle.std.specs.Prelude.{ℕ, suc, ◌≤◌, List, [], ◌∷◌, ◌++◌, slice_index_or}
use Rattle.ms_ltlf.specs.Tree.{Temporal, truth, falsity, proposition, brackets, negation, conjunction, disjunction, implication, equivalence, next, weak_next, eventually, always, until, release, Temporals, no_temporals, more_temporals}
use Rattle.ms_ltlf_parse.specs.Symbol.{Symbol, name, word_true, word_false, prefix_operator, infix_operator, joining, open_bracket, close_bracket}
use Rattle.ms_ltlf_parse.specs.declared.operator.Binary.{Binary}
use Rattle.ms_ltlf_parse.specs.declared.operator.Binary.TheVariants.{Equivalence, Implication, Until, Release}
use Rattle.ms_parse_stack.specs.declared.junction.Junction.{Junction}
use Rattle.ms_parse_stack.specs.declared.junction.Junction.TheVariants.{Conjunction, Disjunction}
use Rattle.ms_ltlf_parse.specs.declared.operator.Prefix.TheVariants.{Negation, Next, WeakNext, Eventually, Always}

-- a name of propositions, by its bytes, and names in order
abbrev pub Names : Type 0
Names = List (List ℕ)

-- the symbols of a formula, where the proposition with number p is the name at place p
abbrev mutual
  pub spelled : Names → Temporal → List Symbol
  spelled names truth = word_true ∷ []
  spelled names falsity = word_false ∷ []
  spelled names (proposition p) = name (slice_index_or names p []) ∷ []
  spelled names (brackets f) = open_bracket ∷ spelled names f ++ close_bracket ∷ []
  spelled names (negation f) = prefix_operator Negation ∷ spelled names f
  spelled names (conjunction fs) = spelled_between names Conjunction fs
  spelled names (disjunction fs) = spelled_between names Disjunction fs
  spelled names (implication f g) = spelled names f ++ infix_operator Implication ∷ spelled names g
  spelled names (equivalence f g) = spelled names f ++ infix_operator Equivalence ∷ spelled names g
  spelled names (next f) = prefix_operator Next ∷ spelled names f
  spelled names (weak_next f) = prefix_operator WeakNext ∷ spelled names f
  spelled names (eventually f) = prefix_operator Eventually ∷ spelled names f
  spelled names (always f) = prefix_operator Always ∷ spelled names f
  spelled names (until f g) = spelled names f ++ infix_operator Until ∷ spelled names g
  spelled names (release f g) = spelled names f ++ infix_operator Release ∷ spelled names g

  -- operands with the operator between them
  pub spelled_between : Names → Junction → Temporals → List Symbol
  spelled_between names op no_temporals = []
  spelled_between names op (more_temporals f fs) = spelled names f ++ spelled_behind names op fs

  -- further operands, each with the operator before it
  pub spelled_behind : Names → Junction → Temporals → List Symbol
  spelled_behind names op no_temporals = []
  spelled_behind names op (more_temporals f fs) = joining op ∷ spelled names f ++ spelled_behind names op fs

-- The levels, from the loosest: 0 `<=>`, 1 `=>`, 2 `|`, 3 `&`, 4 `U` and `R`, 5 `~`, `X`, `WX`, `F` and `G`, 6 names, `true`,
-- `false` and brackets.

abbrev pub binary_level : Binary → ℕ
binary_level Equivalence = 0
binary_level Implication = 1
binary_level Until = 4
binary_level Release = 4

-- The least level of a left operand. `<=>` groups to the left, so one of its own level stands there without brackets.
abbrev pub left_level : Binary → ℕ
left_level Equivalence = 0
left_level Implication = 2
left_level Until = 5
left_level Release = 5

-- The least level of a right operand. `=>`, `U` and `R` group to the right.
abbrev pub right_level : Binary → ℕ
right_level Equivalence = 1
right_level Implication = 1
right_level Until = 4
right_level Release = 4

-- the operands of `|` and `&` are of a higher level, so that all operands at one level make one list
abbrev pub junction_level : Junction → ℕ
junction_level Disjunction = 2
junction_level Conjunction = 3

-- the level of an operator before its operand, and the least level of that operand
abbrev pub prefix_level : ℕ
prefix_level = 5

abbrev pub level : Temporal → ℕ
level truth = 6
level falsity = 6
level (proposition p) = 6
level (brackets f) = 6
level (negation f) = prefix_level
level (conjunction fs) = junction_level Conjunction
level (disjunction fs) = junction_level Disjunction
level (implication f g) = binary_level Implication
level (equivalence f g) = binary_level Equivalence
level (next f) = prefix_level
level (weak_next f) = prefix_level
level (eventually f) = prefix_level
level (always f) = prefix_level
level (until f g) = binary_level Until
level (release f g) = binary_level Release

-- at least two
abbrev pub HasTwo : Temporals → Type 0
HasTwo no_temporals = ⊥
HasTwo (more_temporals f no_temporals) = ⊥
HasTwo (more_temporals f (more_temporals g fs)) = Unit {0}

-- each operand binds as tightly as its operator asks
abbrev mutual
  pub IsGrammatical : Temporal → Type 0
  IsGrammatical truth = Unit {0}
  IsGrammatical falsity = Unit {0}
  IsGrammatical (proposition p) = Unit {0}
  IsGrammatical (brackets f) = IsGrammatical f
  IsGrammatical (negation f) = (prefix_level ≤ level f) × IsGrammatical f
  IsGrammatical (conjunction fs) = HasTwo fs × AreOperands (suc (junction_level Conjunction)) fs
  IsGrammatical (disjunction fs) = HasTwo fs × AreOperands (suc (junction_level Disjunction)) fs
  IsGrammatical (implication f g) = (left_level Implication ≤ level f) × IsGrammatical f × (right_level Implication ≤ level g) × IsGrammatical g
  IsGrammatical (equivalence f g) = (left_level Equivalence ≤ level f) × IsGrammatical f × (right_level Equivalence ≤ level g) × IsGrammatical g
  IsGrammatical (next f) = (prefix_level ≤ level f) × IsGrammatical f
  IsGrammatical (weak_next f) = (prefix_level ≤ level f) × IsGrammatical f
  IsGrammatical (eventually f) = (prefix_level ≤ level f) × IsGrammatical f
  IsGrammatical (always f) = (prefix_level ≤ level f) × IsGrammatical f
  IsGrammatical (until f g) = (left_level Until ≤ level f) × IsGrammatical f × (right_level Until ≤ level g) × IsGrammatical g
  IsGrammatical (release f g) = (left_level Release ≤ level f) × IsGrammatical f × (right_level Release ≤ level g) × IsGrammatical g

  -- grammatical operands of at least this level
  pub AreOperands : ℕ → Temporals → Type 0
  AreOperands least no_temporals = Unit {0}
  AreOperands least (more_temporals f fs) = (least ≤ level f) × IsGrammatical f × AreOperands least fs
