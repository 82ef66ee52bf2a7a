-- What a formula of linear arithmetic says of numbers, in WS1S of the sets of their digits (Büchi, 1960; Boudet and Comon, 1996).
-- Variables go by their numbers. Each definition takes a number x from which on all are free: it binds sets at x, x + 2, x + 4 and
-- so on, and positions at the numbers between, so each number has one order.
use Rattle.std.specs.Prelude.{ℕ, zero, suc, ◌+◌, ◌/◌, true, false, if◌then◌else◌, List, [], ◌∷◌, length, map, take, drop, flat_map}
use Rattle.std.specs.Str.{bytes_eq}
use Rattle.ms_logic.specs.declared.mode.Order.TheVariants.{One, Two}
use Rattle.ms_logic.specs.declared.mode.Quant.{Quant}
use Rattle.ms_logic.specs.declared.mode.Quant.TheVariants.{Ex, All}
use Rattle.ms_logic.specs.declared.mode.Rel.{Rel}
use Rattle.ms_logic.specs.declared.mode.Rel.TheVariants.{Equal, Differs, Less, AtMost, Greater, AtLeast, Member, NotMember, Sub}
use Rattle.ms_logic.specs.FiniteSet.{one_bits}
use Rattle.ms_logic.specs.Tree.{SetTerm, set_variable, pconst, shift_up, Form, set_comparison, membership, emptiness, quantified, unrestricted, restricted, number_variable, numeral, plus, Forms, no_forms, more_forms}
use Rattle.ms_logic.specs.Tree as sets
use Rattle.ms_presburger.specs.declared.linear.Part.{Part}
use Rattle.ms_presburger.specs.declared.linear.Part.TheVariants.{Number, Var, Times}
use Rattle.ms_presburger.specs.declared.summand.Summand.{Summand}
use Rattle.ms_presburger.specs.declared.summand.Summand.TheVariants.{Constant, Shifted}
use Rattle.ms_presburger.specs.Tree.{Arithmetic, truth, falsity, brackets, negation, conjunction, disjunction, implication, equivalence, Arithmetics, no_arithmetics, more_arithmetics}
use Rattle.ms_presburger.specs.Tree as numbers
use Rattle.ms_translation.specs.Parts.{is_in, less, three, two}

-- the set variables of the names in scope
abbrev pub Scope : Type 0
Scope = List ℕ → ℕ

-- the scope in which a name has the variable x
abbrev pub with_variable : List ℕ → ℕ → Scope → Scope
with_variable name x scope = λ other. if bytes_eq name other then x else scope other

-- n, or the set of a variable moved up by j
abbrev pub term_of_summand : Summand → SetTerm
term_of_summand (Constant n) = pconst n
term_of_summand (Shifted x j) = shift_up (set_variable x) j

-- a number that is not 0, a variable, and a variable moved up by each one bit of its factor
abbrev pub summands_of_part : Scope → Part → List Summand
summands_of_part scope (Number zero) = []
summands_of_part scope (Number (suc n)) = Constant (suc n) ∷ []
summands_of_part scope (Var name) = Shifted (scope name) 0 ∷ []
summands_of_part scope (Times n name) = map (λ j. Shifted (scope name) j) (one_bits n)

abbrev pub summands_of : Scope → List Part → List Summand
summands_of scope parts = flat_map (summands_of_part scope) parts

-- ex2 x where d: f
abbrev pub some_set : ℕ → Form → Form → Form
some_set x d f = quantified Ex Two x (restricted d) f

-- all1 p: f
abbrev pub every_place : ℕ → Form → Form
every_place p f = quantified All One p unrestricted f

-- at p the digit of y is that of u and v with a carry
abbrev pub digit_adds : ℕ → ℕ → ℕ → ℕ → ℕ → Form
digit_adds p y u v c = sets.equivalence (is_in p y) (sets.equivalence (is_in p u) (sets.equivalence (is_in p v) (is_in p c)))

-- the carry behind p is there where two of the three digits at p are
abbrev pub carry_follows : ℕ → ℕ → ℕ → ℕ → Form
carry_follows p u v c =
    sets.equivalence (membership true (plus (number_variable p) 1) (set_variable c))
    (sets.disjunction (three (sets.conjunction (two (is_in p u) (is_in p v))) (sets.conjunction (two (is_in p u) (is_in p c))) (sets.conjunction (two (is_in p v) (is_in p c)))))

-- y = u + v: ex2 c: 0 notin c & (all1 p: the digit and the carry at p)
abbrev pub adds : ℕ → ℕ → ℕ → ℕ → Form
adds y u v x =
    quantified Ex Two x unrestricted (
    sets.conjunction (two (membership false (numeral 0) (set_variable x)) (every_place (x + 3) (sets.conjunction (two (digit_adds (x + 3) y u v x) (carry_follows (x + 3) u v x))))))

-- q in u <=> q in v, for each q behind p
abbrev pub same_behind : ℕ → ℕ → ℕ → ℕ → Form
same_behind p q u v =
    every_place q (sets.implication (less p q) (sets.equivalence (is_in q u) (is_in q v)))

-- u < v: at the last digit that differs, v has a one
abbrev pub is_less : ℕ → ℕ → ℕ → Form
is_less u v x =
    quantified Ex One (x + 1) unrestricted (
    sets.conjunction (three (is_in (x + 1) v) (membership false (number_variable (x + 1)) (set_variable u)) (same_behind (x + 1) (x + 3) u v)))

-- the first half of a list is longer by at most one
abbrev pub half : List Summand → ℕ
half terms = (length terms + 1) / 2

-- y is the sum of some summands: none has the empty set, one is the sum by itself, and more have that of their halves. The first
-- argument is for the recursion alone: it is to be at least their number less one.
abbrev pub sum_is : ℕ → List Summand → ℕ → ℕ → Form
sum_is limit [] y x = emptiness (set_variable y)
sum_is limit (t ∷ []) y x = set_comparison Equal (set_variable y) (term_of_summand t)
sum_is zero (t ∷ (s ∷ more)) y x = sets.falsity
sum_is (suc limit) (t ∷ (s ∷ more)) y x =
    some_set x (sum_is limit (take (half (t ∷ (s ∷ more))) (t ∷ (s ∷ more))) x (x + 2))
    (some_set (x + 2) (sum_is limit (drop (half (t ∷ (s ∷ more))) (t ∷ (s ∷ more))) (x + 2) (x + 4)) (adds y x (x + 2) (x + 4)))

-- the relation of two numbers by their sets
abbrev pub related : Rel → ℕ → ℕ → ℕ → Form
related Equal u v x = set_comparison Equal (set_variable u) (set_variable v)
related Differs u v x = set_comparison Differs (set_variable u) (set_variable v)
related Less u v x = is_less u v x
related AtMost u v x = sets.negation (is_less v u x)
related Greater u v x = is_less v u x
related AtLeast u v x = sets.negation (is_less u v x)
related Member u v x = sets.falsity
related NotMember u v x = sets.falsity
related Sub u v x = sets.falsity

-- the relation of two sums
abbrev pub compared : Rel → List Summand → List Summand → ℕ → Form
compared r s t x =
    some_set x (sum_is (length s) s x (x + 2)) (some_set (x + 2) (sum_is (length t) t (x + 2) (x + 4)) (related r x (x + 2) (x + 4)))

-- the first name with the set x, the next with x + 2, and so on
abbrev pub over_sets : Quant → List (List ℕ) → (Scope → ℕ → Form) → Scope → ℕ → Form
over_sets q [] f scope x = f scope x
over_sets q (name ∷ names) f scope x = quantified q Two x unrestricted (over_sets q names f (with_variable name x scope) (x + 2))

-- what a formula says of the sets for the names in scope
abbrev mutual
  pub set_form : Arithmetic → Scope → ℕ → Form
  set_form truth scope x = sets.truth
  set_form falsity scope x = sets.falsity
  set_form (numbers.comparison r left right) scope x = compared r (summands_of scope left) (summands_of scope right) x
  set_form (brackets f) scope x = set_form f scope x
  set_form (negation f) scope x = sets.negation (set_form f scope x)
  set_form (conjunction fs) scope x = sets.conjunction (set_forms fs scope x)
  set_form (disjunction fs) scope x = sets.disjunction (set_forms fs scope x)
  set_form (implication f g) scope x = sets.implication (set_form f scope x) (set_form g scope x)
  set_form (equivalence f g) scope x = sets.equivalence (set_form f scope x) (set_form g scope x)
  set_form (numbers.quantified q names f) scope x = over_sets q names (λ inner y. set_form f inner y) scope x

  pub set_forms : Arithmetics → Scope → ℕ → Forms
  set_forms no_arithmetics scope x = no_forms
  set_forms (more_arithmetics f fs) scope x = more_forms (set_form f scope x) (set_forms fs scope x)
