-- The values of terms at an environment. A term with a part that has no value has none itself, and so has a term of
-- order 1 whose number is not within the universe.
use Rattle.std.specs.Prelude.{ℕ, ◌+◌, ◌-◌, List, [], ◌∷◌, Option, Some, None, if◌then◌else◌, filter}
use Rattle.std.specs.Option.{option_and_then}
use Rattle.ms_logic.specs.Assignment.{Universe, is_within, Env}
use Rattle.ms_logic.specs.FiniteSet.{set_of, union_of, intersection_of, difference_of, least, greatest, moved_up, moved_down, numbers_below, one_bits}
use Rattle.ms_logic.specs.Tree.{Term, number_variable, numeral, plus, minus, minimum, maximum, SetTerm, set_variable, empty_set, whole, literal, pconst, union, intersection, difference, shift_up, shift_down, Terms, no_terms, more_terms}

-- the number, if it is within the universe
abbrev pub if_within : Universe → ℕ → Option ℕ
if_within universe n = if is_within universe n then Some n else None

-- the members that are within the universe
abbrev pub part_within : Universe → List ℕ → List ℕ
part_within universe members = filter (is_within universe) members

-- all positions of the string; in WS1S there is no such set
abbrev pub all_positions : Universe → Option (List ℕ)
all_positions None = None
all_positions (Some size) = Some (numbers_below size)

-- a function of two values, where both are there
abbrev pub of_both : {A B C : Type 0} → (A → B → C) → Option A → Option B → Option C
of_both f None b = None
of_both f (Some x) None = None
of_both f (Some x) (Some y) = Some (f x y)

-- a function of a value, where it is there
abbrev pub of_value : {A B : Type 0} → (A → B) → Option A → Option B
of_value f None = None
of_value f (Some x) = Some (f x)

abbrev mutual
  -- the value of a term of order 1
  pub number_value : Term → Env → Option ℕ
  number_value (number_variable x) e = if_within e.universe (e.number x)
  number_value (numeral n) e = if_within e.universe n
  number_value (plus t n) e = option_and_then (λ m. if_within e.universe (m + n)) (number_value t e)
  number_value (minus t n) e = option_and_then (λ m. if_within e.universe (m - n)) (number_value t e)
  number_value (minimum s) e = option_and_then (λ members. if_within e.universe (least members)) (set_value s e)
  number_value (maximum s) e = option_and_then (λ members. if_within e.universe (greatest members)) (set_value s e)

  -- the value of a term of order 2
  pub set_value : SetTerm → Env → Option (List ℕ)
  set_value (set_variable x) e = Some (e.set x)
  set_value empty_set e = Some []
  set_value whole e = all_positions e.universe
  set_value (literal ts) e = of_value set_of (number_values ts e)
  set_value (pconst n) e = Some (part_within e.universe (one_bits n))
  set_value (union s t) e = of_both union_of (set_value s e) (set_value t e)
  set_value (intersection s t) e = of_both intersection_of (set_value s e) (set_value t e)
  set_value (difference s t) e = of_both difference_of (set_value s e) (set_value t e)
  set_value (shift_up s n) e = of_value (λ members. part_within e.universe (moved_up n members)) (set_value s e)
  set_value (shift_down s n) e = of_value (moved_down n) (set_value s e)

  -- the values of the terms of a list, where each has one
  pub number_values : Terms → Env → Option (List ℕ)
  number_values no_terms e = Some []
  number_values (more_terms t ts) e = of_both (λ n ns. n ∷ ns) (number_value t e) (number_values ts e)
