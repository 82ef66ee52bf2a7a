-- Assignments of values to variables, as in the standard semantics of WS1S (Büchi, 1960; Elgot, 1961) and of
-- M2L-Str (MONA Version 1.4 User Manual, Klarlund and Møller, 2001).
use Rattle.std.specs.Prelude.{◌≡◌, ℕ, ◌<◌, ◌==◌, nat_lt, Bool, true, if◌then◌else◌, List, [], ◌∷◌, Option, Some, None, IsSome}
use Rattle.ms_logic.specs.declared.mode.Mode.{Mode}
use Rattle.ms_logic.specs.declared.mode.Mode.TheVariants.{Ws1s, M2lStr}
use Rattle.ms_logic.specs.declared.mode.Order.{Order}
use Rattle.ms_logic.specs.declared.mode.Order.TheVariants.{Zero, One, Two}
use Rattle.ms_logic.specs.declared.assignment.Value.{Value}
use Rattle.ms_logic.specs.declared.assignment.Value.TheVariants.{Truth, Number, Set}
use Rattle.ms_logic.specs.FiniteSet.{IsRising}

-- which numbers there are: all natural numbers, or the positions 0 to n - 1 of a string of length n
abbrev pub Universe : Type 0
Universe = Option ℕ

-- whether a number is within the universe
abbrev pub is_within : Universe → ℕ → Bool
is_within None n = true
is_within (Some size) n = nat_lt n size

-- a number is within the universe
abbrev pub IsWithin : Universe → ℕ → Type 0
IsWithin None n = Unit {0}
IsWithin (Some size) n = n < size

-- each member is within the universe
abbrev pub AllWithin : Universe → List ℕ → Type 0
AllWithin universe [] = Unit {0}
AllWithin universe (n ∷ more) = IsWithin universe n × AllWithin universe more

-- the universe, and for each number of a variable a value of each order; that of the variable's order counts
pub record Env : Type 0 where
  pub universe : Universe
  pub truth : ℕ → Bool
  pub number : ℕ → ℕ
  pub set : ℕ → List ℕ

-- e[x := v]: e with the value at the variable
abbrev pub assign : ℕ → Value → Env → Env
assign x (Truth b) e = record e { truth = λ y. if y == x then b else e.truth y }
assign x (Number n) e = record e { number = λ y. if y == x then n else e.number y }
assign x (Set members) e = record e { set = λ y. if y == x then members else e.set y }

-- e with the first variable at the first value, the second at the second, and so on
abbrev pub assign_all : List ℕ → List Value → Env → Env
assign_all [] values e = e
assign_all (x ∷ xs) [] e = e
assign_all (x ∷ xs) (v ∷ vs) e = assign x v (assign_all xs vs e)

-- the value of a variable of an order
abbrev pub value_at : Order → ℕ → Env → Value
value_at Zero x e = Truth (e.truth x)
value_at One x e = Number (e.number x)
value_at Two x e = Set (e.set x)

-- a value of an order: a truth value, a number of the universe, or a set of numbers of the universe
abbrev pub IsValueOf : Order → Universe → Value → Type 0
IsValueOf Zero universe (Truth b) = Unit {0}
IsValueOf One universe (Number n) = IsWithin universe n
IsValueOf Two universe (Set members) = IsRising members × AllWithin universe members
IsValueOf order universe value = ⊥

-- values of these orders, one for each
abbrev pub AreValuesOf : Universe → List Order → List Value → Type 0
AreValuesOf universe [] [] = Unit {0}
AreValuesOf universe [] (value ∷ values) = ⊥
AreValuesOf universe (order ∷ orders) [] = ⊥
AreValuesOf universe (order ∷ orders) (value ∷ values) = IsValueOf order universe value × AreValuesOf universe orders values

-- a variable by its number, with its order
pub record Variable : Type 0 where
  pub name : ℕ
  pub order : Order

-- a universe of the mode: none in WS1S, and a length in M2L-Str
abbrev pub IsUniverseOf : Mode → Universe → Type 0
IsUniverseOf Ws1s universe = universe ≡ None
IsUniverseOf M2lStr universe = IsSome universe

-- each variable of the list has a value of its order
abbrev pub GivesEach : List Variable → Env → Type 0
GivesEach [] e = Unit {0}
GivesEach (v ∷ vs) e = IsValueOf v.order e.universe (value_at v.order v.name e) × GivesEach vs e

-- an assignment of the variables in a mode
pub record IsAssignment (mode : Mode) (variables : List Variable) (e : Env) : Type 0 where
  pub universe : IsUniverseOf mode e.universe
  pub values : GivesEach variables e
