-- Laws of the order of assignments.
use Rattle.std.specs.Prelude.{◌≡◌, ℕ, ◌<◌, ◌≤◌, ◌⊎◌, ◌↔◌, List, [], ◌∷◌, Some}
use Rattle.ms_logic.specs.declared.mode.Mode.{Mode}
use Rattle.ms_logic.specs.declared.mode.Order.{Order}
use Rattle.ms_logic.specs.declared.mode.Order.TheVariants.{Zero, One, Two}
use Rattle.ms_logic.specs.Assignment.{Env, Variable, AllWithin, value_at, IsAssignment}
use Rattle.ms_logic.specs.First.{IsBefore}
use Rattle.ms_logic.specs.Letters.{bound_of}

-- a number, or each member of a set, is below n
abbrev pub IsValueBelow : ℕ → Order → ℕ → Env → Type 0
IsValueBelow n Zero x e = Unit {0}
IsValueBelow n One x e = e.number x < n
IsValueBelow n Two x e = AllWithin (Some n) (e.set x)

-- each number and each member among the values of the variables is below n
abbrev pub ValuesAreBelow : ℕ → List Variable → Env → Type 0
ValuesAreBelow n [] e = Unit {0}
ValuesAreBelow n (v ∷ vs) e = IsValueBelow n v.order v.name e × ValuesAreBelow n vs e

-- both give the variables the same values
abbrev pub GiveSameValues : List Variable → Env → Env → Type 0
GiveSameValues [] e f = Unit {0}
GiveSameValues (v ∷ vs) e f = (value_at v.order v.name e ≡ value_at v.order v.name f) × GiveSameValues vs e f

-- the bound of an assignment is the least number above each number and each member
abbrev pub BoundIsLeast : Type 0
BoundIsLeast = (n : ℕ) (variables : List Variable) (e : Env) → ValuesAreBelow n variables e ↔ (bound_of variables e ≤ n)

-- no assignment is before itself
abbrev pub BeforeIsIrreflexive : Type 0
BeforeIsIrreflexive = (variables : List Variable) (e : Env) → ¬ IsBefore variables e e

abbrev pub BeforeIsTransitive : Type 0
BeforeIsTransitive =
    (variables : List Variable) (e f g : Env) → IsBefore variables e f → IsBefore variables f g → IsBefore variables e g

-- of two assignments one is before the other, or both give the variables the same values in the same universe
abbrev pub BeforeIsTotal : Type 0
BeforeIsTotal =
    (mode : Mode) (variables : List Variable) (e f : Env) → IsAssignment mode variables e → IsAssignment mode variables f
    → IsBefore variables e f ⊎ IsBefore variables f e ⊎ ((e.universe ≡ f.universe) × GiveSameValues variables e f)
