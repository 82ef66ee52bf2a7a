-- The variables of a basic relation and of an import, in the order in which they stand there.
use Rattle.std.specs.Prelude.{ℕ, List, [], ◌∷◌, map}
use Rattle.std.specs.List.{zip}
use Rattle.ms_logic.specs.declared.mode.Order.{Order}
use Rattle.ms_logic.specs.declared.mode.Order.TheVariants.{Zero, One, Two}
use Rattle.ms_logic_core.specs.declared.core_formula.Basic.{Basic}
use Rattle.ms_logic_core.specs.declared.core_formula.Basic.TheVariants.{Truth, Number, Plus, Less, Member, Sub, Union, Inter, Diff, Up, Down, Min, Max, Bits}
use Rattle.ms_logic.specs.Assignment.{Variable}

abbrev pub variable : ℕ → Order → Variable
variable x order = record { name = x; order = order }

-- the variables of a basic relation, in the order in which it names them
abbrev pub variables_of_basic : Basic → List Variable
variables_of_basic (Truth a) = variable a Zero ∷ []
variables_of_basic (Number x n) = variable x One ∷ []
variables_of_basic (Plus x y n) = variable x One ∷ variable y One ∷ []
variables_of_basic (Less x y) = variable x One ∷ variable y One ∷ []
variables_of_basic (Member x s) = variable x One ∷ variable s Two ∷ []
variables_of_basic (Sub s t) = variable s Two ∷ variable t Two ∷ []
variables_of_basic (Union s t u) = variable s Two ∷ variable t Two ∷ variable u Two ∷ []
variables_of_basic (Inter s t u) = variable s Two ∷ variable t Two ∷ variable u Two ∷ []
variables_of_basic (Diff s t u) = variable s Two ∷ variable t Two ∷ variable u Two ∷ []
variables_of_basic (Up s t n) = variable s Two ∷ variable t Two ∷ []
variables_of_basic (Down s t n) = variable s Two ∷ variable t Two ∷ []
variables_of_basic (Min x s) = variable x One ∷ variable s Two ∷ []
variables_of_basic (Max x s) = variable x One ∷ variable s Two ∷ []
variables_of_basic (Bits s n) = variable s Two ∷ []

-- the variables that stand for those of an import
abbrev pub variables_at : List ℕ → List Variable → List Variable
variables_at xs vs = map (λ p. variable p.0 p.1.order) (zip xs vs)

-- a basic relation, with its places as its variables
abbrev pub at_places : Basic → Basic
at_places (Truth a) = Truth 0
at_places (Number x n) = Number 0 n
at_places (Plus x y n) = Plus 0 1 n
at_places (Less x y) = Less 0 1
at_places (Member x s) = Member 0 1
at_places (Sub s t) = Sub 0 1
at_places (Union s t u) = Union 0 1 2
at_places (Inter s t u) = Inter 0 1 2
at_places (Diff s t u) = Diff 0 1 2
at_places (Up s t n) = Up 0 1 n
at_places (Down s t n) = Down 0 1 n
at_places (Min x s) = Min 0 1
at_places (Max x s) = Max 0 1
at_places (Bits s n) = Bits 0 n
