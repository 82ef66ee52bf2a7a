-- What can be wrong with names and orders, and which fault of several is told.
use Rattle.std.specs.Prelude.{ℕ, ◌==◌, Bool, if◌then◌else◌, nat_lt, List, [], ◌∷◌, Option, Some, None}
use Rattle.ms_edge.specs.declared.refusal.Refusal.{Refusal}
use Rattle.ms_edge.specs.declared.refusal.Refusal.TheVariants as refusal
use Rattle.ms_names_rules.specs.declared.fault.Fault.{Fault}
use Rattle.ms_names_rules.specs.declared.fault.Fault.TheVariants.{UnknownName, NamedTwice, WrongOrder, WrongCount, OutOfRange, NotHere}

-- how a fault is refused
abbrev pub refusal_of : Fault → Refusal
refusal_of (UnknownName at name) = refusal.UnknownName at name
refusal_of (NamedTwice at name) = refusal.Twice at name
refusal_of (WrongOrder at) = refusal.WrongOrder at
refusal_of (WrongCount at name given wanted) = refusal.Arity at name given wanted
refusal_of (OutOfRange at) = refusal.ConstRange (Some at)
refusal_of (NotHere at) = refusal.NotHere at

abbrev pub number_of : Fault → ℕ
number_of (UnknownName at name) = 20
number_of (NamedTwice at name) = 21
number_of (WrongOrder at) = 22
number_of (WrongCount at name given wanted) = 23
number_of (OutOfRange at) = 24
number_of (NotHere at) = 25

abbrev pub place_of : Fault → ℕ
place_of (UnknownName at name) = at.place
place_of (NamedTwice at name) = at.place
place_of (WrongOrder at) = at.place
place_of (WrongCount at name given wanted) = at.place
place_of (OutOfRange at) = at.place
place_of (NotHere at) = at.place

-- one fault of a declaration comes before another: at a lesser place, or at one place with a lesser number
abbrev pub comes_before : Fault → Fault → Bool
comes_before f g =
    if place_of f == place_of g then nat_lt (number_of f) (number_of g) else nat_lt (place_of f) (place_of g)

-- the first of a fault that is known and another
abbrev pub first_of_two : Option Fault → Fault → Option Fault
first_of_two None f = Some f
first_of_two (Some known) f = if comes_before f known then Some f else Some known

-- the first of a fault that is known and a list
abbrev pub first_with : Option Fault → List Fault → Option Fault
first_with known [] = known
first_with known (f ∷ fs) = first_with (first_of_two known f) fs

-- the first fault of a list
abbrev pub first_fault : List Fault → Option Fault
first_fault fs = first_with None fs
