-- The spread of a formula with other names. It is read with names, and with a number from which on all are free: where other names
-- are a map of numbers of the first ones, at the variables that are read, and the map carries the free numbers on, the core formula
-- is that of the first names with its numbers changed by the map.
use Rattle.std.specs.Prelude.{◌≡◌, ℕ, ◌+◌, List, slice_get}
use Rattle.ms_logic.specs.declared.mode.Order.{Order}
use Rattle.ms_logic.specs.Assignment.{Variable}
use Rattle.ms_logic.specs.FreeVariables.{IsBound, IsFree}
use Rattle.ms_logic_core.specs.Spread.{Names, callees_of, spread, variables_of_import}
use Rattle.ms_logic.specs.Tree.{Form}
use Rattle.ms_logic.specs.Truth.{Given}
use Rattle.ms_lower.specs.Lowered.{reads_of}
use Rattle.ms_lower.specs.Numbering.{Numbering, renumbered}

-- the map takes what is free from one number on to what is free from another
abbrev pub Carries : Numbering → ℕ → ℕ → Type 0
Carries n free next = (o : Order) (k : ℕ) → n.number o (free + k) ≡ next + k

-- the other name of a variable is the number of its first name
abbrev pub NameFollows : Numbering → Names → Names → Variable → Type 0
NameFollows n names other w = other w.order w.name ≡ n.number w.order (names w.order w.name)

-- so it is for each variable that is read
abbrev pub NamesFollow : Numbering → (Variable → Type 0) → Names → Names → Type 0
NamesFollow n Read names other = (w : Variable) → Read w → NameFollows n names other w

-- the map has the variables of the imports
abbrev pub HasImports : Given → Numbering → Type 0
HasImports given n = (i : ℕ) → n.imported i ≡ variables_of_import (slice_get given.imports i)

-- the spread of a formula depends on the names of its free variables
abbrev pub SpreadsFollowNames : Type 0
SpreadsFollowNames =
    (given : Given) (n : Numbering) (f : Form) (names other : Names) (free next : ℕ)
    → HasImports given n → Carries n free next → NamesFollow n (IsFree given f) names other
    → spread given f other next ≡ renumbered n (spread given f names free)

-- what a call of a predicate with arguments of these orders becomes depends on the names of its parameters and of what it reads
abbrev pub BodiesFollowNames : Type 0
BodiesFollowNames =
    (given : Given) (n : Numbering) (p : ℕ) (orders : List Order) (names other : Names) (free next : ℕ)
    → HasImports given n → Carries n free next
    → NamesFollow n (IsBound ((callees_of given).parameters p) orders) names other
    → NamesFollow n ((reads_of given).called p orders) names other
    → (callees_of given).body p other next ≡ renumbered n ((callees_of given).body p names free)

-- a default restriction at a variable depends on the names of what it reads there
abbrev pub DefaultsFollowNames : Type 0
DefaultsFollowNames =
    (given : Given) (n : Numbering) (p x : ℕ) (names other : Names) (free next : ℕ)
    → HasImports given n → Carries n free next → NamesFollow n ((reads_of given).default p x) names other
    → (callees_of given).default p x other next ≡ renumbered n ((callees_of given).default p x names free)
