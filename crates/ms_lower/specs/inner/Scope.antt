-- The names of the variables in scope: the number in the spread of each variable of the source.
use Rattle.std.specs.Prelude.{ℕ, List, [], ◌∷◌}
use Rattle.ms_logic_core.specs.Spread.{Names, named, own_names}
use Rattle.ms_logic.specs.Tree.{Declaration}
use Rattle.ms_lower.specs.declared.scope.Named.{Named}

-- the names with some more, the later ones over the earlier ones
abbrev pub names_over : Names → List Named → Names
names_over names [] = names
names_over names (n ∷ more) = names_over (named n.order n.variable n.name names) more

-- a variable without a name keeps its number
abbrev pub names_in : List Named → Names
names_in scope = names_over own_names scope

-- the names with some variables, the first over the later ones
abbrev pub all_named : List Named → Names → Names
all_named [] names = names
all_named (n ∷ more) names = named n.order n.variable n.name (all_named more names)

-- the names inside a default restriction at x, over others: x stands in the place of each parameter
abbrev pub default_over : List Declaration → ℕ → Names → Names → Names
default_over [] x names base = base
default_over (declared ∷ more) x names base =
    named declared.variable.order declared.variable.name (names declared.variable.order x) (default_over more x names base)
