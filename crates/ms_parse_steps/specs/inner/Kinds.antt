-- The order of a parameter: that of the word before it, or else that of the parameter before.
use Rattle.std.specs.Prelude.{◌≡◌, ◌⊎◌, List, [], ◌∷◌, Option, Some, None}
use Rattle.ms_logic.specs.declared.mode.Order.{Order}
use Rattle.ms_parse_grammar.specs.Reads.{Follows}
use Rattle.ms_parse_grammar.specs.Symbol.{kind, Placed, placed}
use Rattle.ms_parse_grammar.specs.Tree.{Variables, no_variables, and_variable}

-- the order of the last variable
abbrev pub last_order : Variables → Option Order
last_order no_variables = None
last_order (and_variable before at o n d) = Some o

-- the first symbol is no such word
abbrev pub IsNoKind : List Placed → Type 0
IsNoKind [] = Unit {0}
IsNoKind (placed (kind o) at ∷ more) = ⊥
IsNoKind (placed _ at ∷ more) = Unit {0}

-- behind these parameters one of this order begins, whose name stands from `behind` on
abbrev pub IsKind : Variables → Order → List Placed → List Placed → Type 0
IsKind vs o from behind = Follows (kind o) from behind ⊎ (IsNoKind from × (last_order vs ≡ Some o) × (from ≡ behind))

abbrev pub NoKind : Variables → List Placed → Type 0
NoKind vs from = IsNoKind from × (last_order vs ≡ None)
