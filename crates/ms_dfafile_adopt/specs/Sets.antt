-- Variables whose numbers are read as sets. A set has the same bits as a number, and each word encodes sets.
use Rattle.std.specs.Prelude.{List, map}
use Rattle.ms_logic.specs.declared.mode.Order.{Order}
use Rattle.ms_logic.specs.declared.mode.Order.TheVariants.{Zero, One, Two}
use Rattle.ms_logic.specs.Assignment.{Variable}

abbrev pub set_order : Order → Order
set_order Zero = Zero
set_order One = Two
set_order Two = Two

abbrev pub as_set : Variable → Variable
as_set v = record { name = v.name; order = set_order v.order }

abbrev pub as_sets : List Variable → List Variable
as_sets vs = map as_set vs
