-- Forms of one atom, and of two and three forms.
use Rattle.std.specs.Prelude.{ℕ, true}
use Rattle.ms_logic.specs.declared.mode.Rel.TheVariants.{Less}
use Rattle.ms_logic.specs.Tree.{number_variable, set_variable, Form, comparison, membership, Forms, no_forms, more_forms}

-- x < y
abbrev pub less : ℕ → ℕ → Form
less x y = comparison Less (number_variable x) (number_variable y)

-- x in s
abbrev pub is_in : ℕ → ℕ → Form
is_in x s = membership true (number_variable x) (set_variable s)

abbrev pub two : Form → Form → Forms
two f g = more_forms f (more_forms g no_forms)

abbrev pub three : Form → Form → Form → Forms
three f g h = more_forms f (two g h)
