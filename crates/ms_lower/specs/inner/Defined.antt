-- A term that is a variable, or stands for a new one.
use Rattle.std.specs.Prelude.{◌≡◌, ℕ, ◌+◌, Option, Some, None}
use Rattle.std.specs.Option.{option_map}
use Rattle.ms_logic_core.specs.declared.core_formula.Core.{Core}
use Rattle.ms_logic.specs.declared.mode.Order.{Order}
use Rattle.ms_logic.specs.declared.mode.Order.TheVariants.{One}
use Rattle.ms_logic.specs.declared.mode.Quant.{Quant}
use Rattle.ms_logic.specs.declared.mode.Quant.TheVariants.{Ex}
use Rattle.ms_lower.specs.declared.cores.Bound.{Bound}
use Rattle.ms_logic_core.specs.CoreForm.{CoreForm, core_form_of, quantified, restricted}
use Rattle.ms_logic_core.specs.Spread.{Saying, TermSpread}
use Rattle.ms_lower.specs.declared.defined.Defined.{Defined}
use Rattle.ms_lower.specs.Numbering.{Numbering, renumbered}

-- a formula below the binder of a new variable, if the variable is new: it has what it is restricted to be
abbrev pub bound_where : Order → ℕ → Option CoreForm → CoreForm → CoreForm
bound_where order x None f = f
bound_where order x (Some d) f = quantified Ex order x (restricted d) f

abbrev pub below : Defined → CoreForm → CoreForm
below made f = bound_where made.order made.number (option_map core_form_of made.definition) f

-- what is said of a term is said of this variable, below its binder if it is new
pub record IsDefined (n : Numbering) (order : Order) (T : TermSpread) (free : ℕ) (made : Defined) : Type 0 where
  pub order_is : made.order ≡ order
  pub number_is : made.number ≡ n.number order made.name
  pub says : (Said : Saying) → renumbered n (T free Said) ≡ below made (renumbered n (Said made.next made.name))

-- a new variable, which has the first number that is free
abbrev pub new_definition : Order → ℕ → ℕ → Core → Defined
new_definition order free number definition = record { order = order; name = free; number = number; next = free + 1; definition = Some definition }

-- a binder of a number
abbrev pub number_binder : Quant → ℕ → Bound
number_binder quant number = record { quant = quant; order = One; number = number }
