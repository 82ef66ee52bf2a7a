-- Formulas, predicates and names for the worked examples.
use Rattle.std.specs.Prelude.{ℕ, ◌+◌, [], ◌∷◌}
use Rattle.ms_logic.specs.declared.assignment.Value.TheVariants.{Number}
use Rattle.ms_logic.specs.declared.mode.Order.TheVariants.{Zero, One}
use Rattle.ms_logic.specs.declared.mode.Quant.TheVariants.{Ex}
use Rattle.ms_logic.specs.Assignment.{Env, assign}
use Rattle.ms_logic.specs.inner.Examples.{naturals, var_x, var_y, less, equal, differs, ex1_y, two_arguments, call_number, variable, number_global}
use Rattle.ms_logic_core.specs.Spread.{Names}
use Rattle.ms_logic.specs.Tree.{Form, Argument, numeral, number_variable, truth_variable, number_argument, implication, quantified, where_let, call, unrestricted, restricted}
use Rattle.ms_logic.specs.Truth.{Given}
use Rattle.ms_names_rules.specs.Numbers.{Tables}

-- the variables x and y at these numbers
abbrev pub x_and_y_at : ℕ → ℕ → Env
x_and_y_at m n = assign 0 (Number m) (assign 1 (Number n) naturals)

-- each variable has a number that is greater by this much
abbrev pub moved_names : ℕ → Names
moved_names shift order x = x + shift

-- let1 x = y, y = x in x < y
abbrev pub swap : Form
swap = where_let (0 ∷ 1 ∷ []) (two_arguments (number_argument var_y) (number_argument var_x)) (less var_x var_y)

-- ex1 y: y ~= x
abbrev pub another : Form
another = ex1_y (differs var_y var_x)

-- pred both(var0 a, var1 y) = a => 0 < y
abbrev pub both_given : Given
both_given = record {
  predicates =
      record {
        parameters = record { variable = variable 1 Zero; restriction = unrestricted } ∷ number_global 2 unrestricted ∷ [];
        body = implication (truth_variable 1) (less (numeral 0) (number_variable 2));
      }
      ∷ [];
  imports = [];
}

abbrev pub call_both : Argument → Argument → Form
call_both a b = call 0 (two_arguments a b)

-- var1 x; pred below(var1 y) = y < x
abbrev pub below_given : Given
below_given = record {
  predicates = record { parameters = number_global 1 unrestricted ∷ []; body = less var_y var_x } ∷ [];
  imports = [];
}

abbrev pub below_tables : Tables
below_tables = record { predicates = below_given.predicates; imports = []; exports = [] }

-- ex1 x where x = 1: below(x), where the bound x has this number
abbrev pub bound_below : ℕ → Form
bound_below x =
    quantified Ex One x (restricted (equal (number_variable x) (numeral 1))) (call_number 0 (number_variable x))
