-- Names, numbers and formulas for worked examples.
use Rattle.std.specs.Prelude.{ℕ, ◌+◌, ◌-◌, nat_lt, true, if◌then◌else◌, [], ◌∷◌}
use Rattle.ms_logic_core.specs.declared.core_formula.Basic.TheVariants.{Less, Member}
use Rattle.ms_logic.specs.declared.mode.Order.TheVariants.{One, Two}
use Rattle.ms_logic.specs.declared.mode.Quant.TheVariants.{Ex}
use Rattle.ms_logic_core.specs.CoreForm as core
use Rattle.ms_logic_core.specs.CoreForm.{CoreForm}
use Rattle.ms_logic.specs.inner.Examples.{less, nothing_given, set_P, set_Q, var_x, var_y, var_z}
use Rattle.ms_logic_core.specs.Spread.{Names, named, own_names, spread, spread_under}
use Rattle.ms_logic.specs.Tree.{Form, call, implication, membership, more_arguments, no_arguments, quantified, set_argument, set_variable, unrestricted}
use Rattle.ms_logic.specs.Truth.{Given}
use Rattle.ms_lower.specs.Numbering.{Numbering, renumbered}
use Rattle.ms_logic_core.specs.Calls.{filled}
use Rattle.ms_lower.specs.Calling.{calling, calling_numbers, calls_of, plain_numbers}

-- x and y have these names, and the others keep their numbers
abbrev pub names_for : ℕ → ℕ → Names
names_for x y = named One 0 x (named One 1 y own_names)

-- 0 and 1 become 4 and 3, and what is free from 2 on becomes what is free from 5 on
abbrev pub turned : Numbering
turned = record { number = λ order x. if nat_lt x 2 then 4 - x else x + 3; imported = λ i. [] }

-- the spread of a formula without predicates
abbrev pub spread_with : Names → ℕ → Form → CoreForm
spread_with names free f = spread nothing_given f names free

abbrev pub x_less_y : Form
x_less_y = less var_x var_y

-- ex1 z: x < z
abbrev pub above_x : Form
above_x = quantified Ex One 2 unrestricted (less var_x var_z)

-- ex1 z: x < z, where x and z have these numbers
abbrev pub exists_above : ℕ → ℕ → CoreForm
exists_above x z = core.quantified Ex One z core.unrestricted (core.basic (Less x z))

-- Calls of a predicate in a source with one global, the set P with the number 0. The predicate has a set as its parameter, Q with the
-- number 1, and its body is ex1 z: z in Q => z in P.
abbrev pub one_predicate : Given
one_predicate = record {
  predicates =
      (record {
        parameters = (record { variable = record { name = 1; order = Two }; restriction = unrestricted }) ∷ [];
        body = quantified Ex One 2 unrestricted (implication (membership true var_z set_Q) (membership true var_z set_P));
      })
      ∷ [];
  imports = [];
}

-- a call at the set with the number 3
abbrev pub call_at_3 : Form
call_at_3 = call 0 (more_arguments (set_argument (set_variable 3)) no_arguments)

-- the call as an import, where so many numbers are kept and numbers are free from one on, and with what it stands for in its place
abbrev pub import_at : ℕ → ℕ → CoreForm
import_at kept free = renumbered (calling_numbers kept 1 one_predicate) (spread_under (calling one_predicate) call_at_3 own_names free)

abbrev pub filled_at : ℕ → ℕ → CoreForm
filled_at kept free = filled (calls_of 1 one_predicate) (import_at kept free)

-- the full spread of the call
abbrev pub spread_at : ℕ → ℕ → CoreForm
spread_at kept free = renumbered (plain_numbers kept 1 one_predicate) (spread one_predicate call_at_3 own_names free)

-- ex1 z: z in Q => z in P, where z, Q and P have these numbers
abbrev pub exists_in : ℕ → ℕ → ℕ → CoreForm
exists_in z q p = core.quantified Ex One z core.unrestricted (core.implication (core.basic (Member z q)) (core.basic (Member z p)))
