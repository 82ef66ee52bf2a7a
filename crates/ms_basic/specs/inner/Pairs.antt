-- Relations of a number to a second operand, which is another number or a set, and their machines.
use Rattle.std.specs.Prelude.{ℕ}
use Rattle.ms_logic_core.specs.declared.core_formula.Basic.{Basic}
use Rattle.ms_logic_core.specs.declared.core_formula.Basic.TheVariants as basic
use Rattle.ms_dfa_explore.specs.Small.{TransitionTable}
use Rattle.ms_basic.specs.declared.pairs.PairRelation.{PairRelation}
use Rattle.ms_basic.specs.declared.pairs.PairRelation.TheVariants.{Less, Member, Least, Greatest}
use Rattle.ms_basic.specs.inner.Greatest.{greatest_table}
use Rattle.ms_basic.specs.inner.Least.{least_table}
use Rattle.ms_basic.specs.inner.Less.{less_table}
use Rattle.ms_basic.specs.inner.Member.{member_table}

abbrev pub pair_form : PairRelation → ℕ → ℕ → Basic
pair_form Less x y = basic.Less x y
pair_form Member x s = basic.Member x s
pair_form Least x s = basic.Min x s
pair_form Greatest x s = basic.Max x s

abbrev pub pair_table : PairRelation → TransitionTable
pair_table Less = less_table
pair_table Member = member_table
pair_table Least = least_table
pair_table Greatest = greatest_table
