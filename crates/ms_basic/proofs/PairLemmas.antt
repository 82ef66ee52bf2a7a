-- The machines of relations of a number to a second operand decide them, and no two of their states are alike.
use Rattle.std.proofs.Common.{◌≡◌, ℕ, IsTrue, [], ◌∷◌, take, refl}
use Rattle.ms_logic.specs.declared.mode.Mode.{Mode}
use Rattle.ms_logic.specs.declared.mode.Order.{Order}
use Rattle.ms_logic.specs.declared.mode.Order.TheVariants.{One, Two}
use Rattle.ms_logic.specs.Assignment.{Variable}
use Rattle.ms_logic_core.specs.Operands.{variables_of_basic}
use Rattle.ms_logic_words.specs.Content.{is_in_letters}
use Rattle.ms_basic.specs.Operands.{number}
use Rattle.ms_basic.specs.declared.pairs.PairRelation.{PairRelation}
use Rattle.ms_basic.specs.declared.pairs.PairRelation.TheVariants.{Less, Member, Least, Greatest}
use Rattle.ms_basic.specs.inner.Apart.{HasStatesApart}
use Rattle.ms_basic.specs.inner.Pairs.{pair_form, pair_table}
use Rattle.ms_basic.specs.inner.Reached.{HasStatesReached}
use Rattle.ms_basic.specs.inner.Relation.{DecidesRelation}
use Rattle.ms_basic.proofs.GreatestLemmas.{decides_max}
use Rattle.ms_basic.proofs.LeastLemmas.{decides_min}
use Rattle.ms_basic.proofs.LessLemmas.{decides_less}
use Rattle.ms_basic.proofs.MemberLemmas.{decides_member}
use Rattle.ms_basic.proofs.SmallApart.{greatest_apart, least_apart, less_apart, member_apart}
use Rattle.ms_basic.proofs.TablesReached.{greatest_reached, least_reached, less_reached, member_reached}

-- the second operand
abbrev pub second_order : PairRelation → Order
second_order Less = One
second_order Member = Two
second_order Least = Two
second_order Greatest = Two

abbrev pub second : PairRelation → ℕ → Variable
second relation other = record { name = other; order = second_order relation }

pub second_in_letters : (relation : PairRelation) → IsTrue (is_in_letters (second_order relation))
second_in_letters Less = refl
second_in_letters Member = refl
second_in_letters Least = refl
second_in_letters Greatest = refl

pub pair_operands : (relation : PairRelation) (x other : ℕ) → variables_of_basic (pair_form relation x other) ≡ number x ∷ second relation other ∷ []
pair_operands Less x other = refl
pair_operands Member x other = refl
pair_operands Least x other = refl
pair_operands Greatest x other = refl

pub pair_decides : (mode : Mode) (relation : PairRelation) (x other : ℕ)
    → DecidesRelation mode (take 2 (variables_of_basic (pair_form relation x other))) (pair_form relation x other) (pair_table relation)
pair_decides mode Less x other = decides_less mode x other
pair_decides mode Member x other = decides_member mode x other
pair_decides mode Least x other = decides_min mode x other
pair_decides mode Greatest x other = decides_max mode x other

pub pair_apart : (relation : PairRelation) → HasStatesApart 2 (pair_table relation)
pair_apart Less = less_apart
pair_apart Member = member_apart
pair_apart Least = least_apart
pair_apart Greatest = greatest_apart

pub pair_reached : (relation : PairRelation) → HasStatesReached 2 (pair_table relation)
pair_reached Less = less_reached
pair_reached Member = member_reached
pair_reached Least = least_reached
pair_reached Greatest = greatest_reached
