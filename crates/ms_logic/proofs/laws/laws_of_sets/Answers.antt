use Rattle.ms_logic.proofs.SetLaws.{sets_are_their_members, subset_law, listed_set, union_law, intersection_law, difference_law, moved_up_law, moved_down_law, numbers_below_law, one_bits_law, part_within_law, least_law, greatest_law}
use Rattle.ms_logic.proofs.laws.laws_of_sets.Goals as goal

pub returns-clause-sets_are_their_members : goal.returns-clause-sets_are_their_members
returns-clause-sets_are_their_members c = sets_are_their_members

pub returns-clause-listed : goal.returns-clause-listed
returns-clause-listed c = listed_set

pub returns-clause-union : goal.returns-clause-union
returns-clause-union c = union_law

pub returns-clause-intersection : goal.returns-clause-intersection
returns-clause-intersection c = intersection_law

pub returns-clause-difference : goal.returns-clause-difference
returns-clause-difference c = difference_law

pub returns-clause-moved_up : goal.returns-clause-moved_up
returns-clause-moved_up c = moved_up_law

pub returns-clause-moved_down : goal.returns-clause-moved_down
returns-clause-moved_down c = moved_down_law

pub returns-clause-numbers_below : goal.returns-clause-numbers_below
returns-clause-numbers_below c = numbers_below_law

pub returns-clause-one_bits : goal.returns-clause-one_bits
returns-clause-one_bits c = one_bits_law

pub returns-clause-part_within : goal.returns-clause-part_within
returns-clause-part_within c = part_within_law

pub returns-clause-least : goal.returns-clause-least
returns-clause-least c = least_law

pub returns-clause-greatest : goal.returns-clause-greatest
returns-clause-greatest c = greatest_law

pub returns-clause-subset : goal.returns-clause-subset
returns-clause-subset c = subset_law
