-- The diagram of an or, and the four starts that it needs.
use Rattle.std.proofs.Common.{◌≡◌, ℕ, zero, suc, ◌<◌, ◌≤◌, Bool, true, false, slice_get, Some, refl, sym, ap, subst, ◌∙◌, arith}
use Rattle.std.proofs.lemmas.Option.{none-some, same_Some}
use Rattle.ms_arena.specs.declared.node.Ref.{Ref}
use Rattle.ms_arena.specs.declared.node.Ref.TheVariants.{Leaf, Inner}
use Rattle.ms_arena.specs.declared.node.Node.{Node}
use Rattle.ms_arena.specs.Bits.{below_from}
use Rattle.ms_arena.specs.Diagram.{Bits, leaf_number, leaf_of, IsBefore, TestsAbove, IsOrdered, IsReduced}
use Rattle.ms_arena.specs.Reach.{here, through_low}
use Rattle.ms_logic_measures.proofs.Counting.{at_place, not_0_1, not_1_0}
use Rattle.ms_logic_starts.specs.AtLeast.{IsAtLeastNumber}
use Rattle.ms_logic_starts.specs.FirstBits.{BitsLeave}
use Rattle.ms_logic_starts.specs.NeededApart.{IsLedTo, AreLedTo, LeaveOneFunction, Leaves}
use Rattle.ms_logic_starts.specs.inner.Examples.{IsBelow, leaves_of, two_nodes}
use Rattle.ms_logic_starts.proofs.NeededApartLemmas.{needed_leave_apart}

later_node : TestsAbove two_nodes 0 (Inner 0)
later_node node held = subst (λ (n : Node). 0 < n.var) (same_Some _ node held) (omega arith)

ordered : IsOrdered two_nodes
ordered = record {
  earlier_low = at_place (λ place (node : Node). IsBefore place node.low) two_nodes (tt, (omega arith, tt));
  earlier_high = at_place (λ place (node : Node). IsBefore place node.high) two_nodes (tt, (tt, tt));
  rising_low = at_place (λ place (node : Node). TestsAbove two_nodes node.var node.low) two_nodes (tt, (later_node, tt));
  rising_high = at_place (λ place (node : Node). TestsAbove two_nodes node.var node.high) two_nodes (tt, (tt, tt));
}

one_node : (one two : ℕ) (node : Node) → slice_get two_nodes one ≡ Some node → slice_get two_nodes two ≡ Some node → one ≡ two
one_node zero zero node first second = refl
one_node zero (suc zero) node first second =
    absurd (not_1_0 (ap (λ (n : Node). n.var) (same_Some _ node first) ∙ sym (ap (λ (n : Node). n.var) (same_Some _ node second))))
one_node (suc zero) zero node first second =
    absurd (not_0_1 (ap (λ (n : Node). n.var) (same_Some _ node first) ∙ sym (ap (λ (n : Node). n.var) (same_Some _ node second))))
one_node (suc zero) (suc zero) node first second = refl
one_node (suc (suc one)) two node first second = absurd (none-some node first)
one_node zero (suc (suc two)) node first second = absurd (none-some node second)
one_node (suc zero) (suc (suc two)) node first second = absurd (none-some node second)

not_a_leaf : Inner 0 ≡ Leaf 1 → ⊥
not_a_leaf same = let never : ⊥ = cc in never

reduced : IsReduced two_nodes
reduced = record {
  ends_differ = at_place (λ place (node : Node). node.low ≡ node.high → ⊥) two_nodes ((λ same. not_0_1 (ap leaf_number same)), (not_a_leaf, tt));
  distinct = one_node;
}

-- the bit 0 leaves the other node, whose leaf is the second bit
second_bit : (bits : Bits) (bit : Bool) → bits 1 ≡ bit → leaf_of two_nodes (Inner 1) (below_from 1 (λ place. false) bits) ≡ leaf_of two_nodes (Inner 0) bits
unfolding leaf_of
second_bit bits true is = rw is refl
second_bit bits false is = rw is refl

pub left_by_zero : BitsLeave two_nodes (Inner 1) 1 (λ place. false) (Inner 0)
left_by_zero = record {
  valid = omega arith;
  behind = through_low _ refl here;
  tests = λ node held. subst (λ (n : Node). 1 ≤ n.var) (same_Some _ node held) (omega arith);
  function = λ bits. second_bit bits (bits 1) refl;
}

one_leaf : (bits : Bits) → leaf_of two_nodes (Inner 1) (below_from 1 (λ place. true) bits) ≡ leaf_of two_nodes (Leaf 1) bits
unfolding leaf_of
one_leaf bits = refl

pub left_by_one : BitsLeave two_nodes (Inner 1) 1 (λ place. true) (Leaf 1)
left_by_one = record { valid = tt; behind = tt; tests = tt; function = one_leaf }

abbrev Is : Ref → Type 0
Is reference = IsLedTo (IsBelow 4) (Leaves leaves_of two_nodes) reference

place_led : (place : ℕ) → place < 2 → Is (Inner place)
place_led zero below = (1, omega arith, λ bits. refl)
place_led (suc zero) below = (0, omega arith, λ bits. refl)
place_led (suc (suc place)) below = absurd (omega (arith, below))

number_led : (number : ℕ) → number < 2 → Is (Leaf number)
number_led number below = (suc (suc number), omega (arith, below), λ bits. refl)

pub four_led : AreLedTo (IsBelow 4) (Leaves leaves_of two_nodes) two_nodes 0 2 2
four_led = record { within = omega arith; places = λ place old below. place_led place (omega (arith, below)); numbers = number_led }

pub one_led : AreLedTo (IsBelow 4) (Leaves leaves_of two_nodes) two_nodes 1 1 0
one_led = record {
  within = omega arith;
  places = λ place old below. place_led place (omega (arith, below));
  numbers = λ number below. absurd (omega (arith, below));
}

pub four_apart : IsAtLeastNumber (LeaveOneFunction leaves_of) (IsBelow 4) 4
four_apart = needed_leave_apart (IsBelow 4) leaves_of two_nodes 0 2 2 ordered reduced four_led
