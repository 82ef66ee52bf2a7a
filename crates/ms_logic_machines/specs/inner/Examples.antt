-- Machines over a set P, and a content, for worked examples.
use Rattle.std.specs.Prelude.{◌≡◌, Bool, if◌then◌else◌, List, [], ◌∷◌}
use Rattle.ms_arena.specs.declared.node.Ref.TheVariants.{Leaf}
use Rattle.ms_logic.specs.declared.mode.Mode.TheVariants.{Ws1s}
use Rattle.ms_logic.specs.declared.mode.Order.TheVariants.{Two}
use Rattle.ms_logic.specs.Truth.{Answer, answer_yes, answer_no}
use Rattle.ms_logic_words.specs.Content.{Content, head_bit, variables_by_place}
use Rattle.ms_logic_machines.specs.Machine.{Machine}

-- Yes on each word, with one state for an even and one for an odd number of letters
pub record IsDoubled (machine : Machine Answer) : Type 0 where
  pub count : machine.count ≡ 2
  pub start : (truth : List Bool) → machine.start truth ≡ 0
  pub from_even : (letter : List Bool) → machine.next 0 letter ≡ 1
  pub from_odd : (letter : List Bool) → machine.next 1 letter ≡ 0
  pub even : machine.sign 0 ≡ answer_yes
  pub odd : machine.sign 1 ≡ answer_yes

-- Yes where P has an even number of members
pub record IsParity (machine : Machine Answer) : Type 0 where
  pub count : machine.count ≡ 2
  pub start : (truth : List Bool) → machine.start truth ≡ 0
  pub from_even : (letter : List Bool) → machine.next 0 letter ≡ (if head_bit letter then 1 else 0)
  pub from_odd : (letter : List Bool) → machine.next 1 letter ≡ (if head_bit letter then 0 else 1)
  pub even : machine.sign 0 ≡ answer_yes
  pub odd : machine.sign 1 ≡ answer_no

-- Yes on each word, with one state
abbrev pub one_state : Content Answer
one_state = record {
  mode = Ws1s;
  variables = variables_by_place (Two ∷ []);
  start = Leaf 0;
  states = record { sign = answer_yes; next = Leaf 0 } ∷ [];
  nodes = [];
}
