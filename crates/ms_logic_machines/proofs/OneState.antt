-- A content of one state is canonical, and gives each word its sign.
use Rattle.std.proofs.Common.{◌≡◌, ℕ, zero, suc, Bool, List, [], ◌∷◌, slice_get, Some, refl, ap, subst, ◌∙◌, arith}
use Rattle.std.proofs.lemmas.Option.{none-some, same_Some}
use Rattle.ms_list.specs.declared.word.Word.{Word}
use Rattle.ms_arena.specs.declared.node.Ref.TheVariants.{Leaf}
use Rattle.ms_arena.proofs.Paths.{leaf_of-leaf}
use Rattle.ms_logic.specs.Truth.{Answer, answer_yes}
use Rattle.ms_logic_words.specs.Canonical.{IsCanonical}
use Rattle.ms_logic_words.specs.Content.{StateOf, NamesPart, first_state, letter_bits, sign_at, sign_of, state_after, truth_bits}
use Rattle.ms_logic_machines.specs.inner.Examples.{one_state}
use Rattle.ms_logic_machines.proofs.Making.{leaf_reaches}

abbrev own : StateOf Answer
own = record { sign = answer_yes; next = Leaf 0 }

at_states : (P : StateOf Answer → Type 0) → P own → (place : ℕ) (state : StateOf Answer) → slice_get one_state.states place ≡ Some state → P state
at_states P is zero state held = subst P (same_Some own state held) is
at_states P is (suc place) state held = absurd (none-some state held)

first_is : (truth : List Bool) → first_state one_state truth ≡ 0
first_is truth = leaf_of-leaf [] (truth_bits one_state.variables truth) 0

after_is : (letters : List (List Bool)) → state_after one_state 0 letters ≡ 0
after_is [] = refl
after_is (letter ∷ letters) = ap (λ state. state_after one_state state letters) (leaf_of-leaf [] (letter_bits one_state.variables letter) 0) ∙ after_is letters

pub one_state-sign : (word : Word) → sign_of one_state word ≡ Some answer_yes
one_state-sign word = ap (sign_at one_state) (ap (λ state. state_after one_state state word.letters) (first_is word.truth) ∙ after_is word.letters)

pub one_state-canonical : IsCanonical one_state
one_state-canonical = record {
  rules = record {
    some_state = omega arith;
    ordered = record {
      earlier_low = λ place node held. absurd (none-some node held);
      earlier_high = λ place node held. absurd (none-some node held);
      rising_low = λ place node held. absurd (none-some node held);
      rising_high = λ place node held. absurd (none-some node held);
    };
    start_named = omega arith;
    next_named = at_states (λ state. NamesPart one_state state.next) (omega arith);
    low_named = λ place node held. absurd (none-some node held);
    high_named = λ place node held. absurd (none-some node held);
    variables = λ place node held. absurd (none-some node held);
    start_tests = λ var tested. absurd (leaf_reaches [] tested.2 tt);
    next_tests = λ i state held var tested. absurd (none-some tested.1 tested.3);
  };
  states_reached = λ i less. (
    record { truth = []; letters = [] },
    record { truth = refl; letters = tt },
    first_is [] ∙ omega (arith, less),
  );
  states_differ = λ one two less less_too same. omega (arith, less, less_too);
  reduced = record {
    ends_differ = λ place node held. absurd (none-some node held);
    distinct = λ one two node held other. absurd (none-some node held);
  };
  nodes_reached = λ place less. absurd (omega (arith, less));
  states_numbered = refl;
  nodes_numbered = refl;
}
