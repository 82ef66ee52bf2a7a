-- Runs of the contents of the worked examples.
use Rattle.std.proofs.Common.{◌≡◌, ℕ, ◌<◌, ◌≤◌, Bool, false, List, [], ◌∷◌, Some, refl, sym, ap, ◌∙◌, zero, suc, get_or, arith}
use Rattle.ms_arena.specs.declared.node.Ref.TheVariants.{Leaf}
use Rattle.ms_arena.specs.Diagram.{Bits}
use Rattle.ms_arena.proofs.Paths.{leaf_of-leaf}
use Rattle.ms_logic.specs.declared.mode.Order.{Order}
use Rattle.ms_logic_words.specs.declared.sign.Sign.{Sign}
use Rattle.ms_logic_words.specs.declared.sign.Sign.TheVariants.{Yes}
use Rattle.ms_logic_words.specs.Content.{StateOf, HasValueAt, IsClosed, IsFollowed, is_in_letters, is_truth_value, state_after, sign_at, truth_bits, letter_bits}
use Rattle.ms_dfa.proofs.FunctionLemmas.{TestsOnly-leaf}
use Rattle.ms_logic_words.specs.Residual.{HaveEqualSigns, HasFewestStates}
use Rattle.ms_minim.specs.inner.Examples.{one_set, three_states, one_state, with_unreached}

-- the two states with Yes lead to each other
pub stay_yes : (letters : List (List Bool))
    → (sign_at three_states (state_after three_states 1 letters) ≡ Some Yes) × (sign_at three_states (state_after three_states 2 letters) ≡ Some Yes)
stay_yes [] = (refl, refl)
stay_yes (letter ∷ letters) =
    let more = stay_yes letters in (
      ap (λ state. sign_at three_states (state_after three_states state letters)) (leaf_of-leaf three_states.nodes (letter_bits one_set letter) 2) ∙ more.1,
      ap (λ state. sign_at three_states (state_after three_states state letters)) (leaf_of-leaf three_states.nodes (letter_bits one_set letter) 1) ∙ more.0,
    )

one_stays : (letters : List (List Bool)) → state_after one_state 0 letters ≡ 0
one_stays [] = refl
one_stays (letter ∷ letters) = ap (λ state. state_after one_state state letters) (leaf_of-leaf [] (letter_bits one_set letter) 0) ∙ one_stays letters

unreached_stays : (letters : List (List Bool)) → state_after with_unreached 0 letters ≡ 0
unreached_stays [] = refl
unreached_stays (letter ∷ letters) = ap (λ state. state_after with_unreached state letters) (leaf_of-leaf [] (letter_bits one_set letter) 0) ∙ unreached_stays letters

leaf_followed : (has_value : Order → Bool) → IsFollowed one_state has_value (Leaf 0)
leaf_followed has_value = record {
  valid = tt;
  states = λ bits. (let zero = leaf_of-leaf [] bits 0 in omega (arith, zero));
  tests = TestsOnly-leaf [] (HasValueAt one_set has_value) 0;
}

one_closed : IsClosed one_state
one_closed = record {
  start = leaf_followed is_truth_value;
  next = λ place other within. at place within other;
}
  where
    at : (place : ℕ) → place < 1 → (other : StateOf Sign) → IsFollowed one_state is_in_letters (get_or one_state.states place other).next
    at zero within other = leaf_followed is_in_letters
    at (suc place) within other = absurd (omega (arith, within))

one_signs : HaveEqualSigns with_unreached one_state
one_signs word over =
    ap (λ state. sign_at one_state (state_after one_state state word.letters)) (leaf_of-leaf [] (truth_bits one_set word.truth) 0) ∙ ap (sign_at one_state) (one_stays word.letters)
    ∙ sym (ap (λ state. sign_at with_unreached (state_after with_unreached state word.letters)) (leaf_of-leaf [] (truth_bits one_set word.truth) 0) ∙ ap (sign_at with_unreached) (unreached_stays word.letters))

-- a state that no word leads to is one too many
pub unreached_too_many : ¬ HasFewestStates with_unreached
unreached_too_many fewest = let never : 2 ≤ 1 = fewest one_state one_closed refl one_signs in absurd (omega (arith, never))

-- each closed content has a state
pub one_fewest : HasFewestStates one_state
one_fewest other closed variables signs =
    let none : Bits = λ var. false in
    let below = closed.start.states none in
    omega (arith, below)
