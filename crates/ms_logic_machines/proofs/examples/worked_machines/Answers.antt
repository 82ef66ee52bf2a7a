use Rattle.std.proofs.Common.{◌≡◌, ℕ, ◌<◌, zero, suc, Bool, true, false, if◌then◌else◌, List, [], ◌∷◌, Some, refl, sym, ap, ◌∙◌, arith}
use Rattle.std.proofs.lemmas.Option.{same_Some}
use Rattle.ms_logic.specs.Truth.{Answer, answer_yes, answer_no}
use Rattle.ms_logic_machines.specs.Machine.{Machine, machine_after}
use Rattle.ms_logic_machines.specs.inner.Examples.{IsDoubled}
use Rattle.ms_logic_machines.proofs.OneState.{one_state-canonical, one_state-sign}
use Rattle.ms_logic_words.specs.Content.{head_bit}
use Rattle.ms_logic_words.specs.inner.ContentExamples.{word}
use Rattle.ms_logic_machines.proofs.examples.worked_machines.Goals as goal

-- the other of two states
abbrev other : ℕ → ℕ
other zero = 1
other (suc state) = 0

other_below : (state : ℕ) → other state < 2
other_below zero = omega arith
other_below (suc state) = omega arith

pub returns-clause-doubled : goal.returns-clause-doubled
returns-clause-doubled c = (
  record {
    count = 2;
    start = λ truth. 0;
    next = λ state letter. other state;
    sign = λ state. answer_yes;
    start_below = λ truth. omega arith;
    next_below = λ state letter below. other_below state;
  },
  record { count = refl; start = λ truth. refl; from_even = λ letter. refl; from_odd = λ letter. refl; even = refl; odd = refl },
)

pub returns-clause-canonical : goal.returns-clause-canonical
returns-clause-canonical c = one_state-canonical

-- both states are Yes after all letters
after_both : (machine : Machine Answer) → IsDoubled machine → (letters : List (List Bool))
    → (machine.sign (machine_after machine 0 letters) ≡ answer_yes) × (machine.sign (machine_after machine 1 letters) ≡ answer_yes)
after_both machine is [] = (is.even, is.odd)
after_both machine is (letter ∷ letters) =
    let later = after_both machine is letters in (
      ap (λ state. machine.sign (machine_after machine state letters)) (is.from_even letter) ∙ later.1,
      ap (λ state. machine.sign (machine_after machine state letters)) (is.from_odd letter) ∙ later.0,
    )

pub returns-clause-signs : goal.returns-clause-signs
returns-clause-signs c = λ machine is word over.
    one_state-sign word
    ∙ sym (ap Some (ap (λ state. machine.sign (machine_after machine state word.letters)) (is.start word.truth) ∙ (after_both machine is word.letters).0))

-- the state after a bit of P
abbrev moved : ℕ → Bool → ℕ
moved state bit = if bit then other state else state

moved_below : (state : ℕ) (bit : Bool) → state < 2 → moved state bit < 2
moved_below state true below = other_below state
moved_below state false below = below

abbrev parity_sign : ℕ → Answer
parity_sign zero = answer_yes
parity_sign (suc state) = answer_no

pub returns-clause-parity : goal.returns-clause-parity
returns-clause-parity c = (
  record {
    count = 2;
    start = λ truth. 0;
    next = λ state letter. moved state (head_bit letter);
    sign = parity_sign;
    start_below = λ truth. omega arith;
    next_below = λ state letter below. moved_below state (head_bit letter) below;
  },
  record { count = refl; start = λ truth. refl; from_even = λ letter. refl; from_odd = λ letter. refl; even = refl; odd = refl },
)

pub returns-clause-none : goal.returns-clause-none
returns-clause-none c = λ machine is. ap machine.sign (is.start []) ∙ is.even

pub returns-clause-one : goal.returns-clause-one
returns-clause-one c = λ machine is.
    ap (λ state. machine.sign (machine.next state (true ∷ []))) (is.start [])
    ∙ (ap machine.sign (is.from_even (true ∷ [])) ∙ is.odd)

pub returns-clause-two : goal.returns-clause-two
returns-clause-two c = λ machine is.
    ap (λ state. machine.sign (machine_after machine state ((true ∷ []) ∷ (false ∷ []) ∷ (true ∷ []) ∷ []))) (is.start [])
    ∙ (ap (λ state. machine.sign (machine_after machine state ((false ∷ []) ∷ (true ∷ []) ∷ []))) (is.from_even (true ∷ []))
    ∙ (ap (λ state. machine.sign (machine_after machine state ((true ∷ []) ∷ []))) (is.from_odd (false ∷ []))
    ∙ (ap machine.sign (is.from_odd (true ∷ [])) ∙ is.even)))

pub returns-clause-other : goal.returns-clause-other
returns-clause-other c = λ machine is signs.
    let odd = word [] ((true ∷ []) ∷ []) in
    let said = sym (one_state-sign odd) ∙ signs odd (record { truth = refl; letters = (refl, tt) }) in
    let same : answer_yes ≡ answer_no
    = same_Some answer_yes (machine.sign (machine.next (machine.start []) (true ∷ []))) said
    ∙ (ap (λ state. machine.sign (machine.next state (true ∷ []))) (is.start []) ∙ (ap machine.sign (is.from_even (true ∷ [])) ∙ is.odd)) in
    let never : ⊥ = grind arith in never
