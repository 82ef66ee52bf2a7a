-- The machine of the chosen states has the signs of the machine, and its reached states differ; so each machine has a canonical content.
use Rattle.std.proofs.Common.{◌≡◌, ℕ, ◌<◌, Bool, List, [], ◌∷◌, Some, refl, sym, ap, subst, ◌∙◌}
use Rattle.ms_list.specs.declared.word.Word.{Word}
use Rattle.ms_logic.specs.Assignment.{Variable}
use Rattle.ms_logic.specs.declared.mode.Mode.{Mode}
use Rattle.ms_logic_words.specs.Content.{IsWordOver, AreLetters}
use Rattle.ms_logic_machines.specs.Laws.{HasCanonicalContent, MachinesHaveCanonicalContents}
use Rattle.ms_logic_machines.specs.Machine.{Machine, machine_after, machine_sign}
use Rattle.ms_logic_machines.proofs.Contents.{canonical_content}
use Rattle.ms_logic_machines.proofs.Representatives.{IsChoice, some_choice}
use Rattle.ms_logic_machines.proofs.Runs.{HaveEqualSigns, IsReachedBy}

module _ {Sign : Type 0} (variables : List Variable) (machine : Machine Sign) (chosen : ℕ → ℕ) (choice : IsChoice variables machine chosen) where
  -- each step goes on to the chosen state
  abbrev pub quotient : Machine Sign
  quotient = record {
    count = machine.count;
    start = λ truth. chosen (machine.start truth);
    next = λ state letter. chosen (machine.next state letter);
    sign = machine.sign;
    start_below = λ truth. choice.below (machine.start truth) (machine.start_below truth);
    next_below = λ state letter below. choice.below (machine.next state letter) (machine.next_below state letter below);
  }

  -- from states with the same signs letters lead to the same signs in both machines
  follows : (letters : List (List Bool)) (one other : ℕ) → one < machine.count → other < machine.count → AreLetters variables letters
      → HaveEqualSigns variables machine one other
      → machine.sign (machine_after machine one letters) ≡ machine.sign (machine_after quotient other letters)
  follows [] one other below below_too are same = same [] tt
  follows (letter ∷ letters) one other below below_too are same =
      let next_below = machine.next_below other letter below_too in
      follows letters (machine.next one letter) (chosen (machine.next other letter)) (machine.next_below one letter below)
      (choice.below (machine.next other letter) next_below) are.1
      (λ more are_more. same (letter ∷ more) (are.0, are_more) ∙ choice.equal (machine.next other letter) next_below more are_more)

  quotient_sign : (word : Word) → IsWordOver variables word → machine_sign quotient word ≡ machine_sign machine word
  quotient_sign word over =
      let below = machine.start_below word.truth in
      sym (follows word.letters (machine.start word.truth) (chosen (machine.start word.truth)) below
      (choice.below (machine.start word.truth) below) over.letters
      (choice.equal (machine.start word.truth) below))

  -- letters lead from a chosen state to one
  after_chosen : (letters : List (List Bool)) (state : ℕ) → state < machine.count
      → (last : ℕ) × (last < machine.count) × (machine_after quotient (chosen state) letters ≡ chosen last)
  after_chosen [] state below = (state, below, refl)
  after_chosen (letter ∷ letters) state below =
      after_chosen letters (machine.next (chosen state) letter) (machine.next_below (chosen state) letter (choice.below state below))

  -- a state that is reached is its own choice
  chosen_own : (state : ℕ) → IsReachedBy variables quotient state → (state < machine.count) × (chosen state ≡ state)
  chosen_own state reached =
      let last = after_chosen reached.0.letters (machine.start reached.0.truth) (machine.start_below reached.0.truth) in
      let is : chosen last.0 ≡ state = sym last.2 ∙ reached.2 in
      let below = choice.below last.0 last.1 in (
        subst (λ n. n < machine.count) is below,
        ap chosen (sym is) ∙ (sym (choice.one last.0 (chosen last.0) last.1 below (choice.equal last.0 last.1)) ∙ is),
      )

  -- so reached states with the same signs are equal
  apart : (one other : ℕ) → IsReachedBy variables quotient one → IsReachedBy variables quotient other → HaveEqualSigns variables quotient one other
      → one ≡ other
  apart one other reached reached_too same =
      let first = chosen_own one reached in
      let second = chosen_own other reached_too in
      sym first.1
      ∙ (choice.one one other first.0 second.0 (λ letters are.
      follows letters one one first.0 first.0 are (λ more are_more. refl)
      ∙ (same letters are ∙ sym (follows letters other other second.0 second.0 are (λ more are_more. refl))))
      ∙ second.1)

  pub quotient_content : (mode : Mode) → HasCanonicalContent mode variables machine
  quotient_content mode =
      let made = canonical_content mode variables quotient apart in
      (made.0, made.1, made.2, made.3, λ word over. made.4 word over ∙ ap Some (quotient_sign word over))

-- each machine has a canonical content
pub machines_have_canonical_contents : {Sign : Type 0} → MachinesHaveCanonicalContents Sign
machines_have_canonical_contents test mode variables machine =
    let choice = some_choice variables machine test in quotient_content variables machine choice.0 choice.1 mode
