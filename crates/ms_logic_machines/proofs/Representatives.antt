-- Of the states with the same signs after all letters the least stands for each.
use Rattle.std.proofs.Common.{◌≡◌, ℕ, zero, suc, ◌<◌, ◌≤◌, ◌⊎◌, inl, inr, ⊎_elim, List, refl, sym, ◌∙◌, subst, arith}
use Rattle.std.proofs.lemmas.Bool.{cases_lt}
use Rattle.ms_logic.specs.Assignment.{Variable}
use Rattle.ms_logic_machines.specs.Machine.{IsTested, Machine}
use Rattle.ms_logic_machines.proofs.Choices.{Decided}
use Rattle.ms_logic_machines.proofs.Residuals.{equal-or}
use Rattle.ms_logic_machines.proofs.Runs.{HaveEqualSigns}

-- the least number below a bound with the property, or none has it
abbrev pub IsLeast : (ℕ → Type 0) → ℕ → Type 0
IsLeast P n = P n × ((other : ℕ) → other < n → ¬ P other)

least-or : (P : ℕ → Type 0) (bound : ℕ) → ((n : ℕ) → n < bound → Decided (P n)) → ((n : ℕ) × (n < bound) × IsLeast P n) ⊎ ((n : ℕ) → n < bound → ¬ P n)
least-or P zero test = inr (λ n less. absurd (omega (arith, less)))
least-or P (suc bound) test = ⊎_elim
    (λ found. let less = found.1 in inl (found.0, omega (arith, less), found.2))
    (λ none. ⊎_elim
    (λ here. inl (bound, omega arith, (here, none)))
    (λ fails. inr (λ n less. ⊎_elim
    (λ before. none n before)
    (λ last. let is : bound ≡ n = omega (arith, less, last) in subst (λ m. ¬ P m) is fails)
    (cases_lt n bound)))
    (test bound (omega arith)))
    (least-or P bound (λ n less. test n (omega (arith, less))))

module _ {Sign : Type 0} (variables : List Variable) (machine : Machine Sign) where
  -- a choice of one of the states with the same signs
  pub record IsChoice (chosen : ℕ → ℕ) : Type 0 where
    pub below : (state : ℕ) → state < machine.count → chosen state < machine.count
    pub equal : (state : ℕ) → state < machine.count → HaveEqualSigns variables machine state (chosen state)
    pub one : (state other : ℕ) → state < machine.count → other < machine.count → HaveEqualSigns variables machine state other → chosen state ≡ chosen other

  module _ (test : IsTested Sign) where
    first_equal : (state : ℕ) → state < machine.count → (n : ℕ) × (n < machine.count) × IsLeast (HaveEqualSigns variables machine state) n
    first_equal state below = ⊎_elim
        (λ found. found)
        (λ none. absurd (none state below (λ letters are. refl)))
        (least-or (HaveEqualSigns variables machine state) machine.count (λ n less. equal-or test variables machine state n below less))

    abbrev choice_by : (state : ℕ) → (state < machine.count) ⊎ (machine.count ≤ state) → ℕ
    choice_by state (inl below) = (first_equal state below).0
    choice_by state (inr above) = state

    choice_is : (state : ℕ) → state < machine.count → (test : (state < machine.count) ⊎ (machine.count ≤ state))
        → (choice_by state test < machine.count) × IsLeast (HaveEqualSigns variables machine state) (choice_by state test)
    choice_is state below (inl again) = let first = first_equal state again in (first.1, first.2)
    choice_is state below (inr above) = absurd (omega (arith, below, above))

    -- there is one
    pub some_choice : (chosen : ℕ → ℕ) × IsChoice chosen
    some_choice = (
      λ state. choice_by state (cases_lt state machine.count),
      record {
        below = λ state below. (choice_is state below (cases_lt state machine.count)).0;
        equal = λ state below. (choice_is state below (cases_lt state machine.count)).1.0;
        one = λ state other below below_too same.
            let first = (choice_is state below (cases_lt state machine.count)).1 in
            let second = (choice_is other below_too (cases_lt other machine.count)).1 in
            ⊎_elim
            (λ less. absurd (second.1 (choice_by state (cases_lt state machine.count)) less (λ letters are. sym (same letters are) ∙ first.0 letters are)))
            (λ later. ⊎_elim
            (λ less. absurd (first.1 (choice_by other (cases_lt other machine.count)) less (λ letters are. same letters are ∙ second.0 letters are)))
            (λ earlier. omega (arith, later, earlier))
            (cases_lt (choice_by other (cases_lt other machine.count)) (choice_by state (cases_lt state machine.count))))
            (cases_lt (choice_by state (cases_lt state machine.count)) (choice_by other (cases_lt other machine.count)));
      },
    )
