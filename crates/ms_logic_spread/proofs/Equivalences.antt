-- Equivalences of facts that are made of others.
use Rattle.std.proofs.Common.{◌↔◌, ◌⊎◌, inl, inr, ⊎_elim}
use Rattle.ms_logic.specs.declared.assignment.Value.{Value}
use Rattle.ms_logic.specs.Truth.{SomeInRange, NoneInRange, IsEmptyRange}
use Rattle.ms_logic.proofs.FreeVariables.{some_moves, none_moves, some_or_empty_moves}

-- facts that hold together
pub iff_both : {P P' Q Q' : Type 0} → (P ↔ P') → (Q ↔ Q') → (P × Q) ↔ (P' × Q')
iff_both first second = (λ h. (first.0 h.0, second.0 h.1), λ h. (first.1 h.0, second.1 h.1))

pub iff_three : {P P' Q Q' R R' : Type 0} → (P ↔ P') → (Q ↔ Q') → (R ↔ R') → (P × Q × R) ↔ (P' × Q' × R')
iff_three first second third = (λ h. (first.0 h.0, second.0 h.1, third.0 h.2), λ h. (first.1 h.0, second.1 h.1, third.1 h.2))

pub iff_either : {P P' Q Q' : Type 0} → (P ↔ P') → (Q ↔ Q') → (P ⊎ Q) ↔ (P' ⊎ Q')
iff_either first second =
    (λ h. ⊎_elim (λ p. inl (first.0 p)) (λ q. inr (second.0 q)) h, λ h. ⊎_elim (λ p. inl (first.1 p)) (λ q. inr (second.1 q)) h)

pub iff_then : {P Q R : Type 0} → (P ↔ Q) → (Q ↔ R) → P ↔ R
iff_then first second = (λ p. second.0 (first.0 p), λ r. first.1 (second.1 r))

pub swapped : {P Q : Type 0} → (P ↔ Q) → Q ↔ P
swapped both = (both.1, both.0)

pub iff_itself : (P : Type 0) → P ↔ P
iff_itself P = (λ h. h, λ h. h)

-- what neither holds
pub iff_never : {P Q : Type 0} → (P → ⊥) → (Q → ⊥) → P ↔ Q
iff_never first second = (λ p. absurd (first p), λ q. absurd (second q))

-- some value of a range, where each value of one range is in the other and what is said of it is kept
pub kept_some : (Here There Body CoreBody : Value → Type 0) → ((v : Value) → Here v ↔ There v) → ((v : Value) → Here v → Body v ↔ CoreBody v) →
    SomeInRange Here Body ↔ SomeInRange There CoreBody
kept_some Here There Body CoreBody ranges kept = (
  some_moves Here There Body CoreBody (λ v. (ranges v).0) (λ v in_range. (kept v in_range).0),
  some_moves There Here CoreBody Body (λ v. (ranges v).1) (λ v in_range. (kept v ((ranges v).1 in_range)).1),
)

-- no value of one kind, and some of another or an empty range
pub kept_none_or : (Here There Body Other CoreBody CoreOther : Value → Type 0) → ((v : Value) → Here v ↔ There v) → ((v : Value) → Here v → Body v ↔ CoreBody v) →
    ((v : Value) → Here v → Other v ↔ CoreOther v) →
    (NoneInRange Here Body × (SomeInRange Here Other ⊎ IsEmptyRange Here)) ↔ (NoneInRange There CoreBody × (SomeInRange There CoreOther ⊎ IsEmptyRange There))
kept_none_or Here There Body Other CoreBody CoreOther ranges kept other_kept =
    iff_both (
      none_moves Here There Body CoreBody (λ v. (ranges v).1) (λ v in_range. (kept v ((ranges v).1 in_range)).1),
      none_moves There Here CoreBody Body (λ v. (ranges v).0) (λ v in_range. (kept v in_range).0),
    ) (
      some_or_empty_moves Here There Other CoreOther (λ v. (ranges v).0) (λ v. (ranges v).1) (λ v in_range. (other_kept v in_range).0),
      some_or_empty_moves There Here CoreOther Other (λ v. (ranges v).1) (λ v. (ranges v).0) (λ v in_range. (other_kept v ((ranges v).1 in_range)).1),
    )
