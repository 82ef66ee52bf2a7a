-- What is not refuted: one such thing after another, and that anything is decided.
use Rattle.std.proofs.Common.{inl, inr}
use Rattle.ms_logic_machines.proofs.Choices.{Decided}

-- what follows from something that is not refuted is not refuted
pub and-then : {A B : Type 0} → ¬ ¬ A → (A → ¬ ¬ B) → ¬ ¬ B
and-then some next none = some (λ a. next a none)

pub not-refuted : {A : Type 0} → A → ¬ ¬ A
not-refuted a none = none a

pub undecided-refuted : {P : Type 0} → ¬ ¬ (Decided P)
undecided-refuted none = none (inr (λ held. none (inl held)))
