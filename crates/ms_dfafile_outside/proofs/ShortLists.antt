-- Lists of at most three items.
use Rattle.std.proofs.Common.{◌≡◌, ℕ, zero, suc, [], ◌∷◌, slice_get, Some, subst}
use Rattle.std.proofs.lemmas.Option.{none-some, same_Some}

-- what is true of some items is true of each that a list of them has
pub at_none : {X : Type 0} (P : ℕ → X → Type 0) (place : ℕ) (x : X) → slice_get [] place ≡ Some x → P place x
at_none P place x held = absurd (none-some x held)

pub at_one : {X : Type 0} (P : ℕ → X → Type 0) (first : X) → P 0 first → (place : ℕ) (x : X) → slice_get (first ∷ []) place ≡ Some x → P place x
at_one P first one zero x held = subst (P 0) (same_Some first x held) one
at_one P first one (suc place) x held = absurd (none-some x held)

pub at_two : {X : Type 0} (P : ℕ → X → Type 0) (first second : X) → P 0 first → P 1 second → (place : ℕ) (x : X) → slice_get (first ∷ second ∷ []) place ≡ Some x → P place x
at_two P first second one two zero x held = subst (P 0) (same_Some first x held) one
at_two P first second one two (suc zero) x held = subst (P 1) (same_Some second x held) two
at_two P first second one two (suc (suc place)) x held = absurd (none-some x held)

pub at_three : {X : Type 0} (P : ℕ → X → Type 0) (first second third : X) → P 0 first → P 1 second → P 2 third → (place : ℕ) (x : X) → slice_get (first ∷ second ∷ third ∷ []) place ≡ Some x → P place x
at_three P first second third one two three zero x held = subst (P 0) (same_Some first x held) one
at_three P first second third one two three (suc zero) x held = subst (P 1) (same_Some second x held) two
at_three P first second third one two three (suc (suc zero)) x held = subst (P 2) (same_Some third x held) three
at_three P first second third one two three (suc (suc (suc place))) x held = absurd (none-some x held)
