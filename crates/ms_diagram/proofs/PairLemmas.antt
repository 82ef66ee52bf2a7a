-- The `==` of pairs is equality.
use Rattle.std.proofs.Common.{◌≡◌, ℕ, Bool, true, nat_eq, refl}
use Rattle.std.proofs.lemmas.Bool.{eqb-true, eq-eqb, and_from}
pub use Rattle.ms_diagram.specs.inner.Equal.{pair_eq, same_pair, numbers_eq}

module _ {A B : Type 0} (eq_a : A → A → Bool) (eq_b : B → B → Bool) where
  -- a pair compares equal to itself
  pub pair_itself : ((x : A) → eq_a x x ≡ true) → ((x : B) → eq_b x x ≡ true) → (x : A × B) → pair_eq eq_a eq_b x x ≡ true
  pair_itself itself_a itself_b x = and_from (eq_a x.0 x.0) (eq_b x.1 x.1) (itself_a x.0) (itself_b x.1)

-- at numbers
pub same_numbers : (x y : ℕ × ℕ) → numbers_eq x y ≡ true → x ≡ y
same_numbers = same_pair nat_eq nat_eq eqb-true eqb-true

pub numbers_itself : (x : ℕ × ℕ) → numbers_eq x x ≡ true
numbers_itself = pair_itself nat_eq nat_eq (λ x. eq-eqb x x refl) (λ x. eq-eqb x x refl)
