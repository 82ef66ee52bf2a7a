-- What the bit of a number at a position tells.
use Rattle.std.proofs.Common.{◌≡◌, ◌≢◌, ℕ, ◌==◌, Bool, true, false, refl}
use Rattle.std.proofs.lemmas.Bool.{eqb-true, eq-eqb}

-- the position is the number, or it is another
abbrev pub Tells : Bool → ℕ → ℕ → Type 0
Tells true x position = x ≡ position
Tells false x position = x ≢ position

pub told : (x position : ℕ) → Tells (x == position) x position
told x position = by_test (x == position) refl
  where
    by_test : (test : Bool) → (x == position) ≡ test → Tells test x position
    by_test true is = eqb-true x position is
    by_test false is = λ same. (let holds : (x == position) ≡ true = eq-eqb x position same in let never : ⊥ = cc in never)
