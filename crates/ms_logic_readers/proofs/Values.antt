-- What depends on the value of a variable alone.
use Rattle.std.proofs.Common.{◌≡◌, ℕ, ◌+◌, ◌==◌, refl, ap}
use Rattle.ms_logic.specs.Assignment.{Env, value_at}
use Rattle.ms_logic.specs.FiniteSet.{is_member}
use Rattle.ms_logic.specs.Letters.{bound_at, bound_of_set}
use Rattle.ms_logic.specs.declared.mode.Order.{Order}
use Rattle.ms_logic.specs.declared.mode.Order.TheVariants.{Zero, One, Two}
use Rattle.ms_basic.specs.inner.Reading.{bit_of, truth_of}

pub same-bit : (o : Order) (x y : ℕ) (e f : Env) (p : ℕ) → value_at o x e ≡ value_at o y f → bit_of o x e p ≡ bit_of o y f p
same-bit Zero x y e f p same = refl
same-bit One x y e f p same = let n : e.number x ≡ f.number y = cc in ap (λ k. k == p) n
same-bit Two x y e f p same = let s : e.set x ≡ f.set y = cc in ap (is_member p) s

pub same-truth : (o : Order) (x y : ℕ) (e f : Env) → value_at o x e ≡ value_at o y f → truth_of o x e ≡ truth_of o y f
same-truth Zero x y e f same = let b : e.truth x ≡ f.truth y = cc in b
same-truth One x y e f same = refl
same-truth Two x y e f same = refl

pub same-bound : (o : Order) (x y : ℕ) (e f : Env) → value_at o x e ≡ value_at o y f → bound_at o x e ≡ bound_at o y f
same-bound Zero x y e f same = refl
same-bound One x y e f same = let n : e.number x ≡ f.number y = cc in ap (λ k. k + 1) n
same-bound Two x y e f same = let s : e.set x ≡ f.set y = cc in ap bound_of_set s
