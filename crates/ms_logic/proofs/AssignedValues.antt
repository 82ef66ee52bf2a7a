-- The value of a variable once one variable is given another value.
use Rattle.std.proofs.Common.{◌≡◌, ℕ, ◌+◌, ◌<◌, ◌≤◌, ◌==◌, true, false, cond, ◌↔◌, inl, inr, ⊎_elim, List, Option, Some, None, IsSomeAnd, refl, ◌∙◌, ap, subst, arith}
use Rattle.std.proofs.lemmas.Bool.Decides.{nat_tests}
use Rattle.ms_logic.specs.declared.mode.Order.{Order}
use Rattle.ms_logic.specs.declared.mode.Order.TheVariants.{Zero, One, Two}
use Rattle.ms_logic.specs.declared.assignment.Value.{Value}
use Rattle.ms_logic.specs.declared.assignment.Value.TheVariants.{Truth, Number, Set}
use Rattle.ms_logic.specs.Assignment.{Universe, Env, Variable, assign, value_at, IsValueOf}

-- a value at one variable changes no other
pub value_at-assign_other : (o : Order) (x : ℕ) (v : Value) (y : ℕ) (c : Env) → (y ≡ x → ⊥) → value_at o y (assign x v c) ≡ value_at o y c
value_at-assign_other Zero x (Truth b) y c other =
    let failed : (y == x) ≡ false = grind (arith, nat_tests) in ap (λ t. Truth (cond t b (c.truth y))) failed
value_at-assign_other Zero x (Number n) y c other = refl
value_at-assign_other Zero x (Set s) y c other = refl
value_at-assign_other One x (Truth b) y c other = refl
value_at-assign_other One x (Number n) y c other =
    let failed : (y == x) ≡ false = grind (arith, nat_tests) in ap (λ t. Number (cond t n (c.number y))) failed
value_at-assign_other One x (Set s) y c other = refl
value_at-assign_other Two x (Truth b) y c other = refl
value_at-assign_other Two x (Number n) y c other = refl
value_at-assign_other Two x (Set s) y c other =
    let failed : (y == x) ≡ false = grind (arith, nat_tests) in ap (λ t. Set (cond t s (c.set y))) failed

-- the variable has the value
pub value_at-assign : (o : Order) (x : ℕ) (v : Value) (c : Env) (u : Universe) → IsValueOf o u v → value_at o x (assign x v c) ≡ v
value_at-assign Zero x (Truth b) c u valid =
    let passed : (x == x) ≡ true = grind (arith, nat_tests) in ap (λ t. Truth (cond t b (c.truth x))) passed
value_at-assign Zero x (Number n) c u valid = absurd valid
value_at-assign Zero x (Set s) c u valid = absurd valid
value_at-assign One x (Truth b) c u valid = absurd valid
value_at-assign One x (Number n) c u valid =
    let passed : (x == x) ≡ true = grind (arith, nat_tests) in ap (λ t. Number (cond t n (c.number x))) passed
value_at-assign One x (Set s) c u valid = absurd valid
value_at-assign Two x (Truth b) c u valid = absurd valid
value_at-assign Two x (Number n) c u valid = absurd valid
value_at-assign Two x (Set s) c u valid =
    let passed : (x == x) ≡ true = grind (arith, nat_tests) in ap (λ t. Set (cond t s (c.set x))) passed
