-- The spread keeps the value of a formula.
use Rattle.std.proofs.Common.{◌≡◌, ℕ, ◌+◌, ◌==◌, ◌&&◌, Bool, true, false, cond, ◌⊎◌, inl, inr, ⊎_elim, refl, sym, ◌∙◌, ap, subst, arith}
use Rattle.std.proofs.lemmas.Bool.{false≢true}
use Rattle.std.proofs.lemmas.Bool.Decides.{nat_tests}
use Rattle.ms_logic.specs.declared.mode.Order.{Order}
use Rattle.ms_logic.specs.declared.mode.Order.TheVariants.{Zero, One, Two}
use Rattle.ms_logic.specs.declared.assignment.Value.{Value}
use Rattle.ms_logic.specs.declared.assignment.Value.TheVariants.{Truth, Number, Set}
use Rattle.ms_logic.specs.Assignment.{Env, Variable, assign, value_at, IsValueOf}
use Rattle.ms_logic.specs.FreeVariables.{IsVariable}
use Rattle.ms_logic_core.specs.Spread.{Names, is_order, Callees, spread_under, spread_each, spread_restriction, spread_number, spread_set, conjunction_of, numbers_relate, sets_relate, is_member_or_not, variables_of_import}
use Rattle.ms_logic_core.specs.Spread as spread
use Rattle.ms_logic.proofs.Agreement.{order_of_value, universe-assign}
use Rattle.ms_logic.proofs.FreeVariables.{order_of_value_of}
use Rattle.ms_logic_core.proofs.Saying.{Reading}
use Rattle.ms_logic.proofs.AssignedValues.{value_at-assign}

-- the truth value that a value is
abbrev pub truth_in : Value → Bool
truth_in (Truth b) = b
truth_in (Number n) = false
truth_in (Set s) = false

-- a value at one variable changes no other variable
pub value_at-assign_not : (o : Order) (x : ℕ) (v : Value) (y : ℕ) (c : Env) → ((y ≡ x) × (o ≡ order_of_value v) → ⊥) → value_at o y (assign x v c) ≡ value_at o y c
value_at-assign_not Zero x (Truth b) y c other =
    let differ : y ≡ x → ⊥ = λ same. other (same, refl) in let failed : (y == x) ≡ false = grind (arith, nat_tests) in ap (λ t. Truth (cond t b (c.truth y))) failed
value_at-assign_not Zero x (Number n) y c other = refl
value_at-assign_not Zero x (Set s) y c other = refl
value_at-assign_not One x (Truth b) y c other = refl
value_at-assign_not One x (Number n) y c other =
    let differ : y ≡ x → ⊥ = λ same. other (same, refl) in let failed : (y == x) ≡ false = grind (arith, nat_tests) in ap (λ t. Number (cond t n (c.number y))) failed
value_at-assign_not One x (Set s) y c other = refl
value_at-assign_not Two x (Truth b) y c other = refl
value_at-assign_not Two x (Number n) y c other = refl
value_at-assign_not Two x (Set s) y c other =
    let differ : y ≡ x → ⊥ = λ same. other (same, refl) in let failed : (y == x) ≡ false = grind (arith, nat_tests) in ap (λ t. Set (cond t s (c.set y))) failed

-- the test of orders
is_order-of : (o p : Order) → is_order o p ≡ true → o ≡ p
is_order-of Zero Zero passed = refl
is_order-of Zero One passed = absurd (false≢true passed)
is_order-of Zero Two passed = absurd (false≢true passed)
is_order-of One Zero passed = absurd (false≢true passed)
is_order-of One One passed = refl
is_order-of One Two passed = absurd (false≢true passed)
is_order-of Two Zero passed = absurd (false≢true passed)
is_order-of Two One passed = absurd (false≢true passed)
is_order-of Two Two passed = refl

is_order-itself : (o : Order) → is_order o o ≡ true
is_order-itself Zero = refl
is_order-itself One = refl
is_order-itself Two = refl

-- whether a variable is the one with a number and an order
same_variable : (o : Order) (x : ℕ) (w : Variable) → (((is_order o w.order && (w.name == x)) ≡ true) × IsVariable x o w) ⊎ (((is_order o w.order && (w.name == x)) ≡ false) × (IsVariable x o w → ⊥))
same_variable o x w = by_tests (is_order o w.order) (w.name == x) refl refl
  where
    by_tests : (a b : Bool) → is_order o w.order ≡ a → (w.name == x) ≡ b → (((is_order o w.order && (w.name == x)) ≡ true) × IsVariable x o w) ⊎ (((is_order o w.order && (w.name == x)) ≡ false) × (IsVariable x o w → ⊥))
    by_tests true true is_a is_b =
        let same : w.name ≡ x = grind (arith, nat_tests) in inl (ap (λ t. t && (w.name == x)) is_a ∙ is_b, (same, sym (is_order-of o w.order is_a)))
    by_tests true false is_a is_b =
        let differ : w.name ≡ x → ⊥ = λ same. grind (arith, nat_tests) in inr (ap (λ t. t && (w.name == x)) is_a ∙ is_b, λ is. differ is.0)
    by_tests false b is_a is_b =
        inr (ap (λ t. t && (w.name == x)) is_a, λ is. false≢true (sym is_a ∙ (ap (is_order o) is.1 ∙ is_order-itself o)))

-- inside a quantifier, whose variable has one value in both environments
pub reading-inside : (o : Order) (x : ℕ) (v : Value) (Outside InScope : Variable → Type 0) (names : Names) (free : ℕ) (e c : Env) → IsValueOf o e.universe v →
    ((w : Variable) → InScope w → (IsVariable x o w → ⊥) → Outside w) → Reading Outside names free e c →
    Reading InScope (spread.named o x free names) (free + 1) (assign x v e) (assign free v c)
reading-inside o x v Outside InScope names free e c valid outer reading = record {
  universe = universe-assign free v c ∙ (reading.universe ∙ sym (universe-assign x v e));
  below = λ w there. ⊎_elim
      (λ is. let here : cond (is_order o w.order && (w.name == x)) free (names w.order w.name) ≡ free = ap (λ b. cond b free (names w.order w.name)) is.0 in omega (arith, here))
      (λ other. let there_too : cond (is_order o w.order && (w.name == x)) free (names w.order w.name) ≡ names w.order w.name = ap (λ b. cond b free (names w.order w.name)) other.0 in let low = reading.below w (outer w there other.1) in omega (arith, there_too, low))
      (same_variable o x w);
  values = λ w there. ⊎_elim
      (λ is. let here : cond (is_order o w.order && (w.name == x)) free (names w.order w.name) ≡ free = ap (λ b. cond b free (names w.order w.name)) is.0 in
      let of_order : IsValueOf w.order e.universe v = subst (λ p. IsValueOf p e.universe v) (sym is.1.1) valid in
      ap (λ y. value_at w.order y (assign free v c)) here ∙ (value_at-assign w.order free v c e.universe of_order ∙ (sym (value_at-assign w.order x v e e.universe of_order) ∙ ap (λ y. value_at w.order y (assign x v e)) (sym is.1.0))))
      (λ other. let there_too : cond (is_order o w.order && (w.name == x)) free (names w.order w.name) ≡ names w.order w.name = ap (λ b. cond b free (names w.order w.name)) other.0 in
      let low = reading.below w (outer w there other.1) in
      ap (λ y. value_at w.order y (assign free v c)) there_too
      ∙ (value_at-assign_not w.order free v (names w.order w.name) c (λ same. let equal = same.0 in omega (arith, equal, low))
      ∙ (reading.values w (outer w there other.1) ∙ sym (value_at-assign_not w.order x v w.name e (λ same. other.1 (same.0, same.1 ∙ order_of_value_of o e.universe v valid))))))
      (same_variable o x w);
  valid = λ w there. ⊎_elim
      (λ is. let of_order : IsValueOf w.order e.universe v = subst (λ p. IsValueOf p e.universe v) (sym is.1.1) valid in
      let here : value_at w.order w.name (assign x v e) ≡ v = ap (λ y. value_at w.order y (assign x v e)) is.1.0 ∙ value_at-assign w.order x v e e.universe of_order in
      subst (λ u. IsValueOf w.order u (value_at w.order w.name (assign x v e))) (sym (universe-assign x v e)) (subst (λ z. IsValueOf w.order e.universe z) (sym here) of_order))
      (λ other. subst (λ u. IsValueOf w.order u (value_at w.order w.name (assign x v e))) (sym (universe-assign x v e)) (subst (λ z. IsValueOf w.order e.universe z) (sym (value_at-assign_not w.order x v w.name e (λ same. other.1 (same.0, same.1 ∙ order_of_value_of o e.universe v valid)))) (reading.valid w (outer w there other.1))))
      (same_variable o x w);
}
