-- Where variables that get values stand in the core formula.
use Rattle.std.proofs.Common.{◌≡◌, ℕ, ◌<◌, ◌≤◌, ◌==◌, ◌&&◌, Bool, true, false, cond, ◌⊎◌, inl, inr, ⊎_elim, List, [], ◌∷◌, refl, sym, ◌∙◌, ap, subst, arith}
use Rattle.std.proofs.lemmas.Bool.{false≢true}
use Rattle.std.proofs.lemmas.Bool.Decides.{nat_tests}
use Rattle.ms_logic.specs.declared.mode.Order.{Order}
use Rattle.ms_logic.specs.declared.mode.Order.TheVariants.{Zero, One, Two}
use Rattle.ms_logic.specs.declared.assignment.Value.{Value}
use Rattle.ms_logic.specs.Assignment.{Env, Variable, assign, assign_all, value_at, IsValueOf}
use Rattle.ms_logic.specs.FreeVariables.{IsBound}
use Rattle.ms_logic_core.specs.Spread.{Names, is_order, named, first_named, after_first}
use Rattle.ms_logic.proofs.Agreement.{order_of_value, universe-assign_all}
use Rattle.ms_logic.proofs.Agreement as variable
use Rattle.ms_logic.proofs.FreeVariables.{order_of_value_of}
use Rattle.ms_logic_core.proofs.Saying.{Extends, Reading}
use Rattle.ms_logic.proofs.AssignedValues.{value_at-assign}
use Rattle.ms_logic_core.proofs.SpreadKeeps.{value_at-assign_not}

-- the test of orders
pub is_order-of : (o p : Order) → is_order o p ≡ true → o ≡ p
is_order-of Zero Zero passed = refl
is_order-of Zero One passed = absurd (false≢true passed)
is_order-of Zero Two passed = absurd (false≢true passed)
is_order-of One Zero passed = absurd (false≢true passed)
is_order-of One One passed = refl
is_order-of One Two passed = absurd (false≢true passed)
is_order-of Two Zero passed = absurd (false≢true passed)
is_order-of Two One passed = absurd (false≢true passed)
is_order-of Two Two passed = refl

pub is_order-itself : (o : Order) → is_order o o ≡ true
is_order-itself Zero = refl
is_order-itself One = refl
is_order-itself Two = refl

-- whether a variable is the one with a number and an order
pub same_variable : (o : Order) (x : ℕ) (p : Order) (z : ℕ) →
    (((is_order o p && (z == x)) ≡ true) × (z ≡ x) × (p ≡ o)) ⊎ (((is_order o p && (z == x)) ≡ false) × ((z ≡ x) × (p ≡ o) → ⊥))
same_variable o x p z = by_tests (is_order o p) (z == x) refl refl
  where
    by_tests : (a b : Bool) → is_order o p ≡ a → (z == x) ≡ b →
        (((is_order o p && (z == x)) ≡ true) × (z ≡ x) × (p ≡ o)) ⊎ (((is_order o p && (z == x)) ≡ false) × ((z ≡ x) × (p ≡ o) → ⊥))
    by_tests true true is_a is_b =
        let same : z ≡ x = grind (arith, nat_tests) in inl (ap (λ t. t && (z == x)) is_a ∙ is_b, same, sym (is_order-of o p is_a))
    by_tests true false is_a is_b =
        let differ : z ≡ x → ⊥ = λ same. grind (arith, nat_tests) in inr (ap (λ t. t && (z == x)) is_a ∙ is_b, λ is. differ is.0)
    by_tests false b is_a is_b =
        inr (ap (λ t. t && (z == x)) is_a, λ is. false≢true (sym is_a ∙ (ap (is_order o) is.1 ∙ is_order-itself o)))

is_order-other : (o p : Order) → (o ≡ p → ⊥) → is_order p o ≡ false
is_order-other o p differ = by_test (is_order p o) refl
  where
    by_test : (b : Bool) → is_order p o ≡ b → is_order p o ≡ false
    by_test true is = absurd (differ (sym (is_order-of p o is)))
    by_test false is = is

-- a name for one order is none for another
pub first_named-other : (o p : Order) (xs : List ℕ) (y : ℕ) (names : Names) (z : ℕ) → (o ≡ p → ⊥) → first_named p xs y names o z ≡ names o z
first_named-other o p [] y names z differ = refl
first_named-other o p (x ∷ xs) y names z differ = ap (λ t. cond (t && (z == x)) y (names o z)) (is_order-other o p differ)

-- The variable z of an order is one of those that get these values, in this order. Whatever the other names are, its name is
-- the number y, which has the value.
pub record IsGiven (o : Order) (z : ℕ) (xs : List ℕ) (vs : List Value) (place : Names → Names) (next : ℕ) (d : Env) : Type 0 where
  pub y : ℕ
  pub v : Value
  pub named : (names : Names) → place names o z ≡ y
  pub below : y < next
  pub value : value_at o y d ≡ v
  pub assigned : (e : Env) → value_at o z (assign_all xs vs e) ≡ v
  pub valid : IsValueOf o d.universe v

-- it is none of them, and keeps its name and its value
pub record IsLeft (o : Order) (z : ℕ) (xs : List ℕ) (orders : List Order) (vs : List Value) (place : Names → Names) : Type 0 where
  pub named : (names : Names) → place names o z ≡ names o z
  pub assigned : (e : Env) → value_at o z (assign_all xs vs e) ≡ value_at o z e
  pub not_bound : IsBound xs orders (variable.named z o) → ⊥

-- each variable of the order is one or the other
pub Places : Order → List ℕ → List Order → List Value → (Names → Names) → ℕ → Env → Type 0
Places o xs orders vs place next d = (z : ℕ) → IsGiven o z xs vs place next d ⊎ IsLeft o z xs orders vs place

-- no variable gets a value
pub places_none : (o : Order) (xs : List ℕ) (next : ℕ) (d : Env) → Places o xs [] [] (λ names. names) next d
unfolding Places
places_none o [] next d z = inr (record { named = λ names. refl; assigned = λ e. refl; not_bound = λ bound. bound })
places_none o (x ∷ xs) next d z = inr (record { named = λ names. refl; assigned = λ e. refl; not_bound = λ bound. bound })

-- one more variable, which stands at y
pub places_one : (o p : Order) (y : ℕ) (v : Value) (xs : List ℕ) (orders : List Order) (vs : List Value) (place : Names → Names) (next : ℕ) (d : Env) →
    y < next → value_at p y d ≡ v → IsValueOf p d.universe v → Places o (after_first xs) orders vs place next d →
    Places o xs (p ∷ orders) (v ∷ vs) (λ names. first_named p xs y (place names)) next d
unfolding Places
places_one o p y v [] orders vs place next d below value valid others z =
    ⊎_elim (λ given. inl (record {
      y = given.y;
      v = given.v;
      named = given.named;
      below = given.below;
      value = given.value;
      assigned = given.assigned;
      valid = given.valid;
    }))
    (λ left. inr (record { named = left.named; assigned = left.assigned; not_bound = λ bound. bound })) (others z)
places_one o p y v (x ∷ xs) orders vs place next d below value valid others z =
    ⊎_elim here elsewhere (same_variable p x o z)
  where
    here : ((is_order p o && (z == x)) ≡ true) × (z ≡ x) × (o ≡ p) → IsGiven o z (x ∷ xs) (v ∷ vs) (λ names. named p x y (place names)) next d ⊎ IsLeft o z (x ∷ xs) (p ∷ orders) (v ∷ vs) (λ names. named p x y (place names))
    here is =
        let of_order : IsValueOf o d.universe v = subst (λ q. IsValueOf q d.universe v) (sym is.2) valid in
        inl (record {
          y = y;
          v = v;
          named = λ names. ap (λ t. cond t y (place names o z)) is.0;
          below = below;
          value = subst (λ q. value_at q y d ≡ v) (sym is.2) value;
          assigned = λ e. ap (λ k. value_at o k (assign x v (assign_all xs vs e))) is.1 ∙ value_at-assign o x v (assign_all xs vs e) d.universe of_order;
          valid = of_order;
        })

    elsewhere : ((is_order p o && (z == x)) ≡ false) × ((z ≡ x) × (o ≡ p) → ⊥) → IsGiven o z (x ∷ xs) (v ∷ vs) (λ names. named p x y (place names)) next d ⊎ IsLeft o z (x ∷ xs) (p ∷ orders) (v ∷ vs) (λ names. named p x y (place names))
    elsewhere other =
        let kept : (e : Env) → value_at o z (assign x v (assign_all xs vs e)) ≡ value_at o z (assign_all xs vs e) = λ e. value_at-assign_not o x v z (assign_all xs vs e) (λ same. other.1 (same.0, same.1 ∙ order_of_value_of p d.universe v valid)) in
        ⊎_elim (λ given. inl (record {
          y = given.y;
          v = given.v;
          named = λ names. ap (λ t. cond t y (place names o z)) other.0 ∙ given.named names;
          below = given.below;
          value = given.value;
          assigned = λ e. kept e ∙ given.assigned e;
          valid = given.valid;
        }))
        (λ left. inr (record {
          named = λ names. ap (λ t. cond t y (place names o z)) other.0 ∙ left.named names;
          assigned = λ e. kept e ∙ left.assigned e;
          not_bound = λ bound. ⊎_elim (λ is. other.1 is) (λ later. left.not_bound later) bound;
        })) (others z)

-- one more variable, of another order
pub places_other : (o p : Order) (v : Value) (xs : List ℕ) (orders : List Order) (vs : List Value) (place : Names → Names) (next : ℕ) (d : Env) →
    (o ≡ p → ⊥) → order_of_value v ≡ p → Places o (after_first xs) orders vs place next d → Places o xs (p ∷ orders) (v ∷ vs) place next d
unfolding Places
places_other o p v [] orders vs place next d differ is_order others z =
    ⊎_elim (λ given. inl (record {
      y = given.y;
      v = given.v;
      named = given.named;
      below = given.below;
      value = given.value;
      assigned = given.assigned;
      valid = given.valid;
    }))
    (λ left. inr (record { named = left.named; assigned = left.assigned; not_bound = λ bound. bound })) (others z)
places_other o p v (x ∷ xs) orders vs place next d differ is_order others z =
    let kept : (c : Env) → value_at o z (assign x v (assign_all xs vs c)) ≡ value_at o z (assign_all xs vs c) = λ c. value_at-assign_not o x v z (assign_all xs vs c) (λ same. differ (same.1 ∙ is_order)) in
    ⊎_elim (λ given. inl (record {
      y = given.y;
      v = given.v;
      named = given.named;
      below = given.below;
      value = given.value;
      assigned = λ c. kept c ∙ given.assigned c;
      valid = given.valid;
    }))
    (λ left. inr (record {
      named = left.named;
      assigned = λ c. kept c ∙ left.assigned c;
      not_bound = λ bound. ⊎_elim (λ is. differ is.1) (λ later. left.not_bound later) bound;
    })) (others z)

-- more variables in scope, and other names that agree at the order
pub places_along : (o : Order) (xs : List ℕ) (orders : List Order) (vs : List Value) (place other : Names → Names) (next later : ℕ) (d b : Env) →
    next ≤ later → Extends next d b → ((names : Names) (z : ℕ) → other names o z ≡ place names o z) → Places o xs orders vs place next d →
    Places o xs orders vs other later b
unfolding Places
places_along o xs orders vs place other next later d b at_most extends same places z =
    ⊎_elim (λ given. inl (record {
      y = given.y;
      v = given.v;
      named = λ names. same names z ∙ given.named names;
      below = let low = given.below in omega arith;
      value = extends.values o given.y given.below ∙ given.value;
      assigned = given.assigned;
      valid = subst (λ u. IsValueOf o u given.v) (sym extends.universe) given.valid;
    }))
    (λ left. inr (record { named = λ names. same names z ∙ left.named names; assigned = left.assigned; not_bound = left.not_bound })) (places z)

-- after other names that agree at the order
pub places_after : (o : Order) (xs : List ℕ) (orders : List Order) (vs : List Value) (place first : Names → Names) (next : ℕ) (d : Env) →
    ((names : Names) (z : ℕ) → first names o z ≡ names o z) → Places o xs orders vs place next d → Places o xs orders vs (λ names. place (first names)) next d
unfolding Places
places_after o xs orders vs place first next d same places z =
    ⊎_elim (λ given. inl (record {
      y = given.y;
      v = given.v;
      named = λ names. given.named (first names);
      below = given.below;
      value = given.value;
      assigned = given.assigned;
      valid = given.valid;
    }))
    (λ left. inr (record { named = λ names. left.named (first names) ∙ same names z; assigned = left.assigned; not_bound = left.not_bound })) (places z)

-- what is read where the variables have their values
pub reading_placed : (Outside InScope : Variable → Type 0) (xs : List ℕ) (orders : List Order) (vs : List Value) (place : Names → Names) (names : Names) (free next : ℕ) (e c d : Env) →
    free ≤ next → Extends free c d → ((o : Order) → Places o xs orders vs place next d) → ((w : Variable) → InScope w → (IsBound xs orders w → ⊥) → Outside w) →
    Reading Outside names free e c → Reading InScope (place names) next (assign_all xs vs e) d
unfolding Places
reading_placed Outside InScope xs orders vs place names free next e c d later extends places outer reading = record {
  universe = extends.universe ∙ (reading.universe ∙ sym (universe-assign_all xs vs e));
  below = λ w there. ⊎_elim
      (λ given. let is = given.named names in let low = given.below in omega (arith, is, low))
      (λ left. let is = left.named names in let low = reading.below w (outer w there left.not_bound) in omega (arith, is, low))
      (places w.order w.name);
  values = λ w there. ⊎_elim
      (λ given. ap (λ y. value_at w.order y d) (given.named names) ∙ (given.value ∙ sym (given.assigned e)))
      (λ left. let within = outer w there left.not_bound in
      ap (λ y. value_at w.order y d) (left.named names) ∙ (extends.values w.order (names w.order w.name) (reading.below w within) ∙ (reading.values w within ∙ sym (left.assigned e))))
      (places w.order w.name);
  valid = λ w there.
      subst (λ u. IsValueOf w.order u (value_at w.order w.name (assign_all xs vs e))) (sym (universe-assign_all xs vs e)) (⊎_elim
      (λ given. subst (λ v. IsValueOf w.order e.universe v) (sym (given.assigned e)) (subst (λ u. IsValueOf w.order u given.v) (extends.universe ∙ reading.universe) given.valid))
      (λ left. subst (λ v. IsValueOf w.order e.universe v) (sym (left.assigned e)) (reading.valid w (outer w there left.not_bound)))
      (places w.order w.name));
}
