-- Environments that have the same values for a node's variables and for their names.
use Rattle.std.proofs.Common.{◌≡◌, ℕ, ◌<◌, ◌==◌, ◌≢◌, true, false, ⊎_elim, List, [], ◌∷◌, ◌++◌, length, slice_index, refl, sym, ◌∙◌, ap, subst, arith}
use Rattle.std.proofs.lemmas.Bool.{cases_eq}
use Rattle.std.proofs.lemmas.Bool.Decides.{nat_tests}
use Rattle.std.proofs.lemmas.List.{length-map, get_or-map, get_or_append_left, get_or_push, length_push}
use Rattle.ms_logic.specs.declared.mode.Order.{Order}
use Rattle.ms_logic.specs.declared.mode.Order.TheVariants.{Zero, One, Two}
use Rattle.ms_logic.specs.declared.assignment.Value.{Value}
use Rattle.ms_logic.specs.declared.assignment.Value.TheVariants.{Truth, Number, Set}
use Rattle.ms_logic.specs.Assignment.{Env, assign, value_at}
use Rattle.ms_logic.proofs.Agreement.{order_of_value, universe-assign}
use Rattle.ms_logic_core.specs.Orders.{order_at}
use Rattle.ms_dag.specs.Places.{picked, AreBelow}
use Rattle.ms_dag.specs.Values.{read_through, ReadsAs}

value_at-read_through : (o : Order) (places : List ℕ) (e : Env) (j : ℕ) → value_at o j (read_through places e) ≡ value_at o (slice_index places j) e
value_at-read_through Zero places e j = refl
value_at-read_through One places e j = refl
value_at-read_through Two places e j = refl

-- reading through a map, and then by names, is reading by the names that the map picks
pub ReadsAs-child : (orders : List Order) (names places : List ℕ) (e c : Env) → ReadsAs orders names e c → AreBelow (length names) places → ReadsAs orders (picked names places) (read_through places e) c
ReadsAs-child orders names places e c reads within = record {
  universe = reads.universe;
  values = λ j o below ordered.
      let inside : j < length places = subst (λ n. j < n) (length-map places (slice_index names)) below in
      let name : slice_index (picked names places) j ≡ slice_index names (slice_index places j) = get_or-map (slice_index names) places j 0 0 inside in
      value_at-read_through o places e j
      ∙ reads.values (slice_index places j) o (within j 0 inside) (ap (order_at orders) (sym name) ∙ ordered)
      ∙ ap (λ y. value_at o y c) (sym name);
}

value_at-assign_same : (x : ℕ) (v : Value) (e : Env) → value_at (order_of_value v) x (assign x v e) ≡ v
value_at-assign_same x (Truth b) e = let passed : (x == x) ≡ true = grind (arith, nat_tests) in rw passed refl
value_at-assign_same x (Number n) e = let passed : (x == x) ≡ true = grind (arith, nat_tests) in rw passed refl
value_at-assign_same x (Set s) e = let passed : (x == x) ≡ true = grind (arith, nat_tests) in rw passed refl

value_at-assign_other : (o : Order) (x y : ℕ) (v : Value) (e : Env) → y ≢ x → value_at o y (assign x v e) ≡ value_at o y e
value_at-assign_other Zero x y (Truth b) e other = let failed : (y == x) ≡ false = grind (arith, nat_tests) in rw failed refl
value_at-assign_other Zero x y (Number n) e other = refl
value_at-assign_other Zero x y (Set s) e other = refl
value_at-assign_other One x y (Truth b) e other = refl
value_at-assign_other One x y (Number n) e other = let failed : (y == x) ≡ false = grind (arith, nat_tests) in rw failed refl
value_at-assign_other One x y (Set s) e other = refl
value_at-assign_other Two x y (Truth b) e other = refl
value_at-assign_other Two x y (Number n) e other = refl
value_at-assign_other Two x y (Set s) e other = let failed : (y == x) ≡ false = grind (arith, nat_tests) in rw failed refl

-- one more variable behind the others, which has one value in both
pub ReadsAs-bound : (orders : List Order) (names : List ℕ) (x : ℕ) (v : Value) (e c : Env) → ReadsAs orders names e c → AreBelow x names →
    order_at orders x ≡ order_of_value v → ReadsAs orders (names ++ x ∷ []) (assign (length names) v e) (assign x v c)
ReadsAs-bound orders names x v e c reads greater ordered = record {
  universe = universe-assign (length names) v e ∙ reads.universe ∙ sym (universe-assign x v c);
  values = λ j o below given.
      let long = length_push names x in
      ⊎_elim (λ (last : j ≡ length names). at_last j o last given) (λ (other : j ≢ length names). earlier j o (omega arith) given) (cases_eq j (length names));
}
  where
    at_last : (j : ℕ) (o : Order) → j ≡ length names → order_at orders (slice_index (names ++ x ∷ []) j) ≡ o →
        value_at o j (assign (length names) v e) ≡ value_at o (slice_index (names ++ x ∷ []) j) (assign x v c)
    at_last j o last given =
        let name : slice_index (names ++ x ∷ []) j ≡ x = get_or_push names x 0 j (sym last) in
        let order : o ≡ order_of_value v = sym given ∙ ap (order_at orders) name ∙ ordered in
        ap (λ p. value_at p j (assign (length names) v e)) order
        ∙ ap (λ k. value_at (order_of_value v) k (assign (length names) v e)) last
        ∙ value_at-assign_same (length names) v e
        ∙ sym (value_at-assign_same x v c)
        ∙ ap (λ p. value_at p x (assign x v c)) (sym order)
        ∙ ap (λ y. value_at o y (assign x v c)) (sym name)

    earlier : (j : ℕ) (o : Order) → j < length names → order_at orders (slice_index (names ++ x ∷ []) j) ≡ o →
        value_at o j (assign (length names) v e) ≡ value_at o (slice_index (names ++ x ∷ []) j) (assign x v c)
    earlier j o below given =
        let name : slice_index (names ++ x ∷ []) j ≡ slice_index names j = get_or_append_left names (x ∷ []) 0 j below in
        let less : slice_index names j < x = greater j 0 below in
        value_at-assign_other o (length names) j v e (omega arith)
        ∙ reads.values j o below (ap (order_at orders) (sym name) ∙ given)
        ∙ sym (value_at-assign_other o x (slice_index names j) v c (omega arith))
        ∙ ap (λ y. value_at o y (assign x v c)) (sym name)

-- reading by the names
pub ReadsAs-read_through : (orders : List Order) (names : List ℕ) (c : Env) → ReadsAs orders names (read_through names c) c
ReadsAs-read_through orders names c = record { universe = refl; values = λ j o below ordered. value_at-read_through o names c j }
