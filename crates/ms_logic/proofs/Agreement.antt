-- Environments that agree at variables, and the values of terms at them.
use Rattle.std.proofs.Common.{◌≡◌, ℕ, ◌+◌, ◌-◌, ◌==◌, true, cond, inl, inr, ⊎_elim, List, [], ◌∷◌, map, Option, Some, refl, sym, ◌∙◌, ap, arith}
use Rattle.std.proofs.lemmas.Bool.{cases_eq}
use Rattle.std.proofs.lemmas.Bool.Decides.{nat_tests}
use Rattle.std.specs.Option.{option_and_then}
use Rattle.ms_logic.specs.declared.mode.Order.{Order}
use Rattle.ms_logic.specs.declared.mode.Order.TheVariants.{Zero, One, Two}
use Rattle.ms_logic.specs.declared.assignment.Value.{Value}
use Rattle.ms_logic.specs.declared.assignment.Value.TheVariants.{Truth, Number, Set}
use Rattle.ms_logic.specs.Assignment.{Universe, Env, Variable, assign, assign_all, value_at}
use Rattle.ms_logic.specs.FiniteSet.{set_of, least, greatest, moved_up, moved_down, one_bits}
use Rattle.ms_logic.specs.FreeVariables.{IsVariable, IsBound, TermReads, SetTermReads, TermsRead, AgreeAt}
use Rattle.ms_logic.specs.Terms.{number_value, set_value, number_values, if_within, part_within, all_positions, of_both, of_value}
use Rattle.ms_logic.specs.Tree.{Term, number_variable, numeral, plus, minus, minimum, maximum, SetTerm, set_variable, empty_set, whole, literal, pconst, union, intersection, difference, shift_up, shift_down, Terms, no_terms, more_terms}

-- the order of a value
abbrev pub order_of_value : Value → Order
order_of_value (Truth b) = Zero
order_of_value (Number n) = One
order_of_value (Set members) = Two

pub universe-assign : (x : ℕ) (v : Value) (e : Env) → (assign x v e).universe ≡ e.universe
universe-assign x (Truth b) e = refl
universe-assign x (Number n) e = refl
universe-assign x (Set members) e = refl

pub universe-assign_all : (xs : List ℕ) (vs : List Value) (e : Env) → (assign_all xs vs e).universe ≡ e.universe
universe-assign_all [] vs e = refl
universe-assign_all (x ∷ xs) [] e = refl
universe-assign_all (x ∷ xs) (v ∷ vs) e = universe-assign x v (assign_all xs vs e) ∙ universe-assign_all xs vs e

-- both choose the same at x, and elsewhere what they had
same_choice : {A : Type 0} (x y : ℕ) (a b c : A) → ((y ≡ x → ⊥) → b ≡ c) → cond (y == x) a b ≡ cond (y == x) a c
same_choice x y a b c elsewhere =
    ⊎_elim (λ same. let passed : (y == x) ≡ true = grind (arith, nat_tests) in rw passed) (λ other. let e = elsewhere other in ap (λ r. cond (y == x) a r) e) (cases_eq y x)

agree_of_order : (x : ℕ) (v : Value) (y : ℕ) (o : Order) (e f : Env) → ((((y ≡ x) × (o ≡ order_of_value v)) → ⊥) → value_at o y e ≡ value_at o y f) →
    value_at o y (assign x v e) ≡ value_at o y (assign x v f)
agree_of_order x (Truth b) y Zero e f elsewhere =
    ap Truth (same_choice x y b (e.truth y) (f.truth y) (λ other. let h = elsewhere (λ both. other both.0) in cc))
agree_of_order x (Truth b) y One e f elsewhere = elsewhere (λ both. cc)
agree_of_order x (Truth b) y Two e f elsewhere = elsewhere (λ both. cc)
agree_of_order x (Number n) y Zero e f elsewhere = elsewhere (λ both. cc)
agree_of_order x (Number n) y One e f elsewhere =
    ap Number (same_choice x y n (e.number y) (f.number y) (λ other. let h = elsewhere (λ both. other both.0) in cc))
agree_of_order x (Number n) y Two e f elsewhere = elsewhere (λ both. cc)
agree_of_order x (Set s) y Zero e f elsewhere = elsewhere (λ both. cc)
agree_of_order x (Set s) y One e f elsewhere = elsewhere (λ both. cc)
agree_of_order x (Set s) y Two e f elsewhere =
    ap Set (same_choice x y s (e.set y) (f.set y) (λ other. let h = elsewhere (λ both. other both.0) in cc))

-- environments that agree at a variable, unless it is x, agree there once x has one value in both
pub agree_assign : (x : ℕ) (v : Value) (w : Variable) (e f : Env) → ((IsVariable x (order_of_value v) w → ⊥) → AgreeAt w e f) → AgreeAt w (assign x v e) (assign x v f)
agree_assign x v w e f elsewhere = agree_of_order x v w.name w.order e f elsewhere

pub agree_assign_all : (xs : List ℕ) (vs : List Value) (w : Variable) (e f : Env) → ((IsBound xs (map order_of_value vs) w → ⊥) → AgreeAt w e f) →
    AgreeAt w (assign_all xs vs e) (assign_all xs vs f)
agree_assign_all [] vs w e f elsewhere = elsewhere (λ bound. bound)
agree_assign_all (x ∷ xs) [] w e f elsewhere = elsewhere (λ bound. bound)
agree_assign_all (x ∷ xs) (v ∷ vs) w e f elsewhere =
    agree_assign x v w (assign_all xs vs e) (assign_all xs vs f) (λ not_first. agree_assign_all xs vs w e f (λ not_later. elsewhere (⊎_elim not_first not_later)))

-- a variable by its number and order
abbrev pub named : ℕ → Order → Variable
named x o = record { name = x; order = o }

-- environments of one universe that agree at each variable with a property
pub record Agrees (Free : Variable → Type 0) (e f : Env) : Type 0 where
  pub universe : e.universe ≡ f.universe
  pub values : (w : Variable) → Free w → AgreeAt w e f

pub agrees_swap : {Free : Variable → Type 0} {e f : Env} → Agrees Free e f → Agrees Free f e
agrees_swap agrees = record { universe = sym agrees.universe; values = λ w free. sym (agrees.values w free) }

pub agrees_weaker : {Free Fewer : Variable → Type 0} {e f : Env} → ((w : Variable) → Fewer w → Free w) → Agrees Free e f → Agrees Fewer e f
agrees_weaker fewer agrees = record { universe = agrees.universe; values = λ w free. agrees.values w (fewer w free) }

-- a step of a value in equal universes
same_after : {A B : Type 0} (step : Universe → A → Option B) (u w : Universe) (a b : Option A) → u ≡ w → a ≡ b → option_and_then (step u) a ≡ option_and_then (step w) b
same_after step u w a b universe same = ap (λ k. option_and_then (step k) a) universe ∙ ap (option_and_then (step w)) same

mutual
  -- a term has one value where its variables have
  pub number_value-same : (t : Term) (e f : Env) → Agrees (TermReads t) e f → number_value t e ≡ number_value t f
  number_value-same (number_variable x) e f agrees =
      let same = agrees.values (named x One) (refl, refl) in
      let universe = agrees.universe in
      let number : e.number x ≡ f.number x = cc in cc
  number_value-same (numeral n) e f agrees = ap (λ u. if_within u n) agrees.universe
  number_value-same (plus t n) e f agrees =
      same_after (λ u m. if_within u (m + n)) e.universe f.universe _ _ agrees.universe (number_value-same t e f agrees)
  number_value-same (minus t n) e f agrees =
      same_after (λ u m. if_within u (m - n)) e.universe f.universe _ _ agrees.universe (number_value-same t e f agrees)
  number_value-same (minimum s) e f agrees = same_after (λ u members. if_within u (least members)) e.universe f.universe _ _ agrees.universe (set_value-same s e f agrees)
  number_value-same (maximum s) e f agrees = same_after (λ u members. if_within u (greatest members)) e.universe f.universe _ _ agrees.universe (set_value-same s e f agrees)

  pub set_value-same : (s : SetTerm) (e f : Env) → Agrees (SetTermReads s) e f → set_value s e ≡ set_value s f
  set_value-same (set_variable x) e f agrees =
      let same = agrees.values (named x Two) (refl, refl) in
      let members : e.set x ≡ f.set x = cc in ap Some members
  set_value-same empty_set e f agrees = refl
  set_value-same whole e f agrees = ap all_positions agrees.universe
  set_value-same (literal ts) e f agrees = ap (of_value set_of) (number_values-same ts e f agrees)
  set_value-same (pconst n) e f agrees = ap (λ u. Some (part_within u (one_bits n))) agrees.universe
  set_value-same (union s t) e f agrees =
      let left = set_value-same s e f (agrees_weaker (λ w free. inl free) agrees) in
      let right = set_value-same t e f (agrees_weaker (λ w free. inr free) agrees) in cc
  set_value-same (intersection s t) e f agrees =
      let left = set_value-same s e f (agrees_weaker (λ w free. inl free) agrees) in
      let right = set_value-same t e f (agrees_weaker (λ w free. inr free) agrees) in cc
  set_value-same (difference s t) e f agrees =
      let left = set_value-same s e f (agrees_weaker (λ w free. inl free) agrees) in
      let right = set_value-same t e f (agrees_weaker (λ w free. inr free) agrees) in cc
  set_value-same (shift_up s n) e f agrees =
      ap (λ u. of_value (λ members. part_within u (moved_up n members)) (set_value s e)) agrees.universe
      ∙ ap (of_value (λ members. part_within f.universe (moved_up n members))) (set_value-same s e f agrees)
  set_value-same (shift_down s n) e f agrees = ap (of_value (moved_down n)) (set_value-same s e f agrees)

  number_values-same : (ts : Terms) (e f : Env) → Agrees (TermsRead ts) e f → number_values ts e ≡ number_values ts f
  number_values-same no_terms e f agrees = refl
  number_values-same (more_terms t ts) e f agrees =
      let first = number_value-same t e f (agrees_weaker (λ w free. inl free) agrees) in
      let others = number_values-same ts e f (agrees_weaker (λ w free. inr free) agrees) in
      ap (λ o. of_both (λ n ns. n ∷ ns) o (number_values ts e)) first ∙ ap (of_both (λ n ns. n ∷ ns) (number_value t f)) others
