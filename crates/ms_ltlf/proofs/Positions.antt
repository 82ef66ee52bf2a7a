-- The atoms of a translation agree with what they are for: comparisons of positions, and the positions of a proposition.
use Rattle.std.proofs.Common.{◌≡◌, ℕ, ◌+◌, ◌<◌, ◌≤◌, ◌==◌, Bool, true, false, cond, ◌⊎◌, inl, inr, ⊎_elim, IsTrue, Option, Some, None, refl, sym, ◌∙◌, ap, subst, arith}
use Rattle.std.specs.Option.{option_and_then}
use Rattle.std.proofs.lemmas.Bool.{cases_lt}
use Rattle.std.proofs.lemmas.Bool.Decides.{nat_tests}
use Rattle.ms_logic.specs.declared.assignment.Value.TheVariants.{Number}
use Rattle.ms_logic.specs.declared.mode.Rel.{Rel}
use Rattle.ms_logic.specs.declared.mode.Rel.TheVariants.{Equal, Less, AtMost}
use Rattle.ms_logic.specs.Assignment.{Env, is_within, assign}
use Rattle.ms_logic.specs.FiniteSet.{is_member, IsMember}
use Rattle.ms_logic.specs.Terms.{if_within, number_value}
use Rattle.ms_logic.specs.Tree.{Term, number_variable, numeral, plus, comparison, membership, set_variable}
use Rattle.ms_logic.specs.Truth.{Meanings, NumbersRelate, HoldsOfBoth, MembershipHolds}
use Rattle.ms_logic.proofs.Within.{if_within-of}
use Rattle.ms_ltlf.specs.Strings.{follows, at_most}
use Rattle.ms_ltlf.proofs.Quantifiers.{within-string}
use Rattle.ms_translation.specs.Parts.{less}
use Rattle.ms_translation.proofs.Agreeing.{Agrees}

-- a number variable stands for a position of a string of length n
pub record StandsAt (e : Env) (n x i : ℕ) : Type 0 where
  pub universe : e.universe ≡ Some n
  pub here : e.number x ≡ i
  pub within : i < n

-- a variable that is bound stands for its value
pub stands-bound : (e : Env) (n y j : ℕ) → e.universe ≡ Some n → j < n → StandsAt (assign y (Number j) e) n y j
stands-bound e n y j universe below =
    let passed : (y == y) ≡ true = grind (arith, nat_tests) in
    record { universe = universe; here = ap (λ t. cond t j (e.number y)) passed; within = below }

-- another variable stands for what it stood for
pub stands-kept : (e : Env) (n x i y j : ℕ) → StandsAt e n x i → x < y → StandsAt (assign y (Number j) e) n x i
stands-kept e n x i y j stands other =
    let failed : (x == y) ≡ false = grind (arith, nat_tests) in
    record { universe = stands.universe; here = ap (λ t. cond t j (e.number x)) failed ∙ stands.here; within = stands.within }

-- the value of a variable, and that of a number
pub value-variable : (e : Env) (n x i : ℕ) → StandsAt e n x i → number_value (number_variable x) e ≡ Some i
value-variable e n x i stands = ap (if_within e.universe) stands.here ∙ if_within-of e.universe i (within-string e.universe n i stands.universe stands.within)

pub value-zero : (e : Env) (n : ℕ) → e.universe ≡ Some n → 0 < n → number_value (numeral 0) e ≡ Some 0
value-zero e n universe positive = if_within-of e.universe 0 (within-string e.universe n 0 universe positive)

-- the number behind a position, where there is one
value-next : (e : Env) (n x i : ℕ) → StandsAt e n x i → i + 1 < n → number_value (plus (number_variable x) 1) e ≡ Some (i + 1)
value-next e n x i stands below =
    ap (option_and_then (λ k. if_within e.universe (k + 1))) (value-variable e n x i stands)
    ∙ if_within-of e.universe (i + 1) (within-string e.universe n (i + 1) stands.universe below)

outside : (n k : ℕ) → n ≤ k → if_within (Some n) k ≡ None
outside n k above =
    let failed : is_within (Some n) k ≡ false = grind (arith, nat_tests) in ap (λ t. cond t (Some k) None) failed

no-next : (e : Env) (n x i : ℕ) → StandsAt e n x i → n ≤ i + 1 → number_value (plus (number_variable x) 1) e ≡ None
no-next e n x i stands above =
    ap (option_and_then (λ k. if_within e.universe (k + 1))) (value-variable e n x i stands)
    ∙ (ap (λ u. if_within u (i + 1)) stands.universe ∙ outside n (i + 1) above)

-- a relation of two values, by what the values are
both-hold : {A B : Type 0} (R : A → B → Type 0) (v : Option A) (w : Option B) (a : A) (b : B) → v ≡ Some a → w ≡ Some b → R a b → HoldsOfBoth R v w
both-hold {A} {B} R v w a b left right held =
    let P : Option A → Type 0 = λ v. HoldsOfBoth R v w in
    let Q : Option B → Type 0 = λ w. HoldsOfBoth R (Some a) w in subst P (sym left) (subst Q (sym right) held)

both-held : {A B : Type 0} (R : A → B → Type 0) (v : Option A) (w : Option B) (a : A) (b : B) → v ≡ Some a → w ≡ Some b → HoldsOfBoth R v w → R a b
both-held {A} {B} R v w a b left right held =
    let P : Option A → Type 0 = λ v. HoldsOfBoth R v w in
    let Q : Option B → Type 0 = λ w. HoldsOfBoth R (Some a) w in subst Q right (subst P left held)

lacks-second : {A B : Type 0} (R : A → B → Type 0) (v : Option A) (w : Option B) (a : A) → v ≡ Some a → w ≡ None → HoldsOfBoth R v w → ⊥
lacks-second {A} {B} R v w a left right held =
    let P : Option A → Type 0 = λ v. HoldsOfBoth R v w in
    let Q : Option B → Type 0 = λ w. HoldsOfBoth R (Some a) w in subst Q right (subst P left held)

module _ (m : Meanings) where
  -- a comparison of two terms that have values
  compared : (r : Rel) (t u : Term) (e : Env) (a b : ℕ) → number_value t e ≡ Some a → number_value u e ≡ Some b →
      NumbersRelate r a b ⊎ ¬ NumbersRelate r a b → Agrees m (comparison r t u) e (NumbersRelate r a b)
  compared r t u e a b left right decided =
      ⊎_elim (λ held. inl (held, both-hold (NumbersRelate r) (number_value t e) (number_value u e) a b left right held))
      (λ fails. inr (fails, λ both. fails (both-held (NumbersRelate r) (number_value t e) (number_value u e) a b left right both))) decided

  decide-equal : (a b : ℕ) → (a ≡ b) ⊎ ¬ (a ≡ b)
  decide-equal a b =
      ⊎_elim (λ below. inr (λ same. omega arith)) (λ above. ⊎_elim (λ below. inr (λ same. omega arith)) (λ above'. inl (omega arith)) (cases_lt b a)) (cases_lt a b)

  pub agrees-equal : (t u : Term) (e : Env) (a b : ℕ) → number_value t e ≡ Some a → number_value u e ≡ Some b → Agrees m (comparison Equal t u) e (a ≡ b)
  agrees-equal t u e a b left right = compared Equal t u e a b left right (decide-equal a b)

  pub agrees-at_most : (e : Env) (n x i y j : ℕ) → StandsAt e n x i → StandsAt e n y j → Agrees m (at_most x y) e (i ≤ j)
  agrees-at_most e n x i y j one other =
      compared AtMost (number_variable x) (number_variable y) e i j (value-variable e n x i one) (value-variable e n y j other)
      (⊎_elim (λ below. inr (λ above. omega arith)) (λ above. inl above) (cases_lt j i))

  pub agrees-less : (e : Env) (n x i y j : ℕ) → StandsAt e n x i → StandsAt e n y j → Agrees m (less x y) e (i < j)
  agrees-less e n x i y j one other =
      compared Less (number_variable x) (number_variable y) e i j (value-variable e n x i one) (value-variable e n y j other)
      (⊎_elim (λ below. inl below) (λ above. inr (λ below. omega arith)) (cases_lt i j))

  -- at the last position the number behind it has no value, and no position equals it
  pub agrees-follows : (e : Env) (n x i y j : ℕ) → StandsAt e n x i → StandsAt e n y j → Agrees m (follows x y) e (j ≡ i + 1)
  agrees-follows e n x i y j one other =
      ⊎_elim (λ below. agrees-equal (number_variable y) (plus (number_variable x) 1) e j (i + 1) (value-variable e n y j other) (value-next e n x i one below))
      (λ above. inr ((λ same. omega (arith, other.within)), lacks-second (NumbersRelate Equal) (number_value (number_variable y) e) (number_value (plus (number_variable x) 1) e) j (value-variable e n y j other) (no-next e n x i one above)))
      (cases_lt (i + 1) n)

  decide-true : (b : Bool) → IsTrue b ⊎ ¬ IsTrue b
  decide-true true = inl refl
  decide-true false = inr (λ held. cc)

  -- a position is in the set of a proposition
  pub agrees-member : (t : Term) (e : Env) (i p : ℕ) → number_value t e ≡ Some i → Agrees m (membership true t (set_variable p)) e (IsMember i (e.set p))
  agrees-member t e i p value =
      ⊎_elim (λ held. inl (held, both-hold (MembershipHolds true) (number_value t e) (Some (e.set p)) i (e.set p) value refl held))
      (λ fails. inr (fails, λ both. fails (both-held (MembershipHolds true) (number_value t e) (Some (e.set p)) i (e.set p) value refl both)))
      (decide-true (is_member i (e.set p)))
