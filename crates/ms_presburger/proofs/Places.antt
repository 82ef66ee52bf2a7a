-- Atoms about places, in the natural numbers: a place is in a set, or it is not; and what the variables stand for.
use Rattle.std.proofs.Common.{◌≡◌, ℕ, ◌+◌, ◌<◌, ◌==◌, Bool, true, false, cond, ◌⊎◌, inl, inr, ⊎_elim, IsTrue, List, Option, Some, None, refl, sym, ◌∙◌, ap, subst, arith}
use Rattle.std.specs.Option.{option_and_then}
use Rattle.std.proofs.lemmas.Bool.{cases_lt}
use Rattle.std.proofs.lemmas.Bool.Decides.{nat_tests}
use Rattle.ms_logic.specs.declared.assignment.Value.TheVariants.{Number, Set}
use Rattle.ms_logic.specs.declared.mode.Rel.TheVariants.{Less}
use Rattle.ms_logic.specs.Assignment.{Universe, Env, IsWithin, assign}
use Rattle.ms_logic.specs.FiniteSet.{is_member, IsMember}
use Rattle.ms_logic.specs.Terms.{if_within, number_value}
use Rattle.ms_logic.specs.Tree.{Term, number_variable, numeral, plus, comparison, membership, set_variable}
use Rattle.ms_logic.specs.Truth.{Meanings, NumbersRelate, HoldsOfBoth, MembershipHolds}
use Rattle.ms_logic.proofs.Within.{if_within-of}
use Rattle.ms_translation.proofs.Agreeing.{Agrees}

-- a set variable that is bound stands for its value, and the others for what they stood for
pub set-here : (x : ℕ) (s : List ℕ) (e : Env) → (assign x (Set s) e).set x ≡ s
set-here x s e =
    let passed : (x == x) ≡ true = grind (arith, nat_tests) in ap (λ t. cond t s (e.set x)) passed

pub set-there : (x y : ℕ) (s : List ℕ) (e : Env) → y < x → (assign x (Set s) e).set y ≡ e.set y
set-there x y s e below =
    let failed : (y == x) ≡ false = grind (arith, nat_tests) in ap (λ t. cond t s (e.set y)) failed

pub place-here : (x j : ℕ) (e : Env) → (assign x (Number j) e).number x ≡ j
place-here x j e =
    let passed : (x == x) ≡ true = grind (arith, nat_tests) in ap (λ t. cond t j (e.number x)) passed

pub place-there : (x y j : ℕ) (e : Env) → y < x → (assign x (Number j) e).number y ≡ e.number y
place-there x y j e below =
    let failed : (y == x) ≡ false = grind (arith, nat_tests) in ap (λ t. cond t j (e.number y)) failed

module _ (e : Env) (natural : e.universe ≡ None) where
  pub if_within-natural : (j : ℕ) → if_within e.universe j ≡ Some j
  if_within-natural j = if_within-of e.universe j (let P : Universe → Type 0 = λ u. IsWithin u j in subst P (sym natural) tt)

  pub value-variable : (x i : ℕ) → e.number x ≡ i → number_value (number_variable x) e ≡ Some i
  value-variable x i here = ap (if_within e.universe) here ∙ if_within-natural i

  pub value-next : (x i : ℕ) → e.number x ≡ i → number_value (plus (number_variable x) 1) e ≡ Some (i + 1)
  value-next x i here = ap (option_and_then (λ k. if_within e.universe (k + 1))) (value-variable x i here) ∙ if_within-natural (i + 1)

  pub value-zero : number_value (numeral 0) e ≡ Some 0
  value-zero = if_within-natural 0

-- a relation of two values, by what the values are
pub both-hold : {A B : Type 0} (R : A → B → Type 0) (v : Option A) (w : Option B) (a : A) (b : B) → v ≡ Some a → w ≡ Some b → R a b → HoldsOfBoth R v w
both-hold {A} {B} R v w a b left right held =
    let P : Option A → Type 0 = λ v. HoldsOfBoth R v w in
    let Q : Option B → Type 0 = λ w. HoldsOfBoth R (Some a) w in subst P (sym left) (subst Q (sym right) held)

pub both-held : {A B : Type 0} (R : A → B → Type 0) (v : Option A) (w : Option B) (a : A) (b : B) → v ≡ Some a → w ≡ Some b → HoldsOfBoth R v w → R a b
both-held {A} {B} R v w a b left right held =
    let P : Option A → Type 0 = λ v. HoldsOfBoth R v w in
    let Q : Option B → Type 0 = λ w. HoldsOfBoth R (Some a) w in subst Q right (subst P left held)

decide-true : (b : Bool) → IsTrue b ⊎ ¬ IsTrue b
decide-true true = inl refl
decide-true false = inr (λ held. cc)

module _ (m : Meanings) where
  pub agrees-in : (t : Term) (e : Env) (i s : ℕ) (members : List ℕ) → number_value t e ≡ Some i → e.set s ≡ members → Agrees m (membership true t (set_variable s)) e (IsMember i members)
  agrees-in t e i s members value is =
      let both : Some (e.set s) ≡ Some members = ap (λ (l : List ℕ). Some l) is in
      ⊎_elim (λ held. inl (held, both-hold (MembershipHolds true) (number_value t e) (Some (e.set s)) i members value both held))
      (λ fails. inr (fails, λ held. fails (both-held (MembershipHolds true) (number_value t e) (Some (e.set s)) i members value both held))) (decide-true (is_member i members))

  pub agrees-not-in : (t : Term) (e : Env) (i s : ℕ) (members : List ℕ) → number_value t e ≡ Some i → e.set s ≡ members → Agrees m (membership false t (set_variable s)) e (¬ IsMember i members)
  agrees-not-in t e i s members value is =
      let both : Some (e.set s) ≡ Some members = ap (λ (l : List ℕ). Some l) is in
      ⊎_elim (λ member. inr ((λ fails. fails member), λ held. both-held (MembershipHolds false) (number_value t e) (Some (e.set s)) i members value both held member))
      (λ fails. inl (fails, both-hold (MembershipHolds false) (number_value t e) (Some (e.set s)) i members value both fails)) (decide-true (is_member i members))

  pub agrees-before : (t u : Term) (e : Env) (i j : ℕ) → number_value t e ≡ Some i → number_value u e ≡ Some j → Agrees m (comparison Less t u) e (i < j)
  agrees-before t u e i j left right =
      ⊎_elim (λ below. inl (below, both-hold (NumbersRelate Less) (number_value t e) (number_value u e) i j left right below))
      (λ above. inr ((λ below. omega (arith, above, below)), λ held. let below = both-held (NumbersRelate Less) (number_value t e) (number_value u e) i j left right held in omega (arith, above, below))) (cases_lt i j)
