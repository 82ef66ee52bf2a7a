-- What is said of a term that is made of other terms.
use Rattle.std.proofs.Common.{◌≡◌, ℕ, ◌+◌, ◌<◌, ◌≤◌, ◌==◌, Bool, true, false, cond, ◌↔◌, inl, inr, ⊎_elim, List, [], ◌∷◌, Option, Some, None, IsSomeAnd, refl, sym, ◌∙◌, ap, subst, arith}
use Rattle.std.proofs.lemmas.Bool.{false≢true}
use Rattle.std.proofs.lemmas.Bool.Decides.{nat_tests}
use Rattle.std.specs.Option.{option_and_then}
use Rattle.ms_logic.specs.declared.mode.Order.{Order}
use Rattle.ms_logic.specs.declared.mode.Order.TheVariants.{One, Two}
use Rattle.ms_logic.specs.declared.assignment.Value.{Value}
use Rattle.ms_logic.specs.declared.assignment.Value.TheVariants.{Truth, Number, Set}
use Rattle.ms_logic.specs.Assignment.{Universe, Env, assign, value_at, IsValueOf, IsWithin, AllWithin, is_within}
use Rattle.ms_logic_core.specs.declared.core_formula.Basic.{Basic}
use Rattle.ms_logic_core.specs.CoreForm.{CoreForm, basic, Holds, CoreYes}
use Rattle.ms_logic.specs.FiniteSet.{IsMember, IsRising, is_member}
use Rattle.ms_logic_core.specs.Spread.{Saying, TermSpread, new_variable}
use Rattle.ms_logic.specs.Terms.{if_within, of_value, of_both}
use Rattle.ms_logic.specs.Truth.{Import}
use Rattle.ms_logic.proofs.Members.{either_true, all_natural}
use Rattle.ms_logic_core.proofs.Saying.{Extends, extends-itself, extends-assign, extends-further, Inside, Denotes, said_yes, denotes_some, denotes_none}
use Rattle.ms_logic.proofs.AssignedValues.{value_at-assign}
use Rattle.ms_logic.proofs.Values.{each_value}
use Rattle.ms_logic.proofs.Within.{is_within-of}

-- the number and the set that a value is
abbrev pub number_in : Value → ℕ
number_in (Truth b) = 0
number_in (Number n) = n
number_in (Set s) = 0

abbrev pub set_in : Value → List ℕ
set_in (Truth b) = []
set_in (Number n) = []
set_in (Set s) = s

-- what passes the test is within the universe
pub within-of_test : (universe : Universe) (n : ℕ) → is_within universe n ≡ true → IsWithin universe n
within-of_test None n passed = tt
within-of_test (Some size) n passed = grind (arith, nat_tests)

-- a set of numbers within the universe, by its members
pub all_within-of : (universe : Universe) (members : List ℕ) → ((n : ℕ) → IsMember n members → IsWithin universe n) → AllWithin universe members
all_within-of universe [] each = tt
all_within-of universe (first ∷ more) each = (
  each first (let here : (first == first) ≡ true = grind (arith, nat_tests) in (either_true (first == first) (is_member first more)).1 (inl here)),
  all_within-of universe more (λ n member. each n ((either_true (first == n) (is_member n more)).1 (inr member))),
)

pub member_within : (universe : Universe) (members : List ℕ) → AllWithin universe members → (n : ℕ) → IsMember n members → IsWithin universe n
member_within universe [] all n member = absurd (false≢true member)
member_within universe (first ∷ more) all n member =
    ⊎_elim (λ here. let same : first ≡ n = grind (arith, nat_tests) in subst (IsWithin universe) same all.0) (λ later. member_within universe more all.1 n later) ((either_true (first == n) (is_member n more)).0 member)

-- at what value something holds in a universe along an equation
pub valid_along : (o : Order) (u w : Universe) (v : Value) → u ≡ w → IsValueOf o u v → IsValueOf o w v
valid_along o u w v same valid = subst (λ universe. IsValueOf o universe v) same valid

module _ (imports : List Import) where
  -- the term has the value wherever more variables are in scope
  abbrev pub DenotesFrom : {A : Type 0} → Order → (A → Value) → TermSpread → ℕ → Env → Option A → Type 0
  DenotesFrom order wrap T free c o = (next : ℕ) (d : Env) → free ≤ next → Extends free c d → Denotes imports order wrap T next d o

  -- inside a new variable, which is the number k or the set s
  pub number_inside : (free next x : ℕ) (k : ℕ) (c inner : Env) → Extends (free + 1) (assign free (Number k) c) inner → inner.number free ≡ k
  number_inside free next x k c inner extends =
      ap number_in (extends.values One free (omega arith) ∙ value_at-assign One free (Number k) c None tt)

  pub set_inside : (free : ℕ) (s : List ℕ) (c inner : Env) → IsRising s → Extends (free + 1) (assign free (Set s) c) inner → inner.set free ≡ s
  set_inside free s c inner rises extends =
      ap set_in (extends.values Two free (omega arith) ∙ value_at-assign Two free (Set s) c None (rises, all_natural s))

  -- a new number, by when its restriction is Yes
  pub new_number : {A : Type 0} (Is : Saying) (free : ℕ) (c : Env) (f : A → ℕ) (o : Option A) →
      ((k : ℕ) → IsWithin c.universe k → CoreYes imports (Is (free + 1) free) (assign free (Number k) c) ↔ IsSomeAnd o (λ a. k ≡ f a)) →
      Denotes imports One Number (new_variable One Is) free c (option_and_then (λ a. if_within c.universe (f a)) o)
  new_number Is free c f None means =
      denotes_none imports One Number Is free c (each_value _ (λ b in_range holds. absurd in_range) (λ k in_range holds. (means k in_range).0 holds) (λ s in_range holds. absurd in_range))
  new_number Is free c f (Some a) means = by_test (is_within c.universe (f a)) refl
    where
      by_test : (b : Bool) → is_within c.universe (f a) ≡ b → Denotes imports One Number (new_variable One Is) free c (cond b (Some (f a)) None)
      by_test true passed =
          denotes_some imports One Number Is free c (f a) (within-of_test c.universe (f a) passed)
          (each_value _ (λ b in_range. absurd in_range) (λ k in_range. (λ holds. ap Number ((means k in_range).0 holds), λ same. (means k in_range).1 (ap number_in same))) (λ s in_range. absurd in_range))
      by_test false failed =
          denotes_none imports One Number Is free c (each_value _ (λ b in_range holds. absurd in_range) (λ k in_range holds. false≢true (sym failed ∙ (ap (is_within c.universe) (sym ((means k in_range).0 holds)) ∙ is_within-of c.universe k in_range))) (λ s in_range holds. absurd in_range))

  -- a new set
  pub new_set : (Is : Saying) (free : ℕ) (c : Env) (o : Option (List ℕ)) →
      ((s : List ℕ) → IsSomeAnd o (λ t. s ≡ t) → IsValueOf Two c.universe (Set s)) →
      ((s : List ℕ) → IsValueOf Two c.universe (Set s) → CoreYes imports (Is (free + 1) free) (assign free (Set s) c) ↔ IsSomeAnd o (λ t. s ≡ t)) →
      Denotes imports Two Set (new_variable Two Is) free c o
  new_set Is free c None valid means =
      denotes_none imports Two Set Is free c (each_value _ (λ b in_range holds. absurd in_range) (λ k in_range holds. absurd in_range) (λ s in_range holds. (means s in_range).0 holds))
  new_set Is free c (Some t) valid means =
      denotes_some imports Two Set Is free c t (valid t refl)
      (each_value _ (λ b in_range. absurd in_range) (λ k in_range. absurd in_range) (λ s in_range. (λ holds. ap Set ((means s in_range).0 holds), λ same. (means s in_range).1 (ap set_in same))))

  module _ {A : Type 0} (order : Order) (wrap : A → Value) where
    -- a number that is made of one term
    pub number_from : (T : TermSpread) (F : ℕ → ℕ → ℕ → CoreForm) (f : A → ℕ) (free : ℕ) (c : Env) (o : Option A) → DenotesFrom order wrap T free c o →
        ((k next x : ℕ) (inner : Env) (a : A) → free < next → x < next → inner.universe ≡ c.universe → inner.number free ≡ k → value_at order x inner ≡ wrap a →
        IsWithin c.universe k → IsValueOf order c.universe (wrap a) → CoreYes imports (F free next x) inner ↔ (k ≡ f a)) →
        Denotes imports One Number (new_variable One (λ free y. T free (F y))) free c (option_and_then (λ a. if_within c.universe (f a)) o)
    number_from T F f free c o denotes means =
        new_number (λ free y. T free (F y)) free c f o
        (λ k within. said_yes imports order wrap T (free + 1) (assign free (Number k) c) o (denotes (free + 1) (assign free (Number k) c) (omega arith) (extends-assign free free (Number k) c (omega arith))) (F free) (λ a. k ≡ f a)
        (λ next x inner a inside. let later = inside.later in
        means k next x inner a (omega arith) inside.placed inside.extends.universe (number_inside free next x k c inner inside.extends) inside.value within inside.valid))

    -- a term with a value has a value of its order
    pub valid_value : (T : TermSpread) (free : ℕ) (c : Env) (o : Option A) → Denotes imports order wrap T free c o → (P : A → Type 0) → IsSomeAnd o P →
        (a : A) × IsValueOf order c.universe (wrap a) × P a
    unfolding Denotes
    valid_value T free c None denotes P there = absurd there
    valid_value T free c (Some a) denotes P there = (a, denotes.inside.valid, there)

    -- a set that is made of one term
    pub set_from : (T : TermSpread) (F : ℕ → ℕ → ℕ → CoreForm) (g : A → List ℕ) (free : ℕ) (c : Env) (o : Option A) → DenotesFrom order wrap T free c o →
        ((a : A) → IsValueOf order c.universe (wrap a) → IsValueOf Two c.universe (Set (g a))) →
        ((s : List ℕ) (next x : ℕ) (inner : Env) (a : A) → free < next → x < next → inner.universe ≡ c.universe → inner.set free ≡ s → value_at order x inner ≡ wrap a →
        IsValueOf Two c.universe (Set s) → IsValueOf order c.universe (wrap a) → CoreYes imports (F free next x) inner ↔ (s ≡ g a)) →
        Denotes imports Two Set (new_variable Two (λ free y. T free (F y))) free c (of_value g o)
    set_from T F g free c o denotes valid means =
        new_set (λ free y. T free (F y)) free c (of_value g o)
        (λ s there. let found = valid_value T free c o (denotes free c (omega arith) (extends-itself free c)) (λ a. s ≡ g a) ((some_value o s).0 there) in
        subst (λ t. IsValueOf Two c.universe (Set t)) (sym found.2) (valid found.0 found.1))
        (λ s in_range.
        let yes = said_yes imports order wrap T (free + 1) (assign free (Set s) c) o (denotes (free + 1) (assign free (Set s) c) (omega arith) (extends-assign free free (Set s) c (omega arith))) (F free) (λ a. s ≡ g a)
        (λ next x inner a inside. let later = inside.later in
        means s next x inner a (omega arith) inside.placed inside.extends.universe (set_inside free s c inner in_range.0 inside.extends) inside.value in_range inside.valid) in
        (λ holds. (some_value o s).1 (yes.0 holds), λ there. yes.1 ((some_value o s).0 there)))
      where
        some_value : (o : Option A) (s : List ℕ) → IsSomeAnd (of_value g o) (λ t. s ≡ t) ↔ IsSomeAnd o (λ a. s ≡ g a)
        some_value None s = (λ h. h, λ h. h)
        some_value (Some a) s = (λ h. h, λ h. h)

  -- a set that is made of two
  pub set_from_two : (S T : TermSpread) (B : ℕ → ℕ → ℕ → Basic) (g : List ℕ → List ℕ → List ℕ) (free : ℕ) (c : Env) (one other : Option (List ℕ)) →
      DenotesFrom Two Set S free c one → DenotesFrom Two Set T free c other →
      ((s t : List ℕ) → IsValueOf Two c.universe (Set s) → IsValueOf Two c.universe (Set t) → IsValueOf Two c.universe (Set (g s t))) →
      ((inner : Env) (y u v : ℕ) → Holds (B y u v) inner ↔ (inner.set y ≡ g (inner.set u) (inner.set v))) →
      Denotes imports Two Set (new_variable Two (λ free y. S free (λ free u. T free (λ free v. basic (B y u v))))) free c (of_both g one other)
  set_from_two S T B g free c one other first second valid means =
      new_set (λ free y. S free (λ free u. T free (λ free v. basic (B y u v)))) free c (of_both g one other)
      (λ s there.
      let left = valid_value Two Set S free c one (first free c (omega arith) (extends-itself free c)) (λ a. IsSomeAnd other (λ b. s ≡ g a b)) ((some_both one other s).0 there) in
      let right = valid_value Two Set T free c other (second free c (omega arith) (extends-itself free c)) (λ b. s ≡ g left.0 b) left.2 in
      subst (λ t. IsValueOf Two c.universe (Set t)) (sym right.2) (valid left.0 right.0 left.1 right.1))
      (λ s in_range.
      let there = assign free (Set s) c in
      let around = extends-assign free free (Set s) c (omega arith) in
      let yes = said_yes imports Two Set S (free + 1) there one (first (free + 1) there (omega arith) around) (λ next u. T next (λ later v. basic (B free u v))) (λ a. IsSomeAnd other (λ b. s ≡ g a b)) (λ next u inner a inside. inner_yes s in_range next u inner a inside) in
      (λ holds. (some_both one other s).1 (yes.0 holds), λ holds. yes.1 ((some_both one other s).0 holds)))
    where
      inner_yes : (s : List ℕ) → IsValueOf Two c.universe (Set s) → (next u : ℕ) (inner : Env) (a : List ℕ) → Inside Two (free + 1) (assign free (Set s) c) next u inner (Set a) →
          CoreYes imports (T next (λ later v. basic (B free u v))) inner ↔ IsSomeAnd other (λ b. s ≡ g a b)
      inner_yes s in_range next u inner a inside =
          let later = inside.later in
          let from_c = extends-further free (free + 1) c (assign free (Set s) c) inner (omega arith) (extends-assign free free (Set s) c (omega arith)) inside.extends in
          said_yes imports Two Set T next inner other (second next inner (omega arith) from_c) (λ last v. basic (B free u v)) (λ b. s ≡ g a b)
          (λ last v innermost b inside_second.
          let is_s = ap set_in (inside_second.extends.values Two free (omega arith)) ∙ set_inside free s c inner in_range.0 inside.extends in
          let is_a = ap set_in (inside_second.extends.values Two u inside.placed ∙ inside.value) in
          let is_b = ap set_in inside_second.value in
          let both : g (innermost.set u) (innermost.set v) ≡ g a b = ap (λ l. g l (innermost.set v)) is_a ∙ ap (g a) is_b in
          let there = means innermost free u v in
          (λ holds. sym is_s ∙ (there.0 holds ∙ both), λ same. there.1 (is_s ∙ (same ∙ sym both))))

      some_both : (one other : Option (List ℕ)) (s : List ℕ) → IsSomeAnd (of_both g one other) (λ t. s ≡ t) ↔ IsSomeAnd one (λ a. IsSomeAnd other (λ b. s ≡ g a b))
      some_both None other s = (λ h. h, λ h. h)
      some_both (Some a) None s = (λ h. h, λ h. h)
      some_both (Some a) (Some b) s = (λ h. h, λ h. h)
