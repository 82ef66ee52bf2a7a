-- What is said of two terms: atoms and their spread.
use Rattle.std.proofs.Common.{◌≡◌, ℕ, ◌+◌, Bool, true, false, ◌↔◌, ◌⊎◌, inl, inr, ⊎_elim, List, [], ◌∷◌, Option, Some, None, IsSomeAnd, refl, sym, ◌∙◌, ap, subst, arith}
use Rattle.std.specs.List.{list_all}
use Rattle.std.proofs.lemmas.Bool.{false≢true, cases_lt, cases_eq}
use Rattle.ms_logic.specs.declared.mode.Order.{Order}
use Rattle.ms_logic.specs.declared.mode.Rel.{Rel}
use Rattle.ms_logic.specs.declared.mode.Rel.TheVariants.{Equal, Differs, Less, AtMost, Greater, AtLeast, Member, NotMember, Sub}
use Rattle.ms_logic.specs.declared.assignment.Value.{Value}
use Rattle.ms_logic.specs.Assignment.{Env, IsValueOf, value_at}
use Rattle.ms_logic_core.specs.CoreForm.{CoreForm, CoreYes, CoreNo}
use Rattle.ms_logic.specs.FiniteSet.{IsRising, is_member, union_of}
use Rattle.ms_logic_core.specs.Spread.{TermSpread, numbers_relate, sets_relate, is_member_or_not}
use Rattle.ms_logic.specs.Truth.{Import, HoldsOfBoth, NumbersRelate, SetsRelate, MembershipHolds}
use Rattle.ms_logic_core.proofs.CoreConsistent.{core_never_both}
use Rattle.ms_logic_core.proofs.Saying.{said_yes, said_no, extends-itself}
use Rattle.ms_logic_core.proofs.SayingTerms.{DenotesFrom}
use Rattle.ms_logic.proofs.SetLaws.{sets_are_their_members, union_law}

-- two lists are equal or not
pub same_list : (a b : List ℕ) → (a ≡ b) ⊎ (a ≡ b → ⊥)
same_list [] [] = inl refl
same_list [] (y ∷ b) = inr (λ same. absurd cc)
same_list (x ∷ a) [] = inr (λ same. absurd cc)
same_list (x ∷ a) (y ∷ b) =
    ⊎_elim (λ first. ⊎_elim (λ others. inl cc) (λ differ. inr (λ same. let tails : a ≡ b = cc in differ tails)) (same_list a b)) (λ differ. inr (λ same. let heads : x ≡ y = cc in differ heads)) (cases_eq x y)

-- the union of a set with itself
union_same : (s : List ℕ) → IsRising s → union_of s s ≡ s
union_same s rises =
    let law = union_law s s in
    sets_are_their_members (union_of s s) s law.rising rises (λ n. (λ member. ⊎_elim (λ h. h) (λ h. h) ((law.exactly n).0 member), λ member. (law.exactly n).1 (inl member)))

holds_of_both : {A B : Type 0} (R : A → B → Type 0) (a : Option A) (b : Option B) → HoldsOfBoth R a b ↔ IsSomeAnd a (λ x. IsSomeAnd b (λ y. R x y))
holds_of_both R None b = (λ h. h, λ h. h)
holds_of_both R (Some x) None = (λ h. h, λ h. h)
holds_of_both R (Some x) (Some y) = (λ h. h, λ h. h)

module _ (imports : List Import) where
  -- a formula that is No where it is not Yes
  abbrev pub IsDecided : CoreForm → Env → Type 0
  IsDecided f c = (CoreYes imports f c → ⊥) → CoreNo imports f c

  -- a relation of two terms
  pub atom : {A B : Type 0} (o p : Order) (f : A → Value) (g : B → Value) (T U : TermSpread) (G : ℕ → ℕ → CoreForm) (R : A → B → Type 0) (free : ℕ) (c : Env) (a : Option A) (b : Option B) →
      DenotesFrom imports o f T free c a → DenotesFrom imports p g U free c b →
      ((x y : ℕ) (inner : Env) (s : A) (t : B) → inner.universe ≡ c.universe → value_at o x inner ≡ f s → value_at p y inner ≡ g t → IsValueOf p c.universe (g t) → CoreYes imports (G x y) inner ↔ R s t) →
      ((x y : ℕ) (inner : Env) → IsDecided (G x y) inner) →
      (HoldsOfBoth R a b ↔ CoreYes imports (T free (λ free x. U free (λ free y. G x y))) c) × ((HoldsOfBoth R a b → ⊥) ↔ CoreNo imports (T free (λ free x. U free (λ free y. G x y))) c)
  atom {A} {B} o p f g T U G R free c a b first second means decided =
      let whole : CoreForm = T free (λ free x. U free (λ free y. G x y)) in
      let at_start = first free c (omega arith) (extends-itself free c) in
      let yes : CoreYes imports whole c ↔ IsSomeAnd a (λ s. IsSomeAnd b (λ t. R s t)) = said_yes imports o f T free c a at_start (λ next x. U next (λ last y. G x y)) (λ s. IsSomeAnd b (λ t. R s t))
      (λ next x inner s inside. said_yes imports p g U next inner b (second next inner inside.later inside.extends) (λ last y. G x y) (λ t. R s t)
      (λ last y innermost t inside_second. means x y innermost s t (inside_second.extends.universe ∙ inside.extends.universe) (inside_second.extends.values o x inside.placed ∙ inside.value) inside_second.value (subst (λ u. IsValueOf p u (g t)) inside.extends.universe inside_second.valid))) in
      let both = holds_of_both R a b in
      let fails : (CoreYes imports whole c → ⊥) → CoreNo imports whole c = said_no imports o f T free c a at_start (λ next x. U next (λ last y. G x y))
      (λ next x inner s inside. said_no imports p g U next inner b (second next inner inside.later inside.extends) (λ last y. G x y) (λ last y innermost t inside_second. decided x y innermost)) in (
        (λ holds. yes.1 (both.0 holds), λ holds. both.1 (yes.0 holds)),
        (λ not_both. fails (λ holds. not_both (both.1 (yes.0 holds))), λ no holds. core_never_both imports whole c (yes.1 (both.0 holds)) no),
      )

  pub numbers_mean : (r : Rel) (x y : ℕ) (inner : Env) (m n : ℕ) → inner.number x ≡ m → inner.number y ≡ n → CoreYes imports (numbers_relate r x y) inner ↔ NumbersRelate r m n
  numbers_mean Equal x y inner m n is_m is_n = (λ h. omega (arith, h, is_m, is_n), λ h. omega (arith, h, is_m, is_n))
  numbers_mean Differs x y inner m n is_m is_n =
      (λ h same. h (omega (arith, same, is_m, is_n)), λ h same. h (omega (arith, same, is_m, is_n)))
  numbers_mean Less x y inner m n is_m is_n = (λ h. omega (arith, h, is_m, is_n), λ h. omega (arith, h, is_m, is_n))
  numbers_mean AtMost x y inner m n is_m is_n =
      (λ h. ⊎_elim (λ low. absurd (h (omega (arith, low, is_m, is_n)))) (λ high. high) (cases_lt n m), λ h low. omega (arith, h, low, is_m, is_n))
  numbers_mean Greater x y inner m n is_m is_n = (λ h. omega (arith, h, is_m, is_n), λ h. omega (arith, h, is_m, is_n))
  numbers_mean AtLeast x y inner m n is_m is_n =
      (λ h. ⊎_elim (λ low. absurd (h (omega (arith, low, is_m, is_n)))) (λ high. high) (cases_lt m n), λ h low. omega (arith, h, low, is_m, is_n))
  numbers_mean Member x y inner m n is_m is_n = (λ h. h, λ h. h)
  numbers_mean NotMember x y inner m n is_m is_n = (λ h. h, λ h. h)
  numbers_mean Sub x y inner m n is_m is_n = (λ h. h, λ h. h)

  pub numbers_decided : (r : Rel) (x y : ℕ) (inner : Env) → IsDecided (numbers_relate r x y) inner
  numbers_decided Equal x y inner fails = fails
  numbers_decided Differs x y inner fails = ⊎_elim (λ same. same) (λ other. absurd (fails other)) (cases_eq (inner.number x) (inner.number y + 0))
  numbers_decided Less x y inner fails = fails
  numbers_decided AtMost x y inner fails = ⊎_elim (λ low. low) (λ high. absurd (fails (λ low. omega (arith, low, high)))) (cases_lt (inner.number y) (inner.number x))
  numbers_decided Greater x y inner fails = fails
  numbers_decided AtLeast x y inner fails = ⊎_elim (λ low. low) (λ high. absurd (fails (λ low. omega (arith, low, high)))) (cases_lt (inner.number x) (inner.number y))
  numbers_decided Member x y inner fails = tt
  numbers_decided NotMember x y inner fails = tt
  numbers_decided Sub x y inner fails = tt

  pub sets_mean : (r : Rel) (x y : ℕ) (inner : Env) (s t : List ℕ) → inner.set x ≡ s → inner.set y ≡ t → IsRising t → CoreYes imports (sets_relate r x y) inner ↔ SetsRelate r s t
  sets_mean Equal x y inner s t is_s is_t rises =
      let twice : union_of (inner.set y) (inner.set y) ≡ t = ap (λ z. union_of z z) is_t ∙ union_same t rises in
      (λ h. sym is_s ∙ (h ∙ twice), λ h. is_s ∙ (h ∙ sym twice))
  sets_mean Differs x y inner s t is_s is_t rises =
      let twice : union_of (inner.set y) (inner.set y) ≡ t = ap (λ z. union_of z z) is_t ∙ union_same t rises in
      (λ h same. h (is_s ∙ (same ∙ sym twice)), λ h same. h (sym is_s ∙ (same ∙ twice)))
  sets_mean Sub x y inner s t is_s is_t rises =
      let both = ap (λ z. list_all (λ n. is_member n (inner.set y)) z) is_s ∙ ap (λ z. list_all (λ n. is_member n z) s) is_t in
      (λ h. sym both ∙ h, λ h. both ∙ h)
  sets_mean Less x y inner s t is_s is_t rises = (λ h. h, λ h. h)
  sets_mean AtMost x y inner s t is_s is_t rises = (λ h. h, λ h. h)
  sets_mean Greater x y inner s t is_s is_t rises = (λ h. h, λ h. h)
  sets_mean AtLeast x y inner s t is_s is_t rises = (λ h. h, λ h. h)
  sets_mean Member x y inner s t is_s is_t rises = (λ h. h, λ h. h)
  sets_mean NotMember x y inner s t is_s is_t rises = (λ h. h, λ h. h)

  pub sets_decided : (r : Rel) (x y : ℕ) (inner : Env) → IsDecided (sets_relate r x y) inner
  sets_decided Equal x y inner fails = fails
  sets_decided Differs x y inner fails = ⊎_elim (λ same. same) (λ other. absurd (fails other)) (same_list (inner.set x) (union_of (inner.set y) (inner.set y)))
  sets_decided Sub x y inner fails = fails
  sets_decided Less x y inner fails = tt
  sets_decided AtMost x y inner fails = tt
  sets_decided Greater x y inner fails = tt
  sets_decided AtLeast x y inner fails = tt
  sets_decided Member x y inner fails = tt
  sets_decided NotMember x y inner fails = tt

  pub member_means : (positive : Bool) (x y : ℕ) (inner : Env) (m : ℕ) (s : List ℕ) → inner.number x ≡ m → inner.set y ≡ s → CoreYes imports (is_member_or_not positive x y) inner ↔ MembershipHolds positive m s
  member_means true x y inner m s is_m is_s =
      let both = ap (λ z. is_member z (inner.set y)) is_m ∙ ap (is_member m) is_s in (λ h. sym both ∙ h, λ h. both ∙ h)
  member_means false x y inner m s is_m is_s =
      let both = ap (λ z. is_member z (inner.set y)) is_m ∙ ap (is_member m) is_s in (λ h member. h (both ∙ member), λ h member. h (sym both ∙ member))

  pub member_decided : (positive : Bool) (x y : ℕ) (inner : Env) → IsDecided (is_member_or_not positive x y) inner
  member_decided true x y inner fails = fails
  member_decided false x y inner fails = by_test (is_member (inner.number x) (inner.set y)) fails
    where
      by_test : (b : Bool) → ((b ≡ true → ⊥) → ⊥) → b ≡ true
      by_test true fails = refl
      by_test false fails = absurd (fails false≢true)
