-- The numbers of a list at their first places.
use Rattle.std.proofs.Common.{◌≡◌, ℕ, suc, ◌<◌, ◌⊎◌, inl, inr, ⊎_elim, Bool, true, false, ◌==◌, ◌||◌, if◌then◌else◌, List, [], ◌∷◌, ◌++◌, length, slice_get, Some, refl, sym, ap, ◌∙◌, zero-add, arith}
use Rattle.std.specs.List.{list_any}
use Rattle.std.proofs.lemmas.Bool.{eq-eqb, ne_eqb, cases_eq}
use Rattle.std.proofs.lemmas.List.FromFn.{length-range_with_len, get_or-range_with_len}
use Rattle.std.proofs.lemmas.Option.{slice_get_within, slice_get-get_or, same_Some}
use Rattle.ms_arena.specs.Target.{Extends}
use Rattle.ms_arena.proofs.Lists.{slice_get-append_some}
use Rattle.ms_logic_words.specs.Canonical.{unseen_of}
use Rattle.ms_logic.specs.FiniteSet.{is_member, IsMember, numbers_below}
use Rattle.ms_logic.proofs.Members.{either_true, member_cases}
use Rattle.ms_minim_canonical.specs.inner.Renumbering.{ArePaired}

-- each number is related to one number at most, on either side
pub record IsMatching (R : ℕ → ℕ → Type 0) : Type 0 where
  pub right : (i j k : ℕ) → R i j → R i k → j ≡ k
  pub left : (i j k : ℕ) → R i k → R j k → i ≡ j

-- the relation from the other side
pub IsMatching-flip : (R : ℕ → ℕ → Type 0) → IsMatching R → IsMatching (λ j i. R i j)
IsMatching-flip R matching = record { right = λ i j k. matching.left j k i; left = λ i j k. matching.right k i j }

module _ (R : ℕ → ℕ → Type 0) (matching : IsMatching R) where
  same_test : (s t n m : ℕ) → R s t → R n m → (s == n) ≡ (t == m)
  same_test s t n m one other = ⊎_elim
      (λ same.
      let related : R s m = rw same other in
      eq-eqb s n same ∙ sym (eq-eqb t m (matching.right s t m one related)))
      (λ differs. ne_eqb s n differs ∙ sym (ne_eqb t m (λ same.
      let related : R n t = rw same other in
      differs (matching.left s n t one related))))
      (cases_eq s n)

  -- related numbers are both seen or both new
  both_seen : (seen met : List ℕ) (n m : ℕ) → ArePaired R seen met → R n m → list_any (λ s. s == n) seen ≡ list_any (λ s. s == m) met
  both_seen [] [] n m paired related = refl
  both_seen [] (t ∷ met) n m paired related = absurd paired
  both_seen (s ∷ seen) [] n m paired related = absurd paired
  both_seen (s ∷ seen) (t ∷ met) n m paired related =
      ap (λ b. b || list_any (λ v. v == n) seen) (same_test s t n m paired.0 related)
      ∙ ap (λ b. (t == m) || b) (both_seen seen met n m paired.1 related)

  -- so the first sights of paired lists are paired
  pub paired-unseen : (seen met xs ys : List ℕ) → ArePaired R seen met → ArePaired R xs ys → ArePaired R (unseen_of seen xs) (unseen_of met ys)
  paired-unseen seen met [] [] seen_paired paired = tt
  paired-unseen seen met [] (m ∷ ys) seen_paired paired = absurd paired
  paired-unseen seen met (n ∷ xs) [] seen_paired paired = absurd paired
  paired-unseen seen met (n ∷ xs) (m ∷ ys) seen_paired paired =
      by (list_any (λ s. s == n) seen) (list_any (λ s. s == m) met) (both_seen seen met n m seen_paired paired.0)
      (unseen_of seen xs) (unseen_of (n ∷ seen) xs) (unseen_of met ys) (unseen_of (m ∷ met) ys)
      (paired-unseen seen met xs ys seen_paired paired.1)
      (paired-unseen (n ∷ seen) (m ∷ met) xs ys (paired.0, seen_paired) paired.1)
    where
      by : (test other : Bool) → test ≡ other → (kept added kept_too added_too : List ℕ) → ArePaired R kept kept_too → ArePaired R added added_too
          → ArePaired R (if test then kept else n ∷ added) (if other then kept_too else m ∷ added_too)
      by true true same kept added kept_too added_too first second = first
      by false false same kept added kept_too added_too first second = (paired.0, second)
      by true false same kept added kept_too added_too first second = let never : ⊥ = cc in absurd never
      by false true same kept added kept_too added_too first second = let never : ⊥ = cc in absurd never

-- numbers that come later do not change the first sights before
pub unseen-append : (seen xs ys : List ℕ) → Extends (unseen_of seen xs) (unseen_of seen (xs ++ ys))
unseen-append seen [] ys = (unseen_of seen ys, refl)
unseen-append seen (n ∷ xs) ys =
    by (list_any (λ s. s == n) seen) (unseen_of seen xs) (unseen_of (n ∷ seen) xs) (unseen_of seen (xs ++ ys)) (unseen_of (n ∷ seen) (xs ++ ys))
    (unseen-append seen xs ys) (unseen-append (n ∷ seen) xs ys)
  where
    by : (test : Bool) (kept added kept_more added_more : List ℕ) → Extends kept kept_more → Extends added added_more
        → Extends (if test then kept else n ∷ added) (if test then kept_more else n ∷ added_more)
    by true kept added kept_more added_more first second = first
    by false kept added kept_more added_more first second = (second.0, ap (λ list. n ∷ list) second.1)

-- a number of the list was seen before, or is one of its first sights
pub unseen-member : (seen xs : List ℕ) (n : ℕ) → IsMember n xs → IsMember n seen ⊎ IsMember n (unseen_of seen xs)
unseen-member seen [] n member = let never : ⊥ = cc in absurd never
unseen-member seen (first ∷ xs) n member =
    by (list_any (λ s. s == first) seen) refl (unseen_of seen xs) (unseen_of (first ∷ seen) xs)
    (⊎_elim (λ same. inl same)
    (λ more. inr (unseen-member seen xs n more, unseen-member (first ∷ seen) xs n more))
    (member_cases n first xs member))
  where
    by : (test : Bool) → list_any (λ s. s == first) seen ≡ test → (kept added : List ℕ)
        → (first ≡ n) ⊎ ((IsMember n seen ⊎ IsMember n kept) × (IsMember n (first ∷ seen) ⊎ IsMember n added))
        → IsMember n seen ⊎ IsMember n (if test then kept else first ∷ added)
    by true is kept added (inl same) = inl (ap (λ m. is_member m seen) (sym same) ∙ is)
    by true is kept added (inr more) = more.0
    by false is kept added (inl same) = inr ((either_true (first == n) (is_member n added)).1 (inl (eq-eqb first n same)))
    by false is kept added (inr more) = ⊎_elim
        (λ before. ⊎_elim
        (λ same. inr ((either_true (first == n) (is_member n added)).1 (inl same)))
        (λ earlier. inl earlier)
        ((either_true (first == n) (is_member n seen)).0 before))
        (λ later. inr ((either_true (first == n) (is_member n added)).1 (inr later)))
        more.1

-- a member stands at a place
pub member_place : (xs : List ℕ) (n : ℕ) → IsMember n xs → (place : ℕ) × (slice_get xs place ≡ Some n)
member_place [] n member = let never : ⊥ = cc in absurd never
member_place (first ∷ xs) n member = ⊎_elim
    (λ same. (0, ap Some same))
    (λ more. let found = member_place xs n more in (suc found.0, found.1))
    (member_cases n first xs member)

-- the numbers below one, by their places
pub numbers_below_at : (count place : ℕ) → place < count → slice_get (numbers_below count) place ≡ Some place
numbers_below_at count place less =
    let long = length-range_with_len 0 count in
    slice_get-get_or (numbers_below count) place 0 (omega (arith, less, long)) ∙ ap Some (get_or-range_with_len 0 count place 0 less ∙ zero-add place)

-- the first of the numbers below one: each stands at its own place, and is below how many they are
module _ (count : ℕ) (first : List ℕ) (extends : Extends first (numbers_below count)) where
  pub own_place : (place n : ℕ) → slice_get first place ≡ Some n → n ≡ place
  own_place place n held =
      let there : slice_get (numbers_below count) place ≡ Some n = ap (λ list. slice_get list place) extends.1 ∙ slice_get-append_some first extends.0 place n held in
      let within : place < count = (let less = slice_get_within (numbers_below count) place n there in let long = length-range_with_len 0 count in omega (arith, less, long)) in
      same_Some n place (sym there ∙ numbers_below_at count place within)

  pub member_below : (n : ℕ) → IsMember n first → n < length first
  member_below n member =
      let found = member_place first n member in
      let own = own_place found.0 n found.1 in
      let within = slice_get_within first found.0 n found.1 in
      omega (arith, own, within)
