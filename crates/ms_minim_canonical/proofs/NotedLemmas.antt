-- Numbers noted by first sight: they differ, what was noted stays, and they are the first sights of all that were met.
use Rattle.std.proofs.Common.{◌≡◌, ℕ, zero, suc, ⊎_elim, inl, inr, Bool, true, false, ◌==◌, ◌||◌, nat_eq, if◌then◌else◌, List, [], ◌∷◌, ◌++◌, fold, slice_get, Some, refl, sym, ap, subst, ◌∙◌, append-nil, append_assoc, arith}
use Rattle.std.specs.List.{list_any, flat_map}
use Rattle.std.proofs.lemmas.Bool.{cases_Bool, eqb-true, eq-eqb}
use Rattle.std.proofs.lemmas.Bool.Decides.{nat_tests}
use Rattle.std.proofs.lemmas.List.Folds.{list_any-append}
use Rattle.std.proofs.lemmas.Option.{none-some, same_Some}
use Rattle.ms_arena.specs.Target.{Extends}
use Rattle.ms_arena.proofs.Appending.{Extends-same, Extends-further}
use Rattle.ms_arena.proofs.Lists.{slice_get-pushed}
use Rattle.ms_diagram.specs.Leaves.{noted, KnowsAll}
use Rattle.ms_diagram.specs.Numbering.{HasNoRepeats, Numbers}
use Rattle.ms_diagram.proofs.Keys.{numbered_key}
use Rattle.ms_diagram.proofs.LeavesLemmas.{KnowsAll-kept}
use Rattle.ms_logic_words.specs.Canonical.{unseen_of, first_sights_of}
use Rattle.ms_minim_canonical.specs.inner.Renumbering.{KnowsBehind}

-- what is behind some numbers stays known
module _ (behind : ℕ → List ℕ) where
  pub behind-kept : (seen more ns : List ℕ) → KnowsBehind behind seen ns → KnowsBehind behind (fold noted seen more) ns
  behind-kept seen more [] known = tt
  behind-kept seen more (n ∷ ns) known = (KnowsAll-kept seen more (behind n) known.0, behind-kept seen more ns known.1)

  behind-push : (seen ns : List ℕ) (n : ℕ) → KnowsBehind behind seen ns → KnowsAll seen (behind n) → KnowsBehind behind seen (ns ++ n ∷ [])
  behind-push seen [] n known own = (own, tt)
  behind-push seen (m ∷ ns) n known own = (known.0, behind-push seen ns n known.1 own)

  -- one number more
  pub behind-noted : (seen ns : List ℕ) (n : ℕ) → KnowsBehind behind seen ns → KnowsAll seen (behind n) → KnowsBehind behind seen (noted ns n)
  behind-noted seen ns n known own = ⊎_elim
      (λ there. subst (λ test. KnowsBehind behind seen (if test then ns else ns ++ n ∷ [])) (sym there) known)
      (λ absent. subst (λ test. KnowsBehind behind seen (if test then ns else ns ++ n ∷ [])) (sym absent) (behind-push seen ns n known own))
      (cases_Bool (list_any (nat_eq n) ns))

  pub behind-there : (seen ns : List ℕ) (n : ℕ) → KnowsBehind behind seen ns → list_any (nat_eq n) ns ≡ true → KnowsAll seen (behind n)
  behind-there seen [] n known there = absurd (let never : ⊥ = cc in never)
  behind-there seen (m ∷ ns) n known there = ⊎_elim
      (λ here. subst (λ k. KnowsAll seen (behind k)) (sym (eqb-true n m here)) known.0)
      (λ not_here. behind-there seen ns n known.1 (sym (ap (λ test. test || list_any (nat_eq n) ns) not_here) ∙ there))
      (cases_Bool (nat_eq n m))

-- each number of a list has the property
abbrev pub AllOf : (ℕ → Type 0) → List ℕ → Type 0
AllOf P ns = (at n : ℕ) → slice_get ns at ≡ Some n → P n

module _ (P : ℕ → Type 0) where
  pub all-none : AllOf P []
  all-none at n held = absurd (none-some n held)

  pub all-first : (n : ℕ) (ns : List ℕ) → P n → AllOf P ns → AllOf P (n ∷ ns)
  all-first n ns own all zero m held = subst P (same_Some n m held) own
  all-first n ns own all (suc at) m held = all at m held

  pub all-append : (xs ys : List ℕ) → AllOf P xs → AllOf P ys → AllOf P (xs ++ ys)
  all-append [] ys all also = also
  all-append (x ∷ xs) ys all also = all-first x (xs ++ ys) (all 0 x refl) (all-append xs ys (λ at n held. all (suc at) n held) also)

  pub all-left : (xs ys : List ℕ) → AllOf P (xs ++ ys) → AllOf P xs
  all-left [] ys all = all-none
  all-left (x ∷ xs) ys all = all-first x xs (all 0 x refl) (all-left xs ys (λ at n held. all (suc at) n held))

  pub all-right : (xs ys : List ℕ) → AllOf P (xs ++ ys) → AllOf P ys
  all-right [] ys all = all
  all-right (x ∷ xs) ys all = all-right xs ys (λ at n held. all (suc at) n held)

  pub all-flat_map : {X : Type 0} (f : X → List ℕ) (xs : List X) → ((at : ℕ) (x : X) → slice_get xs at ≡ Some x → AllOf P (f x)) → AllOf P (flat_map f xs)
  all-flat_map f [] each = all-none
  all-flat_map f (x ∷ xs) each = all-append (f x) (flat_map f xs) (each 0 x refl) (all-flat_map f xs (λ at y held. each (suc at) y held))

  -- the first sights of a list are among it
  pub all-unseen : (seen xs : List ℕ) → AllOf P xs → AllOf P (unseen_of seen xs)
  all-unseen seen [] all = all-none
  all-unseen seen (x ∷ xs) all =
      by (list_any (λ s. s == x) seen) (all-unseen seen xs (λ at n held. all (suc at) n held)) (all-unseen (x ∷ seen) xs (λ at n held. all (suc at) n held))
    where
      by : (test : Bool) → AllOf P (unseen_of seen xs) → AllOf P (unseen_of (x ∷ seen) xs) → AllOf P (if test then unseen_of seen xs else x ∷ unseen_of (x ∷ seen) xs)
      by true kept added = kept
      by false kept added = all-first x (unseen_of (x ∷ seen) xs) (all 0 x refl) added

pub all-implies : (P Q : ℕ → Type 0) (ns : List ℕ) → ((n : ℕ) → P n → Q n) → AllOf P ns → AllOf Q ns
all-implies P Q ns implies all at n held = implies n (all at n held)

-- a number is there, or is put behind
pub numbers-noted : (seen : List ℕ) (n : ℕ) → Numbers seen (noted seen n) n
numbers-noted seen n = numbered_key nat_eq eqb-true (λ m. eq-eqb m m refl) n seen (noted seen n) refl

extends-one : (seen new : List ℕ) (n : ℕ) → Numbers seen new n → Extends seen new
extends-one seen new n (inl same) = ([], same ∙ sym (append-nil seen))
extends-one seen new n (inr added) = (n ∷ [], added.1)

no_repeats-one : (seen new : List ℕ) (n : ℕ) → Numbers seen new n → HasNoRepeats seen → HasNoRepeats new
no_repeats-one seen new n (inl same) apart = subst HasNoRepeats (sym same) apart
no_repeats-one seen new n (inr added) apart = subst HasNoRepeats (sym added.1) (λ one two item first second. ⊎_elim
    (λ there. ⊎_elim
    (λ here. apart one two item there here)
    (λ last. absurd (added.0 one (there ∙ ap Some (sym last.1))))
    (slice_get-pushed seen n two item second))
    (λ last. ⊎_elim
    (λ here. absurd (added.0 two (here ∙ ap Some (sym last.1))))
    (λ also. last.0 ∙ sym also.0)
    (slice_get-pushed seen n two item second))
    (slice_get-pushed seen n one item first))

all-one : (P : ℕ → Type 0) (seen new : List ℕ) (n : ℕ) → Numbers seen new n → AllOf P seen → P n → AllOf P new
all-one P seen new n (inl same) all own = subst (AllOf P) (sym same) all
all-one P seen new n (inr added) all own = subst (AllOf P) (sym added.1) (all-append P seen (n ∷ []) all (all-first P n [] own (all-none P)))

pub extends-noted : (seen xs : List ℕ) → Extends seen (fold noted seen xs)
extends-noted seen [] = Extends-same seen
extends-noted seen (x ∷ xs) =
    Extends-further seen (noted seen x) (fold noted (noted seen x) xs) (extends-one seen (noted seen x) x (numbers-noted seen x)) (extends-noted (noted seen x) xs)

pub no_repeats-noted : (seen xs : List ℕ) → HasNoRepeats seen → HasNoRepeats (fold noted seen xs)
no_repeats-noted seen [] apart = apart
no_repeats-noted seen (x ∷ xs) apart = no_repeats-noted (noted seen x) xs (no_repeats-one seen (noted seen x) x (numbers-noted seen x) apart)

pub no_repeats-none : HasNoRepeats {X = ℕ} []
no_repeats-none one two item first second = absurd (none-some item first)

pub all-noted : (P : ℕ → Type 0) (seen xs : List ℕ) → AllOf P seen → AllOf P xs → AllOf P (fold noted seen xs)
all-noted P seen [] all also = all
all-noted P seen (x ∷ xs) all also =
    all-noted P (noted seen x) xs (all-one P seen (noted seen x) x (numbers-noted seen x) all (also 0 x refl)) (λ at n held. also (suc at) n held)

-- a number that is there stands at a place
pub any_place : (n : ℕ) (seen : List ℕ) → list_any (nat_eq n) seen ≡ true → (at : ℕ) × (slice_get seen at ≡ Some n)
any_place n [] there = absurd (let never : ⊥ = cc in never)
any_place n (m ∷ seen) there = ⊎_elim
    (λ here. (0, ap Some (sym (eqb-true n m here))))
    (λ not_here. let more = any_place n seen (sym (ap (λ test. test || list_any (nat_eq n) seen) not_here) ∙ there) in (suc more.0, more.1))
    (cases_Bool (nat_eq n m))

-- so does each member of a list whose numbers are all there
pub known_all : (seen xs : List ℕ) → KnowsAll seen xs → AllOf (λ n. (at : ℕ) × (slice_get seen at ≡ Some n)) xs
known_all seen [] known = all-none (λ n. (at : ℕ) × (slice_get seen at ≡ Some n))
known_all seen (x ∷ xs) known = all-first (λ n. (at : ℕ) × (slice_get seen at ≡ Some n)) x xs (any_place x seen known.0) (known_all seen xs known.1)

-- numbers noted are those that were there and then the first sights
same_tests : (seen met : List ℕ) (x : ℕ) → ((n : ℕ) → list_any (λ s. s == n) met ≡ list_any (nat_eq n) seen)
    → (n : ℕ) → list_any (λ s. s == n) (x ∷ met) ≡ list_any (nat_eq n) (seen ++ x ∷ [])
same_tests seen met x same n =
    let append = list_any-append (nat_eq n) seen (x ∷ []) in
    let own = same n in grind (arith, nat_tests, append, own)

pub noted-unseen : (seen met xs : List ℕ) → ((n : ℕ) → list_any (λ s. s == n) met ≡ list_any (nat_eq n) seen) → fold noted seen xs ≡ seen ++ unseen_of met xs
noted-unseen seen met [] same = sym (append-nil seen)
noted-unseen seen met (x ∷ xs) same = ⊎_elim
    (λ there.
    ap (λ test. fold noted (if test then seen else seen ++ x ∷ []) xs) there ∙ noted-unseen seen met xs same
    ∙ sym (ap (λ test. seen ++ (if test then unseen_of met xs else x ∷ unseen_of (x ∷ met) xs)) (same x ∙ there)))
    (λ absent.
    ap (λ test. fold noted (if test then seen else seen ++ x ∷ []) xs) absent ∙ noted-unseen (seen ++ x ∷ []) (x ∷ met) xs (same_tests seen met x same)
    ∙ append_assoc seen (x ∷ []) (unseen_of (x ∷ met) xs)
    ∙ sym (ap (λ test. seen ++ (if test then unseen_of met xs else x ∷ unseen_of (x ∷ met) xs)) (same x ∙ absent)))
    (cases_Bool (list_any (nat_eq x) seen))

pub noted-first_sights : (xs : List ℕ) → fold noted [] xs ≡ first_sights_of xs
noted-first_sights xs = noted-unseen [] [] xs (λ n. refl)
