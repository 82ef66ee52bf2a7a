-- Numbers that are read one after the other, each of which was seen before or is the next one.
use Rattle.std.proofs.Common.{◌≡◌, ℕ, zero, suc, ◌+◌, ◌<◌, ◌≤◌, ◌⊎◌, inl, inr, ⊎_elim, true, false, ◌==◌, ◌||◌, if◌then◌else◌, List, [], ◌∷◌, ◌++◌, refl, sym, ap, subst, ◌∙◌, arith}
use Rattle.std.specs.List.{list_any, range_with_len}
use Rattle.std.proofs.lemmas.Bool.{eq-eqb, ne_eqb, cases_eq}
use Rattle.ms_logic_words.specs.Canonical.{unseen_of, first_sights_of}
use Rattle.ms_logic.specs.FiniteSet.{numbers_below}

-- where the numbers below the first were seen, those of the list were seen or come in turn, up to the second
abbrev pub Sees : ℕ → List ℕ → ℕ → Type 0
Sees from [] to = from ≡ to
Sees from (n ∷ more) to = ((n < from) × Sees from more to) ⊎ ((n ≡ from) × Sees (suc from) more to)

pub sees-append : (from middle to : ℕ) (xs ys : List ℕ) → Sees from xs middle → Sees middle ys to → Sees from (xs ++ ys) to
sees-append from middle to [] ys first second = subst (λ n. Sees n ys to) (sym first) second
sees-append from middle to (n ∷ xs) ys first second =
    ⊎_elim (λ seen. inl (seen.0, sees-append from middle to xs ys seen.1 second))
    (λ next. inr (next.0, sees-append (suc from) middle to xs ys next.1 second)) first

-- what was seen stays seen
pub sees-rises : (from to : ℕ) (xs : List ℕ) → Sees from xs to → from ≤ to
sees-rises from to [] sees = omega (arith, sees)
sees-rises from to (n ∷ xs) sees =
    ⊎_elim (λ seen. sees-rises from to xs seen.1) (λ next. let more = sees-rises (suc from) to xs next.1 in omega (arith, more)) sees

-- the numbers of the list are below a number
abbrev pub AreBelow : ℕ → List ℕ → Type 0
AreBelow count [] = Unit {0}
AreBelow count (n ∷ more) = (n < count) × AreBelow count more

-- all that is read is then seen
pub sees-below : (from to : ℕ) (xs : List ℕ) → Sees from xs to → AreBelow to xs
sees-below from to [] sees = tt
sees-below from to (n ∷ xs) sees = ⊎_elim
    (λ seen. let rises = sees-rises from to xs seen.1 in let less = seen.0 in (omega (arith, rises, less), sees-below from to xs seen.1))
    (λ next. let rises = sees-rises (suc from) to xs next.1 in let same = next.0 in (omega (arith, rises, same), sees-below (suc from) to xs next.1)) sees

-- and what was seen brings nothing new
below-sees : (from to : ℕ) (xs : List ℕ) → AreBelow from xs → Sees from xs to → from ≡ to
below-sees from to [] below sees = sees
below-sees from to (n ∷ xs) below sees =
    ⊎_elim (λ seen. below-sees from to xs below.1 seen.1) (λ next. let less = below.0 in let same = next.0 in absurd (omega (arith, less, same))) sees

pub sees-again : (from middle to : ℕ) (xs : List ℕ) → Sees from xs middle → Sees middle xs to → middle ≡ to
sees-again from middle to xs first second = below-sees middle to xs (sees-below from middle xs first) second

-- the numbers below one are those of the list
abbrev AreSeen : ℕ → List ℕ → Type 0
AreSeen count seen = (n : ℕ) → (n < count → list_any (λ s. s == n) seen ≡ true) × (count ≤ n → list_any (λ s. s == n) seen ≡ false)

seen-next : (count n : ℕ) (seen : List ℕ) → n ≡ count → AreSeen count seen → AreSeen (suc count) (n ∷ seen)
seen-next count n seen same are k = (
  λ less. ⊎_elim
      (λ is. ap (λ b. b || list_any (λ s. s == k) seen) (eq-eqb n k is))
      (λ differs. ap (λ b. b || list_any (λ s. s == k) seen) (ne_eqb n k differs) ∙ (are k).0 (omega (arith, same, differs, less))) (cases_eq n k),
  λ more. ap (λ b. b || list_any (λ s. s == k) seen) (ne_eqb n k (λ is. absurd (omega (arith, same, is, more)))) ∙ (are k).1 (omega (arith, more)),
)

-- a number that was seen is left out, and another is kept
old_first : (n : ℕ) (xs seen rest : List ℕ) → list_any (λ s. s == n) seen ≡ true → unseen_of seen xs ≡ rest → unseen_of seen (n ∷ xs) ≡ rest
old_first n xs seen rest there same = ap (λ test. if test then unseen_of seen xs else n ∷ unseen_of (n ∷ seen) xs) there ∙ same

new_first : (n : ℕ) (xs seen : List ℕ) → list_any (λ s. s == n) seen ≡ false → unseen_of seen (n ∷ xs) ≡ n ∷ unseen_of (n ∷ seen) xs
new_first n xs seen none = ap (λ test. if test then unseen_of seen xs else n ∷ unseen_of (n ∷ seen) xs) none

-- so the first sights are the numbers from the first to the second
unseen-sees : (more from to : ℕ) (xs seen : List ℕ) → from + more ≡ to → AreSeen from seen → Sees from xs to → unseen_of seen xs ≡ range_with_len from more
unseen-sees zero from to [] seen many are sees = refl
unseen-sees (suc more) from to [] seen many are sees = absurd (omega (arith, many, sees))
unseen-sees zero from to (n ∷ xs) seen many are sees = ⊎_elim
    (λ old. old_first n xs seen (range_with_len from zero) ((are n).0 old.0) (unseen-sees zero from to xs seen many are old.1))
    (λ next. let rises = sees-rises (suc from) to xs next.1 in absurd (omega (arith, rises, many))) sees
unseen-sees (suc more) from to (n ∷ xs) seen many are sees = ⊎_elim
    (λ old. old_first n xs seen (range_with_len from (suc more)) ((are n).0 old.0) (unseen-sees (suc more) from to xs seen many are old.1))
    (λ next.
    new_first n xs seen ((are n).1 (let same = next.0 in omega (arith, same)))
    ∙ (ap (λ first. first ∷ unseen_of (n ∷ seen) xs) next.0
    ∙ ap (λ rest. from ∷ rest) (unseen-sees more (suc from) to xs (n ∷ seen) (omega (arith, many)) (seen-next from n seen next.0 are) next.1
    ∙ ap (λ first. range_with_len first more) (omega arith)))) sees

pub first_sights-sees : (to : ℕ) (xs : List ℕ) → Sees 0 xs to → first_sights_of xs ≡ numbers_below to
first_sights-sees to xs sees = unseen-sees to 0 to xs [] (omega arith) (λ n. (λ less. absurd (omega (arith, less)), λ more. refl)) sees
