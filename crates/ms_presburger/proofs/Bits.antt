-- The one bits of a number of 64 bits, place by place.
use Rattle.std.proofs.Common.{◌≡◌, ℕ, ◌+◌, ◌^◌, ◌<◌, ◌==◌, zero, suc, Bool, true, false, cond, ◌↔◌, ⊎_elim, List, [], ◌∷◌, ◌++◌, length, filter, map, take, get_or, refl, sym, ◌∙◌, ap, subst, arith, append_assoc}
use Rattle.std.specs.Int.{bit_at}
use Rattle.std.specs.List.{range_with_len, flat_map}
use Rattle.std.proofs.lemmas.Bool.{cases_lt}
use Rattle.std.proofs.lemmas.Bool.Decides.{nat_tests}
use Rattle.std.proofs.lemmas.Nat.Bits.{bit_at_above}
use Rattle.ms_logic.specs.FiniteSet.{is_member, numbers_below, one_bits}
use Rattle.ms_logic.specs.Lists.{Each}
use Rattle.ms_logic.proofs.Members.{is_member-filter, is_member-range, IsRising-filter, IsRising-range, both_true}
use Rattle.ms_logic.proofs.SetLaws.{one_bits_law, sets_are_their_members}
use Rattle.ms_presburger.specs.declared.linear.Part.{Part}
use Rattle.ms_presburger.specs.declared.summand.Summand.{Summand}
use Rattle.ms_presburger.specs.declared.summand.Summand.TheVariants.{Shifted}

-- the places of the one bits below a place
abbrev pub bits_below : ℕ → ℕ → List ℕ
bits_below n k = filter (λ place. bit_at n place == 1) (numbers_below k)

range-more : (start count : ℕ) → range_with_len start (suc count) ≡ range_with_len start count ++ (start + count) ∷ []
range-more start zero = let same : start ≡ start + 0 = omega arith in ap (λ (n : ℕ). n ∷ []) same
range-more start (suc count) =
    let same : start + 1 + count ≡ start + suc count = omega arith in
    ap (λ (l : List ℕ). start ∷ l) (range-more (start + 1) count ∙ ap (λ (n : ℕ). range_with_len (start + 1) count ++ n ∷ []) same)

filter-append : (test : ℕ → Bool) (xs ys : List ℕ) → filter test (xs ++ ys) ≡ filter test xs ++ filter test ys
filter-append test [] ys = refl
filter-append test (x ∷ xs) ys =
    elim (test x) as (λ t. cond t (x ∷ filter test (xs ++ ys)) (filter test (xs ++ ys)) ≡ cond t (x ∷ filter test xs) (filter test xs) ++ filter test ys) [
      | true ↦ ap (λ (l : List ℕ). x ∷ l) (filter-append test xs ys)
      | false ↦ filter-append test xs ys
    ]

bits-step : (n k : ℕ) → bits_below n (k + 1) ≡ bits_below n k ++ cond (bit_at n k == 1) (k ∷ []) []
bits-step n k =
    let next : k + 1 ≡ suc k = omega arith in
    let place : 0 + k ≡ k = omega arith in
    ap (bits_below n) next
    ∙ (ap (filter (λ place. bit_at n place == 1)) (range-more 0 k ∙ ap (λ (j : ℕ). numbers_below k ++ j ∷ []) place) ∙ filter-append (λ place. bit_at n place == 1) (numbers_below k) (k ∷ []))

map-append : (x : ℕ) (ks js : List ℕ) → map (λ j. Shifted x j) (ks ++ js) ≡ map (λ j. Shifted x j) ks ++ map (λ j. Shifted x j) js
map-append x [] js = refl
map-append x (k ∷ ks) js = ap (λ (l : List Summand). Shifted x k ∷ l) (map-append x ks js)

append-none : (l : List Summand) → l ++ [] ≡ l
append-none [] = refl
append-none (t ∷ more) = ap (λ (l : List Summand). t ∷ l) (append-none more)

-- a place with a one bit
pub bits-one : (x n k : ℕ) (old terms : List Summand) → bit_at n k ≡ 1 → terms ≡ old ++ map (λ j. Shifted x j) (bits_below n k) → terms ++ Shifted x k ∷ [] ≡ old ++ map (λ j. Shifted x j) (bits_below n (k + 1))
bits-one x n k old terms one is =
    let passed : (bit_at n k == 1) ≡ true = grind (arith, nat_tests) in
    let more = bits-step n k ∙ ap (λ t. bits_below n k ++ cond t (k ∷ []) []) passed in
    ap (λ (l : List Summand). l ++ Shifted x k ∷ []) is
    ∙ (append_assoc old (map (λ j. Shifted x j) (bits_below n k)) (Shifted x k ∷ [])
    ∙ ap (λ (l : List Summand). old ++ l) (sym (ap (map (λ j. Shifted x j)) more ∙ map-append x (bits_below n k) (k ∷ []))))

-- and one with none
pub bits-none : (x n k : ℕ) (old terms : List Summand) → (bit_at n k ≡ 1 → ⊥) → terms ≡ old ++ map (λ j. Shifted x j) (bits_below n k) → terms ≡ old ++ map (λ j. Shifted x j) (bits_below n (k + 1))
bits-none x n k old terms other is =
    let failed : (bit_at n k == 1) ≡ false = grind (arith, nat_tests) in
    let more = bits-step n k ∙ ap (λ t. bits_below n k ++ cond t (k ∷ []) []) failed in
    is ∙ ap (λ (l : List Summand). old ++ l) (sym (ap (map (λ j. Shifted x j)) more ∙ (map-append x (bits_below n k) [] ∙ append-none (map (λ j. Shifted x j) (bits_below n k)))))

same-members : (n k p : ℕ) → n < 2 ^ k → (is_member p (bits_below n k) ≡ true) ↔ (bit_at n p ≡ 1)
same-members n k p small =
    let test = is_member-filter p (λ place. bit_at n place == 1) (numbers_below k) in
    let two = both_true (is_member p (numbers_below k)) (bit_at n p == 1) in
    let range = is_member-range p 0 k in (
      (λ member. let passed = (two.0 (sym test ∙ member)).1 in grind (arith, nat_tests)),
      (λ one. let below : p < k = ⊎_elim (λ lower. lower) (λ above. absurd (omega (arith, bit_at_above n k p small above, one))) (cases_lt p k) in
          let passed : (bit_at n p == 1) ≡ true = grind (arith, nat_tests) in
          let inside : is_member p (numbers_below k) ≡ true = range ∙ grind (arith, nat_tests) in test ∙ two.1 (inside, passed)),
    )

-- all bits of a number are below its width
pub bits-whole : (n k : ℕ) → n < 2 ^ k → bits_below n k ≡ one_bits n
bits-whole n k small =
    let law = one_bits_law n in
    sets_are_their_members (bits_below n k) (one_bits n) (IsRising-filter (λ place. bit_at n place == 1) (numbers_below k) (IsRising-range 0 k)) law.rising
    (λ p. let here = same-members n k p small in let there = law.exactly p in ((λ member. there.1 (here.0 member)), (λ member. here.1 (there.0 member))))

-- one more of a list, for what is made of each and what holds of each

flat_map-next : (f : Part → List Summand) (parts : List Part) (i : ℕ) (d : Part) → i < length parts → flat_map f (take (suc i) parts) ≡ flat_map f (take i parts) ++ f (get_or parts i d)
flat_map-next f [] i d below = absurd (omega (arith, below))
flat_map-next f (p ∷ more) zero d below = append-none (f p)
flat_map-next f (p ∷ more) (suc i) d below =
    ap (λ (l : List Summand). f p ++ l) (flat_map-next f more i d (omega (arith, below))) ∙ sym (append_assoc (f p) (flat_map f (take i more)) (f (get_or more i d)))

pub flat_map-more : (f : Part → List Summand) (parts : List Part) (i : ℕ) (d : Part) → i < length parts → flat_map f (take (i + 1) parts) ≡ flat_map f (take i parts) ++ f (get_or parts i d)
flat_map-more f parts i d below = let next : i + 1 ≡ suc i = omega arith in ap (λ n. flat_map f (take n parts)) next ∙ flat_map-next f parts i d below

each-next : (P : Part → Type 0) (parts : List Part) (i : ℕ) (d : Part) → i < length parts → Each P (take i parts) → P (get_or parts i d) → Each P (take (suc i) parts)
each-next P [] i d below each here = absurd (omega (arith, below))
each-next P (p ∷ more) zero d below each here = (here, tt)
each-next P (p ∷ more) (suc i) d below each here = (each.0, each-next P more i d (omega (arith, below)) each.1 here)

pub each-more : (P : Part → Type 0) (parts : List Part) (i : ℕ) (d : Part) → i < length parts → Each P (take i parts) → P (get_or parts i d) → Each P (take (i + 1) parts)
each-more P parts i d below each here = let next : suc i ≡ i + 1 = omega arith in let Q : ℕ → Type 0 = λ n. Each P (take n parts) in subst Q next (each-next P parts i d below each here)
