-- No two states of the machine of S = pconst(n) are alike.
use Rattle.std.proofs.Common.{◌≡◌, ◌≢◌, ℕ, zero, suc, ◌+◌, ◌-◌, ◌<◌, ◌≤◌, ◌==◌, ◌||◌, ⊎_elim, max, Bool, true, false, if◌then◌else◌, List, [], ◌∷◌, refl, sym, ap, ap₂, ◌∙◌, arith}
use Rattle.std.proofs.lemmas.Bool.{cases_lt}
use Rattle.std.proofs.lemmas.Bool.Decides.{nat_tests}
use Rattle.ms_logic.specs.declared.mode.Mode.{Mode}
use Rattle.ms_logic.specs.declared.mode.Mode.TheVariants.{Ws1s, M2lStr}
use Rattle.ms_logic_words.specs.declared.sign.Sign.TheVariants.{No}
use Rattle.ms_logic.specs.FiniteSet.{is_member, one_bits}
use Rattle.ms_logic.specs.Letters.{bound_of_set}
use Rattle.ms_logic.proofs.Members.{no_member_from_bound}
use Rattle.ms_basic.specs.Bits.{bits_sign, bits_step, bits_table, digits_of, is_one}
use Rattle.ms_basic.specs.Sets.{is_same}
use Rattle.ms_basic.specs.inner.Apart.{AreApart, HasStatesApart}
use Rattle.ms_basic.proofs.ApartLemmas.{by_letter, is_same_itself, now, of_one, one_bit, turned}
use Rattle.ms_basic.proofs.BitLemmas.{Tells, told}
use Rattle.ms_basic.proofs.BitsLemmas.{member_is_one}
use Rattle.ms_basic.proofs.SetLemmas.{first_is_member}

-- the number below the bound of a set is a member
pub top_member : (members : List ℕ) → 0 < bound_of_set members → is_member (bound_of_set members - 1) members ≡ true
top_member [] some = absurd (omega (arith, some))
top_member (first ∷ more) some = ⊎_elim
    (λ less. let top : max (first + 1) (bound_of_set more) - 1 ≡ first = omega (arith, less) in ap (λ k. is_member k (first ∷ more)) top ∙ first_is_member first more)
    (λ more_above.
    let top : max (first + 1) (bound_of_set more) - 1 ≡ bound_of_set more - 1 = omega (arith, more_above) in
    ap (λ k. is_member k (first ∷ more)) top ∙ later (first == bound_of_set more - 1) (is_member (bound_of_set more - 1) more) (top_member more (omega (arith, more_above))))
    (cases_lt (bound_of_set more) (first + 1))
  where
    later : (here there : Bool) → there ≡ true → (here || there) ≡ true
    later true there is = refl
    later false there is = is

-- all digits have been read in the last state
yes_at_end : (mode : Mode) (digits k : ℕ) → k ≡ digits → bits_sign mode digits (suc k) ≢ No
yes_at_end Ws1s digits k is = grind (arith, nat_tests, is)
yes_at_end M2lStr digits k is = grind arith

module _ (mode : Mode) (n digits : ℕ) where
  -- the bits of n lead on from a state, and never from the state 0
  pub leads_on : (k : ℕ) → k < digits → bits_step n digits (suc k) (is_one n k) ≡ suc (suc k)
  leads_on k below = ap (λ same. if same then (if k == digits then suc k else suc (suc k)) else 0) (is_same_itself (is_one n k)) ∙ grind (arith, nat_tests, below)

  onward : (k other next : ℕ) → k < digits → bits_step n digits other (is_one n k) ≡ next → AreApart 1 (bits_table mode n digits) (suc (suc k)) next
      → AreApart 1 (bits_table mode n digits) (suc k) other
  onward k other next below leads rest =
      by_letter 1 (bits_table mode n digits) (one_bit (is_one n k)) (of_one (is_one n k)) (suc k) other (suc (suc k)) next (leads_on k below) leads rest

  place_and_lost : (more k : ℕ) → k + more ≡ digits → AreApart 1 (bits_table mode n digits) (suc k) 0
  place_and_lost zero k is = now 1 (bits_table mode n digits) (suc k) 0 (yes_at_end mode digits k (omega (arith, is)))
  place_and_lost (suc more) k is = onward k 0 0 (omega (arith, is)) refl (place_and_lost more (suc k) (omega (arith, is)))

  module _ (top : (k : ℕ) → suc k ≡ digits → is_one n k ≡ true) (none : is_one n digits ≡ false) where
    -- from a later state they contradict n, at the latest at the last digit
    both_places : (more k other : ℕ) → k + suc more ≡ digits → k < other → other ≤ digits → AreApart 1 (bits_table mode n digits) (suc k) (suc other)
    both_places zero k other is less within =
        let last : other ≡ digits = omega (arith, is, less, within) in
        let wrong : is_same (is_one n k) (is_one n other) ≡ false = ap₂ is_same (top k (omega (arith, is))) (ap (is_one n) last ∙ none) in
        onward k (suc other) 0 (omega (arith, is)) (grind (arith, nat_tests, wrong)) (place_and_lost zero (suc k) (omega (arith, is)))
    both_places (suc more) k other is less within =
        by_test (is_same (is_one n k) (is_one n other)) (other == digits) refl (told other digits) (λ next later room. both_places more (suc k) next (omega (arith, is)) later room)
      where
        by_test : (test last : Bool) → is_same (is_one n k) (is_one n other) ≡ test → Tells last other digits
            → ((next : ℕ) → suc k < next → next ≤ digits → AreApart 1 (bits_table mode n digits) (suc (suc k)) (suc next))
            → AreApart 1 (bits_table mode n digits) (suc k) (suc other)
        by_test false last is_test is_last rest =
            onward k (suc other) 0 (omega (arith, is)) (grind (arith, nat_tests, is_test)) (place_and_lost (suc more) (suc k) (omega (arith, is)))
        by_test true true is_test is_last rest =
            onward k (suc other) (suc other) (omega (arith, is)) (grind (arith, nat_tests, is_test, is_last)) (rest other (omega (arith, is, is_last)) within)
        by_test true false is_test is_last rest =
            onward k (suc other) (suc (suc other)) (omega (arith, is)) (grind (arith, nat_tests, is_test, is_last))
            (rest (suc other) (omega (arith, less)) (omega (arith, within, is_last)))

pub bits_apart : (mode : Mode) (n : ℕ) → HasStatesApart 1 (bits_table mode n (digits_of n))
bits_apart mode n one zero less small = absurd (omega (arith, less))
bits_apart mode n zero (suc k) less small =
    turned 1 (bits_table mode n (digits_of n)) (suc k) 0 (place_and_lost mode n (digits_of n) (digits_of n - k) k (omega (arith, small)))
bits_apart mode n (suc k) (suc other) less small =
    both_places mode n (digits_of n)
    (λ place last. let same : place ≡ digits_of n - 1 = omega (arith, last) in
    ap (is_one n) same ∙ sym (member_is_one n (digits_of n - 1)) ∙ top_member (one_bits n) (omega (arith, last)))
    (sym (member_is_one n (digits_of n)) ∙ no_member_from_bound (one_bits n) (digits_of n) (omega arith))
    (digits_of n - suc k) k other (omega (arith, less, small)) (omega (arith, less)) (omega (arith, small))
