-- Of two numbers, the smaller is that which lacks the last digit in which they differ.
use Rattle.std.proofs.Common.{◌≡◌, ℕ, ◌+◌, ◌<◌, zero, suc, Bool, true, false, ◌↔◌, ⊎_elim, List, refl, sym, ◌∙◌, ap, subst, arith}
use Rattle.std.proofs.lemmas.Bool.{cases_lt}
use Rattle.ms_logic.specs.FiniteSet.{IsRising}
use Rattle.ms_logic.specs.Letters.{bound_of_set}
use Rattle.ms_logic.proofs.Members.{no_member_from_bound}
use Rattle.ms_presburger.specs.Digits.{number_of}
use Rattle.ms_presburger.proofs.Addition.{same-test}
use Rattle.ms_presburger.proofs.Binary.{weight, low, low-lt, low-set, digits_of}

-- at p the second alone has a digit, and behind p they have the same
pub record IsLast (a b : ℕ → Bool) (p : ℕ) : Type 0 where
  pub there : b p ≡ true
  pub lacking : (a p ≡ true) → ⊥
  pub behind : (q : ℕ) → p < q → (a q ≡ true) ↔ (b q ≡ true)

abbrev Differs : (ℕ → Bool) → (ℕ → Bool) → ℕ → Type 0
Differs a b k = (p : ℕ) × (p < k) × (a p ≡ false) × (b p ≡ true) × ((q : ℕ) → p < q → q < k → a q ≡ b q)

-- the same digit at one more place
one-more : (a b : ℕ → Bool) (k : ℕ) → a k ≡ b k → Differs a b k → Differs a b (suc k)
one-more a b k same found = (
  found.0,
  omega (arith, found.1),
  found.2,
  found.3,
  λ q above below. ⊎_elim (λ lower. found.4 q above lower) (λ is. let here : k ≡ q = omega (arith, is, below) in let P : ℕ → Type 0 = λ n. a n ≡ b n in subst P here same) (cases_lt q k),
)

by-digits : (a b : ℕ → Bool) (k : ℕ) (x y : Bool) → a k ≡ x → b k ≡ y → (low a k < low b k → Differs a b k) → low a (suc k) < low b (suc k) → Differs a b (suc k)
by-digits a b k true true is is' lower less =
    one-more a b k (is ∙ sym is') (lower (omega (arith, ap (λ d. weight d k) is, ap (λ d. weight d k) is', less)))
by-digits a b k false false is is' lower less =
    one-more a b k (is ∙ sym is') (lower (omega (arith, ap (λ d. weight d k) is, ap (λ d. weight d k) is', less)))
by-digits a b k false true is is' lower less = (k, omega arith, is, is', λ q above below. absurd (omega (arith, above, below)))
by-digits a b k true false is is' lower less = absurd (omega (arith, ap (λ d. weight d k) is, ap (λ d. weight d k) is', less, low-lt b k))

differs-below : (a b : ℕ → Bool) (k : ℕ) → low a k < low b k → Differs a b k
differs-below a b zero less = absurd (omega (arith, less))
differs-below a b (suc k) less = by-digits a b k (a k) (b k) refl refl (differs-below a b k) less

pub not-true : (t : Bool) → (t ≡ true → ⊥) → t ≡ false
not-true true never = absurd (never refl)
not-true false never = refl

less-from : (a b : ℕ → Bool) (p : ℕ) → IsLast a b p → (n : ℕ) → low a (n + suc p) < low b (n + suc p)
less-from a b p last zero =
    let first : zero + suc p ≡ suc p = omega arith in
    let lacks = not-true (a p) last.lacking in
    let less : low a (suc p) < low b (suc p) = omega (arith, ap (λ d. weight d p) lacks, ap (λ d. weight d p) last.there, low-lt a p) in
    let P : ℕ → Type 0 = λ m. low a m < low b m in subst P (sym first) less
less-from a b p last (suc n) =
    let next : suc n + suc p ≡ suc (n + suc p) = omega arith in
    let same = same-test (a (n + suc p)) (b (n + suc p)) (last.behind (n + suc p) (omega arith)) in
    let less : low a (suc (n + suc p)) < low b (suc (n + suc p)) = omega (arith, ap (λ d. weight d (n + suc p)) same, less-from a b p last n) in
    let P : ℕ → Type 0 = λ m. low a m < low b m in subst P (sym next) less

pub last-of : (u v : List ℕ) → IsRising u → IsRising v → number_of u < number_of v → (p : ℕ) × IsLast (digits_of u) (digits_of v) p
last-of u v rising rising' less =
    let a = digits_of u in
    let b = digits_of v in
    let k = bound_of_set u + bound_of_set v in
    let found = differs-below a b k (omega (arith, less, low-set u k rising (omega arith), low-set v k rising' (omega arith))) in
    let same : (q : ℕ) → found.0 < q → a q ≡ b q = λ q above.
    ⊎_elim (λ below. found.4 q above below) (λ beyond. no_member_from_bound u q (omega (arith, beyond)) ∙ sym (no_member_from_bound v q (omega (arith, beyond)))) (cases_lt q k) in (
      found.0,
      record {
        there = found.3;
        lacking = λ is. let never : true ≡ false = sym is ∙ found.2 in absurd cc;
        behind = λ q above. ((λ is. sym (same q above) ∙ is), (λ is. same q above ∙ is));
      },
    )

pub less-with : (u v : List ℕ) → IsRising u → IsRising v → (p : ℕ) → IsLast (digits_of u) (digits_of v) p → number_of u < number_of v
less-with u v rising rising' p last =
    let n = bound_of_set u + bound_of_set v in
    omega (arith, less-from (digits_of u) (digits_of v) p last n, low-set u (n + suc p) rising (omega arith), low-set v (n + suc p) rising' (omega arith))
