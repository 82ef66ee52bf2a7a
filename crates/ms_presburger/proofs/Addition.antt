-- Addition by carries: a number is the sum of two exactly where its digits are those of the two with some carries.
use Rattle.std.proofs.Common.{◌≡◌, ℕ, ◌+◌, ◌≤◌, zero, suc, Bool, true, false, ◌⊎◌, ◌↔◌, inl, inr, ⊎_elim, List, refl, sym, ◌∙◌, ap, subst, arith}
use Rattle.std.proofs.Math.Nat.{pow-suc}
use Rattle.ms_logic.specs.FiniteSet.{IsRising}
use Rattle.ms_logic.specs.Letters.{bound_of_set}
use Rattle.ms_logic.proofs.Members.{no_member_from_bound}
use Rattle.ms_presburger.specs.Digits.{number_of}
use Rattle.ms_presburger.proofs.Binary.{weight, low, low-set, digits_of, number_of-unique, digits_below, rising-digits, member-digits}

-- at a place the digit of y is that of the sum, and the next carry that of two ones
abbrev pub Digits : Bool → Bool → Bool → Bool → Type 0
Digits y u v c = (y ≡ true) ↔ ((u ≡ true) ↔ ((v ≡ true) ↔ (c ≡ true)))

abbrev pub Follows : Bool → Bool → Bool → Bool → Type 0
Follows next u v c = (next ≡ true) ↔ (((u ≡ true) × (v ≡ true)) ⊎ (((u ≡ true) × (c ≡ true)) ⊎ ((v ≡ true) × (c ≡ true))))

-- the digit and the carry, computed
abbrev pub sum_digit : Bool → Bool → Bool → Bool
sum_digit true true c = c
sum_digit false false c = c
sum_digit true false true = false
sum_digit true false false = true
sum_digit false true true = false
sum_digit false true false = true

abbrev pub next_carry : Bool → Bool → Bool → Bool
next_carry true true c = true
next_carry true false c = c
next_carry false true c = c
next_carry false false c = false

absurd-false : {A : Type 0} → false ≡ true → A
absurd-false never = absurd cc

pub has-digits : (u v c : Bool) → Digits (sum_digit u v c) u v c
has-digits true true true = ((λ _. ((λ _. ((λ _. refl), (λ _. refl))), (λ _. refl))), (λ _. refl))
has-digits true true false = ((λ never. absurd-false never), (λ same. (same.0 refl).0 refl))
has-digits false false true = ((λ _. ((λ never. absurd-false never), (λ same. same.1 refl))), (λ _. refl))
has-digits false false false = ((λ never. absurd-false never), (λ same. same.1 ((λ never. absurd-false never), (λ never. absurd-false never))))
has-digits true false true = ((λ never. absurd-false never), (λ same. (same.0 refl).1 refl))
has-digits true false false = ((λ _. ((λ _. ((λ never. absurd-false never), (λ never. absurd-false never))), (λ _. refl))), (λ _. refl))
has-digits false true true = ((λ never. absurd-false never), (λ same. same.1 ((λ _. refl), (λ _. refl))))
has-digits false true false = ((λ _. ((λ never. absurd-false never), (λ same. same.0 refl))), (λ _. refl))

pub has-follows : (u v c : Bool) → Follows (next_carry u v c) u v c
has-follows true true c = ((λ _. inl (refl, refl)), (λ _. refl))
has-follows true false c = ((λ is. inr (inl (refl, is))), (λ some. ⊎_elim (λ both. absurd-false both.1) (λ others. ⊎_elim (λ both. both.1) (λ both. both.1) others) some))
has-follows false true c = ((λ is. inr (inr (refl, is))), (λ some. ⊎_elim (λ both. absurd-false both.0) (λ others. ⊎_elim (λ both. both.1) (λ both. both.1) others) some))
has-follows false false c = ((λ never. absurd-false never), (λ some. ⊎_elim (λ both. both.0) (λ others. ⊎_elim (λ both. both.0) (λ both. both.0) others) some))

-- no digit and no carry
pub quiet : (y u v c next : Bool) → y ≡ false → u ≡ false → v ≡ false → c ≡ false → next ≡ false → Digits y u v c × Follows next u v c
quiet y u v c next is-y is-u is-v is-c is-next = rw (is-y, is-u, is-v, is-c, is-next) (has-digits false false false, has-follows false false false)

-- tests that mean the same are equal
pub same-test : (a b : Bool) → (a ≡ true) ↔ (b ≡ true) → a ≡ b
same-test true b same = sym (same.0 refl)
same-test false true same = same.1 refl
same-test false false same = refl

along-same : (a b : Bool) (P : Type 0) → (a ≡ true) ↔ P → (b ≡ true) ↔ P → a ≡ b
along-same a b P one other = same-test a b ((λ is. other.1 (one.0 is)), (λ is. one.1 (other.0 is)))

computed-adds : (u v c : Bool) (k : ℕ) → weight (sum_digit u v c) k + weight (next_carry u v c) (suc k) ≡ weight u k + weight v k + weight c k
computed-adds true true true k = omega (arith, pow-suc 2 k)
computed-adds true true false k = omega (arith, pow-suc 2 k)
computed-adds true false true k = omega (arith, pow-suc 2 k)
computed-adds true false false k = omega arith
computed-adds false true true k = omega (arith, pow-suc 2 k)
computed-adds false true false k = omega arith
computed-adds false false true k = omega arith
computed-adds false false false k = omega arith

-- one place
place-adds : (y u v c next : Bool) (k : ℕ) → Digits y u v c → Follows next u v c → weight y k + weight next (suc k) ≡ weight u k + weight v k + weight c k
place-adds y u v c next k digit carry =
    let is = along-same y (sum_digit u v c) ((u ≡ true) ↔ ((v ≡ true) ↔ (c ≡ true))) digit (has-digits u v c) in
    let goes = along-same next (next_carry u v c) (((u ≡ true) × (v ≡ true)) ⊎ (((u ≡ true) × (c ≡ true)) ⊎ ((v ≡ true) × (c ≡ true)))) carry (has-follows u v c) in
    omega (arith, ap (λ d. weight d k) is, ap (λ d. weight d (suc k)) goes, computed-adds u v c k)

-- the carries of a sum
pub record AreCarries (y u v c : ℕ → Bool) : Type 0 where
  pub none_at_first : c 0 ≡ false
  pub digits : (p : ℕ) → Digits (y p) (u p) (v p) (c p)
  pub follow : (p : ℕ) → Follows (c (p + 1)) (u p) (v p) (c p)

pub low-adds : (y u v c : ℕ → Bool) → AreCarries y u v c → (k : ℕ) → low y k + weight (c k) k ≡ low u k + low v k
low-adds y u v c carries zero = omega (arith, ap (λ d. weight d 0) carries.none_at_first)
low-adds y u v c carries (suc k) =
    let next : k + 1 ≡ suc k = omega arith in
    let follows : Follows (c (suc k)) (u k) (v k) (c k) = let P : ℕ → Type 0 = λ n. Follows (c n) (u k) (v k) (c k) in subst P next (carries.follow k) in
    omega (arith, place-adds (y k) (u k) (v k) (c k) (c (suc k)) k (carries.digits k) follows, low-adds y u v c carries k)

-- where there are carries, the number is the sum
pub adds-with : (y u v c : List ℕ) → IsRising y → IsRising u → IsRising v → AreCarries (digits_of y) (digits_of u) (digits_of v) (digits_of c) → number_of y ≡ number_of u + number_of v
adds-with y u v c rising rising-u rising-v carries =
    let k = bound_of_set y + bound_of_set u + bound_of_set v + bound_of_set c in
    let last = no_member_from_bound c k (omega arith) in
    omega (arith, low-adds (digits_of y) (digits_of u) (digits_of v) (digits_of c) carries k, ap (λ d. weight d k) last, low-set y k rising (omega arith), low-set u k rising-u (omega arith), low-set v k rising-v (omega arith))

-- the carries of two sets
carry_at : (ℕ → Bool) → (ℕ → Bool) → ℕ → Bool
carry_at u v zero = false
carry_at u v (suc k) = next_carry (u k) (v k) (carry_at u v k)

no-carry : (u v : ℕ → Bool) (k : ℕ) → ((p : ℕ) → k ≤ p → u p ≡ false) → ((p : ℕ) → k ≤ p → v p ≡ false) → (p : ℕ) → suc k ≤ p → carry_at u v p ≡ false
unfolding carry_at
no-carry u v k none none' zero above = absurd (omega (arith, above))
no-carry u v k none none' (suc p) above =
    let one = none p (omega (arith, above)) in
    let other = none' p (omega (arith, above)) in
    ap (λ t. next_carry t (v p) (carry_at u v p)) one ∙ ap (λ t. next_carry false t (carry_at u v p)) other

follows-carry : (u v : ℕ → Bool) (p : ℕ) → Follows (carry_at u v (suc p)) (u p) (v p) (carry_at u v p)
unfolding carry_at
follows-carry u v p = has-follows (u p) (v p) (carry_at u v p)

starts-with-none : (u v : ℕ → Bool) → carry_at u v 0 ≡ false
unfolding carry_at
starts-with-none u v = refl

-- where the number is the sum, there are carries
pub carries-of : (y u v : List ℕ) → IsRising y → IsRising u → IsRising v → number_of y ≡ number_of u + number_of v →
    (c : List ℕ) × IsRising c × AreCarries (digits_of y) (digits_of u) (digits_of v) (digits_of c)
carries-of y u v rising rising-u rising-v same =
    let a = digits_of u in
    let b = digits_of v in
    let k = bound_of_set u + bound_of_set v in
    let none-u : (p : ℕ) → k ≤ p → a p ≡ false = λ p above. no_member_from_bound u p (omega (arith, above)) in
    let none-v : (p : ℕ) → k ≤ p → b p ≡ false = λ p above. no_member_from_bound v p (omega (arith, above)) in
    let carry = carry_at a b in
    let digit : ℕ → Bool = λ p. sum_digit (a p) (b p) (carry p) in
    let none-c : (p : ℕ) → suc k ≤ p → carry p ≡ false = no-carry a b k none-u none-v in
    let none-y : (p : ℕ) → suc k ≤ p → digit p ≡ false = λ p above.
    ap (λ t. sum_digit t (b p) (carry p)) (none-u p (omega (arith, above))) ∙ (ap (λ t. sum_digit false t (carry p)) (none-v p (omega (arith, above))) ∙ none-c p above) in
    let c = digits_below carry (suc k) in
    let z = digits_below digit (suc k) in
    let in-c : (p : ℕ) → digits_of c p ≡ carry p = λ p. member-digits carry (suc k) p none-c in
    let in-z : (p : ℕ) → digits_of z p ≡ digit p = λ p. member-digits digit (suc k) p none-y in
    let carries : AreCarries (digits_of z) a b (digits_of c) = record {
      none_at_first = in-c 0 ∙ starts-with-none a b;
      digits = λ p.
          let P : Bool → Type 0 = λ t. Digits t (a p) (b p) (digits_of c p) in
          let Q : Bool → Type 0 = λ t. Digits (digit p) (a p) (b p) t in subst P (sym (in-z p)) (subst Q (sym (in-c p)) (has-digits (a p) (b p) (carry p)));
      follow = λ p.
          let next : p + 1 ≡ suc p = omega arith in
          let P : Bool → Type 0 = λ t. Follows t (a p) (b p) (digits_of c p) in
          let Q : Bool → Type 0 = λ t. Follows (carry (suc p)) (a p) (b p) t in
          subst P (sym (ap (digits_of c) next ∙ in-c (suc p))) (subst Q (sym (in-c p)) (follows-carry a b p));
    } in
    let rising-z = rising-digits digit (suc k) in
    let is : z ≡ y = number_of-unique z y rising-z rising (adds-with z u v c rising-z rising-u rising-v carries ∙ sym same) in
    (c, rising-digits carry (suc k), let P : List ℕ → Type 0 = λ t. AreCarries (digits_of t) a b (digits_of c) in subst P is carries)
