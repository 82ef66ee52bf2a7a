-- What the machine of a basic relation needs is within the measure of the relation's call.
use Rattle.std.proofs.Common.{◌≡◌, ℕ, zero, suc, ◌+◌, ◌*◌, ◌^◌, ◌<◌, ◌≤◌, ◌==◌, ◌&&◌, Bool, true, false, if◌then◌else◌, length, ap, ◌∙◌, arith}
use Rattle.std.proofs.Math.Nat.{mul-le-mul_right}
use Rattle.ms_logic.specs.declared.mode.Mode.{Mode}
use Rattle.ms_logic_core.specs.declared.core_formula.Basic.{Basic}
use Rattle.ms_logic_core.specs.declared.core_formula.Basic.TheVariants.{Truth, Number, Plus, Less, Member, Sub, Union, Inter, Diff, Up, Down, Min, Max, Bits}
use Rattle.ms_logic_measures.specs.CallMeasures.{call_measure}
use Rattle.ms_logic_measures.specs.FullContent.{part_count}
use Rattle.ms_logic_words.specs.Content.{Content}
use Rattle.ms_logic_words.specs.declared.sign.Sign.{Sign}
use Rattle.ms_basic.specs.Bits.{digits_of}
use Rattle.ms_basic.proofs.WindowLemmas.{power_next}
use Rattle.ms_basic_parts.specs.Laws.{IsContentOfRelation, RelationsAreWithinMeasure}
use Rattle.ms_basic_parts.proofs.BitsStates.{bits_need_states}
use Rattle.ms_basic_parts.proofs.NumberStates.{numbers_need_states, sums_need_states}
use Rattle.ms_basic_parts.proofs.PairStates.{equal_has_two_states, greatest_has_two_states, least_has_two_states, less_has_two_states, member_has_two_states, zero_has_two_states}
use Rattle.ms_basic_parts.proofs.ShiftStates.{shifts_down_need_states, shifts_up_need_states}

-- a square is at least as many times its side as the side is long
rows : (least t : ℕ) → least ≤ t → least * t ≤ t * t
rows least t less = mul-le-mul_right t less

-- eight for each of so many, where the measure's square has enough rows
within : (least count m r : ℕ) → least ≤ m + r + 2 → 2 * count ≤ least * least → 8 * count ≤ call_measure m r
within least count m r long few =
    let t = m + r + 2 in
    let row = rows least t long in
    let turned : least * t ≡ t * least = grind arith in
    let own : least * least ≤ t * least = mul-le-mul_right least long in
    omega (arith, row, turned, own, few)

module _ (m r : ℕ) where
  -- any content has a state
  three : (count : ℕ) → count ≤ 4 → 1 ≤ m → 8 * count ≤ call_measure m r
  three count few some = within 3 count m r (omega (arith, some)) (omega (arith, few))

  -- one with two has more
  four : (count : ℕ) → count ≤ 8 → 2 ≤ m → 8 * count ≤ call_measure m r
  four count few some = within 4 count m r (omega (arith, some)) (omega (arith, few))

  -- one with more than n has enough for n and a few
  sixth : (n : ℕ) → 2 ≤ m → n < m → 8 * (n + 7) ≤ call_measure m r
  sixth zero some less = four 7 (omega arith) some
  sixth (suc n) some less =
      within (n + 4) (suc n + 7) m r (omega (arith, less)) (let square : (n + 4) * (n + 4) ≡ n * n + 8 * n + 16 = grind arith in omega (arith, square))

-- whichever of two numbers of states it is
whichever : (test : Bool) (one other : ℕ) (P : ℕ → Type 0) → P one → P other → P (if test then one else other)
whichever true one other P first second = first
whichever false one other P first second = second

some_state : (mode : Mode) (b : Basic) (content : Content Sign) → IsContentOfRelation mode b content → 1 ≤ length content.states
some_state mode b content full = (let some = full.canonical.rules.some_state in omega (arith, some))

pub relations_are_within_measure : RelationsAreWithinMeasure
relations_are_within_measure mode (Truth a) m r measure = let some = some_state mode (Truth a) measure.made.0 measure.made.1 in let is = measure.made.2 in three m r 3 (omega arith) (omega (arith, some, is))
relations_are_within_measure mode (Number x n) m r measure =
    let made = measure.made in
    let is = made.2 in
    let least = numbers_need_states mode x n made.0 made.1 in
    let more : 8 * (n + 7) ≤ call_measure m r = sixth m r n (two_at n made.0 made.1 (omega (arith, least, is)) is) (omega (arith, least, is)) in
    omega (arith, more)
  where
    two_at : (k : ℕ) (content : Content Sign) → IsContentOfRelation mode (Number x k) content → k < m → m ≡ part_count content → 2 ≤ m
    two_at zero content full less is = let two = zero_has_two_states mode x content full in omega (arith, two, is)
    two_at (suc k) content full less is = omega (arith, less)
relations_are_within_measure mode (Plus x y n) m r measure =
    let made = measure.made in
    let is = made.2 in
    let least = sums_need_states mode x y n made.0 made.1 in
    let more : 8 * (n + 7) ≤ call_measure m r = sixth m r n (two_at n made.0 made.1 (omega (arith, least, is)) is) (omega (arith, least, is)) in
    whichever (x == y) 3 (n + 6) (λ states. 8 * (states + 1) ≤ call_measure m r) (three m r 4 (omega arith) (omega (arith, least, is))) (omega (arith, more))
  where
    two_at : (k : ℕ) (content : Content Sign) → IsContentOfRelation mode (Plus x y k) content → k < m → m ≡ part_count content → 2 ≤ m
    two_at zero content full less is = let two = equal_has_two_states mode x y content full in omega (arith, two, is)
    two_at (suc k) content full less is = omega (arith, less)
relations_are_within_measure mode (Less x y) m r measure =
    let made = measure.made in
    let is = made.2 in
    let two = less_has_two_states mode x y made.0 made.1 in
    whichever (x == y) 3 6 (λ states. 8 * (states + 1) ≤ call_measure m r) (four m r 4 (omega arith) (omega (arith, two, is))) (four m r 7 (omega arith) (omega (arith, two, is)))
relations_are_within_measure mode (Member x s) m r measure =
    let made = measure.made in let is = made.2 in let two = member_has_two_states mode x s made.0 made.1 in four m r 5 (omega arith) (omega (arith, two, is))
relations_are_within_measure mode (Sub s t) m r measure =
    let made = measure.made in
    let is = made.2 in
    let some = some_state mode (Sub s t) made.0 made.1 in
    whichever (s == t) 1 2 (λ states. 8 * (states + 1) ≤ call_measure m r) (three m r 2 (omega arith) (omega (arith, some, is))) (three m r 3 (omega arith) (omega (arith, some, is)))
relations_are_within_measure mode (Union s t u) m r measure =
    let made = measure.made in
    let is = made.2 in
    let some = some_state mode (Union s t u) made.0 made.1 in
    whichever (s == t && t == u) 1 2 (λ states. 8 * (states + 1) ≤ call_measure m r) (three m r 2 (omega arith) (omega (arith, some, is))) (three m r 3 (omega arith) (omega (arith, some, is)))
relations_are_within_measure mode (Inter s t u) m r measure =
    let made = measure.made in
    let is = made.2 in
    let some = some_state mode (Inter s t u) made.0 made.1 in
    whichever (s == t && t == u) 1 2 (λ states. 8 * (states + 1) ≤ call_measure m r) (three m r 2 (omega arith) (omega (arith, some, is))) (three m r 3 (omega arith) (omega (arith, some, is)))
relations_are_within_measure mode (Diff s t u) m r measure =
    let made = measure.made in let is = made.2 in let some = some_state mode (Diff s t u) made.0 made.1 in three m r 3 (omega arith) (omega (arith, some, is))
relations_are_within_measure mode (Up s t n) m r measure =
    let made = measure.made in
    let is = made.2 in
    let some = some_state mode (Up s t n) made.0 made.1 in
    let least = shifts_up_need_states mode s t n made.0 made.1 in
    let p = 2 ^ n in
    let square : (p + 2) * (p + 2) ≡ p * p + 4 * p + 4 = grind arith in
    let P : ℕ → Type 0 = λ states. 8 * (states + 1) ≤ call_measure m r in
    whichever (s == t) (if n == 0 then 1 else 2) (p + 1) P
    (whichever (n == 0) 1 2 P (three m r 2 (omega arith) (omega (arith, some, is))) (three m r 3 (omega arith) (omega (arith, some, is))))
    (within (p + 2) (p + 1 + 1) m r (omega (arith, least, is)) (omega (arith, square)))
relations_are_within_measure mode (Down s t n) m r measure =
    let made = measure.made in
    let is = made.2 in
    let some = some_state mode (Down s t n) made.0 made.1 in
    let least = shifts_down_need_states mode s t n made.0 made.1 in
    let p = 2 ^ n in
    let square : (p + 2) * (p + 2) ≡ p * p + 4 * p + 4 = grind arith in
    let next : n + 1 ≡ suc n = omega arith in
    let twice : 2 ^ (n + 1) ≡ 2 * p = ap (λ k. 2 ^ k) next ∙ power_next n in
    let P : ℕ → Type 0 = λ states. 8 * (states + 1) ≤ call_measure m r in
    whichever (s == t) (if n == 0 then 1 else 2) (2 ^ (n + 1)) P
    (whichever (n == 0) 1 2 P (three m r 2 (omega arith) (omega (arith, some, is))) (three m r 3 (omega arith) (omega (arith, some, is))))
    (within (p + 2) (2 ^ (n + 1) + 1) m r (omega (arith, least, is)) (omega (arith, square, twice)))
relations_are_within_measure mode (Min x s) m r measure =
    let made = measure.made in let is = made.2 in let two = least_has_two_states mode x s made.0 made.1 in four m r 8 (omega arith) (omega (arith, two, is))
relations_are_within_measure mode (Max x s) m r measure =
    let made = measure.made in let is = made.2 in let two = greatest_has_two_states mode x s made.0 made.1 in four m r 6 (omega arith) (omega (arith, two, is))
relations_are_within_measure mode (Bits s n) m r measure =
    let made = measure.made in
    let is = made.2 in
    let some = some_state mode (Bits s n) made.0 made.1 in
    let least = bits_need_states mode s n made.0 made.1 in
    by_digits (digits_of n) (omega (arith, some, is)) (omega (arith, least, is))
  where
    by_digits : (digits : ℕ) → 1 ≤ m → digits ≤ m → 8 * (digits + 2 + 1) ≤ call_measure m r
    by_digits zero one all = three m r 3 (omega arith) one
    by_digits (suc d) one all =
        within (d + 3) (suc d + 2 + 1) m r (omega (arith, all)) (let square : (d + 3) * (d + 3) ≡ d * d + 6 * d + 9 = grind arith in omega (arith, square))
