-- What the machine of a basic relation needs is within the budget of the relation's step.
use Rattle.std.proofs.Common.{◌≡◌, ℕ, suc, ◌+◌, ◌*◌, ◌^◌, ◌≤◌, ◌==◌, ◌&&◌, Bool, true, false, if◌then◌else◌, ap, ◌∙◌, arith}
use Rattle.std.proofs.Math.Nat.{mul-le-mul_right}
use Rattle.ms_logic_core.specs.declared.core_formula.Basic.TheVariants.{Truth, Number, Plus, Less, Member, Sub, Union, Inter, Diff, Up, Down, Min, Max, Bits}
use Rattle.ms_logic_measures.specs.Budgets.{budget}
use Rattle.ms_basic.specs.Bits.{digits_of}
use Rattle.ms_basic.proofs.WindowLemmas.{power_next}
use Rattle.ms_basic_parts.specs.Laws.{RelationsAreWithinBudget}
use Rattle.ms_basic_parts.proofs.BitsStates.{bits_need_states}
use Rattle.ms_basic_parts.proofs.NumberStates.{numbers_need_states, sums_need_states}
use Rattle.ms_basic_parts.proofs.ShiftStates.{shifts_down_need_states, shifts_up_need_states}

-- a budget is linear at least
linear : (k m r : ℕ) → k ≤ 64 * (m + 2) → 8 * k ≤ budget m r
linear k m r few =
    let t = m + r + 2 in let square : 2 * t ≤ t * t = mul-le-mul_right t (let two : 2 ≤ t = omega arith in two) in omega (arith, few, square)

-- whichever of two numbers of states it is
either : (test : Bool) (one other bound : ℕ) → one + 1 ≤ bound → other + 1 ≤ bound → (if test then one else other) + 1 ≤ bound
either true one other bound first second = first
either false one other bound first second = second

pub relations_are_within_budget : RelationsAreWithinBudget
relations_are_within_budget mode (Truth a) m r measure = linear 3 m r (omega arith)
relations_are_within_budget mode (Number x n) m r measure =
    let made = measure.made in
    let least = numbers_need_states mode x n made.0 made.1 in
    linear (n + 5 + 1) m r (let is = made.2 in omega (arith, least, is))
relations_are_within_budget mode (Plus x y n) m r measure =
    let made = measure.made in
    let least = sums_need_states mode x y n made.0 made.1 in
    linear ((if x == y then 3 else n + 6) + 1) m r (either (x == y) 3 (n + 6) (64 * (m + 2)) (omega arith) (let is = made.2 in omega (arith, least, is)))
relations_are_within_budget mode (Less x y) m r measure = linear ((if x == y then 3 else 6) + 1) m r (either (x == y) 3 6 (64 * (m + 2)) (omega arith) (omega arith))
relations_are_within_budget mode (Member x s) m r measure = linear 5 m r (omega arith)
relations_are_within_budget mode (Sub s t) m r measure = linear ((if s == t then 1 else 2) + 1) m r (either (s == t) 1 2 (64 * (m + 2)) (omega arith) (omega arith))
relations_are_within_budget mode (Union s t u) m r measure =
    linear ((if s == t && t == u then 1 else 2) + 1) m r (either (s == t && t == u) 1 2 (64 * (m + 2)) (omega arith) (omega arith))
relations_are_within_budget mode (Inter s t u) m r measure =
    linear ((if s == t && t == u then 1 else 2) + 1) m r (either (s == t && t == u) 1 2 (64 * (m + 2)) (omega arith) (omega arith))
relations_are_within_budget mode (Diff s t u) m r measure = linear 3 m r (omega arith)
relations_are_within_budget mode (Up s t n) m r measure =
    let made = measure.made in
    let least = shifts_up_need_states mode s t n made.0 made.1 in
    let same : ℕ = if n == 0 then 1 else 2 in
    linear ((if s == t then same else 2 ^ n + 1) + 1) m r
    (either (s == t) same (2 ^ n + 1) (64 * (m + 2)) (either (n == 0) 1 2 (64 * (m + 2)) (omega arith) (omega arith)) (let is = made.2 in omega (arith, least, is)))
relations_are_within_budget mode (Down s t n) m r measure =
    let made = measure.made in
    let least = shifts_down_need_states mode s t n made.0 made.1 in
    let same : ℕ = if n == 0 then 1 else 2 in
    let next : n + 1 ≡ suc n = omega arith in
    let twice : 2 ^ (n + 1) ≡ 2 * 2 ^ n = ap (λ k. 2 ^ k) next ∙ power_next n in
    linear ((if s == t then same else 2 ^ (n + 1)) + 1) m r
    (either (s == t) same (2 ^ (n + 1)) (64 * (m + 2)) (either (n == 0) 1 2 (64 * (m + 2)) (omega arith) (omega arith)) (let is = made.2 in omega (arith, least, is, twice)))
relations_are_within_budget mode (Min x s) m r measure = linear 8 m r (omega arith)
relations_are_within_budget mode (Max x s) m r measure = linear 6 m r (omega arith)
relations_are_within_budget mode (Bits s n) m r measure =
    let made = measure.made in
    let least = bits_need_states mode s n made.0 made.1 in
    linear (digits_of n + 2 + 1) m r (let is = made.2 in omega (arith, least, is))
