-- The machine of x in S decides it.
use Rattle.std.proofs.Common.{◌≡◌, ℕ, zero, suc, ◌<◌, ◌≤◌, Bool, true, false, List, refl, sym, ◌∙◌, arith}
use Rattle.std.proofs.lemmas.Bool.{false≢true}
use Rattle.ms_logic_core.specs.declared.core_formula.Basic.TheVariants.{Member}
use Rattle.ms_logic.specs.declared.mode.Mode.{Mode}
use Rattle.ms_logic.specs.FiniteSet.{IsMember, is_member}
use Rattle.ms_basic.specs.inner.Member.{member_step, member_table}
use Rattle.ms_logic_core.specs.Operands.{variables_of_basic}
use Rattle.ms_basic.specs.inner.Relation.{DecidesRelation, IsRight}
use Rattle.ms_basic.specs.inner.Tally.{IsTally}
use Rattle.ms_basic.specs.Verdict.{sign_by_verdict}
use Rattle.ms_basic.proofs.BitLemmas.{Tells, told}
use Rattle.ms_basic.proofs.ReadingLemmas.{kept}
use Rattle.ms_basic.proofs.SetLemmas.{at_number}
use Rattle.ms_basic.proofs.VerdictLemmas.{IsCounted, count_met, tally_by_verdict}

-- what a state says behind the positions so far
abbrev MemberAt : ℕ → List ℕ → ℕ → ℕ → Type 0
MemberAt x members position zero = ⊥
MemberAt x members position (suc zero) = (x < position) × (is_member x members ≡ true)
MemberAt x members position (suc (suc zero)) = (x < position) × (is_member x members ≡ false)
MemberAt x members position (suc (suc (suc more))) = position ≤ x

member_next : (x : ℕ) (members : List ℕ) (position state : ℕ) (a b : Bool) → Tells a x position → is_member position members ≡ b → MemberAt x members position state
    → MemberAt x members (suc position) (member_step state a b)
member_next x members position zero a b first second at = absurd at
member_next x members position (suc zero) true b first second at = absurd (omega arith)
member_next x members position (suc zero) false b first second at = (omega arith, at.1)
member_next x members position (suc (suc zero)) true b first second at = absurd (omega arith)
member_next x members position (suc (suc zero)) false b first second at = (omega arith, at.1)
member_next x members position (suc (suc (suc more))) true true first second at = (omega arith, at_number x position members true first second)
member_next x members position (suc (suc (suc more))) true false first second at = (omega arith, at_number x position members false first second)
member_next x members position (suc (suc (suc more))) false b first second at = omega arith

member_right : (x : ℕ) (members : List ℕ) (count state : ℕ) → MemberAt x members count state → x < count → IsRight (IsMember x members) (sign_by_verdict state)
member_right x members count zero at within = at
member_right x members count (suc zero) at within = at.1
member_right x members count (suc (suc zero)) at within = λ member. false≢true (sym at.1 ∙ member)
member_right x members count (suc (suc (suc more))) at within = omega arith

-- each step leads to one of the states, and counts the ones of the number
member_steps : (state : ℕ) (a b : Bool) → (member_step state a b < 4) × IsCounted count_met a state (member_step state a b)
member_steps zero a b = (grind arith, grind arith)
member_steps (suc zero) a b = (grind arith, grind arith)
member_steps (suc (suc zero)) a b = (grind arith, grind arith)
member_steps (suc (suc (suc more))) a b = (grind arith, grind arith)

member_tally : IsTally member_table 0 count_met
member_tally = tally_by_verdict member_table 0 count_met refl refl refl (λ bits. refl) (λ bits. refl) (λ state bits. (member_steps state bits.first bits.second).1)

pub decides_member : (mode : Mode) (x s : ℕ) → DecidesRelation mode (variables_of_basic (Member x s)) (Member x s) member_table
decides_member mode x s = record {
  closed = record { start = λ bits. omega arith; step = λ state bits small. (member_steps state bits.first bits.second).0 };
  tallies = ((count_met, member_tally), (tt, tt));
  right = λ e count assigned room string.
      member_right (e.number x) (e.set s) count _
      (kept member_table (variables_of_basic (Member x s)) e count (MemberAt (e.number x) (e.set s)) (omega arith)
      (λ position state at. member_next (e.number x) (e.set s) position state _ _ (told (e.number x) position) refl at))
      (omega (arith, room));
}
