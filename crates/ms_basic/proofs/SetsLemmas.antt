-- The machines of relations between sets that are tested position by position decide them.
use Rattle.std.proofs.Common.{◌≡◌, ℕ, zero, suc, ◌<◌, ◌≤◌, Bool, true, false, not, ◌&&◌, ◌||◌, List, ◌++◌, length, take, refl, sym, ap, ◌∙◌, arith, ap₂, [], ◌∷◌}
use Rattle.std.proofs.lemmas.Bool.{false≢true}
use Rattle.ms_logic_core.specs.CoreForm.{Holds}
use Rattle.ms_logic_core.specs.declared.core_formula.Basic.{Basic}
use Rattle.ms_logic_core.specs.declared.core_formula.Basic.TheVariants.{Sub, Union, Inter, Diff}
use Rattle.ms_logic.specs.declared.mode.Mode.{Mode}
use Rattle.ms_logic.specs.Assignment.{Env, Variable}
use Rattle.ms_logic.specs.FiniteSet.{is_member, IsRising, IsSubset, union_of, intersection_of, difference_of}
use Rattle.ms_logic.specs.Letters.{bound_of_set}
use Rattle.ms_logic.proofs.Members.{is_member-union_of, is_member-filter, no_member_from_bound, member_below_bound, IsRising-set_of, IsRising-filter}
use Rattle.ms_logic.proofs.SetLaws.{subset_law}
use Rattle.ms_logic_words.specs.declared.sign.Sign.{Sign}
use Rattle.ms_dfa_explore.specs.declared.small.TrackBits.{TrackBits}
use Rattle.ms_dfa_explore.specs.Small.{IsClosedTable}
use Rattle.ms_basic.specs.declared.sets.SetRelation as relations
use Rattle.ms_basic.specs.declared.sets.SetRelation.{SetRelation}
use Rattle.ms_logic_core.specs.Operands.{variables_of_basic}
use Rattle.ms_basic.specs.Operands.{set}
use Rattle.ms_basic.specs.inner.Reading.{operand_bits, state_behind}
use Rattle.ms_basic.specs.inner.Relation.{DecidesRelation, IsRight}
use Rattle.ms_basic.specs.Sets.{agrees, is_same, sets_table, tested_step}
use Rattle.ms_basic.specs.inner.Related.{sets_form}
use Rattle.ms_basic.specs.Verdict.{sign_by_contradiction}
use Rattle.ms_basic.proofs.ReadingLemmas.{kept}
use Rattle.ms_basic.proofs.SetLemmas.{one_more_same, other_bits, other_sets, same_bits, same_sets}

-- in the state 0 some position so far did not agree, and in the others all did
abbrev TestedAt : (ℕ → Bool) → ℕ → ℕ → Type 0
TestedAt agree position zero = (k : ℕ) × (k < position) × (agree k ≡ false)
TestedAt agree position (suc more) = (k : ℕ) → k < position → agree k ≡ true

tested_next : (agree : ℕ → Bool) (position state : ℕ) (test : Bool) → agree position ≡ test → TestedAt agree position state
    → TestedAt agree (suc position) (tested_step test state)
tested_next agree position zero test here at = (at.0, omega (arith, at.1), at.2)
tested_next agree position (suc more) true here at = one_more_same agree (λ k. true) position at here
tested_next agree position (suc more) false here at = (position, omega arith, here)

tested_closed : (test : Bool) (state : ℕ) → tested_step test state < 2
tested_closed test zero = omega arith
tested_closed true (suc more) = omega arith
tested_closed false (suc more) = omega arith

tested_right : (Fact : Type 0) (agree : ℕ → Bool) (count state : ℕ) → TestedAt agree count state → (((k : ℕ) → k < count → agree k ≡ true) → Fact)
    → ((k : ℕ) → k < count → agree k ≡ false → ¬ Fact) → IsRight Fact (sign_by_contradiction state)
tested_right Fact agree count zero at holds fails = fails at.0 at.1 at.2
tested_right Fact agree count (suc more) at holds fails = holds at

pub sets_closed : (relation : SetRelation) → IsClosedTable (sets_table relation)
sets_closed relation = record { start = λ bits. omega arith; step = λ state bits small. tested_closed (agrees relation bits) state }

-- behind all positions the sign is right, where the relation holds exactly if all agree
pub sets_right : (relation : SetRelation) (operands : List Variable) (e : Env) (count : ℕ) (Fact : Type 0)
    → (((k : ℕ) → k < count → agrees relation (operand_bits operands e k) ≡ true) → Fact)
    → ((k : ℕ) → k < count → agrees relation (operand_bits operands e k) ≡ false → ¬ Fact)
    → IsRight Fact ((sets_table relation).sign (state_behind (sets_table relation) operands e count))
sets_right relation operands e count Fact holds fails =
    tested_right Fact (λ k. agrees relation (operand_bits operands e k)) count (state_behind (sets_table relation) operands e count)
    (kept (sets_table relation) operands e count (TestedAt (λ k. agrees relation (operand_bits operands e k))) (λ k below. absurd (omega (arith, below)))
    (λ position state at. tested_next (λ k. agrees relation (operand_bits operands e k)) position state _ refl at))
    holds fails

-- a member agrees with an inclusion where it is one of the second set too
agreed : (a b : Bool) → (not a || b) ≡ true → a ≡ true → b ≡ true
agreed true b agree member = agree
agreed false b agree member = let never : ⊥ = cc in absurd never

broken : (a b : Bool) → (not a || b) ≡ false → (a ≡ true) × (b ≡ false)
broken true b breaks = (refl, breaks)
broken false b breaks = let never : ⊥ = cc in absurd never

pub decides_sub : (mode : Mode) (s t : ℕ) → DecidesRelation mode (variables_of_basic (Sub s t)) (Sub s t) (sets_table relations.TheVariants.Sub)
decides_sub mode s t = record {
  closed = sets_closed relations.TheVariants.Sub;
  tallies = (tt, (tt, tt));
  right = λ e count assigned room string.
      sets_right relations.TheVariants.Sub (variables_of_basic (Sub s t)) e count (IsSubset (e.set s) (e.set t))
      (λ all. (subset_law (e.set s) (e.set t)).1 (λ n member.
      agreed (is_member n (e.set s)) (is_member n (e.set t)) (all n (omega (arith, room, member_below_bound (e.set s) n member))) member))
      (λ k below breaks subset.
      let parts = broken (is_member k (e.set s)) (is_member k (e.set t)) breaks in
      false≢true (sym parts.1 ∙ (subset_law (e.set s) (e.set t)).0 subset k parts.0));
}

-- a set that is another exactly where their members are the same at each position
pub equal_right : (left right : List ℕ) (count : ℕ) → IsRising left → IsRising right → ((k : ℕ) → count ≤ k → is_member k left ≡ false)
    → ((k : ℕ) → count ≤ k → is_member k right ≡ false) → ((k : ℕ) → k < count → is_same (is_member k left) (is_member k right) ≡ true) → left ≡ right
equal_right left right count rising_left rising_right none_left none_right all =
    same_sets left right count rising_left rising_right (λ k below. same_bits (is_member k left) (is_member k right) (all k below)) none_left none_right

-- the same with the members of the other set told
equal_decides : (relation : SetRelation) (operands : List Variable) (e : Env) (count : ℕ) (left right : List ℕ) (told : ℕ → Bool) → IsRising left → IsRising right
    → bound_of_set left ≤ count → ((k : ℕ) → is_member k right ≡ told k) → ((k : ℕ) → count ≤ k → told k ≡ false)
    → ((k : ℕ) → agrees relation (operand_bits operands e k) ≡ is_same (is_member k left) (told k))
    → IsRight (left ≡ right) ((sets_table relation).sign (state_behind (sets_table relation) operands e count))
equal_decides relation operands e count left right told rising_left rising_right bound tells none agree =
    sets_right relation operands e count (left ≡ right)
    (λ all.
    equal_right left right count rising_left rising_right (λ k above. no_member_from_bound left k (omega (arith, bound, above))) (λ k above. tells k ∙ none k above)
    (λ k below. ap (is_same (is_member k left)) (tells k) ∙ sym (agree k) ∙ all k below))
    (λ k below breaks.
    other_sets left right k (λ same. other_bits (is_member k left) (told k) (sym (agree k) ∙ breaks) (same ∙ tells k)))

-- the relations that say of a set that it is another, which is told member by member
decides_equal : (mode : Mode) (relation : SetRelation) (form : Basic) (s t u : ℕ) (other : List ℕ → List ℕ → List ℕ) (test : Bool → Bool → Bool)
    → ((e : Env) (sign : Sign) → IsRight (e.set s ≡ other (e.set t) (e.set u)) sign → IsRight (Holds form e) sign)
    → ((left right : List ℕ) → IsRising left → IsRising (other left right)) → ((k : ℕ) (left right : List ℕ) → is_member k (other left right) ≡ test (is_member k left) (is_member k right))
    → test false false ≡ false → ((bits : TrackBits) → agrees relation bits ≡ is_same bits.first (test bits.second bits.third))
    → DecidesRelation mode (set s ∷ set t ∷ set u ∷ []) form (sets_table relation)
decides_equal mode relation form s t u other test says rises tells none agree = record {
  closed = sets_closed relation;
  tallies = (tt, (tt, (tt, tt)));
  right = λ e count assigned room string.
      let no_member : (k : ℕ) → count ≤ k → test (is_member k (e.set t)) (is_member k (e.set u)) ≡ false
      = λ k above. ap₂ test (no_member_from_bound (e.set t) k (omega (arith, room, above))) (no_member_from_bound (e.set u) k (omega (arith, room, above))) ∙ none in
      says e _ (equal_decides relation (set s ∷ set t ∷ set u ∷ []) e count (e.set s) (other (e.set t) (e.set u)) (λ k. test (is_member k (e.set t)) (is_member k (e.set u)))
      assigned.values.0.0 (rises (e.set t) (e.set u) assigned.values.1.0.0) (omega (arith, room)) (λ k. tells k (e.set t) (e.set u)) no_member
      (λ k. agree (operand_bits (set s ∷ set t ∷ set u ∷ []) e k)));
}

pub decides_union : (mode : Mode) (s t u : ℕ) → DecidesRelation mode (variables_of_basic (Union s t u)) (Union s t u) (sets_table relations.TheVariants.Union)
decides_union mode s t u =
    decides_equal mode relations.TheVariants.Union (Union s t u) s t u union_of (λ a b. a || b) (λ e sign right. right) (λ left right rising. IsRising-set_of (left ++ right)) is_member-union_of
    refl (λ bits. refl)

pub decides_inter : (mode : Mode) (s t u : ℕ) → DecidesRelation mode (variables_of_basic (Inter s t u)) (Inter s t u) (sets_table relations.TheVariants.Inter)
decides_inter mode s t u =
    decides_equal mode relations.TheVariants.Inter (Inter s t u) s t u intersection_of (λ a b. a && b) (λ e sign right. right)
    (λ left right rising. IsRising-filter (λ n. is_member n right) left rising) (λ k left right. is_member-filter k (λ n. is_member n right) left) refl (λ bits. refl)

pub decides_diff : (mode : Mode) (s t u : ℕ) → DecidesRelation mode (variables_of_basic (Diff s t u)) (Diff s t u) (sets_table relations.TheVariants.Diff)
decides_diff mode s t u =
    decides_equal mode relations.TheVariants.Diff (Diff s t u) s t u difference_of (λ a b. a && not b) (λ e sign right. right)
    (λ left right rising. IsRising-filter (λ n. not (is_member n right)) left rising) (λ k left right. is_member-filter k (λ n. not (is_member n right)) left) refl (λ bits. refl)

-- each relation between sets
pub all_operands : (relation : SetRelation) (s t u : ℕ)
    → take (length (variables_of_basic (sets_form relation 0 0 0))) (variables_of_basic (sets_form relation s t u)) ≡ variables_of_basic (sets_form relation s t u)
all_operands relations.TheVariants.Sub s t u = refl
all_operands relations.TheVariants.Union s t u = refl
all_operands relations.TheVariants.Inter s t u = refl
all_operands relations.TheVariants.Diff s t u = refl

pub decides_sets : (mode : Mode) (relation : SetRelation) (s t u : ℕ) → DecidesRelation mode (variables_of_basic (sets_form relation s t u)) (sets_form relation s t u) (sets_table relation)
decides_sets mode relations.TheVariants.Sub s t u = decides_sub mode s t
decides_sets mode relations.TheVariants.Union s t u = decides_union mode s t u
decides_sets mode relations.TheVariants.Inter s t u = decides_inter mode s t u
decides_sets mode relations.TheVariants.Diff s t u = decides_diff mode s t u
