-- A set that is itself moved by 0 is any set, and one that is itself moved further is empty.
use Rattle.std.proofs.Common.{◌≡◌, ℕ, ◌+◌, ◌<◌, ◌↔◌, inl, inr, Bool, true, false, ◌&&◌, List, [], ◌∷◌, refl, sym, ap, subst, ◌∙◌, arith}
use Rattle.std.proofs.lemmas.Bool.{false≢true}
use Rattle.ms_logic_core.specs.declared.core_formula.Basic.{Basic}
use Rattle.ms_logic_core.specs.declared.core_formula.Basic.TheVariants.{Bits, Down, Up}
use Rattle.ms_logic.specs.declared.mode.Mode.{Mode}
use Rattle.ms_logic_words.specs.declared.sign.Sign.{Sign}
use Rattle.ms_logic_words.specs.declared.sign.Sign.TheVariants.{Yes, No, Undefined, Outside}
use Rattle.ms_logic.specs.Assignment.{Universe, AllWithin, Env, IsAssignment, Variable, is_within}
use Rattle.ms_logic_core.specs.CoreForm.{Holds}
use Rattle.ms_logic.specs.FiniteSet.{IsRising, greatest, is_member, moved_down, moved_up}
use Rattle.ms_logic.specs.Terms.{part_within}
use Rattle.ms_logic.proofs.Members.{IsRising-filter, IsRising-moved_down, IsRising-moved_up, is_member-filter, is_member-moved_down, is_member-moved_up, member_cases}
use Rattle.ms_logic.proofs.SetLaws.{greatest_law, least_law, moved_up_law}
use Rattle.ms_logic.proofs.Within.{is_within-of}
use Rattle.ms_dfa_explore.specs.Small.{TransitionTable}
use Rattle.ms_basic.specs.Bits.{bits_table}
use Rattle.ms_logic_core.specs.Operands.{variables_of_basic}
use Rattle.ms_basic.specs.Operands.{set}
use Rattle.ms_basic.specs.declared.moved.Direction.{Direction}
use Rattle.ms_basic.specs.declared.moved.Direction.TheVariants as directions
use Rattle.ms_basic.specs.inner.Moved.{moved_form}
use Rattle.ms_basic.specs.inner.Relation.{DecidesRelation, IsRight}
use Rattle.ms_basic.specs.inner.Repeated.{constant_table}
use Rattle.ms_basic.proofs.BitsLemmas.{decides_bits}
use Rattle.ms_basic.proofs.RepeatedLemmas.{decides_always, same_members}
use Rattle.ms_basic.proofs.SetLemmas.{and_true, first_is_member}

-- each member of a set of the universe is within it
member_within : (universe : Universe) (members : List ℕ) (k : ℕ) → AllWithin universe members → is_member k members ≡ true → is_within universe k ≡ true
member_within universe [] k all member = absurd (false≢true member)
member_within universe (first ∷ more) k all member =
    elim (member_cases k first more member) [
      | inl same ↦ subst (λ n. is_within universe n ≡ true) same (is_within-of universe first all.0)
      | inr there ↦ member_within universe more k all.1 there
    ]

-- moved by 0, a set is itself
up_by_none : (universe : Universe) (members : List ℕ) → IsRising members → AllWithin universe members → members ≡ part_within universe (moved_up 0 members)
up_by_none universe members rising all =
    same_members members (part_within universe (moved_up 0 members)) rising (IsRising-filter (is_within universe) (moved_up 0 members) (IsRising-moved_up 0 members rising))
    (λ k. is_member-filter k (is_within universe) (moved_up 0 members) ∙ ap (λ test. test && is_within universe k) (moved k) ∙ within (is_member k members) k refl)
  where
    moved : (k : ℕ) → is_member k (moved_up 0 members) ≡ is_member k members
    moved k = let same : k ≡ k + 0 = omega arith in ap (λ n. is_member n (moved_up 0 members)) same ∙ is_member-moved_up k 0 members

    within : (test : Bool) (k : ℕ) → is_member k members ≡ test → (is_member k members && is_within universe k) ≡ is_member k members
    within true k is = ap (λ b. is_member k members && b) (member_within universe members k all is) ∙ and_true (is_member k members)
    within false k is = ap (λ b. b && is_within universe k) is ∙ sym is

down_by_none : (members : List ℕ) → IsRising members → members ≡ moved_down 0 members
down_by_none members rising =
    same_members members (moved_down 0 members) rising (IsRising-moved_down 0 members rising)
    (λ k. is_member-moved_down k 0 members ∙ (let same : k + 0 ≡ k = omega arith in ap (λ n. is_member n members) same))

pub decides_by_none : (mode : Mode) (direction : Direction) (s : ℕ) → DecidesRelation mode (set s ∷ []) (moved_form direction s s 0) (constant_table true)
decides_by_none mode directions.Up s = decides_always mode s (Up s s 0) (λ e assigned. up_by_none e.universe (e.set s) assigned.values.0.0 assigned.values.0.1)
decides_by_none mode directions.Down s = decides_always mode s (Down s s 0) (λ e assigned. down_by_none (e.set s) assigned.values.0.0)

-- moved further, it is empty
up_is_empty : (universe : Universe) (n : ℕ) (members : List ℕ) → IsRising members → 0 < n → members ≡ part_within universe (moved_up n members) → members ≡ []
up_is_empty universe n [] rising further same = refl
up_is_empty universe n (first ∷ more) rising further same =
    let member : is_member first (part_within universe (moved_up n (first ∷ more))) ≡ true = sym (ap (λ list. is_member first list) same) ∙ first_is_member first more in
    let moved = passed (is_member first (moved_up n (first ∷ more))) (is_within universe first) (sym (is_member-filter first (is_within universe) (moved_up n (first ∷ more))) ∙ member) in
    let found = ((moved_up_law n (first ∷ more) rising).exactly first).0 moved in
    let low = least_law found.0 (first ∷ more) rising found.1 in
    absurd (omega (arith, found.2, low.1, further))
  where
    passed : (a b : Bool) → (a && b) ≡ true → a ≡ true
    passed true b both = refl
    passed false b both = both

down_is_empty : (n : ℕ) (members : List ℕ) → IsRising members → 0 < n → members ≡ moved_down n members → members ≡ []
down_is_empty n [] rising further same = refl
down_is_empty n (first ∷ more) rising further same =
    let high = greatest_law first (first ∷ more) rising (first_is_member first more) in
    let behind : is_member (greatest (first ∷ more) + n) (first ∷ more) ≡ true
    = sym (is_member-moved_down (greatest (first ∷ more)) n (first ∷ more)) ∙ sym (ap (λ list. is_member (greatest (first ∷ more)) list) same) ∙ high.0 in
    let higher = greatest_law (greatest (first ∷ more) + n) (first ∷ more) rising behind in
    absurd (omega (arith, higher.1, further))

-- relations that hold of the same values are decided by the same machine
right_along : (One Other : Type 0) (sign : Sign) → (One → Other) → (Other → One) → IsRight One sign → IsRight Other sign
right_along One Other Yes there back right = there right
right_along One Other No there back right = λ other. right (back other)
right_along One Other Undefined there back right = right
right_along One Other Outside there back right = right

decides_along : (mode : Mode) (operands : List Variable) (one other : Basic) (table : TransitionTable)
    → ((e : Env) → IsAssignment mode operands e → Holds one e ↔ Holds other e) → DecidesRelation mode operands one table → DecidesRelation mode operands other table
decides_along mode operands one other table same decides = record {
  closed = decides.closed;
  tallies = decides.tallies;
  right = λ e count assigned room string. right_along (Holds one e) (Holds other e) _ (same e assigned).0 (same e assigned).1 (decides.right e count assigned room string);
}

pub decides_further : (mode : Mode) (direction : Direction) (s n : ℕ) → 0 < n → DecidesRelation mode (set s ∷ []) (moved_form direction s s n) (bits_table mode 0 0)
decides_further mode direction s n further =
    decides_along mode (set s ∷ []) (Bits s 0) (moved_form direction s s n) (bits_table mode 0 0) (same direction) (decides_bits mode s 0 0 refl)
  where
    same : (way : Direction) (e : Env) → IsAssignment mode (set s ∷ []) e → Holds (Bits s 0) e ↔ Holds (moved_form way s s n) e
    same directions.Up e assigned = (
      λ empty. empty ∙ sym (ap (λ list. part_within e.universe (moved_up n list)) empty),
      λ moved. up_is_empty e.universe n (e.set s) assigned.values.0.0 further moved,
    )
    same directions.Down e assigned = (
      λ empty. empty ∙ sym (ap (moved_down n) empty),
      λ moved. down_is_empty n (e.set s) assigned.values.0.0 further moved,
    )

pub moved_operands : (direction : Direction) (s t n : ℕ) → variables_of_basic (moved_form direction s t n) ≡ set s ∷ set t ∷ []
moved_operands directions.Up s t n = refl
moved_operands directions.Down s t n = refl
