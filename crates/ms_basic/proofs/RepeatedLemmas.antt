-- The machines of relations that name one variable alone decide them.
use Rattle.std.proofs.Common.{◌≡◌, ◌≢◌, ℕ, zero, suc, ◌+◌, ◌<◌, ◌≤◌, ◌==◌, take, ◌⊎◌, inl, inr, Bool, true, false, ◌||◌, ◌&&◌, if◌then◌else◌, List, [], ◌∷◌, ◌++◌, refl, sym, subst, ◌∙◌, arith}
use Rattle.std.proofs.lemmas.Bool.{eqb-true}
use Rattle.ms_logic_core.specs.declared.core_formula.Basic.{Basic}
use Rattle.ms_logic_core.specs.declared.core_formula.Basic.TheVariants.{Less, Plus, Sub, Union, Inter}
use Rattle.ms_logic.specs.declared.mode.Mode.{Mode}
use Rattle.ms_logic_words.specs.declared.sign.Sign.TheVariants.{Outside}
use Rattle.ms_logic.specs.Assignment.{Env, IsAssignment}
use Rattle.ms_logic_core.specs.CoreForm.{Holds}
use Rattle.ms_logic.specs.FiniteSet.{is_member, IsRising, union_of, intersection_of}
use Rattle.ms_logic.proofs.Members.{is_member-union_of, is_member-filter, IsRising-set_of, IsRising-filter}
use Rattle.ms_logic.proofs.SetLaws.{sets_are_their_members, subset_law}
use Rattle.ms_logic_core.specs.Operands.{variables_of_basic}
use Rattle.ms_basic.specs.Operands.{number, set}
use Rattle.ms_basic.specs.inner.Related.{is_of_itself, sets_form}
use Rattle.ms_basic.specs.declared.sets.SetRelation.{SetRelation}
use Rattle.ms_basic.specs.declared.sets.SetRelation.TheVariants as relations
use Rattle.ms_basic.specs.inner.Relation.{DecidesRelation, IsRight}
use Rattle.ms_basic.specs.inner.Repeated.{constant_table, one_number_sign, one_number_step, one_number_table, sign_of_constant}
use Rattle.ms_basic.specs.inner.Tally.{IsTally}
use Rattle.ms_basic.proofs.BitLemmas.{Tells, told}
use Rattle.ms_basic.proofs.ReadingLemmas.{kept}

-- what a state says behind the positions so far
abbrev OneAt : ℕ → ℕ → ℕ → Type 0
OneAt x position zero = ⊥
OneAt x position (suc zero) = x < position
OneAt x position (suc (suc more)) = position ≤ x

one_next : (x position state : ℕ) (a : Bool) → Tells a x position → OneAt x position state → OneAt x (suc position) (one_number_step state a)
one_next x position zero a first at = absurd at
one_next x position (suc zero) a first at = grind arith
one_next x position (suc (suc more)) a first at = grind arith

one_right : (Fact : Type 0) (holds : Bool) (x count state : ℕ) → OneAt x count state → x < count → IsRight Fact (sign_of_constant holds) → IsRight Fact (one_number_sign holds state)
one_right Fact holds x count zero at within right = absurd at
one_right Fact holds x count (suc zero) at within right = right
one_right Fact holds x count (suc (suc more)) at within right = absurd (omega arith)

count_one : ℕ → ℕ
count_one zero = 0
count_one (suc zero) = 1
count_one (suc (suc more)) = 0

one_told : (state : ℕ) (a : Bool) → (one_number_step state a ≡ 0) ⊎ (count_one (one_number_step state a) ≡ count_one state + (if a then 1 else 0))
unfolding count_one
one_told zero a = inl refl
one_told (suc zero) true = inl refl
one_told (suc zero) false = inr refl
one_told (suc (suc more)) true = inr refl
one_told (suc (suc more)) false = inr refl

one_signed : (holds : Bool) (state : ℕ) → one_number_sign holds state ≢ Outside → (state ≢ 0) × (count_one state ≡ 1)
unfolding count_one
one_signed holds zero inside = absurd (inside refl)
one_signed holds (suc zero) inside = (omega arith, refl)
one_signed holds (suc (suc more)) inside = absurd (inside refl)

one_tally : (holds : Bool) → IsTally (one_number_table holds) 0 count_one
unfolding count_one
one_tally holds = record {
  start = λ bits. refl;
  lost = λ bits. refl;
  step = λ state bits. one_told state bits.first;
  sign = one_signed holds;
}

one_closed : (state : ℕ) (a : Bool) → one_number_step state a < 3
one_closed zero a = grind arith
one_closed (suc zero) a = grind arith
one_closed (suc (suc more)) a = grind arith

-- a relation that holds of each number, or of none
pub decides_one : (mode : Mode) (x : ℕ) (form : Basic) (holds : Bool) → ((e : Env) → IsRight (Holds form e) (sign_of_constant holds))
    → DecidesRelation mode (number x ∷ []) form (one_number_table holds)
decides_one mode x form holds right = record {
  closed = record { start = λ bits. omega arith; step = λ state bits small. one_closed state bits.first };
  tallies = ((count_one, one_tally holds), tt);
  right = λ e count assigned room string.
      one_right (Holds form e) holds (e.number x) count _
      (kept (one_number_table holds) (number x ∷ []) e count (OneAt (e.number x)) (omega arith)
      (λ position state at. one_next (e.number x) position state _ (told (e.number x) position) at))
      (omega (arith, room)) (right e);
}

-- no number is below itself, and each is itself and 0
never_below : (x : ℕ) (e : Env) → IsRight (Holds (Less x x) e) (sign_of_constant false)
never_below x e = λ less. omega (arith, less)

always_itself : (x : ℕ) (e : Env) → IsRight (Holds (Plus x x 0) e) (sign_of_constant true)
always_itself x e = omega arith

never_more : (x n : ℕ) (e : Env) → 0 < n → IsRight (Holds (Plus x x n) e) (sign_of_constant false)
never_more x n e above = λ same. omega (arith, same, above)

pub decides_less_itself : (mode : Mode) (x : ℕ) → DecidesRelation mode (number x ∷ []) (Less x x) (one_number_table false)
decides_less_itself mode x = decides_one mode x (Less x x) false (never_below x)

pub decides_plus_itself : (mode : Mode) (x n : ℕ) (none : Bool) → Tells none n 0 → DecidesRelation mode (number x ∷ []) (Plus x x n) (one_number_table none)
decides_plus_itself mode x n true is =
    subst (λ k. DecidesRelation mode (number x ∷ []) (Plus x x k) (one_number_table true)) (sym is) (decides_one mode x (Plus x x 0) true (always_itself x))
decides_plus_itself mode x n false is = decides_one mode x (Plus x x n) false (λ e. never_more x n e (omega (arith, is)))

-- a relation that holds of each set
pub decides_always : (mode : Mode) (s : ℕ) (form : Basic) → ((e : Env) → IsAssignment mode (set s ∷ []) e → Holds form e) → DecidesRelation mode (set s ∷ []) form (constant_table true)
decides_always mode s form holds = record {
  closed = record { start = λ bits. omega arith; step = λ state bits small. small };
  tallies = (tt, tt);
  right = λ e count assigned room string. holds e assigned;
}

or_itself : (a : Bool) → (a || a) ≡ a
or_itself true = refl
or_itself false = refl

and_itself : (a : Bool) → (a && a) ≡ a
and_itself true = refl
and_itself false = refl

-- sets with the same members
pub same_members : (left right : List ℕ) → IsRising left → IsRising right → ((k : ℕ) → is_member k right ≡ is_member k left) → left ≡ right
same_members left right rising_left rising_right same =
    sets_are_their_members left right rising_left rising_right (λ k. (λ member. same k ∙ member, λ member. sym (same k) ∙ member))

decides_sub_itself : (mode : Mode) (s : ℕ) → DecidesRelation mode (set s ∷ []) (Sub s s) (constant_table true)
decides_sub_itself mode s = decides_always mode s (Sub s s) (λ e assigned. (subset_law (e.set s) (e.set s)).1 (λ n member. member))

decides_union_itself : (mode : Mode) (s : ℕ) → DecidesRelation mode (set s ∷ []) (Union s s s) (constant_table true)
decides_union_itself mode s = decides_always mode s (Union s s s) (λ e assigned.
    same_members (e.set s) (union_of (e.set s) (e.set s)) assigned.values.0.0 (IsRising-set_of (e.set s ++ e.set s)) (λ k. is_member-union_of k (e.set s) (e.set s) ∙ or_itself (is_member k (e.set s))))

decides_inter_itself : (mode : Mode) (s : ℕ) → DecidesRelation mode (set s ∷ []) (Inter s s s) (constant_table true)
decides_inter_itself mode s = decides_always mode s (Inter s s s) (λ e assigned.
    same_members (e.set s) (intersection_of (e.set s) (e.set s)) assigned.values.0.0 (IsRising-filter (λ n. is_member n (e.set s)) (e.set s) assigned.values.0.0)
    (λ k. is_member-filter k (λ n. is_member n (e.set s)) (e.set s) ∙ and_itself (is_member k (e.set s))))

-- what holds of three sets that are one
of_one : (Fact : ℕ → ℕ → ℕ → Type 0) (s t u : ℕ) → (s == t && t == u) ≡ true → Fact s s s → Fact s t u
of_one Fact s t u one fact = by_test (s == t) (t == u) (told s t) (told t u) one
  where
    by_test : (first second : Bool) → Tells first s t → Tells second t u → (first && second) ≡ true → Fact s t u
    by_test true true same equal one = subst (λ t. Fact s t u) same (subst (Fact s s) (same ∙ equal) fact)
    by_test true false same apart one = let never : ⊥ = cc in absurd never
    by_test false second apart tells one = let never : ⊥ = cc in absurd never

pub decides_itself : (mode : Mode) (relation : SetRelation) (s t u : ℕ) → is_of_itself relation s t u ≡ true
    → DecidesRelation mode (take 1 (variables_of_basic (sets_form relation s t u))) (sets_form relation s t u) (constant_table true)
decides_itself mode relations.Sub s t u one =
    subst (λ t. DecidesRelation mode (set s ∷ []) (Sub s t) (constant_table true)) (eqb-true s t one) (decides_sub_itself mode s)
decides_itself mode relations.Union s t u one = of_one (λ s t u. DecidesRelation mode (set s ∷ []) (Union s t u) (constant_table true)) s t u one (decides_union_itself mode s)
decides_itself mode relations.Inter s t u one = of_one (λ s t u. DecidesRelation mode (set s ∷ []) (Inter s t u) (constant_table true)) s t u one (decides_inter_itself mode s)
decides_itself mode relations.Diff s t u one = let never : ⊥ = cc in absurd never
