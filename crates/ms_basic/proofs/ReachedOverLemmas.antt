-- Machines whose states are reached by letters of operands reach them over the tracks of these operands.
use Rattle.std.proofs.Common.{◌≡◌, ◌≢◌, ◌≤◌, ◌==◌, ℕ, zero, suc, inl, inr, nat_eq, Bool, true, false, not, ◌&&◌, ◌||◌, if◌then◌else◌, IsTrue, List, [], ◌∷◌, length, map, refl, sym, ap, ap₂, ◌∙◌, arith}
use borrow.Author.Tests.{eqb-false}
use Rattle.std.proofs.lemmas.List.Elements.{All-cons, All-nil}
use Rattle.ms_logic.specs.Assignment.{Variable}
use Rattle.ms_logic.specs.Lists.{IsAmong}
use Rattle.ms_logic_words.specs.Content.{is_in_letters, is_truth_value}
use Rattle.ms_dfa_explore.specs.declared.small.TrackBits.{TrackBits}
use Rattle.ms_dfa_explore.specs.Small.{TransitionTable, bit_at, zero_bits}
use Rattle.ms_dfa_explore.specs.Tracks.{distinct}
use Rattle.ms_logic_core.specs.Operands.{variables_of_basic}
use Rattle.ms_basic.specs.Operands.{HaveOneOrder, set, truth_value}
use Rattle.ms_basic.specs.Sets.{agrees, is_same, sets_table, tested_step}
use Rattle.ms_basic.specs.inner.Related.{is_of_itself, sets_form}
use Rattle.ms_basic.specs.declared.sets.SetRelation.{SetRelation}
use Rattle.ms_basic.specs.declared.sets.SetRelation.TheVariants.{Sub, Union, Inter, Diff}
use Rattle.ms_basic.specs.declared.reading.Wiring.{Wiring}
use Rattle.ms_basic.specs.inner.Apart.{AreBitsOver, IsLetterOver, state_by}
use Rattle.ms_basic.specs.inner.Reached.{HasStatesReached, HasStatesReachedOver, IsReachedBy}
use Rattle.ms_basic.specs.inner.Reading.{read_at, wired, wiring_of}
use Rattle.ms_basic.specs.inner.Repeated.{constant_table}
use Rattle.ms_basic.specs.inner.Truth.{truth_table}
use Rattle.ms_basic.proofs.ApartOverLemmas.{IsReadThrough, all_letters, back_one, back_two, differ-eqb, order_of_one, same-eqb, same_state, through_one, through_two}
use Rattle.ms_basic.proofs.BitLemmas.{Tells, told}
use Rattle.ms_basic.proofs.ByNames.{bits_over, named_bits, operands_read}

-- no truth values have a 1, nor do operands read one from them
zero_at : (place : ℕ) → bit_at zero_bits place ≡ false
zero_at zero = refl
zero_at (suc zero) = refl
zero_at (suc (suc zero)) = refl
zero_at (suc (suc (suc place))) = refl

none_over : (tracks : List Variable) → AreBitsOver is_truth_value tracks zero_bits
none_over tracks place never = zero_at place

read_none : (wiring : Wiring) → read_at wiring zero_bits ≡ zero_bits
read_none wiring = λ i. record { first = zero_at wiring.first i; second = zero_at wiring.second i; third = zero_at wiring.third i }

-- the letters that lead to a state, each over the tracks
reached_through : (operands : List Variable) (count : ℕ) (back : TrackBits → TrackBits) → IsReadThrough operands count back → (table : TransitionTable)
    → HasStatesReached count table → HasStatesReachedOver operands table
reached_through operands count back through table reached state below =
    let path = reached state below in
    let wiring = wiring_of operands (distinct operands) in (
      zero_bits,
      none_over (distinct operands),
      map back path.0,
      all_letters operands count back through table path.0,
      same_state operands count back through table (table.start (read_at wiring zero_bits)) path.0 path.1
          ∙ ap (λ bits. state_by table (table.start bits) path.0) (read_none wiring) ∙ path.2,
    )

-- one operand, and two
pub reached_one : (v : Variable) (table : TransitionTable) → IsTrue (is_in_letters v.order) → HasStatesReached 1 table → HasStatesReachedOver (v ∷ []) table
reached_one v table in_letters = reached_through (v ∷ []) 1 (back_one v) (through_one v in_letters) table

pub reached_two : (v w : Variable) (table : TransitionTable) → v.name ≢ w.name → IsTrue (is_in_letters v.order) → IsTrue (is_in_letters w.order) → HasStatesReached 2 table
    → HasStatesReachedOver (v ∷ w ∷ []) table
reached_two v w table names v_in w_in = reached_through (v ∷ w ∷ []) 2 (back_two v w) (through_two v w names v_in w_in) table

-- a machine of one state
pub constant_reached : (operands : List Variable) (holds : Bool) → HasStatesReachedOver operands (constant_table holds)
constant_reached operands holds zero below = (zero_bits, none_over (distinct operands), [], All-nil (IsLetterOver (distinct operands)), refl)
constant_reached operands holds (suc state) below = absurd (omega (arith, below))

-- a truth value: its states are reached at once
pub truth_reached : (a : ℕ) → HasStatesReachedOver (truth_value a ∷ []) truth_table
truth_reached a = by_state
  where
    at_once : (state : ℕ) (bit : Bool) → (if bit then 1 else 0) ≡ state
        → IsReachedBy (truth_value a ∷ []) (wired (wiring_of (truth_value a ∷ []) (truth_value a ∷ [])) truth_table) state
    at_once state bit leads = (
      named_bits is_truth_value (λ name. bit) (truth_value a ∷ []),
      bits_over is_truth_value (λ name. bit) (truth_value a ∷ []),
      [],
      All-nil (IsLetterOver (truth_value a ∷ [])),
      ap truth_table.start (operands_read is_truth_value (λ name. bit) (truth_value a ∷ []) (order_of_one (truth_value a)) (omega arith)) ∙ leads,
    )

    by_state : HasStatesReachedOver (truth_value a ∷ []) truth_table
    by_state zero below = at_once 0 false refl
    by_state (suc zero) below = at_once 1 true refl
    by_state (suc (suc state)) below = absurd (omega (arith, below))

-- sets, of which some may be one: a letter by their names contradicts the relation
sets_reached : (relation : SetRelation) (operands : List Variable) (by_name : ℕ → Bool) → HaveOneOrder operands → length operands ≤ 3
    → agrees relation (named_bits is_in_letters by_name operands) ≡ false → HasStatesReachedOver operands (sets_table relation)
sets_reached relation operands by_name orders few contradicts zero below = (
  zero_bits,
  none_over (distinct operands),
  named_bits is_in_letters by_name (distinct operands) ∷ [],
  All-cons (IsLetterOver (distinct operands)) (named_bits is_in_letters by_name (distinct operands)) [] (bits_over is_in_letters by_name (distinct operands))
      (All-nil (IsLetterOver (distinct operands))),
  ap (λ bits. tested_step (agrees relation bits) 1) (operands_read is_in_letters by_name operands orders few) ∙ ap (λ agree. tested_step agree 1) contradicts,
)
sets_reached relation operands by_name orders few contradicts (suc zero) below = (zero_bits, none_over (distinct operands), [], All-nil (IsLetterOver (distinct operands)), refl)
sets_reached relation operands by_name orders few contradicts (suc (suc state)) below = absurd (omega (arith, below))

-- sets have one order
orders_of_three : (s t u : ℕ) → HaveOneOrder (set s ∷ set t ∷ set u ∷ [])
orders_of_three s t u v w v_among w_among same = is_set v v_among ∙ ap set same ∙ sym (is_set w w_among)
  where
    is_set : (v : Variable) → IsAmong (set s ∷ set t ∷ set u ∷ []) v → v ≡ set v.name
    is_set v (inl here) = sym here ∙ ap (λ (w : Variable). set w.name) here
    is_set v (inr (inl here)) = sym here ∙ ap (λ (w : Variable). set w.name) here
    is_set v (inr (inr (inl here))) = sym here ∙ ap (λ (w : Variable). set w.name) here
    is_set v (inr (inr (inr never))) = absurd never

pub orders_of_two : (s t : ℕ) → HaveOneOrder (set s ∷ set t ∷ [])
orders_of_two s t v w v_among w_among same = orders_of_three s t t v w (more v v_among) (more w w_among) same
  where
    more : (v : Variable) → IsAmong (set s ∷ set t ∷ []) v → IsAmong (set s ∷ set t ∷ set t ∷ []) v
    more v (inl here) = inl here
    more v (inr (inl here)) = inr (inl here)
    more v (inr (inr never)) = absurd never

sub_reached : (s t : ℕ) → s ≢ t → HasStatesReachedOver (set s ∷ set t ∷ []) (sets_table Sub)
sub_reached s t differ =
    sets_reached Sub (set s ∷ set t ∷ []) (λ name. nat_eq name s) (orders_of_two s t) (omega arith)
    (ap₂ (λ one other. not one || other) (same-eqb s) (differ-eqb t s (λ same. differ (sym same))))

-- of three sets that are not all one, two differ
by_difference : (s t u : ℕ) (Fact : Type 0) → (s ≢ t → Fact) → (s ≡ t → s ≢ u → Fact) → (s == t && t == u) ≡ false → Fact
by_difference s t u Fact first second differ = by_test (s == t) (t == u) (told s t) (told t u) differ
  where
    by_test : (one other : Bool) → Tells one s t → Tells other t u → (one && other) ≡ false → Fact
    by_test false other apart tells differ = first apart
    by_test true false same apart differ = second same (λ equal. apart (sym same ∙ equal))
    by_test true true same equal differ = let never : ⊥ = cc in absurd never

union_reached : (s t u : ℕ) → (s == t && t == u) ≡ false → HasStatesReachedOver (set s ∷ set t ∷ set u ∷ []) (sets_table Union)
union_reached s t u = by_difference s t u (HasStatesReachedOver (set s ∷ set t ∷ set u ∷ []) (sets_table Union))
    (λ apart. sets_reached Union (set s ∷ set t ∷ set u ∷ []) (λ name. nat_eq name t) (orders_of_three s t u) (omega arith)
    (ap₂ (λ one other. is_same one (other || nat_eq u t)) (differ-eqb s t apart) (same-eqb t)))
    (λ same apart. sets_reached Union (set s ∷ set t ∷ set u ∷ []) (λ name. nat_eq name u) (orders_of_three s t u) (omega arith)
    (ap (λ other. is_same (nat_eq s u) (other || nat_eq u u)) (ap (λ name. nat_eq name u) (sym same))
    ∙ ap₂ (λ one other. is_same one (one || other)) (differ-eqb s u apart) (same-eqb u)))

inter_reached : (s t u : ℕ) → (s == t && t == u) ≡ false → HasStatesReachedOver (set s ∷ set t ∷ set u ∷ []) (sets_table Inter)
inter_reached s t u = by_difference s t u (HasStatesReachedOver (set s ∷ set t ∷ set u ∷ []) (sets_table Inter))
    (λ apart. sets_reached Inter (set s ∷ set t ∷ set u ∷ []) (λ name. nat_eq name s) (orders_of_three s t u) (omega arith)
    (ap₂ (λ one other. is_same one (other && nat_eq u s)) (same-eqb s) (differ-eqb t s (λ equal. apart (sym equal)))))
    (λ same apart. sets_reached Inter (set s ∷ set t ∷ set u ∷ []) (λ name. nat_eq name s) (orders_of_three s t u) (omega arith)
    (ap (λ other. is_same (nat_eq s s) (other && nat_eq u s)) (ap (λ name. nat_eq name s) (sym same))
    ∙ ap₂ (λ one other. is_same one (one && other)) (same-eqb s) (differ-eqb u s (λ equal. apart (sym equal)))))

-- each relation between sets, where it is not one that holds of its operands as they are one
pub relation_reached : (relation : SetRelation) (s t u : ℕ) → is_of_itself relation s t u ≡ false
    → HasStatesReachedOver (variables_of_basic (sets_form relation s t u)) (sets_table relation)
relation_reached Sub s t u differ = sub_reached s t (eqb-false s t differ)
relation_reached Union s t u differ = union_reached s t u differ
relation_reached Inter s t u differ = inter_reached s t u differ
relation_reached Diff s t u differ = sets_reached Diff (set s ∷ set t ∷ set u ∷ []) (λ name. true) (orders_of_three s t u) (omega arith) refl

pub relation_orders : (relation : SetRelation) (s t u : ℕ) → HaveOneOrder (variables_of_basic (sets_form relation s t u))
relation_orders Sub s t u = orders_of_two s t
relation_orders Union s t u = orders_of_three s t u
relation_orders Inter s t u = orders_of_three s t u
relation_orders Diff s t u = orders_of_three s t u
