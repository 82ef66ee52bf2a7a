-- Readers that tell whether a basic relation holds: by the machine that decides it, which reads the bits of its operands.
use Rattle.std.proofs.Common.{◌≡◌, ℕ, zero, suc, ◌+◌, ◌<◌, ◌≤◌, Bool, true, false, cond, if◌then◌else◌, IsTrue, inl, inr, ⊎_elim, ◌↔◌, List, [], ◌∷◌, length, map, refl, sym, ◌∙◌, ap, subst, arith}
use Rattle.std.specs.List.{range_with_len}
use Rattle.std.proofs.lemmas.Bool.{cases_eq, false≢true}
use Rattle.ms_list.specs.declared.word.Word.{Word}
use Rattle.ms_logic.specs.declared.mode.Mode.{Mode}
use Rattle.ms_logic.specs.declared.mode.Order.{Order}
use Rattle.ms_logic.specs.declared.mode.Order.TheVariants.{Zero, One, Two}
use Rattle.ms_logic.specs.Assignment.{Env, Variable, GivesEach, IsValueOf, value_at}
use Rattle.ms_logic.specs.FiniteSet.{numbers_below}
use Rattle.ms_logic.specs.Letters.{bound_at, bound_of, letter_at, truth_values_of}
use Rattle.ms_logic.specs.Lists.{IsAmong}
use Rattle.ms_logic_core.specs.CoreForm.{Holds}
use Rattle.ms_logic_core.specs.Operands.{variables_of_basic}
use Rattle.ms_logic_core.specs.declared.core_formula.Basic.{Basic}
use Rattle.ms_logic_core.specs.declared.core_formula.Basic.TheVariants.{Truth, Number, Plus, Less, Member, Sub, Union, Inter, Diff, Up, Down, Min, Max, Bits}
use Rattle.ms_logic_words.specs.Content.{is_in_letters, is_truth_value}
use Rattle.ms_logic_words.specs.declared.sign.Sign.{Sign}
use Rattle.ms_logic_words.specs.declared.sign.Sign.TheVariants.{Yes, No, Undefined, Outside}
use Rattle.ms_dfa_explore.specs.Small.{TransitionTable}
use Rattle.ms_dfa_explore.specs.declared.small.TrackBits.{TrackBits}
use Rattle.ms_basic.specs.Bits.{bits_table, digits_of}
use Rattle.ms_basic.specs.inner.Reading.{bit_of, operand_bit, operand_bits, operand_truth, operand_truths, state_behind, truth_of}
use Rattle.ms_basic.specs.inner.Relation.{DecidesRelation, IsRight}
use Rattle.ms_basic.proofs.BitsLemmas.{decides_bits}
use Rattle.ms_basic.proofs.DownLemmas.{decides_down}
use Rattle.ms_basic.proofs.GreatestLemmas.{decides_max}
use Rattle.ms_basic.proofs.LeastLemmas.{decides_min}
use Rattle.ms_basic.proofs.LessLemmas.{decides_less}
use Rattle.ms_basic.proofs.MemberLemmas.{decides_member}
use Rattle.ms_basic.proofs.NumberLemmas.{decides_number}
use Rattle.ms_basic.proofs.PlusLemmas.{decides_plus}
use Rattle.ms_basic.proofs.SetsLemmas.{decides_diff, decides_inter, decides_sub, decides_union}
use Rattle.ms_basic.proofs.TruthLemmas.{decides_truth}
use Rattle.ms_basic.proofs.UpLemmas.{decides_up}
use Rattle.ms_logic_readers.proofs.Bits.{letter-by, own_bit, own-of-bits, truths-by}
use Rattle.ms_logic_readers.specs.Scoped.{AreDistinct}
use Rattle.ms_logic_machines.proofs.Choices.{Among}
use Rattle.ms_logic_readers.proofs.Readers.{Reader, TellsAt, read}

-- numbers below a count are choices
pub among-range : (start count k : ℕ) → start ≤ k → k < start + count → Among k (range_with_len start count)
among-range start zero k above below = absurd (omega (arith, above, below))
among-range start (suc count) k above below =
    ⊎_elim (λ same. inl same) (λ differs. inr (among-range (start + 1) count k (omega (arith, above, differs)) (omega (arith, below)))) (cases_eq start k)

pub range-among : (start count k : ℕ) → Among k (range_with_len start count) → k < start + count
range-among start zero k among = absurd among
range-among start (suc count) k among = ⊎_elim (λ same. omega (arith, same)) (λ later. omega (arith, range-among (start + 1) count k later)) among

-- what one value of a list has

pub gives-one : (vs : List Variable) (e : Env) (v : Variable) → GivesEach vs e → IsAmong vs v → IsValueOf v.order e.universe (value_at v.order v.name e)
gives-one [] e v gives among = absurd among
gives-one (w ∷ vs) e v gives among =
    let P : Variable → Type 0 = λ u. IsValueOf u.order e.universe (value_at u.order u.name e) in
    ⊎_elim (λ same. subst P same gives.0) (λ later. gives-one vs e v gives.1 later) among

pub bound-one : (vs : List Variable) (e : Env) (v : Variable) → IsAmong vs v → bound_at v.order v.name e ≤ bound_of vs e
bound-one [] e v among = absurd among
bound-one (w ∷ vs) e v among =
    ⊎_elim (λ same. omega (arith, ap (λ (u : Variable). bound_at u.order u.name e) same)) (λ later. omega (arith, bound-one vs e v later)) among

module _ (all : List Variable) where
  -- the variables of another list are among these
  pub gives-fewer : (vs : List Variable) (e : Env) → ((v : Variable) → IsAmong vs v → IsAmong all v) → GivesEach all e → GivesEach vs e
  gives-fewer [] e covered gives = tt
  gives-fewer (v ∷ vs) e covered gives = (gives-one all e v gives (covered v (inl refl)), gives-fewer vs e (λ w among. covered w (inr among)) gives)

  pub bound-fewer : (vs : List Variable) (e : Env) → ((v : Variable) → IsAmong vs v → IsAmong all v) → bound_of vs e ≤ bound_of all e
  bound-fewer [] e covered = omega arith
  bound-fewer (v ∷ vs) e covered = omega (arith, bound-one all e v (covered v (inl refl)), bound-fewer vs e (λ w among. covered w (inr among)))

-- the bits of operands

no-bit : (o : Order) (x : ℕ) (e : Env) (p : ℕ) → is_in_letters o ≡ false → bit_of o x e p ≡ false
no-bit Zero x e p lacks = refl
no-bit One x e p lacks = absurd (false≢true (sym lacks))
no-bit Two x e p lacks = absurd (false≢true (sym lacks))

no-truth : (o : Order) (x : ℕ) (e : Env) → is_truth_value o ≡ false → truth_of o x e ≡ false
no-truth Zero x e lacks = absurd (false≢true (sym lacks))
no-truth One x e lacks = refl
no-truth Two x e lacks = refl

module _ (mode : Mode) (variables : List Variable) (distinct : AreDistinct variables) where
  abbrev operand_read : (Order → Bool) → List Variable → ℕ → List Bool → Bool
  operand_read has [] operand bits = false
  operand_read has (v ∷ vs) zero bits = if has v.order then own_bit has variables bits v.name else false
  operand_read has (v ∷ vs) (suc operand) bits = operand_read has vs operand bits

  abbrev operands_read : (Order → Bool) → List Variable → List Bool → TrackBits
  operands_read has vs bits = record { first = operand_read has vs 0 bits; second = operand_read has vs 1 bits; third = operand_read has vs 2 bits }

  pub bit-read : (v : Variable) (e : Env) (p : ℕ) → IsAmong variables v → is_in_letters v.order ≡ true → own_bit is_in_letters variables (letter_at variables e p) v.name ≡ bit_of v.order v.name e p
  bit-read v e p among has =
      ap (λ (l : List Bool). own_bit is_in_letters variables l v.name) (letter-by variables e p) ∙ own-of-bits is_in_letters variables (λ w. bit_of w.order w.name e p) distinct v among has

  pub truth-read : (v : Variable) (e : Env) → IsAmong variables v → is_truth_value v.order ≡ true → own_bit is_truth_value variables (truth_values_of variables e) v.name ≡ truth_of v.order v.name e
  truth-read v e among has =
      ap (λ (l : List Bool). own_bit is_truth_value variables l v.name) (truths-by variables e) ∙ own-of-bits is_truth_value variables (λ w. truth_of w.order w.name e) distinct v among has

  operand-bit : (vs : List Variable) (operand : ℕ) (e : Env) (p : ℕ) → ((v : Variable) → IsAmong vs v → IsAmong variables v) → operand_read is_in_letters vs operand (letter_at variables e p) ≡ operand_bit vs operand e p
  operand-bit [] operand e p covered = refl
  operand-bit (v ∷ vs) zero e p covered = by-test (is_in_letters v.order) refl
    where
      by-test : (t : Bool) → is_in_letters v.order ≡ t → cond t (own_bit is_in_letters variables (letter_at variables e p) v.name) false ≡ bit_of v.order v.name e p
      by-test true has = bit-read v e p (covered v (inl refl)) has
      by-test false lacks = sym (no-bit v.order v.name e p lacks)
  operand-bit (v ∷ vs) (suc operand) e p covered = operand-bit vs operand e p (λ w among. covered w (inr among))

  operand-truth : (vs : List Variable) (operand : ℕ) (e : Env) → ((v : Variable) → IsAmong vs v → IsAmong variables v) → operand_read is_truth_value vs operand (truth_values_of variables e) ≡ operand_truth vs operand e
  operand-truth [] operand e covered = refl
  operand-truth (v ∷ vs) zero e covered = by-test (is_truth_value v.order) refl
    where
      by-test : (t : Bool) → is_truth_value v.order ≡ t → cond t (own_bit is_truth_value variables (truth_values_of variables e) v.name) false ≡ truth_of v.order v.name e
      by-test true has = truth-read v e (covered v (inl refl)) has
      by-test false lacks = sym (no-truth v.order v.name e lacks)
  operand-truth (v ∷ vs) (suc operand) e covered = operand-truth vs operand e (λ w among. covered w (inr among))

  module _ (form : Basic) (table : TransitionTable) (decides : DecidesRelation mode (variables_of_basic form) form table) (covered : (v : Variable) → IsAmong (variables_of_basic form) v → IsAmong variables v) where
    abbrev operands : List Variable
    operands = variables_of_basic form

    abbrev first : List Bool → ℕ
    first truth = table.start (operands_read is_truth_value operands truth)

    abbrev step : ℕ → List Bool → ℕ
    step state letter = table.step state (operands_read is_in_letters operands letter)

    same-truths : (e : Env) → operands_read is_truth_value operands (truth_values_of variables e) ≡ operand_truths operands e
    same-truths e = λ i. record { first = operand-truth operands 0 e covered i; second = operand-truth operands 1 e covered i; third = operand-truth operands 2 e covered i }

    same-letters : (e : Env) (p : ℕ) → operands_read is_in_letters operands (letter_at variables e p) ≡ operand_bits operands e p
    same-letters e p = λ i. record { first = operand-bit operands 0 e p covered i; second = operand-bit operands 1 e p covered i; third = operand-bit operands 2 e p covered i }

    read-behind : (e : Env) (p count : ℕ) → read step (state_behind table operands e p) (map (letter_at variables e) (range_with_len p count)) ≡ state_behind table operands e (p + count)
    read-behind e p zero = let same : p ≡ p + 0 = omega arith in ap (state_behind table operands e) same
    read-behind e p (suc count) =
        let next : suc p ≡ p + 1 = omega arith in
        let last : p + 1 + count ≡ p + suc count = omega arith in
        ap (λ s. read step s (map (letter_at variables e) (range_with_len (p + 1) count)))
        (ap (table.step (state_behind table operands e p)) (same-letters e p) ∙ ap (state_behind table operands e) next)
        ∙ (read-behind e (p + 1) count ∙ ap (state_behind table operands e) last)

    abbrev is_yes : Sign → Bool
    is_yes Yes = true
    is_yes No = false
    is_yes Undefined = false
    is_yes Outside = false

    told-by : (Fact : Type 0) (sign : Sign) → IsRight Fact sign → Fact ↔ IsTrue (is_yes sign)
    told-by Fact Yes holds = ((λ h. refl), (λ is. holds))
    told-by Fact No fails = ((λ h. absurd (fails h)), (λ is. absurd (false≢true is)))
    told-by Fact Undefined none = absurd none
    told-by Fact Outside none = absurd none

    relation-told : (word : Word) → TellsAt mode variables (Holds form) word (is_yes (table.sign (read step (first word.truth) word.letters)))
    relation-told word e assigned encodes =
        let n = length word.letters in
        let room = bound-fewer variables operands e covered in
        let right = decides.right e n (record { universe = assigned.universe; values = gives-fewer variables operands e covered assigned.values }) (omega (arith, room, encodes.room)) encodes.string in
        let began : first word.truth ≡ state_behind table operands e 0 = ap first encodes.truth ∙ ap table.start (same-truths e) in
        let whole : 0 + n ≡ n = omega arith in
        let ends : read step (first word.truth) word.letters ≡ state_behind table operands e n =
        ap (λ s. read step s word.letters) began ∙ ap (read step (state_behind table operands e 0)) encodes.letters
        ∙ (read-behind e 0 n ∙ ap (state_behind table operands e) whole) in
        let P : ℕ → Type 0 = λ s. Holds form e ↔ IsTrue (is_yes (table.sign s)) in
        subst P (sym ends) (told-by (Holds form e) (table.sign (state_behind table operands e n)) right)

    by-table : Reader (TellsAt mode variables (Holds form))
    by-table = record {
      State = ℕ;
      test = cases_eq;
      states = numbers_below table.states;
      start = first;
      next = step;
      accepts = λ s. is_yes (table.sign s);
      start_among = λ truth. among-range 0 table.states (first truth) (omega arith) (omega (arith, decides.closed.start (operands_read is_truth_value operands truth)));
      next_among = λ s letter among.
          among-range 0 table.states (step s letter) (omega arith)
          (omega (arith, decides.closed.step s (operands_read is_in_letters operands letter) (omega (arith, range-among 0 table.states s among))));
      right = relation-told;
    }

  pub relation-reader : (form : Basic) → ((v : Variable) → IsAmong (variables_of_basic form) v → IsAmong variables v) → Reader (TellsAt mode variables (Holds form))
  relation-reader (Truth a) = by-table (Truth a) _ (decides_truth mode a)
  relation-reader (Number x n) = by-table (Number x n) _ (decides_number mode x n)
  relation-reader (Plus x y n) = by-table (Plus x y n) _ (decides_plus mode x y n)
  relation-reader (Less x y) = by-table (Less x y) _ (decides_less mode x y)
  relation-reader (Member x s) = by-table (Member x s) _ (decides_member mode x s)
  relation-reader (Sub s t) = by-table (Sub s t) _ (decides_sub mode s t)
  relation-reader (Union s t u) = by-table (Union s t u) _ (decides_union mode s t u)
  relation-reader (Inter s t u) = by-table (Inter s t u) _ (decides_inter mode s t u)
  relation-reader (Diff s t u) = by-table (Diff s t u) _ (decides_diff mode s t u)
  relation-reader (Up s t n) = by-table (Up s t n) _ (decides_up mode s t n)
  relation-reader (Down s t n) = by-table (Down s t n) _ (decides_down mode s t n)
  relation-reader (Min x s) = by-table (Min x s) _ (decides_min mode x s)
  relation-reader (Max x s) = by-table (Max x s) _ (decides_max mode x s)
  relation-reader (Bits s n) = by-table (Bits s n) (bits_table mode n (digits_of n)) (decides_bits mode s n (digits_of n) refl)
