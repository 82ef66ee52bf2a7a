-- Machines whose states letters of operands tell apart do so over the tracks of these operands.
use Rattle.std.proofs.Common.{◌≡◌, ◌≢◌, ℕ, zero, suc, ◌<◌, nat_eq, inl, inr, Bool, true, false, if◌then◌else◌, IsTrue, List, [], ◌∷◌, All, map, refl, sym, ap, subst, ◌∙◌, arith}
use Rattle.std.proofs.lemmas.Bool.{eq-eqb, eqb-true}
use Rattle.ms_logic.specs.Assignment.{Variable}
use Rattle.ms_logic.specs.declared.mode.Order.TheVariants as order
use Rattle.ms_logic_words.specs.Content.{is_in_letters}
use Rattle.ms_logic_words.specs.declared.sign.Sign.{Sign}
use Rattle.ms_dfa_explore.specs.declared.small.TrackBits.{TrackBits}
use Rattle.ms_dfa_explore.specs.Small.{TransitionTable}
use Rattle.ms_dfa_explore.specs.Tracks.{distinct}
use Rattle.ms_basic.specs.Operands.{HaveOneOrder, number, set}
use Rattle.ms_basic.specs.Verdict.{sign_by_contradiction}
use Rattle.ms_basic.specs.inner.Apart.{AreApartBy, AreOf, HasStatesApart, HasStatesApartOver, IsLetterOver, state_by}
use Rattle.ms_basic.specs.inner.Reading.{read_at, wired, wiring_of}
use Rattle.ms_basic.specs.inner.Repeated.{constant_table}
use Rattle.ms_basic.proofs.ByNames.{bits_over, named_bits, operands_read}

-- states of different signs are told apart by no letters
pub at_once : (IsLetter : TrackBits → Type 0) (table : TransitionTable) (one other : ℕ) → table.sign one ≢ table.sign other → AreApartBy IsLetter table one other
at_once IsLetter table one other differ = ([], (λ k d less. absurd (omega (arith, less))), differ)

-- the bits of so many operands can be read from letters over their tracks
pub record IsReadThrough (operands : List Variable) (count : ℕ) (back : TrackBits → TrackBits) : Type 0 where
  pub reads : (bits : TrackBits) → AreOf count bits → read_at (wiring_of operands (distinct operands)) (back bits) ≡ bits
  pub letter : (bits : TrackBits) → IsLetterOver (distinct operands) (back bits)

module _ (operands : List Variable) (count : ℕ) (back : TrackBits → TrackBits) (through : IsReadThrough operands count back) (table : TransitionTable) where
  -- a machine over the tracks goes on as that over the operands
  abbrev over_tracks : TransitionTable
  over_tracks = wired (wiring_of operands (distinct operands)) table

  pub same_state : (state : ℕ) (letters : List TrackBits) → All (AreOf count) letters → state_by over_tracks state (map back letters) ≡ state_by table state letters
  same_state state [] of = refl
  same_state state (bits ∷ letters) of =
      ap (λ read. state_by over_tracks (table.step state read) (map back letters)) (through.reads bits (of zero bits (omega arith)))
      ∙ same_state (table.step state bits) letters (λ k d less. of (suc k) d (omega (arith, less)))

  pub all_letters : (letters : List TrackBits) → All (IsLetterOver (distinct operands)) (map back letters)
  all_letters [] k d less = absurd (omega (arith, less))
  all_letters (bits ∷ letters) zero d less = through.letter bits
  all_letters (bits ∷ letters) (suc k) d less = all_letters letters k d (omega (arith, less))

  -- so its states are told apart where those of the machine over the operands are
  apart_through : HasStatesApart count table → HasStatesApartOver operands table
  apart_through apart one other less below =
      let told = apart one other less below in (
        map back told.0,
        all_letters told.0,
        λ same. told.2 (sym (ap table.sign (same_state one told.0 told.1)) ∙ same ∙ ap table.sign (same_state other told.0 told.1)),
      )

pub differ-eqb : (a b : ℕ) → a ≢ b → nat_eq a b ≡ false
differ-eqb a b never = by_test (nat_eq a b) refl
  where
    by_test : (test : Bool) → nat_eq a b ≡ test → nat_eq a b ≡ false
    by_test true is = absurd (never (eqb-true a b is))
    by_test false is = is

pub same-eqb : (a : ℕ) → nat_eq a a ≡ true
same-eqb a = eq-eqb a a refl

-- variables of different names have one order by name
pub order_of_one : (v : Variable) → HaveOneOrder (v ∷ [])
order_of_one v a b (inl here) (inl also) same = sym here ∙ also
order_of_one v a b (inr never) among same = absurd never
order_of_one v a b (inl here) (inr never) same = absurd never

pub orders_of_two : (v w : Variable) → v.name ≢ w.name → HaveOneOrder (v ∷ w ∷ [])
orders_of_two v w names a b (inl is_v) (inl also) same = sym is_v ∙ also
orders_of_two v w names a b (inl is_v) (inr (inl is_w)) same = absurd (names (ap (λ (u : Variable). u.name) is_v ∙ same ∙ ap (λ (u : Variable). u.name) (sym is_w)))
orders_of_two v w names a b (inr (inl is_w)) (inl is_v) same = absurd (names (ap (λ (u : Variable). u.name) is_v ∙ sym same ∙ ap (λ (u : Variable). u.name) (sym is_w)))
orders_of_two v w names a b (inr (inl is_w)) (inr (inl also)) same = sym is_w ∙ also
orders_of_two v w names a b (inr (inr never)) among same = absurd never
orders_of_two v w names a b (inl is_v) (inr (inr never)) same = absurd never
orders_of_two v w names a b (inr (inl is_w)) (inr (inr never)) same = absurd never

-- one operand
abbrev pub back_one : Variable → TrackBits → TrackBits
back_one v bits = named_bits is_in_letters (λ name. bits.first) (distinct (v ∷ []))

pub through_one : (v : Variable) → IsTrue (is_in_letters v.order) → IsReadThrough (v ∷ []) 1 (back_one v)
through_one v in_letters = record {
  reads = λ bits of.
      operands_read is_in_letters (λ name. bits.first) (v ∷ []) (order_of_one v) (omega arith)
      ∙ (λ i. record {
        first = ap (λ test. if test then bits.first else false) in_letters i;
        second = sym (of 1 (omega arith)) i;
        third = sym (of 2 (omega arith)) i;
      });
  letter = λ bits. bits_over is_in_letters (λ name. bits.first) (distinct (v ∷ []));
}

pub apart_one : (v : Variable) (table : TransitionTable) → IsTrue (is_in_letters v.order) → HasStatesApart 1 table → HasStatesApartOver (v ∷ []) table
apart_one v table in_letters = apart_through (v ∷ []) 1 (back_one v) (through_one v in_letters) table

-- two operands, in whichever order their tracks stand
abbrev either_bit : ℕ → TrackBits → ℕ → Bool
either_bit first bits name = if nat_eq name first then bits.first else bits.second

abbrev pub back_two : Variable → Variable → TrackBits → TrackBits
back_two v w bits = named_bits is_in_letters (either_bit v.name bits) (distinct (v ∷ w ∷ []))

pub through_two : (v w : Variable) → v.name ≢ w.name → IsTrue (is_in_letters v.order) → IsTrue (is_in_letters w.order) → IsReadThrough (v ∷ w ∷ []) 2 (back_two v w)
through_two v w names v_in w_in = record {
  reads = λ bits of.
      operands_read is_in_letters (either_bit v.name bits) (v ∷ w ∷ []) (orders_of_two v w names) (omega arith)
      ∙ (λ i. record {
        first = (ap (λ test. if test then either_bit v.name bits v.name else false) v_in ∙ ap (λ test. if test then bits.first else bits.second) (same-eqb v.name)) i;
        second =
            (ap (λ test. if test then either_bit v.name bits w.name else false) w_in
            ∙ ap (λ test. if test then bits.first else bits.second) (differ-eqb w.name v.name (λ same. names (sym same)))) i;
        third = sym (of 2 (omega arith)) i;
      });
  letter = λ bits. bits_over is_in_letters (either_bit v.name bits) (distinct (v ∷ w ∷ []));
}

pub apart_two : (v w : Variable) (table : TransitionTable) → v.name ≢ w.name → IsTrue (is_in_letters v.order) → IsTrue (is_in_letters w.order) → HasStatesApart 2 table
    → HasStatesApartOver (v ∷ w ∷ []) table
apart_two v w table names v_in w_in = apart_through (v ∷ w ∷ []) 2 (back_two v w) (through_two v w names v_in w_in) table

-- a number and a set have different names, since variables of one name have one order
pub different_names : (x s : ℕ) → HaveOneOrder (number x ∷ set s ∷ []) → x ≢ s
different_names x s orders = λ same.
    let alike : order.One ≡ order.Two = ap (λ (v : Variable). v.order) (orders (number x) (set s) (inl refl) (inr (inl refl)) same) in
    let never : ⊥ = cc in never

-- two states, which are Yes and No
pub by_contradiction : (operands : List Variable) (table : TransitionTable) → table.states ≡ 2 → table.sign ≡ sign_by_contradiction → HasStatesApartOver operands table
by_contradiction operands table states signs one other less below =
    at_once (IsLetterOver (distinct operands)) (wired (wiring_of operands (distinct operands)) table) one other
    (subst (λ (sign : ℕ → Sign). sign one ≢ sign other) (sym signs) (differ one other less (omega (arith, below, states))))
  where
    differ : (i j : ℕ) → i < j → j < 2 → sign_by_contradiction i ≢ sign_by_contradiction j
    differ i zero before within = absurd (omega (arith, before))
    differ zero (suc zero) before within = λ same. cc
    differ (suc i) (suc zero) before within = absurd (omega (arith, before))
    differ i (suc (suc j)) before within = absurd (omega (arith, within))

-- one state
pub by_constant : (operands : List Variable) (holds : Bool) → HasStatesApartOver operands (constant_table holds)
by_constant operands holds one other less below = absurd (omega (arith, less, below))
