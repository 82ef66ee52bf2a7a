-- What is read off the bits of a word is the assignment that it encodes.
use Rattle.std.proofs.Common.{◌≡◌, ℕ, zero, suc, if◌then◌else◌, ◌+◌, ◌<◌, ◌≤◌, ◌==◌, max, Bool, true, false, ◌&&◌, ◌||◌, inl, inr, List, [], ◌∷◌, length, map, get_or, Some, None, refl, sym, ap, ◌∙◌, arith}
use Rattle.std.specs.List.{filter, range_with_len}
use Rattle.std.proofs.Math.Bool.{or-false}
use Rattle.std.proofs.lemmas.Bool.{cases_lt, false≢true}
use Rattle.std.proofs.lemmas.Bool.Decides.{nat_tests}
use Rattle.std.proofs.lemmas.List.FromFn.{get_or-map-range_with_len}
use Rattle.ms_list.specs.declared.word.Word.{Word}
use Rattle.ms_logic.specs.declared.mode.Mode.{Mode}
use Rattle.ms_logic.specs.declared.mode.Mode.TheVariants.{Ws1s, M2lStr}
use Rattle.ms_logic.specs.declared.mode.Order.{Order}
use Rattle.ms_logic.specs.declared.mode.Order.TheVariants.{Zero, One, Two}
use Rattle.ms_logic.specs.declared.assignment.Value.{Value}
use Rattle.ms_logic.specs.declared.assignment.Value.TheVariants.{Truth, Number, Set}
use Rattle.ms_logic.specs.Assignment.{Universe, Env, Variable, value_at, IsValueOf, GivesEach, IsAssignment, IsUniverseOf}
use Rattle.ms_logic_words.specs.inner.Decoding.{bit_in, positions_of, decoded_value, place_after, column_after, decoded_values, bound_of_value, bound_of_values, decoded_length}
use Rattle.ms_logic.specs.First.{length_of, length_by}
use Rattle.ms_logic.specs.FiniteSet.{IsRising, is_member, least, numbers_below}
use Rattle.ms_logic_words.specs.Word.{Encodes, HasLength}
use Rattle.ms_logic.specs.Letters.{with_truth_value, with_bit, truth_values_of, letter_at, bound_of_set, bound_at, bound_of}
use Rattle.ms_logic.proofs.Members.{is_member-filter, is_member-range, IsRising-filter, IsRising-range, no_member_from_bound}
use Rattle.ms_logic.proofs.SetLaws.{sets_are_their_members}

-- the numbers of a range that pass a test are below its end
bound-filter_range : (test : ℕ → Bool) (start count : ℕ) → bound_of_set (filter test (range_with_len start count)) ≤ start + count
bound-filter_range test start zero = omega arith
bound-filter_range test start (suc count) =
    let others = bound-filter_range test (start + 1) count in
    elim (test start) as (λ passes. bound_of_set (if passes then start ∷ filter test (range_with_len (start + 1) count) else filter test (range_with_len (start + 1) count)) ≤ start + suc count) [
      | true ↦ omega (arith, others)
      | false ↦ omega (arith, others)
    ]

-- the positions of a column are positions of the word
pub bound-positions_of : (letters : List (List Bool)) (column : ℕ) → bound_of_set (positions_of letters column) ≤ length letters
bound-positions_of letters column = omega (arith, bound-filter_range (bit_in letters column) 0 (length letters))

-- they are a set
pub rising-positions_of : (letters : List (List Bool)) (column : ℕ) → IsRising (positions_of letters column)
rising-positions_of letters column = IsRising-filter (bit_in letters column) (numbers_below (length letters)) (IsRising-range 0 (length letters))

-- a position is among them where its letter has the bit 1 in the column
pub is_member-positions_of : (letters : List (List Bool)) (column p : ℕ) → p < length letters → is_member p (positions_of letters column) ≡ bit_in letters column p
is_member-positions_of letters column p below =
    let inside : is_member p (numbers_below (length letters)) ≡ true = is_member-range p 0 (length letters) ∙ grind (arith, nat_tests, below) in
    is_member-filter p (bit_in letters column) (numbers_below (length letters)) ∙ ap (λ b. b && bit_in letters column p) inside

module _ (letters : List (List Bool)) (column : ℕ) (members : List ℕ) (rising : IsRising members) (within : bound_of_set members ≤ length letters)
    (bits : (p : ℕ) → p < length letters → bit_in letters column p ≡ is_member p members) where
  -- a number is a position of the column where it is a member
  same_member : (k : ℕ) → is_member k (positions_of letters column) ≡ is_member k members
  same_member k =
      elim (cases_lt k (length letters)) [
        | inl below ↦ is_member-positions_of letters column k below ∙ bits k below
        | inr above ↦
            no_member_from_bound (positions_of letters column) k (omega (arith, above, bound-positions_of letters column))
            ∙ sym (no_member_from_bound members k (omega (arith, above, within)))
      ]

  -- the positions of a column are the members that it stands for
  pub positions_are : positions_of letters column ≡ members
  positions_are =
      sets_are_their_members (positions_of letters column) members (rising-positions_of letters column) rising
      (λ n. (λ member. sym (same_member n) ∙ member, λ member. same_member n ∙ member))

-- the bounds of the values are those of the variables
pub bound_of_values-map : (vs : List Variable) (e : Env) → bound_of_values (map (λ v. value_at v.order v.name e) vs) ≡ bound_of vs e
bound_of_values-map [] e = refl
bound_of_values-map (v ∷ vs) e = ap (λ b. max b (bound_of_values (map (λ u. value_at u.order u.name e) vs))) (of_order v.order v.name) ∙ ap (max (bound_at v.order v.name e)) (bound_of_values-map vs e)
  where
    of_order : (order : Order) (x : ℕ) → bound_of_value (value_at order x e) ≡ bound_at order x e
    of_order Zero x = refl
    of_order One x = refl
    of_order Two x = refl

-- what a word says of variables, the first of which has its truth value or its column there
pub record Says (word : Word) (e : Env) (place column : ℕ) (vs : List Variable) : Type 0 where
  pub truth : (k : ℕ) → get_or word.truth (place + k) false ≡ get_or (truth_values_of vs e) k false
  pub bits : (p : ℕ) → p < length word.letters → (k : ℕ) → get_or (get_or word.letters p []) (column + k) false ≡ get_or (letter_at vs e p) k false
  pub values : GivesEach vs e
  pub room : bound_of vs e ≤ length word.letters

-- the same of a variable of an order, and of others behind it
pub record SaysFirst (word : Word) (e : Env) (place column : ℕ) (o : Order) (x : ℕ) (vs : List Variable) : Type 0 where
  pub truth : (k : ℕ) → get_or word.truth (place + k) false ≡ get_or (with_truth_value o x e (truth_values_of vs e)) k false
  pub bits : (p : ℕ) → p < length word.letters → (k : ℕ) → get_or (get_or word.letters p []) (column + k) false ≡ get_or (with_bit o x p e (letter_at vs e p)) k false
  pub own : IsValueOf o e.universe (value_at o x e)
  pub values : GivesEach vs e
  pub room : max (bound_at o x e) (bound_of vs e) ≤ length word.letters

-- what a word says of variables, it says of the first and of the others
pub says_of_first : (word : Word) (e : Env) (place column : ℕ) (v : Variable) (vs : List Variable) → Says word e place column (v ∷ vs)
    → SaysFirst word e place column v.order v.name vs
says_of_first word e place column v vs says = record { truth = says.truth; bits = says.bits; own = says.values.0; values = says.values.1; room = says.room }

module _ (word : Word) (e : Env) (place column x : ℕ) (vs : List Variable) where
  -- a position has the bit of the first variable in its column
  column_bit : (p : ℕ) (expected : Bool) → get_or (get_or word.letters p []) (column + 0) false ≡ expected → bit_in word.letters column p ≡ expected
  column_bit p expected is = let same : column + 0 ≡ column = omega arith in ap (λ c. get_or (get_or word.letters p []) c false) (sym same) ∙ is

  -- the column of a number has the bit 1 at the number alone
  pub one_position : SaysFirst word e place column One x vs → positions_of word.letters column ≡ e.number x ∷ []
  one_position says =
      positions_are word.letters column (e.number x ∷ []) (tt, tt) (omega (arith, says.room))
      (λ p below. column_bit p ((e.number x == p) || false) (says.bits p below 0 ∙ sym (or-false (e.number x == p))))

  -- the decoded value of the first variable is its value
  first_is : (o : Order) → SaysFirst word e place column o x vs → decoded_value word o place column ≡ value_at o x e
  first_is Zero says = let same : place + 0 ≡ place = omega arith in ap Truth (ap (λ k. get_or word.truth k false) (sym same) ∙ says.truth 0)
  first_is One says = ap (λ members. Number (least members)) (one_position says)
  first_is Two says =
      ap Set (positions_are word.letters column (e.set x) says.own.0 (omega (arith, says.room)) (λ p below. column_bit p (is_member p (e.set x)) (says.bits p below 0)))

  -- and the word says of the others what they have
  pub others_are : (o : Order) → SaysFirst word e place column o x vs → Says word e (place_after o place) (column_after o column) vs
  others_are Zero says = record {
    truth = λ k. let same : place + 1 + k ≡ place + suc k = omega arith in rw same (says.truth (suc k));
    bits = says.bits;
    values = says.values;
    room = omega (arith, says.room);
  }
  others_are One says = record {
    truth = says.truth;
    bits = λ p below k. let same : column + 1 + k ≡ column + suc k = omega arith in rw same (says.bits p below (suc k));
    values = says.values;
    room = omega (arith, says.room);
  }
  others_are Two says = record {
    truth = says.truth;
    bits = λ p below k. let same : column + 1 + k ≡ column + suc k = omega arith in rw same (says.bits p below (suc k));
    values = says.values;
    room = omega (arith, says.room);
  }

-- the values that are read are those of the assignment
pub decoded_is : (word : Word) (e : Env) (vs : List Variable) (place column : ℕ) → Says word e place column vs
    → decoded_values word place column vs ≡ map (λ v. value_at v.order v.name e) vs
decoded_is word e [] place column says = refl
decoded_is word e (v ∷ vs) place column says =
    let first = says_of_first word e place column v vs says in
    ap (λ value. value ∷ decoded_values word (place_after v.order place) (column_after v.order column) vs) (first_is word e place column v.name vs v.order first)
    ∙ ap (λ values. value_at v.order v.name e ∷ values) (decoded_is word e vs (place_after v.order place) (column_after v.order column) (others_are word e place column v.name vs v.order first))

-- a word says of all its variables what it encodes
pub says_all : (mode : Mode) (word : Word) (vs : List Variable) (e : Env) → IsAssignment mode vs e → Encodes vs word e → Says word e 0 0 vs
says_all mode word vs e is_assignment encodes = record {
  truth = λ k. let same : 0 + k ≡ k = omega arith in rw same (ap (λ values. get_or values k false) encodes.truth);
  bits = λ p below k.
      let same : 0 + k ≡ k = omega arith in
      rw same
      (ap (λ letter. get_or letter k false)
      (ap (λ letters. get_or letters p []) encodes.letters ∙ get_or-map-range_with_len (letter_at vs e) 0 (length word.letters) p p [] below (omega arith)));
  values = is_assignment.values;
  room = encodes.room;
}

-- and the length is that of the assignment
pub decoded_length_is : (mode : Mode) (word : Word) (vs : List Variable) (e : Env) → IsAssignment mode vs e → Encodes vs word e
    → decoded_length mode (length word.letters) (bound_of vs e) ≡ length_of vs e
decoded_length_is mode word vs e is_assignment encodes = by_mode mode e.universe is_assignment.universe encodes.string
  where
    by_mode : (mode : Mode) (universe : Universe) → IsUniverseOf mode universe → HasLength universe (length word.letters)
        → decoded_length mode (length word.letters) (bound_of vs e) ≡ length_by universe (bound_of vs e)
    by_mode Ws1s None is long = refl
    by_mode Ws1s (Some n) is long = let never : ⊥ = cc in absurd never
    by_mode M2lStr None is long = absurd (false≢true is)
    by_mode M2lStr (Some n) is long = long

-- the values, and their bound, by the assignment that a word encodes
pub values_are : (mode : Mode) (word : Word) (vs : List Variable) (e : Env) (values : List Value) → IsAssignment mode vs e → Encodes vs word e
    → values ≡ decoded_values word 0 0 vs → values ≡ map (λ v. value_at v.order v.name e) vs
values_are mode word vs e values is_assignment encodes read = read ∙ decoded_is word e vs 0 0 (says_all mode word vs e is_assignment encodes)

pub bound_is : (mode : Mode) (word : Word) (vs : List Variable) (e : Env) (values : List Value) → IsAssignment mode vs e → Encodes vs word e
    → values ≡ decoded_values word 0 0 vs → bound_of_values values ≡ bound_of vs e
bound_is mode word vs e values is_assignment encodes read = ap bound_of_values (values_are mode word vs e values is_assignment encodes read) ∙ bound_of_values-map vs e
