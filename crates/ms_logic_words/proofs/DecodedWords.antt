-- Each word over variables, in which the column of each variable of order 1 has exactly one 1, encodes the assignment
-- that it is read as.
use Rattle.std.proofs.Common.{◌≡◌, ℕ, zero, suc, ◌+◌, ◌<◌, ◌≤◌, ◌==◌, Bool, false, if◌then◌else◌, ◌↔◌, List, [], ◌∷◌, length, map, get_or, None, refl, sym, ap, subst, ◌∙◌, arith}
use Rattle.std.proofs.Math.Bool.{or-false}
use Rattle.std.proofs.lemmas.List.{ext_get_or, get_or_past}
use Rattle.std.proofs.lemmas.List.Elements.{All-from_recursion}
use Rattle.std.proofs.lemmas.List.FromFn.{get_or-map-range_with_len}
use Rattle.ms_list.specs.declared.word.Word.{Word}
use Rattle.ms_logic.specs.declared.mode.Mode.{Mode}
use Rattle.ms_logic.specs.declared.mode.Mode.TheVariants.{Ws1s, M2lStr}
use Rattle.ms_logic.specs.declared.mode.Order.{Order}
use Rattle.ms_logic.specs.declared.mode.Order.TheVariants.{Zero, One, Two}
use Rattle.ms_logic.specs.declared.assignment.Value.{Value}
use Rattle.ms_logic.specs.Assignment.{Universe, Env, Variable, AllWithin, IsWithin, IsValueOf, IsUniverseOf, IsAssignment, assign, value_at}
use Rattle.ms_logic_words.specs.Content.{IsWordOver, count_of, env_of, is_truth_value, is_in_letters}
use Rattle.ms_logic_words.specs.inner.Decoding.{AreSets, HasOneBit, HaveOneBit, HasOneBitEach, positions_of, decoded_value, place_after, column_after, decoded_values, decoded_universe, decoded}
use Rattle.ms_logic.specs.FiniteSet.{IsRising, is_member, least}
use Rattle.ms_logic.specs.Lists.{AreRising, IsBelowFirst}
use Rattle.ms_logic_words.specs.Word.{Encodes, HasLength, IsEncoding}
use Rattle.ms_logic.specs.Letters.{truth_values_of, letter_at, bound_of_set}
use Rattle.ms_logic.proofs.Agreement.{universe-assign_all}
use Rattle.ms_logic_words.proofs.DecodingLemmas.{Says, SaysFirst, bound-positions_of, rising-positions_of, is_member-positions_of, says_of_first, one_position, others_are, says_all}
use Rattle.ms_logic.proofs.Members.{all_natural}
use Rattle.ms_logic.proofs.AssignedValues.{value_at-assign, value_at-assign_other}
use Rattle.ms_logic_words.proofs.WordLaws.{encoding_is_over, length-letters_below, length-truth_values, length-letter}

-- a list of one number is that number
one_alone : (members : List ℕ) → length members ≡ 1 → members ≡ least members ∷ []
one_alone [] one = absurd (omega arith)
one_alone (only ∷ []) one = refl
one_alone (first ∷ second ∷ more) one = absurd (omega arith)

-- what is below a number that the universe reaches is within the universe
all_within : (universe : Universe) (n : ℕ) → ((m : ℕ) → m < n → IsWithin universe m) → (members : List ℕ) → bound_of_set members ≤ n → AllWithin universe members
all_within universe n within [] below = tt
all_within universe n within (first ∷ more) below = (within first (omega arith), all_within universe n within more (omega arith))

-- a decoded value is one of its order
decoded_value_valid : (word : Word) (o : Order) (place column : ℕ) → IsValueOf o None (decoded_value word o place column)
decoded_value_valid word Zero place column = tt
decoded_value_valid word One place column = tt
decoded_value_valid word Two place column = (rising-positions_of word.letters column, all_natural (positions_of word.letters column))

-- a number below a variable's is below those of the variables behind it
below_next : (x : ℕ) (v : Variable) (vs : List Variable) → x < v.name → IsBelowFirst v.name vs → IsBelowFirst x vs
below_next x v [] below rising = tt
below_next x v (w ∷ vs) below rising = omega (arith, below, rising)

-- the values of variables behind another stay when that one is assigned
later_keep : (x : ℕ) (value : Value) (e : Env) (vs : List Variable) → IsBelowFirst x vs → AreRising vs
    → map (λ v. value_at v.order v.name (assign x value e)) vs ≡ map (λ v. value_at v.order v.name e) vs
later_keep x value e [] below rising = refl
later_keep x value e (v ∷ vs) below rising =
    let first = value_at-assign_other v.order x value v.name e (λ same. omega (arith, below, same)) in
    let others = later_keep x value e vs (below_next x v vs below rising.0) rising.1 in cc

-- each variable has its decoded value, where their numbers rise
pub decoded_gives : (universe : Universe) (word : Word) (vs : List Variable) (place column : ℕ) → AreRising vs
    → map (λ v. value_at v.order v.name (env_of universe vs (decoded_values word place column vs))) vs ≡ decoded_values word place column vs
decoded_gives universe word [] place column rising = refl
decoded_gives universe word (v ∷ vs) place column rising =
    let value = decoded_value word v.order place column in
    let e = env_of universe vs (decoded_values word (place_after v.order place) (column_after v.order column) vs) in
    let first = value_at-assign v.order v.name value e None (decoded_value_valid word v.order place column) in
    let kept = later_keep v.name value e vs rising.0 rising.1 in
    let others = decoded_gives universe word vs (place_after v.order place) (column_after v.order column) rising.1 in cc

-- the truth values and the columns that are left behind the first variable
truth_after : (o : Order) (n m place : ℕ) → n ≡ place + (if is_truth_value o then m + 1 else m) → n ≡ place_after o place + m
truth_after Zero n m place same = omega arith
truth_after One n m place same = same
truth_after Two n m place same = same

columns_after : (o : Order) (n m column : ℕ) → n ≡ column + (if is_in_letters o then m + 1 else m) → n ≡ column_after o column + m
columns_after Zero n m column same = same
columns_after One n m column same = omega arith
columns_after Two n m column same = omega arith

module _ (word : Word) (e : Env) (within : (m : ℕ) → m < length word.letters → IsWithin e.universe m) where
  -- a column that stands for members comes in front of those that say of the other variables what they have
  with_column : (members : List ℕ) (column : ℕ) (vs : List Variable) → positions_of word.letters column ≡ members
      → ((p : ℕ) → p < length word.letters → (k : ℕ) → get_or (get_or word.letters p []) (column + 1 + k) false ≡ get_or (letter_at vs e p) k false)
      → (p : ℕ) → p < length word.letters → (k : ℕ) → get_or (get_or word.letters p []) (column + k) false ≡ get_or (is_member p members ∷ letter_at vs e p) k false
  with_column members column vs positions others p below zero =
      let same : column + 0 ≡ column = omega arith in
      ap (λ c. get_or (get_or word.letters p []) c false) same ∙ sym (is_member-positions_of word.letters column p below) ∙ ap (is_member p) positions
  with_column members column vs positions others p below (suc k) =
      let same : column + suc k ≡ column + 1 + k = omega arith in ap (λ c. get_or (get_or word.letters p []) c false) same ∙ others p below k

  -- the members that a column stands for are positions
  members_below : (members : List ℕ) (column : ℕ) → positions_of word.letters column ≡ members → bound_of_set members ≤ length word.letters
  members_below members column positions = omega (arith, ap bound_of_set positions, bound-positions_of word.letters column)

  -- the word says of the first variable what it has, where that is its decoded value
  says_first : (o : Order) (x place column : ℕ) (vs : List Variable) → value_at o x e ≡ decoded_value word o place column → HasOneBit word.letters o column
      → Says word e (place_after o place) (column_after o column) vs → SaysFirst word e place column o x vs
  says_first Zero x place column vs is one says = record {
    truth = by_place;
    bits = says.bits;
    own = tt;
    values = says.values;
    room = omega (arith, says.room);
  }
    where
      by_place : (k : ℕ) → get_or word.truth (place + k) false ≡ get_or (e.truth x ∷ truth_values_of vs e) k false
      by_place zero = let same : place + 0 ≡ place = omega arith in ap (λ k. get_or word.truth k false) same ∙ (let bit : e.truth x ≡ get_or word.truth place false = cc in sym bit)
      by_place (suc k) = let same : place + suc k ≡ place + 1 + k = omega arith in ap (λ k. get_or word.truth k false) same ∙ says.truth k
  says_first One x place column vs is one says =
      let number : e.number x ≡ least (positions_of word.letters column) = cc in
      let positions = one_alone (positions_of word.letters column) one ∙ ap (λ n. n ∷ []) (sym number) in
      let below = members_below (e.number x ∷ []) column positions in
      record {
        truth = says.truth;
        bits = λ p p_below k. with_column (e.number x ∷ []) column vs positions says.bits p p_below k ∙ ap (λ b. get_or (b ∷ letter_at vs e p) k false) (or-false (e.number x == p));
        own = within (e.number x) (omega (arith, below));
        values = says.values;
        room = omega (arith, says.room, below);
      }
  says_first Two x place column vs is one says =
      let members : e.set x ≡ positions_of word.letters column = cc in
      let below = members_below (e.set x) column (sym members) in
      record {
        truth = says.truth;
        bits = with_column (e.set x) column vs (sym members) says.bits;
        own = (subst IsRising (sym members) (rising-positions_of word.letters column), all_within e.universe (length word.letters) within (e.set x) below);
        values = says.values;
        room = omega (arith, says.room, below);
      }

  -- and of all variables, where they have their decoded values and there is nothing more in the word
  says_decoded : (vs : List Variable) (place column : ℕ) → length word.truth ≡ place + count_of is_truth_value vs
      → ((p : ℕ) → p < length word.letters → length (get_or word.letters p []) ≡ column + count_of is_in_letters vs)
      → map (λ v. value_at v.order v.name e) vs ≡ decoded_values word place column vs → HaveOneBit word.letters column vs → Says word e place column vs
  says_decoded [] place column truth letters are one = record {
    truth = λ k. get_or_past word.truth (place + k) false (omega (arith, truth));
    bits = λ p below k. get_or_past (get_or word.letters p []) (column + k) false (omega (arith, letters p below));
    values = tt;
    room = omega arith;
  }
  says_decoded (v ∷ vs) place column truth letters are one =
      let others = says_decoded vs (place_after v.order place) (column_after v.order column)
      (truth_after v.order (length word.truth) (count_of is_truth_value vs) place truth)
      (λ p below. columns_after v.order (length (get_or word.letters p [])) (count_of is_in_letters vs) column (letters p below))
      (cc) one.1 in
      let first = says_first v.order v.name place column vs (cc) one.0 others in
      record { truth = first.truth; bits = first.bits; values = (first.own, first.values); room = first.room }

-- a word over the variables that says what they have encodes it
encodes_said : (word : Word) (e : Env) (vs : List Variable) → IsWordOver vs word → Says word e 0 0 vs → HasLength e.universe (length word.letters) → Encodes vs word e
encodes_said word e vs over says string = record {
  truth = ext_get_or false word.truth (truth_values_of vs e) (over.truth ∙ sym (length-truth_values vs e))
      (λ k below. let same : k ≡ 0 + k = omega arith in ap (λ i. get_or word.truth i false) same ∙ says.truth k);
  letters = ext_get_or [] word.letters _ (sym (length-letters_below (length word.letters) vs e))
      (λ p below. letter p below ∙ sym (get_or-map-range_with_len (letter_at vs e) 0 (length word.letters) p p [] below (omega arith)));
  room = says.room;
  string = string;
}
  where
    letter : (p : ℕ) → p < length word.letters → get_or word.letters p [] ≡ letter_at vs e p
    letter p below =
        ext_get_or false (get_or word.letters p []) (letter_at vs e p)
        (All-from_recursion (λ (l : List Bool). length l ≡ count_of is_in_letters vs) word.letters over.letters p [] below ∙ sym (length-letter vs e p))
        (λ k k_below. let same : k ≡ 0 + k = omega arith in ap (λ i. get_or (get_or word.letters p []) i false) same ∙ says.bits p below k)

-- the universe of a word is one of the mode, it reaches the positions, and the word has its length
universe_is : (mode : Mode) (n : ℕ) → IsUniverseOf mode (decoded_universe mode n) × ((m : ℕ) → m < n → IsWithin (decoded_universe mode n) m) × HasLength (decoded_universe mode n) n
universe_is Ws1s n = (refl, (λ m below. tt), tt)
universe_is M2lStr n = (refl, (λ m below. below), refl)

-- a word over variables with rising numbers encodes what it is decoded to, if the column of each variable of order 1
-- has exactly one 1, and that is an assignment
pub decoded_is_encoded : (mode : Mode) (vs : List Variable) (word : Word) → AreRising vs → IsWordOver vs word → HasOneBitEach vs word
    → IsAssignment mode vs (decoded mode vs word) × Encodes vs word (decoded mode vs word)
decoded_is_encoded mode vs word rising over one =
    let n = length word.letters in
    let e = decoded mode vs word in
    let universe : decoded_universe mode n ≡ e.universe = sym (universe-assign_all (map (λ v. v.name) vs) (decoded_values word 0 0 vs) (record { universe = decoded_universe mode n; truth = λ x. false; number = λ x. 0; set = λ x. [] })) in
    let P : Universe → Type 0 = λ u. IsUniverseOf mode u × ((m : ℕ) → m < n → IsWithin u m) × HasLength u n in
    let is = subst P universe (universe_is mode n) in
    let says = says_decoded word e is.1 vs 0 0 (omega (arith, over.truth))
    (λ p below. let bits : length (get_or word.letters p []) ≡ count_of is_in_letters vs = All-from_recursion (λ (l : List Bool). length l ≡ count_of is_in_letters vs) word.letters over.letters p [] below in omega arith)
    (decoded_gives (decoded_universe mode n) word vs 0 0 rising) one in
    (record { universe = is.0; values = says.values }, encodes_said word e vs over says is.2)

-- the columns of an encoding have exactly one 1 for each variable of order 1
one_bit : (word : Word) (e : Env) (place column : ℕ) (o : Order) (x : ℕ) (vs : List Variable) → SaysFirst word e place column o x vs → HasOneBit word.letters o column
one_bit word e place column Zero x vs says = tt
one_bit word e place column One x vs says = ap length (one_position word e place column x vs says)
one_bit word e place column Two x vs says = tt

have_one_bit : (word : Word) (e : Env) (place column : ℕ) (vs : List Variable) → Says word e place column vs → HaveOneBit word.letters column vs
have_one_bit word e place column [] says = tt
have_one_bit word e place column (v ∷ vs) says =
    let first = says_of_first word e place column v vs says in
    (one_bit word e place column v.order v.name vs first, have_one_bit word e (place_after v.order place) (column_after v.order column) vs (others_are word e place column v.name vs v.order first))

-- the words that encode an assignment are those over the variables with exactly one 1 for each variable of order 1
pub encodings_are : (mode : Mode) (vs : List Variable) (word : Word) → AreRising vs → IsEncoding mode vs word ↔ (IsWordOver vs word × HasOneBitEach vs word)
encodings_are mode vs word rising = (
  λ encoding. (encoding_is_over vs word encoding.0 encoding.2, have_one_bit word encoding.0 0 0 vs (says_all mode word vs encoding.0 encoding.1 encoding.2)),
  λ is. let found = decoded_is_encoded mode vs word rising is.0 is.1 in (decoded mode vs word, found.0, found.1),
)

-- variables that are sets ask for no column with exactly one 1
no_numbers : (letters : List (List Bool)) (column : ℕ) (vs : List Variable) → AreSets vs → HaveOneBit letters column vs
no_numbers letters column [] are = tt
no_numbers letters column (v ∷ vs) are =
    let P : Order → Type 0 = λ o. HasOneBit letters o column in
    (subst P (sym are.0) tt, no_numbers letters (column_after v.order column) vs are.1)

-- each word over sets encodes what it is decoded to
pub sets_encoded : (mode : Mode) (vs : List Variable) (word : Word) → AreRising vs → AreSets vs → IsWordOver vs word
    → IsAssignment mode vs (decoded mode vs word) × Encodes vs word (decoded mode vs word)
sets_encoded mode vs word rising sets over = decoded_is_encoded mode vs word rising over (no_numbers word.letters 0 vs sets)

pub each_word_encodes : (mode : Mode) (vs : List Variable) (word : Word) → AreRising vs → AreSets vs → IsWordOver vs word → IsEncoding mode vs word
each_word_encodes mode vs word rising sets over = let found = sets_encoded mode vs word rising sets over in (decoded mode vs word, found.0, found.1)
