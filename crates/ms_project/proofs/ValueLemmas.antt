-- The values of a bound variable, and the words that encode them.
use Rattle.std.proofs.Common.{◌≡◌, ◌≢◌, ℕ, zero, suc, ◌+◌, ◌<◌, ⊎_elim, Bool, false, if◌then◌else◌, List, [], ◌∷◌, ◌++◌, length, get_or, slice_get, slice_index, Some, None, refl, sym, ap, subst, ◌∙◌, arith, length-append}
use Rattle.std.specs.Prelude.{map as map_list}
use Rattle.std.proofs.lemmas.Bool.{cases_eq, cases_lt, eq-eqb, ne_eqb, false≢true}
use Rattle.std.proofs.lemmas.List.{length-map, length-replicate, get_or_append_left, get_or_push, get_or-replicate, get_or_past}
use Rattle.std.proofs.lemmas.Option.{same_Some, none-some}
use Rattle.ms_list.specs.declared.word.Word.{Word}
use Rattle.ms_diagram.specs.Bring.{read_through}
use Rattle.ms_logic.specs.declared.mode.Mode.{Mode}
use Rattle.ms_logic.specs.declared.mode.Mode.TheVariants.{Ws1s, M2lStr}
use Rattle.ms_logic.specs.declared.mode.Order.{Order}
use Rattle.ms_logic.specs.declared.mode.Order.TheVariants.{Zero, One, Two}
use Rattle.ms_logic.specs.declared.assignment.Value.{Value}
use Rattle.ms_logic.specs.declared.assignment.Value.TheVariants.{Truth, Number, Set}
use Rattle.ms_logic.specs.Assignment.{Universe, Env, Variable, IsAssignment, IsUniverseOf, IsValueOf, GivesEach, assign, value_at}
use Rattle.ms_logic_words.specs.Content.{IsWordOver, AreLetters, count_of, is_truth_value, is_in_letters, bits_at, padded, zero_letter, with_zero_letter, shortest_word}
use Rattle.ms_logic_words.specs.inner.Decoding.{HasOneBit, HaveOneBit, column_after, positions_of}
use Rattle.ms_logic.specs.OrderLaws.{GiveSameValues}
use Rattle.ms_logic.specs.Lists.{AreRising}
use Rattle.ms_logic_words.specs.Word.{Encodes, HasLength, IsEncoding}
use Rattle.ms_logic.specs.Letters.{bound_of}
use Rattle.ms_logic_words.specs.WordSign.{word_of}
use Rattle.ms_logic.proofs.Agreement.{universe-assign}
use Rattle.ms_logic_words.proofs.DecodedWords.{encodings_are}
use Rattle.ms_logic_words.proofs.DecodingLemmas.{bound-positions_of, rising-positions_of, is_member-positions_of, positions_are}
use Rattle.ms_logic.proofs.Members.{no_member_from_bound}
use Rattle.ms_logic_words.proofs.WordLaws.{encoding_is_over, encoding_exists, encoding_is_unique, length-letters_below, length_is_least, word_is_unique, zero_letter_keeps}
use Rattle.ms_dfa.specs.Narrow.{gathered, narrowed, narrowed_letter, narrowed_truth, ReadsThrough}
use Rattle.ms_dfa.proofs.NarrowLemmas.{narrowed_encodes, narrowed_assigned}
use Rattle.ms_dfa_explore.specs.Tracks.{places_among}
use Rattle.ms_dfa_explore.proofs.AmongLemmas.{leads_to, one_place}
use Rattle.ms_project.specs.Subsets.{IsLeftOut}
use Rattle.ms_project.proofs.RestLemmas.{gathered_as}

-- a variable has the value that is assigned to it
pub value-own : (o : Order) (universe : Universe) (x : ℕ) (v : Value) (e : Env) → IsValueOf o universe v → value_at o x (assign x v e) ≡ v
value-own Zero universe x (Truth b) e is = ap Truth (ap (λ test. if test then b else e.truth x) (eq-eqb x x refl))
value-own Zero universe x (Number n) e is = absurd is
value-own Zero universe x (Set members) e is = absurd is
value-own One universe x (Truth b) e is = absurd is
value-own One universe x (Number n) e is = ap Number (ap (λ test. if test then n else e.number x) (eq-eqb x x refl))
value-own One universe x (Set members) e is = absurd is
value-own Two universe x (Truth b) e is = absurd is
value-own Two universe x (Number n) e is = absurd is
value-own Two universe x (Set members) e is = ap Set (ap (λ test. if test then members else e.set x) (eq-eqb x x refl))

-- and other variables keep theirs
pub value-other : (o : Order) (x y : ℕ) (v : Value) (e : Env) → y ≢ x → value_at o y (assign x v e) ≡ value_at o y e
value-other Zero x y (Truth b) e other = ap Truth (ap (λ test. if test then b else e.truth y) (ne_eqb y x other))
value-other Zero x y (Number n) e other = refl
value-other Zero x y (Set members) e other = refl
value-other One x y (Truth b) e other = refl
value-other One x y (Number n) e other = ap Number (ap (λ test. if test then n else e.number y) (ne_eqb y x other))
value-other One x y (Set members) e other = refl
value-other Two x y (Truth b) e other = refl
value-other Two x y (Number n) e other = refl
value-other Two x y (Set members) e other = ap Set (ap (λ test. if test then members else e.set y) (ne_eqb y x other))

-- what is true of each variable by its place
gives-all : (vs : List Variable) (e : Env) → ((place : ℕ) (v : Variable) → slice_get vs place ≡ Some v → IsValueOf v.order e.universe (value_at v.order v.name e)) → GivesEach vs e
gives-all [] e each = tt
gives-all (v ∷ vs) e each = (each 0 v refl, gives-all vs e (λ place w there. each (suc place) w there))

pub gives-at : (vs : List Variable) (e : Env) (place : ℕ) (v : Variable) → slice_get vs place ≡ Some v → GivesEach vs e → IsValueOf v.order e.universe (value_at v.order v.name e)
gives-at [] e place v there gives = absurd (none-some v there)
gives-at (first ∷ vs) e zero v there gives = subst (λ (u : Variable). IsValueOf u.order e.universe (value_at u.order u.name e)) (same_Some first v there) gives.0
gives-at (first ∷ vs) e (suc place) v there gives = gives-at vs e place v there gives.1

same-at : (vs : List Variable) (e f : Env) (place : ℕ) (v : Variable) → slice_get vs place ≡ Some v → GiveSameValues vs e f → value_at v.order v.name e ≡ value_at v.order v.name f
same-at [] e f place v there same = absurd (none-some v there)
same-at (first ∷ vs) e f zero v there same = subst (λ (u : Variable). value_at u.order u.name e ≡ value_at u.order u.name f) (same_Some first v there) same.0
same-at (first ∷ vs) e f (suc place) v there same = same-at vs e f place v there same.1

-- a word over variables, read over these variables, is itself
own_leads : (vs : List Variable) → AreRising vs → (place : ℕ) (v : Variable) → slice_get vs place ≡ Some v → slice_get vs (slice_index (places_among vs vs) place) ≡ Some v
own_leads vs rising = leads_to vs vs rising rising (λ v among. among)

own_gathered : (has_value : Order → Bool) (vs : List Variable) → AreRising vs → (values : List Bool) → length values ≡ count_of has_value vs
    → gathered has_value 0 vs (read_through (places_among vs vs) (bits_at (padded has_value vs values))) ≡ values
own_gathered has_value vs rising values long =
    gathered_as has_value vs (read_through (places_among vs vs) (bits_at (padded has_value vs values))) 0 values long (λ place v there with_value.
    let here : 0 + place ≡ place = omega arith in
    ap (read_through (places_among vs vs) (bits_at (padded has_value vs values))) here
    ∙ ap (bits_at (padded has_value vs values)) (one_place vs rising (slice_index (places_among vs vs) place) place v (own_leads vs rising place v there) there))

own_letters : (vs : List Variable) → AreRising vs → (letters : List (List Bool)) → AreLetters vs letters → map_list (narrowed_letter (places_among vs vs) vs vs) letters ≡ letters
own_letters vs rising [] are = refl
own_letters vs rising (letter ∷ letters) are =
    let first : narrowed_letter (places_among vs vs) vs vs letter ≡ letter = own_gathered is_in_letters vs rising letter are.0 in
    let more = own_letters vs rising letters are.1 in
    λ i. first i ∷ more i

pub narrowed-own : (vs : List Variable) → AreRising vs → (word : Word) → IsWordOver vs word → narrowed (places_among vs vs) vs vs word ≡ word
narrowed-own vs rising word over =
    let truth : narrowed_truth (places_among vs vs) vs vs word.truth ≡ word.truth = own_gathered is_truth_value vs rising word.truth over.truth in
    let letters = own_letters vs rising word.letters over.letters in
    λ i. record { truth = truth i; letters = letters i }

-- zeros at the end of a word
abbrev pub with_zeros : List Variable → ℕ → Word → Word
with_zeros variables zero word = word
with_zeros variables (suc steps) word = with_zeros variables steps (with_zero_letter variables word)

pub zeros_encode : (variables : List Variable) (steps : ℕ) (word : Word) (e : Env) → e.universe ≡ None → Encodes variables word e → Encodes variables (with_zeros variables steps word) e
zeros_encode variables zero word e numbers encodes = encodes
zeros_encode variables (suc steps) word e numbers encodes = zeros_encode variables steps (with_zero_letter variables word) e numbers (zero_letter_keeps variables word e numbers encodes)

length-zeros : (variables : List Variable) (steps : ℕ) (word : Word) → length (with_zeros variables steps word).letters ≡ length word.letters + steps
length-zeros variables zero word = omega arith
length-zeros variables (suc steps) word =
    let more = length-zeros variables steps (with_zero_letter variables word) in
    let one = length-append word.letters (zero_letter variables ∷ []) in omega (arith, more, one)

-- a column has the positions that it has before a zero letter
zero_bit : (count column : ℕ) (zeros : List Bool) → length zeros ≡ count → ((k : ℕ) → k < count → get_or zeros k false ≡ false) → get_or zeros column false ≡ false
zero_bit count column zeros long each = ⊎_elim (λ less. each column less) (λ past. get_or_past zeros column false (omega (arith, long, past))) (cases_lt column count)

positions-zero : (variables : List Variable) (letters : List (List Bool)) (column : ℕ) → positions_of (letters ++ zero_letter variables ∷ []) column ≡ positions_of letters column
positions-zero variables letters column =
    let zeros = zero_letter variables in
    let n = length letters in
    let long = length-append letters (zeros ∷ []) in
    positions_are (letters ++ zeros ∷ []) column (positions_of letters column) (rising-positions_of letters column)
    (let bound = bound-positions_of letters column in omega (arith, bound, long))
    (λ p less. ⊎_elim
    (λ before. ap (λ (letter : List Bool). get_or letter column false) (get_or_append_left letters (zeros ∷ []) [] p before) ∙ sym (is_member-positions_of letters column p before))
    (λ behind.
    let at : p ≡ n = omega (arith, less, long, behind) in
    ap (λ (letter : List Bool). get_or letter column false) (get_or_push letters zeros [] p (sym at))
    ∙ zero_bit (count_of is_in_letters variables) column zeros (length-replicate (count_of is_in_letters variables) false) (λ k below. get_or-replicate (count_of is_in_letters variables) k false false below)
    ∙ sym (no_member_from_bound (positions_of letters column) p (let bound = bound-positions_of letters column in omega (arith, bound, behind))))
    (cases_lt p n))

one_bit-zero : (variables : List Variable) (letters : List (List Bool)) (o : Order) (column : ℕ) → HasOneBit (letters ++ zero_letter variables ∷ []) o column → HasOneBit letters o column
one_bit-zero variables letters Zero column has = tt
one_bit-zero variables letters One column has = ap length (sym (positions-zero variables letters column)) ∙ has
one_bit-zero variables letters Two column has = tt

one_bits-zero : (variables vs : List Variable) (letters : List (List Bool)) (column : ℕ) → HaveOneBit (letters ++ zero_letter variables ∷ []) column vs → HaveOneBit letters column vs
one_bits-zero variables [] letters column have = tt
one_bits-zero variables (v ∷ vs) letters column have =
    (one_bit-zero variables letters v.order column have.0, one_bits-zero variables vs letters (column_after v.order column) have.1)

-- a word encodes an assignment where it does with zeros at its end
pub encoding-zeros : (mode : Mode) (variables : List Variable) → AreRising variables → (steps : ℕ) (word : Word) → IsWordOver variables word → IsEncoding mode variables (with_zeros variables steps word) → IsEncoding mode variables word
encoding-zeros mode variables rising zero word over encoding = encoding
encoding-zeros mode variables rising (suc steps) word over encoding =
    let before = encoding-zeros mode variables rising steps (with_zero_letter variables word) (more_over word over) encoding in
    (encodings_are mode variables word rising).1 (over, one_bits-zero variables variables word.letters 0 ((encodings_are mode variables (with_zero_letter variables word) rising).0 before).1)
  where
    letters_more : (letters : List (List Bool)) → AreLetters variables letters → AreLetters variables (letters ++ zero_letter variables ∷ [])
    letters_more [] are = (length-replicate (count_of is_in_letters variables) false, tt)
    letters_more (letter ∷ letters) are = (are.0, letters_more letters are.1)

    more_over : (w : Word) → IsWordOver variables w → IsWordOver variables (with_zero_letter variables w)
    more_over w is = record { truth = is.truth; letters = letters_more w.letters is.letters }

-- how many zeros count at the end of a word: any number in WS1S, and none in M2L-Str
abbrev pub Allows : Mode → ℕ → Type 0
Allows Ws1s steps = Unit {0}
Allows M2lStr steps = steps ≡ 0

string_same : (universe : Universe) (one other : ℕ) → IsUniverseOf M2lStr universe → HasLength universe one → HasLength universe other → one ≡ other
string_same None one other is first second = absurd (false≢true is)
string_same (Some size) one other is first second = first ∙ sym second

module _ (mode : Mode) (wide rest : List Variable) (rising_wide : AreRising wide) (rising_rest : AreRising rest) (bound : ℕ) (into back : List ℕ) (out : IsLeftOut wide rest bound into back)
    (own : Variable) (own_there : slice_get wide bound ≡ Some own) (names : (place : ℕ) (v : Variable) → slice_get rest place ≡ Some v → v.name ≢ own.name) where
  -- the rest reads what all variables have
  reads_rest : (e : Env) → ReadsThrough into rest wide e e
  reads_rest e = record { universe = refl; values = λ place v there. (v, out.leads place v there, refl, refl) }

  module _ (e : Env) (assigned : IsAssignment mode rest e) (word : Word) (encodes : Encodes rest word e) where
    zeros_allowed : (m : Mode) → mode ≡ m → (steps : ℕ) → Allows m steps → Encodes rest (with_zeros rest steps word) e
    zeros_allowed Ws1s is steps allowed = zeros_encode rest steps word e (subst (λ m. IsUniverseOf m e.universe) is assigned.universe) encodes
    zeros_allowed M2lStr is steps allowed = subst (λ k. Encodes rest (with_zeros rest k word) e) (sym allowed) encodes

    -- a word that encodes an assignment of all variables, and is the word of the rest there, gives the bound variable a value
    module _ (steps : ℕ) (allowed : Allows mode steps) (wide_word : Word) (narrow : narrowed into rest wide wide_word ≡ with_zeros rest steps word) (f : Env)
        (f_assigned : IsAssignment mode wide f) (f_encodes : Encodes wide wide_word f) where
      abbrev pub value : Value
      value = value_at own.order own.name f

      same_rest : (e.universe ≡ f.universe) × GiveSameValues rest e f
      same_rest =
          encoding_is_unique mode rest (with_zeros rest steps word) e f assigned (narrowed_assigned into rest wide f f (reads_rest f) mode f_assigned)
          (zeros_allowed mode refl steps allowed)
          (subst (λ w. Encodes rest w f) narrow (narrowed_encodes into rest wide f f (reads_rest f) wide_word f_encodes))

      pub is_value : IsValueOf own.order e.universe value
      is_value = subst (λ u. IsValueOf own.order u value) (sym same_rest.0) (gives-at wide f bound own own_there f_assigned.values)

      value_same : (place : ℕ) (v : Variable) → slice_get wide place ≡ Some v → value_at v.order v.name (assign own.name value e) ≡ value_at v.order v.name f
      value_same place v there = ⊎_elim
          (λ is_bound.
          let is : own ≡ v = same_Some own v (sym own_there ∙ ap (slice_get wide) (sym is_bound) ∙ there) in
          subst (λ (u : Variable). value_at u.order u.name (assign own.name value e) ≡ value_at u.order u.name f) is (value-own own.order e.universe own.name value e is_value))
          (λ other.
          let stays = out.stays place v there other in
          value-other v.order own.name v.name value e (names (slice_index back place) v stays.0) ∙ same-at rest e f (slice_index back place) v stays.0 same_rest.1)
          (cases_eq place bound)

      reads_value : ReadsThrough (places_among wide wide) wide wide (assign own.name value e) f
      reads_value = record {
        universe = universe-assign own.name value e ∙ same_rest.0;
        values = λ place v there. (v, own_leads wide rising_wide place v there, refl, value_same place v there);
      }

      pub value_assigned : IsAssignment mode wide (assign own.name value e)
      value_assigned = narrowed_assigned (places_among wide wide) wide wide (assign own.name value e) f reads_value mode f_assigned

      pub value_encoded : Encodes wide wide_word (assign own.name value e)
      value_encoded = subst (λ w. Encodes wide w (assign own.name value e)) (narrowed-own wide rising_wide wide_word (encoding_is_over wide wide_word f f_encodes))
          (narrowed_encodes (places_among wide wide) wide wide (assign own.name value e) f reads_value wide_word f_encodes)

    -- and each value is given by such a word
    module _ (v : Value) (is : IsValueOf own.order e.universe v) where
      abbrev pub there : Env
      there = assign own.name v e

      same_universe : there.universe ≡ e.universe
      same_universe = universe-assign own.name v e

      pub there_assigned : IsAssignment mode wide there
      there_assigned = record {
        universe = subst (IsUniverseOf mode) (sym same_universe) assigned.universe;
        values = gives-all wide there (λ place w at. ⊎_elim
            (λ is_bound.
            let same : own ≡ w = same_Some own w (sym own_there ∙ ap (slice_get wide) (sym is_bound) ∙ at) in
            subst (λ (u : Variable). IsValueOf u.order there.universe (value_at u.order u.name there)) same
            (subst (IsValueOf own.order there.universe) (sym (value-own own.order e.universe own.name v e is)) (subst (λ u. IsValueOf own.order u v) (sym same_universe) is)))
            (λ other.
            let stays = out.stays place w at other in
            subst (IsValueOf w.order there.universe) (sym (value-other w.order own.name w.name v e (names (slice_index back place) w stays.0)))
            (subst (λ u. IsValueOf w.order u (value_at w.order w.name e)) (sym same_universe) (gives-at rest e (slice_index back place) w stays.0 assigned.values)))
            (cases_eq place bound));
      }

      reads_there : ReadsThrough into rest wide e there
      reads_there = record {
        universe = sym same_universe;
        values = λ place w at. (w, out.leads place w at, refl, sym (value-other w.order own.name w.name v e (names place w at)));
      }

      -- the steps, and the word
      abbrev pub GivingWord : ℕ → Word → Type 0
      GivingWord steps wide_word = Allows mode steps × (narrowed into rest wide wide_word ≡ with_zeros rest steps word) × Encodes wide wide_word there

      giving : (m : Mode) → mode ≡ m → (steps : ℕ) × (wide_word : Word) × (Allows m steps × (narrowed into rest wide wide_word ≡ with_zeros rest steps word) × Encodes wide wide_word there)
      giving Ws1s mode_is =
          let numbers : e.universe ≡ None = subst (λ m. IsUniverseOf m e.universe) mode_is assigned.universe in
          let steps = bound_of wide there in
          let n = length word.letters + steps in
          let made = word_of n wide there in
          let string : HasLength there.universe n = (let P : Universe → Type 0 = λ u. HasLength u n in subst P (sym (same_universe ∙ numbers)) tt) in
          let made_encodes = encoding_exists wide there n (omega arith) string in
          let narrow_long = length-map made.letters (narrowed_letter into rest wide) in
          let made_long = length-letters_below n wide there in
          let zeros_long = length-zeros rest steps word in (
            steps,
            made,
            (
              tt,
              word_is_unique rest (narrowed into rest wide made) (with_zeros rest steps word) e (narrowed_encodes into rest wide e there reads_there made made_encodes)
                  (zeros_encode rest steps word e numbers encodes) (omega (arith, narrow_long, made_long, zeros_long)),
              made_encodes,
            ),
          )
      giving M2lStr mode_is =
          let made = shortest_word wide there in
          let made_encodes = (length_is_least mode wide there there_assigned).0 in
          let narrow_encodes = narrowed_encodes into rest wide e there reads_there made made_encodes in (
            0,
            made,
            (
              refl,
              word_is_unique rest (narrowed into rest wide made) word e narrow_encodes encodes
                  (string_same e.universe (length (narrowed into rest wide made).letters) (length word.letters) (subst (λ m. IsUniverseOf m e.universe) mode_is assigned.universe) narrow_encodes.string encodes.string),
              made_encodes,
            ),
          )

      pub given_by : (steps : ℕ) × (wide_word : Word) × GivingWord steps wide_word
      given_by = let found = giving mode refl in (found.0, found.1, found.2)
