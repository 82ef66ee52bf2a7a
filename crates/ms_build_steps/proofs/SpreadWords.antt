-- A word that is spread over more variables: each other variable has the bit 0 everywhere, and where a letter is filled, each other number
-- has the bit 1 there. It encodes an assignment of all variables just where the word encodes one of its own.
use Rattle.std.proofs.Common.{◌≡◌, ℕ, zero, suc, ◌+◌, ◌<◌, ◌==◌, ◌&&◌, ⊎_elim, Bool, true, false, IsTrue, if◌then◌else◌, List, [], ◌∷◌, ◌++◌, length, map, get_or, slice_get, slice_index, Option, Some, None, refl, sym, ap, subst, ◌∙◌, arith}
use Rattle.std.specs.Option.{option_map}
use Rattle.std.proofs.Math.Bool.{or-false}
use Rattle.std.proofs.Math.Dec.{eqb-suc-suc, eqb-suc-zero, eqb-zero-suc}
use Rattle.std.proofs.lemmas.Bool.{cases_eq, cases_lt, eq-eqb, ne_eqb}
use Rattle.std.proofs.lemmas.List.{length-map}
use Rattle.std.proofs.lemmas.Option.{same_Some, slice_get_within}
use Rattle.ms_arena.specs.Diagram.{Bits}
use Rattle.ms_arena.proofs.Lists.{slice_get-held}
use Rattle.ms_dfa.specs.Narrow.{IsCovered, gathered, narrowed, narrowed_letter, narrowed_truth}
use Rattle.ms_dfa.proofs.CoveredLemmas.{covered_encodes}
use Rattle.ms_dfa.proofs.GatheredLemmas.{gathered_at, length-gathered}
use Rattle.ms_dfa.proofs.NarrowLemmas.{narrowed_assigned, narrowed_encodes, narrowed_over}
use Rattle.ms_dfa_explore.specs.Tracks.{places_among}
use Rattle.ms_dfa_explore.proofs.AmongLemmas.{leads_to, places_rise, reads_through_places}
use Rattle.ms_diagram.specs.Bring.{read_through}
use Rattle.ms_list.specs.declared.word.Word.{Word}
use Rattle.ms_logic.specs.Assignment.{Variable}
use Rattle.ms_logic.specs.Lists.{AreRising, IsAmong}
use Rattle.ms_logic.specs.declared.mode.Mode.{Mode}
use Rattle.ms_logic.specs.declared.mode.Order.{Order}
use Rattle.ms_logic.specs.declared.mode.Order.TheVariants.{Zero, One, Two}
use Rattle.ms_logic_words.specs.Content.{AreLetters, IsWordOver, bits_at, count_of, is_in_letters, is_truth_value, letter_bits, padded, truth_bits}
use Rattle.ms_logic_words.specs.Word.{Encodes, IsEncoding}
use Rattle.ms_logic_words.specs.inner.Decoding.{HasOneBit, bit_in, positions_of}
use Rattle.ms_logic_words.proofs.DecodedWords.{encodings_are}
use Rattle.ms_logic_words.proofs.DecodingLemmas.{positions_are}
use Rattle.ms_project.proofs.RestLemmas.{gathered_as}
use Rattle.ms_wider_parts.specs.Fixed.{bit_or_zero, index_in, spread}

abbrev IsIndex : List ℕ → ℕ → ℕ → Type 0
IsIndex places place i = (i < length places) × (slice_index places i ≡ place)

-- an index that is found is one
one_later : (first : ℕ) (more : List ℕ) (place i : ℕ) (found : Option ℕ) → ((k : ℕ) → found ≡ Some k → IsIndex more place k) → option_map suc found ≡ Some i → IsIndex (first ∷ more) place i
one_later first more place i None each is = let never : ⊥ = cc in absurd never
one_later first more place i (Some k) each is =
    let at = each k refl in
    let same : suc k ≡ i = cc in
    let below : k < length more = at.0 in
    rw (sym same) (omega (arith, below), at.1)

pub index_is : (places : List ℕ) (place i : ℕ) → index_in places place ≡ Some i → IsIndex places place i
index_is [] place i is = let never : ⊥ = cc in absurd never
index_is (first ∷ more) place i is = ⊎_elim
    (λ same.
    let here : Some 0 ≡ Some i = sym (ap (λ test. if test then Some 0 else option_map suc (index_in more place)) (eq-eqb place first same)) ∙ is in
    let zero_is : 0 ≡ i = cc in
    rw (sym zero_is) (omega arith, sym same))
    (λ differs.
    one_later first more place i (index_in more place) (λ k found. index_is more place k found)
    (sym (ap (λ test. if test then Some 0 else option_map suc (index_in more place)) (ne_eqb place first differs)) ∙ is))
    (cases_eq place first)

-- and where there is one, one is found
index_found : (places : List ℕ) (place i : ℕ) → IsIndex places place i → (k : ℕ) × (index_in places place ≡ Some k)
index_found [] place i at = let within = at.0 in absurd (omega (arith, within))
index_found (first ∷ more) place zero at =
    (0, ap (λ test. if test then Some 0 else option_map suc (index_in more place)) (eq-eqb place first (sym at.1)))
index_found (first ∷ more) place (suc i) at = ⊎_elim
    (λ same. (0, ap (λ test. if test then Some 0 else option_map suc (index_in more place)) (eq-eqb place first same)))
    (λ differs.
    let within = at.0 in
    let later = index_found more place i (omega (arith, within), at.1) in (
      suc later.0,
      ap (λ test. if test then Some 0 else option_map suc (index_in more place)) (ne_eqb place first differs) ∙ ap (option_map suc) later.1,
    ))
    (cases_eq place first)

abbrev is_number : Order → Bool
is_number Zero = false
is_number One = true
is_number Two = false

abbrev filled_at : Bool → Option Variable → Bool
filled_at filled None = false
filled_at filled (Some w) = filled && is_number w.order

abbrev bit_or : Bits → Bool → Option ℕ → Bool
bit_or bits rest None = rest
bit_or bits rest (Some i) = bits i

unfilled : (found : Option Variable) → filled_at false found ≡ false
unfilled None = refl
unfilled (Some w) = refl

module _ (vs ws : List Variable) where
  abbrev pub places : List ℕ
  places = places_among vs ws

  -- each bit at its place, and at the place of each other number a bit that is given
  abbrev pub marked : Bool → Bits → Bits
  marked filled bits = λ place. bit_or bits (filled_at filled (slice_get ws place)) (index_in places place)

  abbrev pub spread_letter : Bool → List Bool → List Bool
  spread_letter filled letter = gathered is_in_letters 0 ws (marked filled (letter_bits vs letter))

  abbrev pub spread_truth : List Bool → List Bool
  spread_truth truth = gathered is_truth_value 0 ws (marked false (truth_bits vs truth))

  abbrev pub unfilled_letters : List (List Bool) → List (List Bool)
  unfilled_letters letters = map (spread_letter false) letters

  -- all letters spread, none of them filled
  abbrev pub spread_word : Word → Word
  spread_word word = record { truth = spread_truth word.truth; letters = unfilled_letters word.letters }

  -- the first of the letters filled
  abbrev pub first_filled : List Bool → List (List Bool) → List (List Bool)
  first_filled letter letters = spread_letter true letter ∷ unfilled_letters letters

  -- a word, a letter that is filled, and more letters
  abbrev pub filled_word : Word → List Bool → List (List Bool) → Word
  filled_word word letter letters = record { truth = spread_truth word.truth; letters = unfilled_letters word.letters ++ first_filled letter letters }

  abbrev pub whole_word : Word → List Bool → List (List Bool) → Word
  whole_word word letter letters = record { truth = word.truth; letters = word.letters ++ letter ∷ letters }

  by_found : (bits : Bits) (found : Option ℕ) (rest : Option Variable) → bit_or bits (filled_at false rest) found ≡ bit_or_zero bits found
  by_found bits None rest = unfilled rest
  by_found bits (Some i) rest = refl

  -- where no letter is filled, the bits are spread
  pub marked_spread : (bits : Bits) (place : ℕ) → marked false bits place ≡ spread places bits place
  marked_spread bits place = by_found bits (index_in places place) (slice_get ws place)

  module _ (rising : AreRising vs) (wide_rising : AreRising ws) (among : (v : Variable) → IsAmong vs v → IsAmong ws v) where
    long_places : length places ≡ length vs
    long_places = length-map vs _

    -- two indices of one place are one
    one_index : (i k : ℕ) → i < length vs → k < length vs → slice_index places i ≡ slice_index places k → i ≡ k
    one_index i k first second same = ⊎_elim
        (λ less. let rise = places_rise vs ws rising wide_rising among i k less second in absurd (omega (arith, rise, same)))
        (λ least. ⊎_elim
        (λ more. let rise = places_rise vs ws rising wide_rising among k i more first in absurd (omega (arith, rise, same)))
        (λ most. omega (arith, least, most))
        (cases_lt k i))
        (cases_lt i k)

    index_of : (i : ℕ) → i < length vs → index_in places (slice_index places i) ≡ Some i
    index_of i within =
        let long = long_places in
        let some = index_found places (slice_index places i) i (omega (arith, within, long), refl) in
        let is = index_is places (slice_index places i) some.0 some.1 in
        let below = is.0 in
        some.1 ∙ ap Some (sym (one_index i some.0 within (omega (arith, below, long)) (sym is.1)))

    -- at the place of each own variable stands its bit
    marked_own : (filled : Bool) (bits : Bits) (i : ℕ) → i < length vs → marked filled bits (slice_index places i) ≡ bits i
    marked_own filled bits i within = ap (bit_or bits (filled_at filled (slice_get ws (slice_index places i)))) (index_of i within)

    -- so what was spread is read back
    read_back : (has_value : Order → Bool) (filled : Bool) (values : List Bool) → length values ≡ count_of has_value vs
        → gathered has_value 0 vs (read_through places (bits_at (padded has_value ws (gathered has_value 0 ws (marked filled (bits_at (padded has_value vs values))))))) ≡ values
    read_back has_value filled values long =
        let own : Bits = bits_at (padded has_value vs values) in
        let wide : Bits = bits_at (padded has_value ws (gathered has_value 0 ws (marked filled own))) in
        gathered_as has_value vs (read_through places wide) 0 values long (λ place v there with_value.
        let here : 0 + place ≡ place = omega arith in
        let same : 0 + slice_index places place ≡ slice_index places place = omega arith in
        ap (read_through places wide) here
        ∙ gathered_at has_value ws (marked filled own) 0 (slice_index places place) v (leads_to vs ws rising wide_rising among place v there) with_value
        ∙ ap (marked filled own) same
        ∙ marked_own filled own place (slice_get_within vs place v there))

    pub letter_back : (filled : Bool) (letter : List Bool) → length letter ≡ count_of is_in_letters vs → narrowed_letter places vs ws (spread_letter filled letter) ≡ letter
    letter_back filled letter long = read_back is_in_letters filled letter long

    letters_back : (letters : List (List Bool)) → AreLetters vs letters → map (narrowed_letter places vs ws) (unfilled_letters letters) ≡ letters
    letters_back [] are = refl
    letters_back (letter ∷ letters) are =
        let first = letter_back false letter are.0 in
        let more = letters_back letters are.1 in
        λ i. first i ∷ more i

    behind_back : (before : List (List Bool)) (letter : List Bool) (letters : List (List Bool)) → AreLetters vs (before ++ letter ∷ letters)
        → map (narrowed_letter places vs ws) (unfilled_letters before ++ first_filled letter letters) ≡ before ++ letter ∷ letters
    behind_back [] letter letters are =
        let first = letter_back true letter are.0 in
        let more = letters_back letters are.1 in
        λ i. first i ∷ more i
    behind_back (own ∷ before) letter letters are =
        let first = letter_back false own are.0 in
        let more = behind_back before letter letters are.1 in
        λ i. first i ∷ more i

    pub filled_back : (word : Word) (letter : List Bool) (letters : List (List Bool)) → IsWordOver vs (whole_word word letter letters)
        → narrowed places vs ws (filled_word word letter letters) ≡ whole_word word letter letters
    filled_back word letter letters over =
        let truth : narrowed_truth places vs ws (spread_truth word.truth) ≡ word.truth = read_back is_truth_value false word.truth over.truth in
        let all = behind_back word.letters letter letters over.letters in
        λ i. record { truth = truth i; letters = all i }

    are_unfilled : (letters : List (List Bool)) → AreLetters ws (unfilled_letters letters)
    are_unfilled [] = tt
    are_unfilled (letter ∷ letters) = (length-gathered is_in_letters ws (marked false (letter_bits vs letter)) 0, are_unfilled letters)

    are_filled : (before : List (List Bool)) (letter : List Bool) (letters : List (List Bool)) → AreLetters ws (unfilled_letters before ++ first_filled letter letters)
    are_filled [] letter letters = (length-gathered is_in_letters ws (marked true (letter_bits vs letter)) 0, are_unfilled letters)
    are_filled (own ∷ before) letter letters = (length-gathered is_in_letters ws (marked false (letter_bits vs own)) 0, are_filled before letter letters)

    pub filled_over : (word : Word) (letter : List Bool) (letters : List (List Bool)) → IsWordOver ws (filled_word word letter letters)
    filled_over word letter letters = record {
      truth = length-gathered is_truth_value ws (marked false (truth_bits vs word.truth)) 0;
      letters = are_filled word.letters letter letters;
    }

    -- the column of a number that is no own variable
    module _ (place : ℕ) (w : Variable) (there : slice_get ws place ≡ Some w) (number : w.order ≡ One) (absent : index_in places place ≡ None) where
      abbrev read : List Bool → List Bool
      read letter = narrowed_letter (place ∷ []) (w ∷ []) ws letter

      bit_there : (filled : Bool) (letter : List Bool) → letter_bits ws (spread_letter filled letter) place ≡ filled
      bit_there filled letter =
          let same : 0 + place ≡ place = omega arith in
          gathered_at is_in_letters ws (marked filled (letter_bits vs letter)) 0 place w there (subst (λ o. IsTrue (is_in_letters o)) (sym number) refl)
          ∙ ap (marked filled (letter_bits vs letter)) same
          ∙ ap (bit_or (letter_bits vs letter) (filled_at filled (slice_get ws place))) absent
          ∙ ap (filled_at filled) there
          ∙ ap (λ o. filled && is_number o) number
          ∙ own_bit filled
        where
          own_bit : (b : Bool) → (b && true) ≡ b
          own_bit true = refl
          own_bit false = refl

      single : (filled : Bool) (letter : List Bool) → read (spread_letter filled letter) ≡ filled ∷ []
      single filled letter =
          ap (λ o. if is_in_letters o then letter_bits ws (spread_letter filled letter) place ∷ [] else []) number
          ∙ ap (λ (b : Bool). b ∷ []) (bit_there filled letter)

      zeros_behind : (letters : List (List Bool)) (p : ℕ) → bit_in (map read (unfilled_letters letters)) 0 p ≡ false
      zeros_behind [] p = refl
      zeros_behind (letter ∷ letters) zero = ap (λ (l : List Bool). get_or l 0 false) (single false letter)
      zeros_behind (letter ∷ letters) (suc p) = zeros_behind letters p

      one_there : (before : List (List Bool)) (letter : List Bool) (letters : List (List Bool)) (p : ℕ)
          → bit_in (map read (unfilled_letters before ++ first_filled letter letters)) 0 p ≡ (length before == p)
      one_there [] letter letters zero = ap (λ (l : List Bool). get_or l 0 false) (single true letter)
      one_there [] letter letters (suc p) = zeros_behind letters p ∙ sym (eqb-zero-suc p)
      one_there (own ∷ before) letter letters zero = ap (λ (l : List Bool). get_or l 0 false) (single false own) ∙ sym (eqb-suc-zero (length before))
      one_there (own ∷ before) letter letters (suc p) = one_there before letter letters p ∙ sym (eqb-suc-suc (length before) p)

      long_enough : (before : List (List Bool)) (letter : List Bool) (letters : List (List Bool)) → length before < length (map read (unfilled_letters before ++ first_filled letter letters))
      long_enough [] letter letters = omega arith
      long_enough (own ∷ before) letter letters = let more = long_enough before letter letters in omega (arith, more)

      column : (word : Word) (letter : List Bool) (letters : List (List Bool))
          → positions_of (map read (unfilled_letters word.letters ++ first_filled letter letters)) 0 ≡ length word.letters ∷ []
      column word letter letters =
          let enough = long_enough word.letters letter letters in
          positions_are (map read (unfilled_letters word.letters ++ first_filled letter letters)) 0 (length word.letters ∷ []) (tt, tt) (omega (arith, enough))
          (λ p below. one_there word.letters letter letters p ∙ sym (or-false (length word.letters == p)))

      pub covered_alone : (mode : Mode) (word : Word) (letter : List Bool) (letters : List (List Bool)) → IsCovered mode ws (filled_word word letter letters) place
      covered_alone mode word letter letters = record {
        map = place ∷ [];
        narrow = w ∷ [];
        rising = (tt, tt);
        encoding =
            let made = narrowed (place ∷ []) (w ∷ []) ws (filled_word word letter letters) in
            (encodings_are mode (w ∷ []) made (tt, tt)).1 (
              narrowed_over (place ∷ []) (w ∷ []) ws (filled_word word letter letters),
              (subst (λ o. HasOneBit made.letters o 0) (sym number) (ap length (column word letter letters)), tt),
            );
        own = 0;
        variable = w;
        there = refl;
        number = number;
        leads = refl;
      }

    -- a number of all is an own variable, or stands alone
    covered : (mode : Mode) (word : Word) (letter : List Bool) (letters : List (List Bool)) → IsEncoding mode vs (whole_word word letter letters)
        → IsWordOver vs (whole_word word letter letters) → (place : ℕ) (w : Variable) → slice_get ws place ≡ Some w → w.order ≡ One
        → IsCovered mode ws (filled_word word letter letters) place
    covered mode word letter letters encoding over place w there number = by (index_in places place) refl
      where
        by : (found : Option ℕ) → index_in places place ≡ found → IsCovered mode ws (filled_word word letter letters) place
        by None absent = covered_alone place w there number absent mode word letter letters
        by (Some i) is =
            let at = index_is places place i is in
            let within = at.0 in
            let long = long_places in
            let held = slice_get-held vs i (omega (arith, within, long)) in
            let same : held.0 ≡ w = same_Some held.0 w (sym (leads_to vs ws rising wide_rising among i held.0 held.1) ∙ ap (slice_get ws) at.1 ∙ there) in
            record {
              map = places;
              narrow = vs;
              rising = rising;
              encoding = subst (IsEncoding mode vs) (sym (filled_back word letter letters over)) encoding;
              own = i;
              variable = held.0;
              there = held.1;
              number = ap (λ (u : Variable). u.order) same ∙ number;
              leads = at.1;
            }

    -- a word encodes an assignment of its variables just where, spread over more of them, with one letter filled, it encodes one of all
    pub filled_encodes : (mode : Mode) (word : Word) (letter : List Bool) (letters : List (List Bool)) → IsWordOver vs (whole_word word letter letters)
        → IsEncoding mode vs (whole_word word letter letters) → IsEncoding mode ws (filled_word word letter letters)
    filled_encodes mode word letter letters over encoding =
        covered_encodes mode ws (filled_word word letter letters) wide_rising (filled_over word letter letters) (covered mode word letter letters encoding over)

    pub own_encodes : (mode : Mode) (word : Word) (letter : List Bool) (letters : List (List Bool)) → IsWordOver vs (whole_word word letter letters)
        → IsEncoding mode ws (filled_word word letter letters) → IsEncoding mode vs (whole_word word letter letters)
    own_encodes mode word letter letters over encoding =
        let e = encoding.0 in
        let reads = reads_through_places vs ws rising wide_rising among e in (
          e,
          narrowed_assigned places vs ws e e reads mode encoding.1,
          subst (λ made. Encodes vs made e) (filled_back word letter letters over) (narrowed_encodes places vs ws e e reads (filled_word word letter letters) encoding.2),
        )
