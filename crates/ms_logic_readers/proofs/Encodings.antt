-- Readers that tell whether a word encodes an assignment: whether the track of each variable of order 1 has exactly one 1. Then it
-- encodes the assignment that is read off the tracks.
use Rattle.std.proofs.Common.{◌≡◌, ℕ, zero, suc, ◌+◌, ◌<◌, ◌≤◌, ◌==◌, Bool, true, false, cond, if◌then◌else◌, IsTrue, ◌&&◌, inl, inr, ⊎_elim, ◌↔◌, List, [], ◌∷◌, length, map, get_or, refl, sym, ◌∙◌, ap, subst, arith}
use Rattle.std.proofs.lemmas.Bool.{cases_eq, eq-eqb, false≢true, ne_eqb}
use Rattle.std.proofs.lemmas.List.{ext_get_or, length-map}
use Rattle.std.proofs.lemmas.List.Elements.{All-from_recursion}
use Rattle.std.proofs.lemmas.List.FromFn.{get_or-map-range_with_len}
use Rattle.ms_list.specs.declared.word.Word.{Word}
use Rattle.ms_logic.specs.declared.mode.Mode.{Mode}
use Rattle.ms_logic.specs.declared.mode.Mode.TheVariants.{Ws1s, M2lStr}
use Rattle.ms_logic.specs.declared.mode.Order.{Order}
use Rattle.ms_logic.specs.declared.mode.Order.TheVariants.{Zero, One, Two}
use Rattle.ms_logic.specs.Assignment.{AllWithin, Env, GivesEach, IsAssignment, IsUniverseOf, IsValueOf, IsWithin, Variable, value_at}
use Rattle.ms_logic.specs.Letters.{bound_at, bound_of, bound_of_set, letter_at, letters_below, truth_values_of}
use Rattle.ms_logic.specs.Lists.{IsAmong}
use Rattle.ms_logic_words.specs.Content.{IsWordOver, count_of, is_in_letters, is_truth_value}
use Rattle.ms_logic_words.specs.Word.{Encodes, HasLength, IsEncoding}
use Rattle.ms_logic_words.specs.inner.Decoding.{decoded_universe, positions_of}
use Rattle.ms_logic_words.proofs.DecodingLemmas.{bound-positions_of, is_member-positions_of, rising-positions_of}
use Rattle.ms_logic_words.proofs.WordLaws.{length-letters_below}
use Rattle.ms_basic.specs.inner.Reading.{bit_of, truth_of}
use Rattle.ms_logic_readers.proofs.Bits.{bits-of-own, letter-by, own_bit, same-bits, truths-by}
use Rattle.ms_logic_readers.specs.Scoped.{AreDistinct}
use Rattle.ms_logic_machines.proofs.Choices.{Among}
use Rattle.ms_logic_readers.proofs.Readers.{Reader, always, read, reader-of-two}
use Rattle.ms_logic_readers.proofs.Relations.{bit-read, bound-one}

-- tracks

-- how many ones
abbrev pub ones : List Bool → ℕ
ones [] = 0
ones (bit ∷ bits) = if bit then suc (ones bits) else ones bits

-- the place of the first 1
abbrev pub first_one : List Bool → ℕ
first_one [] = 0
first_one (bit ∷ bits) = if bit then 0 else suc (first_one bits)

no-ones : (bits : List Bool) → ones bits ≡ 0 → (p : ℕ) → get_or bits p false ≡ false
no-ones [] none zero = refl
no-ones [] none (suc p) = refl
no-ones (true ∷ bits) none p = absurd (omega (arith, none))
no-ones (false ∷ bits) none zero = refl
no-ones (false ∷ bits) none (suc p) = no-ones bits none p

same-number : (a b : ℕ) → (suc a == suc b) ≡ (a == b)
same-number a b = ⊎_elim (λ same. eq-eqb (suc a) (suc b) (ap (λ n. suc n) same) ∙ sym (eq-eqb a b same)) (λ differ. ne_eqb (suc a) (suc b) (λ same. differ (omega (arith, same))) ∙ sym (ne_eqb a b differ)) (cases_eq a b)

-- where there is one 1, it stands at the place of the first
pub only-one : (bits : List Bool) → ones bits ≡ 1 → (p : ℕ) → (first_one bits == p) ≡ get_or bits p false
only-one [] one p = absurd (omega (arith, one))
only-one (true ∷ bits) one zero = refl
only-one (true ∷ bits) one (suc p) = ne_eqb 0 (suc p) (λ same. omega (arith, same)) ∙ sym (no-ones bits (omega (arith, one)) p)
only-one (false ∷ bits) one zero = ne_eqb (suc (first_one bits)) 0 (λ same. omega (arith, same))
only-one (false ∷ bits) one (suc p) = same-number (first_one bits) p ∙ only-one bits one p

pub one-within : (bits : List Bool) → ones bits ≡ 1 → first_one bits < length bits
one-within [] one = absurd (omega (arith, one))
one-within (true ∷ bits) one = omega arith
one-within (false ∷ bits) one = omega (arith, one-within bits one)

-- where just the bit of one place is 1, there is one 1
module _ (x : ℕ) where
  ones-past : (bits : List Bool) (start : ℕ) → x < start → ((p : ℕ) → p < length bits → get_or bits p false ≡ (x == start + p)) → ones bits ≡ 0
  ones-past [] start past are = refl
  ones-past (bit ∷ bits) start past are =
      let here : bit ≡ false = are 0 (omega arith) ∙ ne_eqb x (start + 0) (λ same. omega (arith, same, past)) in
      ap (λ t. cond t (suc (ones bits)) (ones bits)) here
      ∙ ones-past bits (start + 1) (omega (arith, past)) (λ p below. let next : start + suc p ≡ start + 1 + p = omega arith in are (suc p) (omega (arith, below)) ∙ ap (λ n. x == n) next)

  ones-from : (bits : List Bool) (start : ℕ) → start ≤ x → x < start + length bits → ((p : ℕ) → p < length bits → get_or bits p false ≡ (x == start + p)) → ones bits ≡ 1
  ones-from [] start from below are = absurd (omega (arith, from, below))
  ones-from (bit ∷ bits) start from below are =
      let next : (p : ℕ) → p < length bits → get_or bits p false ≡ (x == start + 1 + p) = λ p less. (let moved : start + suc p ≡ start + 1 + p = omega arith in are (suc p) (omega (arith, less)) ∙ ap (λ n. x == n) moved) in
      ⊎_elim
      (λ same. ap (λ t. cond t (suc (ones bits)) (ones bits)) (are 0 (omega arith) ∙ eq-eqb x (start + 0) (omega (arith, same)))
      ∙ ap (λ n. suc n) (ones-past bits (start + 1) (omega (arith, same)) next))
      (λ differ. ap (λ t. cond t (suc (ones bits)) (ones bits)) (are 0 (omega arith) ∙ ne_eqb x (start + 0) (λ same. differ (omega (arith, same))))
      ∙ ones-from bits (start + 1) (omega (arith, from, differ)) (omega (arith, below)) next)
      (cases_eq x start)

-- counting ones up to two

abbrev capped : ℕ → ℕ
capped zero = 0
capped (suc zero) = 1
capped (suc (suc n)) = 2

capped-more : (n : ℕ) → capped (suc (capped n)) ≡ capped (suc n)
capped-more zero = refl
capped-more (suc zero) = refl
capped-more (suc (suc n)) = refl

capped-one : (n : ℕ) → (n ≡ 1) ↔ IsTrue (capped n == 1)
capped-one zero = ((λ same. absurd (omega (arith, same))), (λ is. absurd (false≢true is)))
capped-one (suc zero) = ((λ same. refl), (λ is. refl))
capped-one (suc (suc n)) = ((λ same. absurd (omega (arith, same))), (λ is. absurd (false≢true is)))

capped-small : (n : ℕ) → Among (capped n) (0 ∷ 1 ∷ 2 ∷ [])
capped-small zero = inl refl
capped-small (suc zero) = inr (inl refl)
capped-small (suc (suc n)) = inr (inr (inl refl))

module _ (mode : Mode) (variables : List Variable) (distinct : AreDistinct variables) where
  -- the bits of a variable in each letter
  abbrev pub track : List (List Bool) → ℕ → List Bool
  track letters x = map (λ letter. own_bit is_in_letters variables letter x) letters

  abbrev counted : ℕ → ℕ → List Bool → ℕ
  counted x s letter = if own_bit is_in_letters variables letter x then capped (suc s) else capped s

  capped-twice : (n : ℕ) → capped (capped n) ≡ capped n
  capped-twice zero = refl
  capped-twice (suc zero) = refl
  capped-twice (suc (suc n)) = refl

  read-counted : (x s : ℕ) (letters : List (List Bool)) → read (counted x) (capped s) letters ≡ capped (s + ones (track letters x))
  read-counted x s [] = let same : s ≡ s + 0 = omega arith in ap capped same
  read-counted x s (letter ∷ letters) = by-bit (own_bit is_in_letters variables letter x) (λ n. read-counted x n letters)
    where
      by-bit : (t : Bool) → ((n : ℕ) → read (counted x) (capped n) letters ≡ capped (n + ones (track letters x))) → read (counted x) (cond t (capped (suc (capped s))) (capped (capped s))) letters ≡ capped (s + cond t (suc (ones (track letters x))) (ones (track letters x)))
      by-bit true more =
          let next : suc s + ones (track letters x) ≡ s + suc (ones (track letters x)) = omega arith in
          ap (λ n. read (counted x) n letters) (capped-more s) ∙ (more (suc s) ∙ ap capped next)
      by-bit false more = ap (λ n. read (counted x) n letters) (capped-twice s) ∙ more s

  abbrev HasOne : Order → ℕ → Word → Type 0
  HasOne Zero x word = Unit {0}
  HasOne One x word = ones (track word.letters x) ≡ 1
  HasOne Two x word = Unit {0}

  abbrev HaveOne : List Variable → Word → Type 0
  HaveOne [] word = Unit {0}
  HaveOne (v ∷ vs) word = HasOne v.order v.name word × HaveOne vs word

  abbrev Tells : (Word → Type 0) → Word → Bool → Type 0
  Tells P word bit = P word ↔ IsTrue bit

  one-reader : (o : Order) (x : ℕ) → Reader (Tells (HasOne o x))
  one-reader Zero x = always (Tells (HasOne Zero x)) true (λ word. ((λ h. refl), (λ is. tt)))
  one-reader Two x = always (Tells (HasOne Two x)) true (λ word. ((λ h. refl), (λ is. tt)))
  one-reader One x = record {
    State = ℕ;
    test = cases_eq;
    states = 0 ∷ 1 ∷ 2 ∷ [];
    start = λ truth. 0;
    next = counted x;
    accepts = λ s. s == 1;
    start_among = λ truth. inl refl;
    next_among = λ s letter among.
        elim (own_bit is_in_letters variables letter x) as (λ t. Among (cond t (capped (suc s)) (capped s)) (0 ∷ 1 ∷ 2 ∷ [])) [ true ↦ capped-small (suc s) | false ↦ capped-small s ];
    right = λ word.
        let n = ones (track word.letters x) in
        let P : ℕ → Type 0 = λ s. (n ≡ 1) ↔ IsTrue (s == 1) in
        let whole : 0 + n ≡ n = omega arith in
        subst P (sym (read-counted x 0 word.letters ∙ ap capped whole)) (capped-one n);
  }

  both-told : (P Q : Type 0) (one other : Bool) → P ↔ IsTrue one → Q ↔ IsTrue other → (P × Q) ↔ IsTrue (one && other)
  both-told P Q true other p q = ((λ both. q.0 both.1), (λ is. (p.1 refl, q.1 is)))
  both-told P Q false other p q = ((λ both. p.0 both.0), (λ is. absurd (false≢true is)))

  ones-reader : (vs : List Variable) → Reader (Tells (HaveOne vs))
  ones-reader [] = always (Tells (HaveOne [])) true (λ word. ((λ h. refl), (λ is. tt)))
  ones-reader (v ∷ vs) =
      reader-of-two (Tells (HasOne v.order v.name)) (Tells (HaveOne vs)) (Tells (HaveOne (v ∷ vs))) (λ one other. one && other)
      (λ word one other p q. both-told (HasOne v.order v.name word) (HaveOne vs word) one other p q) (one-reader v.order v.name) (ones-reader vs)

  -- what is read off the tracks

  abbrev column : List (List Bool) → ℕ → List (List Bool)
  column letters x = map (λ letter. own_bit is_in_letters variables letter x ∷ []) letters

  abbrev pub read_off : Word → Env
  read_off word = record {
    universe = decoded_universe mode (length word.letters);
    truth = λ x. own_bit is_truth_value variables word.truth x;
    number = λ x. first_one (track word.letters x);
    set = λ x. positions_of (column word.letters x) 0;
  }

  -- the bit of a variable in the letter at a position
  abbrev bit_there : List (List Bool) → ℕ → ℕ → Bool
  bit_there letters x p = own_bit is_in_letters variables (get_or letters p []) x

  track-at : (letters : List (List Bool)) (x p : ℕ) → p < length letters → get_or (track letters x) p false ≡ bit_there letters x p
  track-at [] x p below = absurd (omega (arith, below))
  track-at (letter ∷ letters) x zero below = refl
  track-at (letter ∷ letters) x (suc p) below = track-at letters x p (omega (arith, below))

  column-at : (letters : List (List Bool)) (x p : ℕ) → p < length letters → get_or (get_or (column letters x) p []) 0 false ≡ bit_there letters x p
  column-at [] x p below = absurd (omega (arith, below))
  column-at (letter ∷ letters) x zero below = refl
  column-at (letter ∷ letters) x (suc p) below = column-at letters x p (omega (arith, below))

  length-track : (letters : List (List Bool)) (x : ℕ) → length (track letters x) ≡ length letters
  length-track letters x = length-map letters (λ letter. own_bit is_in_letters variables letter x)

  length-column : (letters : List (List Bool)) (x : ℕ) → length (column letters x) ≡ length letters
  length-column letters x = length-map letters (λ letter. own_bit is_in_letters variables letter x ∷ [])

  module _ (word : Word) (over : IsWordOver variables word) where
    letter-over : (p : ℕ) → p < length word.letters → length (get_or word.letters p []) ≡ count_of is_in_letters variables
    letter-over p below = All-from_recursion (λ (l : List Bool). length l ≡ count_of is_in_letters variables) word.letters over.letters p [] below

    own-bit : (o : Order) (x : ℕ) (p : ℕ) → p < length word.letters → is_in_letters o ≡ true → HasOne o x word → bit_of o x (read_off word) p ≡ bit_there word.letters x p
    own-bit Zero x p below has one = absurd (false≢true has)
    own-bit One x p below has one = only-one (track word.letters x) one p ∙ track-at word.letters x p below
    own-bit Two x p below has one = is_member-positions_of (column word.letters x) 0 p (omega (arith, below, length-column word.letters x)) ∙ column-at word.letters x p below

    one-of : (vs : List Variable) → HaveOne vs word → (v : Variable) → IsAmong vs v → HasOne v.order v.name word
    one-of [] have v among = absurd among
    one-of (w ∷ vs) have v among = let P : Variable → Type 0 = λ u. HasOne u.order u.name word in ⊎_elim (λ same. subst P same have.0) (λ later. one-of vs have.1 v later) among

    module _ (have : HaveOne variables word) where
      truth-is : word.truth ≡ truth_values_of variables (read_off word)
      truth-is =
          sym (bits-of-own is_truth_value variables word.truth distinct over.truth)
          ∙ (same-bits is_truth_value variables (λ v. own_bit is_truth_value variables word.truth v.name) (λ v. truth_of v.order v.name (read_off word)) (λ v among has. own-truth v.order v.name has)
          ∙ sym (truths-by variables (read_off word)))
        where
          own-truth : (o : Order) (x : ℕ) → is_truth_value o ≡ true → own_bit is_truth_value variables word.truth x ≡ truth_of o x (read_off word)
          own-truth Zero x has = refl
          own-truth One x has = absurd (false≢true has)
          own-truth Two x has = absurd (false≢true has)

      letter-is : (p : ℕ) → p < length word.letters → get_or word.letters p [] ≡ letter_at variables (read_off word) p
      letter-is p below =
          sym (bits-of-own is_in_letters variables (get_or word.letters p []) distinct (letter-over p below))
          ∙ (same-bits is_in_letters variables (λ v. bit_there word.letters v.name p) (λ v. bit_of v.order v.name (read_off word) p)
          (λ v among has. sym (own-bit v.order v.name p below has (one-of variables have v among)))
          ∙ sym (letter-by variables (read_off word) p))

      within : (universe : Mode) (m : ℕ) → m < length word.letters → IsWithin (decoded_universe universe (length word.letters)) m
      within Ws1s m below = tt
      within M2lStr m below = below

      all-within : (members : List ℕ) → bound_of_set members ≤ length word.letters → AllWithin (decoded_universe mode (length word.letters)) members
      all-within [] below = tt
      all-within (first ∷ more) below = (within mode first (omega (arith, below)), all-within more (omega (arith, below)))

      value-of : (o : Order) (x : ℕ) → HasOne o x word → IsValueOf o (decoded_universe mode (length word.letters)) (value_at o x (read_off word))
      value-of Zero x one = tt
      value-of One x one = within mode (first_one (track word.letters x)) (omega (arith, one-within (track word.letters x) one, length-track word.letters x))
      value-of Two x one =
          (rising-positions_of (column word.letters x) 0, all-within (positions_of (column word.letters x) 0) (omega (arith, bound-positions_of (column word.letters x) 0, length-column word.letters x)))

      bound-at : (o : Order) (x : ℕ) → HasOne o x word → bound_at o x (read_off word) ≤ length word.letters
      bound-at Zero x one = omega arith
      bound-at One x one = omega (arith, one-within (track word.letters x) one, length-track word.letters x)
      bound-at Two x one = omega (arith, bound-positions_of (column word.letters x) 0, length-column word.letters x)

      gives-each : (vs : List Variable) → HaveOne vs word → GivesEach vs (read_off word)
      gives-each [] ones = tt
      gives-each (v ∷ vs) ones = (value-of v.order v.name ones.0, gives-each vs ones.1)

      room-for : (vs : List Variable) → HaveOne vs word → bound_of vs (read_off word) ≤ length word.letters
      room-for [] ones = omega arith
      room-for (v ∷ vs) ones = omega (arith, bound-at v.order v.name ones.0, room-for vs ones.1)

      of-mode : (m : Mode) (n : ℕ) → IsUniverseOf m (decoded_universe m n)
      of-mode Ws1s n = refl
      of-mode M2lStr n = refl

      long : (m : Mode) (n : ℕ) → HasLength (decoded_universe m n) n
      long Ws1s n = tt
      long M2lStr n = refl

      is-read : IsAssignment mode variables (read_off word) × Encodes variables word (read_off word)
      is-read = (
        record { universe = of-mode mode (length word.letters); values = gives-each variables have },
        record {
          truth = truth-is;
          letters = ext_get_or [] word.letters (letters_below (length word.letters) variables (read_off word)) (sym (length-letters_below (length word.letters) variables (read_off word)))
              (λ p below. letter-is p below ∙ sym (get_or-map-range_with_len (letter_at variables (read_off word)) 0 (length word.letters) p p [] below (omega arith)));
          room = room-for variables have;
          string = long mode (length word.letters);
        },
      )

  -- the tracks of numbers have one 1 where the word encodes an assignment
  module _ (word : Word) (e : Env) (assigned : IsAssignment mode variables e) (encodes : Encodes variables word e) where
    letter-said : (p : ℕ) → p < length word.letters → get_or word.letters p [] ≡ letter_at variables e p
    letter-said p below =
        ap (λ (l : List (List Bool)). get_or l p []) encodes.letters ∙ get_or-map-range_with_len (letter_at variables e) 0 (length word.letters) p p [] below (omega arith)

    has-one : (o : Order) (x : ℕ) → IsAmong variables (record { name = x; order = o }) → HasOne o x word
    has-one Zero x among = tt
    has-one One x among =
        let long = length-track word.letters x in
        let room = bound-one variables e (record { name = x; order = One }) among in
        ones-from (e.number x) (track word.letters x) 0 (omega arith) (omega (arith, long, room, encodes.room))
        (λ p below.
        let start : p ≡ 0 + p = omega arith in
        track-at word.letters x p (omega (arith, below, long))
        ∙ (ap (λ (l : List Bool). own_bit is_in_letters variables l x) (letter-said p (omega (arith, below, long)))
        ∙ (bit-read mode variables distinct (record { name = x; order = One }) e p among refl ∙ ap (λ n. e.number x == n) start)))
    has-one Two x among = tt

    pub have-one : (vs : List Variable) → ((v : Variable) → IsAmong vs v → IsAmong variables v) → HaveOne vs word
    have-one [] covered = tt
    have-one (v ∷ vs) covered = (has-one v.order v.name (covered v (inl refl)), have-one vs (λ w among. covered w (inr among)))

  abbrev pub TellsEncoding : Word → Bool → Type 0
  TellsEncoding word bit = IsWordOver variables word → IsEncoding mode variables word ↔ IsTrue bit

  pub encoding-reader : Reader TellsEncoding
  encoding-reader =
      let m = ones-reader variables in
      record {
        State = m.State;
        test = m.test;
        states = m.states;
        start = m.start;
        next = m.next;
        accepts = m.accepts;
        start_among = m.start_among;
        next_among = m.next_among;
        right = λ word over. (
          (λ encoding. (m.right word).0 (have-one word encoding.0 encoding.1 encoding.2 variables (λ v among. among))),
          (λ is. let found = is-read word over ((m.right word).1 is) in (read_off word, found.0, found.1)),
        );
      }
