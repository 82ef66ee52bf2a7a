-- Readers of what holds at some value of a variable: by the sets of states to which the words lead that have some bits for it, too.
use Rattle.std.proofs.Common.{◌≡◌, ℕ, zero, suc, ◌+◌, ◌≤◌, Bool, true, false, cond, IsTrue, ◌&&◌, inl, inr, ⊎_elim, ◌↔◌, List, [], ◌∷◌, ◌++◌, length, map, replicate, None, Some, refl, sym, ◌∙◌, ap, subst, arith, append_assoc, append-nil}
use Rattle.std.specs.List.{range_with_len}
use Rattle.std.proofs.lemmas.Bool.{false≢true}
use Rattle.std.proofs.lemmas.List.{length-append, length-replicate}
use Rattle.ms_list.specs.declared.word.Word.{Word}
use Rattle.ms_logic.specs.declared.assignment.Value.{Value}
use Rattle.ms_logic.specs.declared.mode.Mode.{Mode}
use Rattle.ms_logic.specs.declared.mode.Mode.TheVariants.{Ws1s, M2lStr}
use Rattle.ms_logic.specs.declared.mode.Order.{Order}
use Rattle.ms_logic.specs.declared.mode.Order.TheVariants.{Zero, One, Two}
use Rattle.ms_logic.specs.Assignment.{AllWithin, Env, GivesEach, IsAssignment, IsUniverseOf, IsValueOf, Universe, Variable, assign, value_at}
use Rattle.ms_logic.specs.Letters.{bound_at, bound_of, bound_of_set, letter_at, letters_below, truth_values_of}
use Rattle.ms_logic.specs.Lists.{IsAmong, without}
use Rattle.ms_logic.proofs.Agreement.{universe-assign}
use Rattle.ms_logic.proofs.AssignedValues.{value_at-assign, value_at-assign_other}
use Rattle.ms_logic.proofs.BitOrder.{append_parts}
use Rattle.ms_logic_words.specs.Content.{AreLetters, IsWordOver, count_of, head_bit, is_in_letters, is_truth_value, tail_bits, with_zero_letter, zero_letter}
use Rattle.ms_logic_words.specs.Word.{Encodes, HasLength}
use Rattle.ms_logic_words.specs.WordSign.{EncodesSome, word_of}
use Rattle.ms_logic_words.proofs.WordLaws.{encoding_exists, encoding_is_over, zero_letter_keeps}
use Rattle.ms_basic.specs.inner.Reading.{bit_of, truth_of}
use Rattle.ms_logic_readers.proofs.Bits.{bits-append, bits_by, length-bits, letter-by, own_bit, same-bits, truths-by}
use Rattle.ms_logic_readers.specs.Scoped.{AreDistinct}
use Rattle.ms_logic_readers.proofs.Encodings.{TellsEncoding, encoding-reader}
use Rattle.ms_logic_readers.proofs.Others.{among-append, among-right, among-without, distinct-with, distinct-without}
use Rattle.ms_logic_readers.proofs.Readers.{Reader, TellsAt, read, reader-of, reader-of-two}
use Rattle.ms_logic_readers.proofs.Relations.{bit-read, bound-one, gives-one, truth-read}
use Rattle.ms_logic_readers.proofs.Sets.{IsWidened, MayFollow, set-reader, wide_letters}
use Rattle.ms_logic_readers.proofs.Values.{same-bit, same-bound, same-truth}

-- universes of one mode that have one length
same-universe : (mode : Mode) (u w : Universe) (n k : ℕ) → IsUniverseOf mode u → IsUniverseOf mode w → HasLength u n → HasLength w k → (mode ≡ M2lStr → n ≡ k) → u ≡ w
same-universe Ws1s u w n k is_u is_w long_u long_w same = is_u ∙ sym is_w
same-universe M2lStr None w n k is_u is_w long_u long_w same = absurd (false≢true is_u)
same-universe M2lStr (Some a) None n k is_u is_w long_u long_w same = absurd (false≢true is_w)
same-universe M2lStr (Some a) (Some b) n k is_u is_w long_u long_w same = ap Some (sym long_u ∙ (same refl ∙ long_w))

-- a value within a string
within-bound : (members : List ℕ) (n : ℕ) → AllWithin (Some n) members → bound_of_set members ≤ n
within-bound [] n within = omega arith
within-bound (m ∷ more) n within = omega (arith, within.0, within-bound more n within.1)

value-bound : (o : Order) (n : ℕ) (x : ℕ) (e : Env) → IsValueOf o (Some n) (value_at o x e) → bound_at o x e ≤ n
value-bound Zero n x e is = omega arith
value-bound One n x e is = omega (arith, is)
value-bound Two n x e is = within-bound (e.set x) n is.1

bound-most : (vs : List Variable) (e : Env) (n : ℕ) → ((v : Variable) → IsAmong vs v → bound_at v.order v.name e ≤ n) → bound_of vs e ≤ n
bound-most [] e n most = omega arith
bound-most (v ∷ vs) e n most = omega (arith, most v (inl refl), bound-most vs e n (λ w among. most w (inr among)))

gives-all : (vs : List Variable) (e : Env) → ((v : Variable) → IsAmong vs v → IsValueOf v.order e.universe (value_at v.order v.name e)) → GivesEach vs e
gives-all [] e all = tt
gives-all (v ∷ vs) e all = (all v (inl refl), gives-all vs e (λ w among. all w (inr among)))

module _ (mode : Mode) (variables : List Variable) (distinct : AreDistinct variables) (o : Order) (x : ℕ) where
  abbrev pub own : Variable
  own = record { name = x; order = o }

  abbrev pub others : List Variable
  others = without x variables

  -- the variables with this one as the last
  abbrev pub wide : List Variable
  wide = others ++ own ∷ []

  other-among : (v : Variable) → IsAmong others v → IsAmong variables v × (v.name ≡ x → ⊥)
  other-among v among = among-without x variables v among

  pub wide-distinct : AreDistinct wide
  wide-distinct = distinct-with others own (distinct-without x variables distinct) (λ v among. (other-among v among).1)

  own-among : IsAmong wide own
  own-among = among-right others (own ∷ []) own (inl refl)

  -- letters and truth values

  abbrev own_letter : Order → Bool → List Bool
  own_letter Zero bit = []
  own_letter One bit = bit ∷ []
  own_letter Two bit = bit ∷ []

  abbrev own_truth : Order → Bool → List Bool
  own_truth Zero bit = bit ∷ []
  own_truth One bit = []
  own_truth Two bit = []

  abbrev wide_letter : List Bool → Bool → List Bool
  wide_letter letter bit = bits_by is_in_letters others (λ v. own_bit is_in_letters variables letter v.name) ++ own_letter o bit

  abbrev wide_truth : List Bool → Bool → List Bool
  wide_truth truth bit = bits_by is_truth_value others (λ v. own_bit is_truth_value variables truth v.name) ++ own_truth o bit

  own-letter : (of : Order) (bit : Bool) → bits_by is_in_letters (record { name = x; order = of } ∷ []) (λ v. bit) ≡ own_letter of bit
  own-letter Zero bit = refl
  own-letter One bit = refl
  own-letter Two bit = refl

  own-truth : (of : Order) (bit : Bool) → bits_by is_truth_value (record { name = x; order = of } ∷ []) (λ v. bit) ≡ own_truth of bit
  own-truth Zero bit = refl
  own-truth One bit = refl
  own-truth Two bit = refl

  same-length : (of : Order) (one other : Bool) → length (own_letter of one) ≡ length (own_letter of other)
  same-length Zero one other = refl
  same-length One one other = refl
  same-length Two one other = refl

  -- an assignment that agrees with another but at this variable
  module _ (e f : Env) (agree : (v : Variable) → (v.name ≡ x → ⊥) → value_at v.order v.name f ≡ value_at v.order v.name e) where
    wide-letter : (p : ℕ) → letter_at wide f p ≡ wide_letter (letter_at variables e p) (bit_of o x f p)
    wide-letter p =
        letter-by wide f p
        ∙ (bits-append is_in_letters others (own ∷ []) (λ v. bit_of v.order v.name f p)
        ∙ (ap (λ (l : List Bool). l ++ bits_by is_in_letters (own ∷ []) (λ v. bit_of v.order v.name f p))
        (same-bits is_in_letters others (λ v. bit_of v.order v.name f p) (λ v. own_bit is_in_letters variables (letter_at variables e p) v.name)
        (λ v among has. let is = other-among v among in same-bit v.order v.name v.name f e p (agree v is.1) ∙ sym (bit-read mode variables distinct v e p is.0 has)))
        ∙ ap (λ (l : List Bool). bits_by is_in_letters others (λ v. own_bit is_in_letters variables (letter_at variables e p) v.name) ++ l) (last o)))
      where
        last : (of : Order) → bits_by is_in_letters (record { name = x; order = of } ∷ []) (λ v. bit_of v.order v.name f p) ≡ own_letter of (bit_of of x f p)
        last Zero = refl
        last One = refl
        last Two = refl

    wide-truth : truth_values_of wide f ≡ wide_truth (truth_values_of variables e) (truth_of o x f)
    wide-truth =
        truths-by wide f
        ∙ (bits-append is_truth_value others (own ∷ []) (λ v. truth_of v.order v.name f)
        ∙ (ap (λ (l : List Bool). l ++ bits_by is_truth_value (own ∷ []) (λ v. truth_of v.order v.name f))
        (same-bits is_truth_value others (λ v. truth_of v.order v.name f) (λ v. own_bit is_truth_value variables (truth_values_of variables e) v.name)
        (λ v among has. let is = other-among v among in same-truth v.order v.name v.name f e (agree v is.1) ∙ sym (truth-read mode variables distinct v e is.0 has)))
        ∙ ap (λ (l : List Bool). bits_by is_truth_value others (λ v. own_bit is_truth_value variables (truth_values_of variables e) v.name) ++ l) (last o)))
      where
        last : (of : Order) → bits_by is_truth_value (record { name = x; order = of } ∷ []) (λ v. truth_of v.order v.name f) ≡ own_truth of (truth_of of x f)
        last Zero = refl
        last One = refl
        last Two = refl

    bound-other : (v : Variable) → (v.name ≡ x → ⊥) → bound_at v.order v.name f ≡ bound_at v.order v.name e
    bound-other v apart = same-bound v.order v.name v.name f e (agree v apart)

    wide-room : (n : ℕ) → bound_of variables e ≤ n → bound_at o x f ≤ n → bound_of wide f ≤ n
    wide-room n room here =
        bound-most wide f n
        (λ v among. ⊎_elim (λ one. let is = other-among v one in omega (arith, bound-other v is.1, bound-one variables e v is.0, room))
        (λ other. ⊎_elim (λ same. omega (arith, here, ap (λ (u : Variable). bound_at u.order u.name f) same)) (λ never. absurd never) other)
        (among-append others (own ∷ []) v among))

    wide-assigned : f.universe ≡ e.universe → IsAssignment mode variables e → IsValueOf o f.universe (value_at o x f) → IsAssignment mode wide f
    wide-assigned same assigned here = record {
      universe = subst (IsUniverseOf mode) (sym same) assigned.universe;
      values =
          gives-all wide f
          (λ v among. ⊎_elim
          (λ one. let is = other-among v one in
          let P : Value → Type 0 = λ value. IsValueOf v.order f.universe value in
          let Q : Universe → Type 0 = λ u. IsValueOf v.order u (value_at v.order v.name e) in
          subst P (sym (agree v is.1)) (subst Q (sym same) (gives-one variables e v assigned.values is.0)))
          (λ other. let P : Variable → Type 0 = λ u. IsValueOf u.order f.universe (value_at u.order u.name f) in ⊎_elim (λ same'. subst P same' here) (λ never. absurd never) other)
          (among-append others (own ∷ []) v among));
    }

    -- letters behind one another
    wide-range : (p count : ℕ) → wide_letters wide_letter (map (letter_at variables e) (range_with_len p count)) (map (bit_of o x f) (range_with_len p count))
        ≡ map (letter_at wide f) (range_with_len p count)
    wide-range p zero = refl
    wide-range p (suc count) =
        ap (λ (l : List Bool). l ∷ wide_letters wide_letter (map (letter_at variables e) (range_with_len (p + 1) count)) (map (bit_of o x f) (range_with_len (p + 1) count))) (sym (wide-letter p))
        ∙ ap (λ (l : List (List Bool)). letter_at wide f p ∷ l) (wide-range (p + 1) count)

  -- words with zeros behind them

  abbrev padded : Word → ℕ → Word
  padded word count = record { truth = word.truth; letters = word.letters ++ replicate count (zero_letter variables) }

  more-zeros : (letters : List (List Bool)) (count : ℕ) → (letters ++ zero_letter variables ∷ []) ++ replicate count (zero_letter variables) ≡ letters ++ replicate (suc count) (zero_letter variables)
  more-zeros letters count = append_assoc letters (zero_letter variables ∷ []) (replicate count (zero_letter variables))

  padded-encodes : (e : Env) (count : ℕ) (word : Word) → e.universe ≡ None → Encodes variables word e → Encodes variables (padded word count) e
  padded-encodes e zero word numbers encodes =
      let P : List (List Bool) → Type 0 = λ letters. Encodes variables (record { truth = word.truth; letters = letters }) e in subst P (sym (append-nil word.letters)) encodes
  padded-encodes e (suc count) word numbers encodes =
      let P : List (List Bool) → Type 0 = λ letters. Encodes variables (record { truth = word.truth; letters = letters }) e in
      subst P (more-zeros word.letters count) (padded-encodes e count (with_zero_letter variables word) numbers (zero_letter_keeps variables word e numbers encodes))

  -- zeros that may follow
  padded-may : (of : Mode) (e : Env) (count : ℕ) (word : Word) → of ≡ mode → IsUniverseOf of e.universe → MayFollow of count → Encodes variables word e → Encodes variables (padded word count) e
  padded-may Ws1s e count word is universe may encodes = padded-encodes e count word universe encodes
  padded-may M2lStr e count word is universe may encodes =
      let P : List (List Bool) → Type 0 = λ letters. Encodes variables (record { truth = word.truth; letters = letters }) e in
      let none : word.letters ++ replicate count (zero_letter variables) ≡ word.letters = ap (λ n. word.letters ++ replicate n (zero_letter variables)) may ∙ append-nil word.letters in
      subst P (sym none) encodes

  none-follow : (of : Mode) (count : ℕ) → MayFollow of count → of ≡ M2lStr → count ≡ 0
  none-follow Ws1s count may is = absurd (let never : Ws1s ≡ M2lStr = is in cc)
  none-follow M2lStr count may is = may

  -- what holds at some value

  module _ (P : Env → Type 0) (m : Reader (TellsAt mode wide P)) where
    abbrev Some_value : Env → Type 0
    Some_value e = (v : Value) × IsValueOf o e.universe v × P (assign x v e)

    -- whether a word over all encodes an assignment at which it holds
    abbrev TellsSome : Word → Bool → Type 0
    TellsSome word bit = IsWordOver wide word → EncodesSome mode wide P word ↔ IsTrue bit

    both : (word : Word) (one other : Bool) → TellsAt mode wide P word one → TellsEncoding mode wide wide-distinct word other → TellsSome word (one && other)
    both word true true told encoding over = (
      (λ some. refl),
      (λ is. let found = (encoding over).1 refl in (found.0, found.1, found.2, (told found.0 found.1 found.2).1 refl)),
    )
    both word true false told encoding over = ((λ some. absurd (false≢true ((encoding over).0 (some.0, some.1, some.2)))), (λ is. absurd (false≢true is)))
    both word false other told encoding over = ((λ some. absurd (false≢true ((told some.0 some.1 some.2).0 some.3))), (λ is. absurd (false≢true is)))

    whole : Reader TellsSome
    whole = reader-of-two (TellsAt mode wide P) (TellsEncoding mode wide wide-distinct) TellsSome (λ one other. one && other) both m (encoding-reader mode wide wide-distinct)

    abbrev sets : Reader (λ word bit. IsWidened TellsSome whole wide_truth wide_letter (zero_letter variables) mode word ↔ IsTrue bit)
    sets = set-reader TellsSome whole wide_truth wide_letter (zero_letter variables) mode

    module _ (word : Word) (e : Env) (assigned : IsAssignment mode variables e) (encodes : Encodes variables word e) where
      abbrev IsWide : Type 0
      IsWide = IsWidened TellsSome whole wide_truth wide_letter (zero_letter variables) mode word

      agrees : (v : Value) (w : Variable) → (w.name ≡ x → ⊥) → value_at w.order w.name (assign x v e) ≡ value_at w.order w.name e
      agrees v w apart = value_at-assign_other w.order x v w.name e apart

      -- a value gives a word

      module _ (v : Value) (valued : IsValueOf o e.universe v) (holds : P (assign x v e)) where
        abbrev f : Env
        f = assign x v e

        universe-is : f.universe ≡ e.universe
        universe-is = universe-assign x v e

        own-value : value_at o x f ≡ v
        own-value = value_at-assign o x v e e.universe valued

        own-valued : IsValueOf o f.universe (value_at o x f)
        own-valued = let Q : Universe → Type 0 = λ u. IsValueOf o u (value_at o x f) in let R : Value → Type 0 = λ w. IsValueOf o e.universe w in subst Q (sym universe-is) (subst R (sym own-value) valued)

        word-for : (count : ℕ) → MayFollow mode count → bound_at o x f ≤ length word.letters + count → IsWide
        word-for count may room =
            let u = padded word count in
            let n = length u.letters in
            let long : n ≡ length word.letters + count = length-append word.letters (replicate count (zero_letter variables)) ∙ ap (λ k. length word.letters + k) (length-replicate count (zero_letter variables)) in
            let coded = padded-may mode e count word refl assigned.universe may encodes in
            let string : HasLength f.universe n = subst (λ w. HasLength w n) (sym universe-is) coded.string in
            let wide_is = encoding_exists wide f n (wide-room e f (agrees v) n coded.room (omega (arith, long, room))) string in
            let bits = map (bit_of o x f) (range_with_len 0 n) in
            let letters : wide_letters wide_letter u.letters bits ≡ letters_below n wide f = ap (λ (l : List (List Bool)). wide_letters wide_letter l bits) coded.letters ∙ wide-range e f (agrees v) 0 n in
            let truth : wide_truth word.truth (truth_of o x f) ≡ truth_values_of wide f = ap (λ (l : List Bool). wide_truth l (truth_of o x f)) encodes.truth ∙ sym (wide-truth e f (agrees v)) in
            let same : word_of n wide f ≡ record { truth = wide_truth word.truth (truth_of o x f); letters = wide_letters wide_letter u.letters bits } = λ i. record { truth = sym truth i; letters = sym letters i } in
            let told = (whole.right (word_of n wide f) (encoding_is_over wide (word_of n wide f) f wide_is)).0 (f, wide-assigned e f (agrees v) universe-is assigned own-valued, wide_is, holds) in
            let Q : Word → Type 0 = λ w. IsTrue (whole.accepts (read whole.next (whole.start w.truth) w.letters)) in
            (truth_of o x f, count, bits, may, subst Q same told)

        by-mode : (of : Mode) → mode ≡ of → IsWide
        by-mode Ws1s is =
            word-for (bound_at o x f) (subst (λ (k : Mode). MayFollow k (bound_at o x f)) (sym is) tt) (omega arith)
        by-mode M2lStr is =
            let n = length word.letters in
            let none : MayFollow mode 0 = subst (λ (k : Mode). MayFollow k 0) (sym is) refl in
            let string : IsUniverseOf M2lStr e.universe = subst (λ (k : Mode). IsUniverseOf k e.universe) is assigned.universe in
            word-for 0 none (omega (arith, in-string e.universe string encodes.string universe-is))
          where
            in-string : (u : Universe) → IsUniverseOf M2lStr u → HasLength u (length word.letters) → f.universe ≡ u → bound_at o x f ≤ length word.letters
            in-string None is long same = absurd (false≢true is)
            in-string (Some a) is long same =
                let Q : Universe → Type 0 = λ u. IsValueOf o u (value_at o x f) in
                omega (arith, long, value-bound o a x f (subst Q same own-valued))

        widened-by : IsWide
        widened-by = by-mode mode refl

      -- and a word a value
      module _ (is_wide : IsWide) where
        abbrev count : ℕ
        count = is_wide.1

        abbrev u : Word
        u = padded word count

        abbrev wide_word : Word
        wide_word = record { truth = wide_truth word.truth is_wide.0; letters = wide_letters wide_letter u.letters is_wide.2 }

        coded : Encodes variables u e
        coded = padded-may mode e count word refl assigned.universe is_wide.3 encodes

        length-own : (of : Order) (bit : Bool) → length (own_letter of bit) ≡ count_of is_in_letters (record { name = x; order = of } ∷ [])
        length-own Zero bit = refl
        length-own One bit = refl
        length-own Two bit = refl

        length-own-truth : (of : Order) (bit : Bool) → length (own_truth of bit) ≡ count_of is_truth_value (record { name = x; order = of } ∷ [])
        length-own-truth Zero bit = refl
        length-own-truth One bit = refl
        length-own-truth Two bit = refl

        count-append : (has : Order → Bool) (vs ws : List Variable) → count_of has (vs ++ ws) ≡ count_of has vs + count_of has ws
        count-append has [] ws = omega arith
        count-append has (v ∷ vs) ws =
            elim (has v.order) as (λ t. cond t (count_of has (vs ++ ws) + 1) (count_of has (vs ++ ws)) ≡ cond t (count_of has vs + 1) (count_of has vs) + count_of has ws) [
              | true ↦ omega (arith, count-append has vs ws)
              | false ↦ count-append has vs ws
            ]

        letter-over : (letter : List Bool) (bit : Bool) → length (wide_letter letter bit) ≡ count_of is_in_letters wide
        letter-over letter bit =
            omega (
              arith,
              length-append (bits_by is_in_letters others (λ v. own_bit is_in_letters variables letter v.name)) (own_letter o bit),
              length-bits is_in_letters others (λ v. own_bit is_in_letters variables letter v.name),
              length-own o bit,
              count-append is_in_letters others (own ∷ []),
            )

        letters-over : (letters : List (List Bool)) (bits : List Bool) → AreLetters wide (wide_letters wide_letter letters bits)
        letters-over [] bits = tt
        letters-over (letter ∷ letters) bits = (letter-over letter (head_bit bits), letters-over letters (tail_bits bits))

        wide-over : IsWordOver wide wide_word
        wide-over = record {
          truth =
              omega (
                arith,
                length-append (bits_by is_truth_value others (λ v. own_bit is_truth_value variables word.truth v.name)) (own_truth o is_wide.0),
                length-bits is_truth_value others (λ v. own_bit is_truth_value variables word.truth v.name),
                length-own-truth o is_wide.0,
                count-append is_truth_value others (own ∷ []),
              );
          letters = letters-over u.letters is_wide.2;
        }

        found : EncodesSome mode wide P wide_word
        found = (whole.right wide_word wide-over).1 is_wide.4

        abbrev g : Env
        g = found.0

        abbrev v : Value
        v = value_at o x g

        abbrev f' : Env
        f' = assign x v e

        length-wide : (letters : List (List Bool)) (bits : List Bool) → length (wide_letters wide_letter letters bits) ≡ length letters
        length-wide [] bits = refl
        length-wide (letter ∷ letters) bits = ap (λ n. suc n) (length-wide letters (tail_bits bits))

        long : length wide_word.letters ≡ length u.letters
        long = length-wide u.letters is_wide.2

        universes : g.universe ≡ e.universe
        universes = same-universe mode g.universe e.universe (length wide_word.letters) (length u.letters) found.1.universe assigned.universe found.2.string coded.string (λ is. long)

        valued : IsValueOf o e.universe v
        valued = let Q : Universe → Type 0 = λ w. IsValueOf o w v in subst Q universes (gives-one wide g own found.1.values own-among)

        own-is : value_at o x f' ≡ value_at o x g
        own-is = value_at-assign o x v e e.universe valued

        universe-f : f'.universe ≡ e.universe
        universe-f = universe-assign x v e

        -- the bits of this variable are those of its value
        last-letter : (p : ℕ) (letter : List Bool) (bit : Bool) → wide_letter letter bit ≡ letter_at wide g p → own_letter o bit ≡ own_letter o (bit_of o x f' p)
        last-letter p letter bit same =
            let by-parts = letter-by wide g p ∙ bits-append is_in_letters others (own ∷ []) (λ w. bit_of w.order w.name g p) in
            let split = append_parts (bits_by is_in_letters others (λ w. own_bit is_in_letters variables letter w.name)) (bits_by is_in_letters others (λ w. bit_of w.order w.name g p)) (own_letter o bit) (bits_by is_in_letters (own ∷ []) (λ w. bit_of w.order w.name g p))
            (length-bits is_in_letters others (λ w. own_bit is_in_letters variables letter w.name) ∙ sym (length-bits is_in_letters others (λ w. bit_of w.order w.name g p))) (same ∙ by-parts) in
            split.1 ∙ (of-own o ∙ ap (own_letter o) (same-bit o x x g f' p (sym own-is)))
          where
            of-own : (of : Order) → bits_by is_in_letters (record { name = x; order = of } ∷ []) (λ w. bit_of w.order w.name g p) ≡ own_letter of (bit_of of x g p)
            of-own Zero = refl
            of-own One = refl
            of-own Two = refl

        last-truth : wide_truth word.truth is_wide.0 ≡ truth_values_of wide g → own_truth o is_wide.0 ≡ own_truth o (truth_of o x f')
        last-truth same =
            let by-parts = truths-by wide g ∙ bits-append is_truth_value others (own ∷ []) (λ w. truth_of w.order w.name g) in
            let split = append_parts (bits_by is_truth_value others (λ w. own_bit is_truth_value variables word.truth w.name)) (bits_by is_truth_value others (λ w. truth_of w.order w.name g)) (own_truth o is_wide.0) (bits_by is_truth_value (own ∷ []) (λ w. truth_of w.order w.name g))
            (length-bits is_truth_value others (λ w. own_bit is_truth_value variables word.truth w.name) ∙ sym (length-bits is_truth_value others (λ w. truth_of w.order w.name g))) (same ∙ by-parts) in
            split.1 ∙ (of-own o ∙ ap (own_truth o) (same-truth o x x g f' (sym own-is)))
          where
            of-own : (of : Order) → bits_by is_truth_value (record { name = x; order = of } ∷ []) (λ w. truth_of w.order w.name g) ≡ own_truth of (truth_of of x g)
            of-own Zero = refl
            of-own One = refl
            of-own Two = refl

        letters-said : (p many : ℕ) (bits : List Bool) → wide_letters wide_letter (map (letter_at variables e) (range_with_len p many)) bits ≡ map (letter_at wide g) (range_with_len p many)
            → wide_letters wide_letter (map (letter_at variables e) (range_with_len p many)) bits ≡ map (letter_at wide f') (range_with_len p many)
        letters-said p zero bits same = refl
        letters-said p (suc many) bits same =
            let here : wide_letter (letter_at variables e p) (head_bit bits) ≡ letter_at wide g p = cc in
            let more : wide_letters wide_letter (map (letter_at variables e) (range_with_len (p + 1) many)) (tail_bits bits) ≡ map (letter_at wide g) (range_with_len (p + 1) many) = cc in
            let first : wide_letter (letter_at variables e p) (head_bit bits) ≡ letter_at wide f' p =
            ap (λ (l : List Bool). bits_by is_in_letters others (λ w. own_bit is_in_letters variables (letter_at variables e p) w.name) ++ l) (last-letter p (letter_at variables e p) (head_bit bits) here) ∙ sym (wide-letter e f' (agrees v) p) in
            ap (λ (l : List Bool). l ∷ wide_letters wide_letter (map (letter_at variables e) (range_with_len (p + 1) many)) (tail_bits bits)) first
            ∙ ap (λ (l : List (List Bool)). letter_at wide f' p ∷ l) (letters-said (p + 1) many (tail_bits bits) more)

        letters-are : wide_word.letters ≡ letters_below (length wide_word.letters) wide f'
        letters-are =
            let n = length u.letters in
            let given : wide_letters wide_letter (letters_below n variables e) is_wide.2 ≡ letters_below n wide g =
            ap (λ (l : List (List Bool)). wide_letters wide_letter l is_wide.2) (sym coded.letters) ∙ (found.2.letters ∙ ap (λ k. letters_below k wide g) long) in
            ap (λ (l : List (List Bool)). wide_letters wide_letter l is_wide.2) coded.letters ∙ (letters-said 0 n is_wide.2 given ∙ ap (λ k. letters_below k wide f') (sym long))

        truth-is : wide_word.truth ≡ truth_values_of wide f'
        truth-is =
            ap (λ (l : List Bool). bits_by is_truth_value others (λ w. own_bit is_truth_value variables word.truth w.name) ++ l) (last-truth found.2.truth)
            ∙ (ap (λ (l : List Bool). wide_truth l (truth_of o x f')) encodes.truth ∙ sym (wide-truth e f' (agrees v)))

        wide-encodes : Encodes wide wide_word f'
        wide-encodes = record {
          truth = truth-is;
          letters = letters-are;
          room =
              let own_bound = bound-one wide g own own-among in
              wide-room e f' (agrees v) (length wide_word.letters) (omega (arith, long, coded.room)) (omega (arith, same-bound o x x f' g own-is, own_bound, found.2.room));
          string = subst (λ k. HasLength f'.universe k) (sym long) (subst (λ w. HasLength w (length u.letters)) (sym universe-f) coded.string);
        }

        own-valued' : IsValueOf o f'.universe (value_at o x f')
        own-valued' =
            let Q : Universe → Type 0 = λ w. IsValueOf o w (value_at o x f') in
            let R : Value → Type 0 = λ w. IsValueOf o e.universe w in
            subst Q (sym universe-f) (subst R (sym own-is) valued)

        value-found : Some_value e
        value-found =
            let told = (m.right wide_word g found.1 found.2).0 found.3 in
            (v, valued, (m.right wide_word f' (wide-assigned e f' (agrees v) universe-f assigned own-valued') wide-encodes).1 told)

    pub some-value-reader : Reader (TellsAt mode variables (λ e. (v : Value) × IsValueOf o e.universe v × P (assign x v e)))
    some-value-reader =
        reader-of (λ word bit. IsWidened TellsSome whole wide_truth wide_letter (zero_letter variables) mode word ↔ IsTrue bit) (TellsAt mode variables Some_value) (λ bit. bit)
        (λ word bit told e assigned encodes. ((λ some. told.0 (widened-by word e assigned encodes some.0 some.1 some.2)), (λ is. value-found word e assigned encodes (told.1 is)))) sets
