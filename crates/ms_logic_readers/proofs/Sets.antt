-- The sets of states to which a machine comes where one bit of each letter is free (Rabin and Scott, 1959): a word leads to just those
-- to which some word with further bits leads; and behind it zeros may follow.
use Rattle.std.proofs.Common.{◌≡◌, ℕ, zero, suc, Bool, true, false, IsTrue, ◌⊎◌, inl, inr, ⊎_elim, ◌↔◌, List, [], ◌∷◌, ◌++◌, length, replicate, refl, sym, ◌∙◌, ap, subst, arith}
use Rattle.std.proofs.lemmas.Bool.{cases_Bool, false≢true}
use Rattle.ms_list.specs.declared.word.Word.{Word}
use Rattle.ms_logic.specs.declared.mode.Mode.{Mode}
use Rattle.ms_logic.specs.declared.mode.Mode.TheVariants.{Ws1s, M2lStr}
use Rattle.ms_logic_words.specs.Content.{head_bit, tail_bits}
use Rattle.ms_logic_machines.proofs.Choices.{Among, Decided, among-or, among-picked, lists-tested, picked, picked-among, picked-sublist, some-or, sublists}
use Rattle.ms_logic_machines.proofs.Reached.{Path, Reaches, reached-or}
use Rattle.ms_logic_readers.proofs.Readers.{Reader, read}

-- how many letters may follow
abbrev pub MayFollow : Mode → ℕ → Type 0
MayFollow Ws1s count = Unit {0}
MayFollow M2lStr count = count ≡ 0

-- a test as a bit
abbrev pub as_bit : {P : Type 0} → Decided P → Bool
as_bit (inl held) = true
as_bit (inr fails) = false

pub bit-tells : (P : Type 0) (test : Decided P) → P ↔ IsTrue (as_bit test)
bit-tells P (inl held) = ((λ p. refl), (λ is. held))
bit-tells P (inr fails) = ((λ p. absurd (fails p)), (λ is. absurd (false≢true is)))

pub read-append : {State : Type 0} (next : State → List Bool → State) (s : State) (letters more : List (List Bool)) → read next s (letters ++ more) ≡ read next (read next s letters) more
read-append next s [] more = refl
read-append next s (letter ∷ letters) more = read-append next (next s letter) letters more

module _ (wide_letter : List Bool → Bool → List Bool) where
  -- letters with further bits
  abbrev pub wide_letters : List (List Bool) → List Bool → List (List Bool)
  wide_letters [] bits = []
  wide_letters (letter ∷ letters) bits = wide_letter letter (head_bit bits) ∷ wide_letters letters (tail_bits bits)

  pub wide-append : (letters more : List (List Bool)) (bits later : List Bool) → length bits ≡ length letters → wide_letters (letters ++ more) (bits ++ later) ≡ wide_letters letters bits ++ wide_letters more later
  wide-append [] more [] later long = refl
  wide-append [] more (b ∷ bits) later long = absurd (omega (arith, long))
  wide-append (letter ∷ letters) more [] later long = absurd (omega (arith, long))
  wide-append (letter ∷ letters) more (b ∷ bits) later long = ap (λ (l : List (List Bool)). wide_letter letter b ∷ l) (wide-append letters more bits later (omega (arith, long)))

  -- the bits that are left behind letters
  abbrev pub rest_bits : List (List Bool) → List Bool → List Bool
  rest_bits [] bits = bits
  rest_bits (letter ∷ letters) bits = rest_bits letters (tail_bits bits)

  pub wide-parts : (letters more : List (List Bool)) (bits : List Bool) → wide_letters (letters ++ more) bits ≡ wide_letters letters bits ++ wide_letters more (rest_bits letters bits)
  wide-parts [] more bits = refl
  wide-parts (letter ∷ letters) more bits = ap (λ (l : List (List Bool)). wide_letter letter (head_bit bits) ∷ l) (wide-parts letters more (tail_bits bits))

module _ (T : Word → Bool → Type 0) (m : Reader T) (wide_truth : List Bool → Bool → List Bool) (wide_letter : List Bool → Bool → List Bool) (zeros : List Bool) (mode : Mode) where
  abbrev along : m.State → List (List Bool) → List Bool → m.State
  along s letters bits = read m.next s (wide_letters wide_letter letters bits)

  -- the sets

  abbrev Leads : List m.State → List Bool → m.State → Type 0
  Leads within letter t = (s : m.State) × Among s m.states × (Among s within × ((m.next s (wide_letter letter true) ≡ t) ⊎ (m.next s (wide_letter letter false) ≡ t)))

  leads-or : (within : List m.State) (letter : List Bool) (t : m.State) → Decided (Leads within letter t)
  leads-or within letter t =
      some-or (λ s. Among s within × ((m.next s (wide_letter letter true) ≡ t) ⊎ (m.next s (wide_letter letter false) ≡ t)))
      (λ s. ⊎_elim (λ among. ⊎_elim (λ one. inl (among, inl one)) (λ not-one. ⊎_elim (λ other. inl (among, inr other)) (λ neither. inr (λ held. ⊎_elim not-one neither held.1)) (m.test (m.next s (wide_letter letter false)) t)) (m.test (m.next s (wide_letter letter true)) t))
      (λ lacks. inr (λ held. lacks held.0)) (among-or m.test s within)) m.states

  abbrev led : List m.State → List Bool → List m.State
  led within letter = picked (Leads within letter) (leads-or within letter) m.states

  abbrev Begins : List Bool → m.State → Type 0
  Begins truth t = (m.start (wide_truth truth true) ≡ t) ⊎ (m.start (wide_truth truth false) ≡ t)

  begins-or : (truth : List Bool) (t : m.State) → Decided (Begins truth t)
  begins-or truth t =
      ⊎_elim (λ one. inl (inl one)) (λ not-one. ⊎_elim (λ other. inl (inr other)) (λ neither. inr (λ held. ⊎_elim not-one neither held)) (m.test (m.start (wide_truth truth false)) t)) (m.test (m.start (wide_truth truth true)) t)

  abbrev begun : List Bool → List m.State
  begun truth = picked (Begins truth) (begins-or truth) m.states

  either : (P : Bool → m.State) (b : Bool) (t : m.State) → P b ≡ t → (P true ≡ t) ⊎ (P false ≡ t)
  either P true t is = inl is
  either P false t is = inr is

  of-either : (P : Bool → m.State) (t : m.State) → (P true ≡ t) ⊎ (P false ≡ t) → (b : Bool) × (P b ≡ t)
  of-either P t is = ⊎_elim (λ one. (true, one)) (λ other. (false, other)) is

  -- what is led to
  goes : (letters : List (List Bool)) (bits : List Bool) (within : List m.State) (s : m.State) → Among s within → Among s m.states → Among (along s letters bits) (read led within letters)
  goes [] bits within s inside among = inside
  goes (letter ∷ letters) bits within s inside among =
      let b = head_bit bits in
      let t = m.next s (wide_letter letter b) in
      let there = m.next_among s (wide_letter letter b) among in
      goes letters (tail_bits bits) (led within letter) t
      (picked-among (Leads within letter) (leads-or within letter) t m.states (s, among, (inside, either (λ d. m.next s (wide_letter letter d)) b t refl)) there) there

  stays : (letters : List (List Bool)) (s : m.State) → Among s m.states → Among (read m.next s letters) m.states
  stays [] s among = among
  stays (letter ∷ letters) s among = stays letters (m.next s letter) (m.next_among s letter among)

  -- how it was led to
  came : (letters : List (List Bool)) (within : List m.State) (t : m.State) → Among t (read led within letters)
      → (s : m.State) × (bits : List Bool) × Among s within × (length bits ≡ length letters) × (along s letters bits ≡ t)
  came [] within t inside = (t, [], inside, refl, refl)
  came (letter ∷ letters) within t inside =
      let later = came letters (led within letter) t inside in
      let leads = (among-picked (Leads within letter) (leads-or within letter) later.0 m.states later.2).0 in
      let by = of-either (λ d. m.next leads.0 (wide_letter letter d)) later.0 leads.2.1 in
      (leads.0, by.0 ∷ later.1, leads.2.0, ap (λ n. suc n) later.3, ap (λ r. along r letters later.1) by.1 ∙ later.4)

  -- zeros behind a word

  abbrev both_bits : List Bool
  both_bits = true ∷ false ∷ []

  a-bit : (d : Bool) → Among d both_bits
  a-bit true = inl refl
  a-bit false = inr (inl refl)

  abbrev zero_step : m.State → Bool → m.State
  zero_step s d = m.next s (wide_letter zeros d)

  abbrev Final : m.State → Type 0
  Final s = IsTrue (m.accepts s)

  final-or : (s : m.State) → Decided (Final s)
  final-or s = ⊎_elim (λ is. inl is) (λ is_not. inr (λ is. false≢true (sym is_not ∙ is))) (cases_Bool (m.accepts s))

  abbrev firsts : ℕ → List Bool → List Bool
  firsts zero bits = []
  firsts (suc count) bits = head_bit bits ∷ firsts count (tail_bits bits)

  path-of : (count : ℕ) (bits : List Bool) (s : m.State) → Among s m.states → Final (along s (replicate count zeros) bits) → Path m.test both_bits zero_step Final final-or m.states s (firsts count bits)
  path-of zero bits s among final = (among, final)
  path-of (suc count) bits s among final =
      (among, a-bit (head_bit bits), path-of count (tail_bits bits) (zero_step s (head_bit bits)) (m.next_among s (wide_letter zeros (head_bit bits)) among) final)

  of-path : (ds : List Bool) (s : m.State) → Path m.test both_bits zero_step Final final-or m.states s ds → Final (along s (replicate (length ds) zeros) ds)
  of-path [] s path = path.1
  of-path (d ∷ ds) s path = of-path ds (zero_step s d) path.2

  -- a state from which letters that may follow lead to one that is final
  abbrev Ends : Mode → m.State → Type 0
  Ends Ws1s s = Reaches m.test both_bits zero_step Final final-or m.states s
  Ends M2lStr s = Final s

  ends-or : (of : Mode) (s : m.State) → Decided (Ends of s)
  ends-or Ws1s s = reached-or m.test both_bits zero_step Final final-or m.states s
  ends-or M2lStr s = final-or s

  abbrev SomeEnds : List m.State → Type 0
  SomeEnds within = (s : m.State) × Among s within × Ends mode s

  -- some further bits, and letters of zeros that may follow, lead to a state that is final
  abbrev pub wide_word : Word → Bool → ℕ → List Bool → Word
  wide_word word b count bits = record { truth = wide_truth word.truth b; letters = wide_letters wide_letter (word.letters ++ replicate count zeros) bits }

  abbrev pub IsWidened : Word → Type 0
  IsWidened word =
      (b : Bool) × (count : ℕ) × (bits : List Bool) × MayFollow mode count
      × IsTrue (m.accepts (read m.next (m.start (wide_truth word.truth b)) (wide_letters wide_letter (word.letters ++ replicate count zeros) bits)))

  abbrev at_end : Word → List m.State
  at_end word = read led (begun word.truth) word.letters

  start-among : (truth : List Bool) (b : Bool) → Among (m.start (wide_truth truth b)) (begun truth)
  start-among truth b =
      picked-among (Begins truth) (begins-or truth) (m.start (wide_truth truth b)) m.states (either (λ d. m.start (wide_truth truth d)) b (m.start (wide_truth truth b)) refl) (m.start_among (wide_truth truth b))

  ends-of : (of : Mode) (count : ℕ) (bits : List Bool) (s : m.State) → MayFollow of count → Among s m.states → Final (along s (replicate count zeros) bits) → Ends of s
  ends-of Ws1s count bits s may among final = (firsts count bits, path-of count bits s among final)
  ends-of M2lStr count bits s may among final = let P : ℕ → Type 0 = λ n. Final (along s (replicate n zeros) bits) in subst P may final

  of-ends : (of : Mode) (s : m.State) → Ends of s → (count : ℕ) × (bits : List Bool) × MayFollow of count × Final (along s (replicate count zeros) bits)
  of-ends Ws1s s ends = (length ends.0, ends.0, tt, of-path ends.0 s ends.1)
  of-ends M2lStr s ends = (0, [], refl, ends)

  some-of : (word : Word) → IsWidened word → SomeEnds (at_end word)
  some-of word widened =
      let first = m.start (wide_truth word.truth widened.0) in
      let bits = widened.2 in
      let s = along first word.letters bits in
      let among = m.start_among (wide_truth word.truth widened.0) in
      let split = ap (read m.next first) (wide-parts wide_letter word.letters (replicate widened.1 zeros) bits) ∙ read-append m.next first (wide_letters wide_letter word.letters bits) (wide_letters wide_letter (replicate widened.1 zeros) (rest_bits wide_letter word.letters bits)) in
      let P : m.State → Type 0 = λ t. IsTrue (m.accepts t) in (
        s,
        goes word.letters bits (begun word.truth) first (start-among word.truth widened.0) among,
        ends-of mode widened.1 (rest_bits wide_letter word.letters bits) s widened.3 (stays (wide_letters wide_letter word.letters bits) first among) (subst P split widened.4),
      )

  of-some : (word : Word) → SomeEnds (at_end word) → IsWidened word
  of-some word some =
      let was = came word.letters (begun word.truth) some.0 some.1 in
      let begins = (among-picked (Begins word.truth) (begins-or word.truth) was.0 m.states was.2).0 in
      let by = of-either (λ d. m.start (wide_truth word.truth d)) was.0 begins in
      let first = m.start (wide_truth word.truth by.0) in
      let ends = of-ends mode some.0 some.2 in
      let split = ap (read m.next first) (wide-append wide_letter word.letters (replicate ends.0 zeros) was.1 ends.1 was.3) ∙ read-append m.next first (wide_letters wide_letter word.letters was.1) (wide_letters wide_letter (replicate ends.0 zeros) ends.1) in
      let there = ap (λ r. along r word.letters was.1) by.1 ∙ was.4 in
      let P : m.State → Type 0 = λ t. IsTrue (m.accepts t) in
      (by.0, ends.0, was.1 ++ ends.1, ends.2, subst P (sym (split ∙ ap (λ r. along r (replicate ends.0 zeros) ends.1) there)) ends.3)

  some-or-none : (within : List m.State) → Decided (SomeEnds within)
  some-or-none within = some-or (Ends mode) (ends-or mode) within

  pub set-reader : Reader (λ word bit. IsWidened word ↔ IsTrue bit)
  set-reader = record {
    State = List m.State;
    test = lists-tested m.test;
    states = sublists m.states;
    start = begun;
    next = led;
    accepts = λ within. as_bit (some-or-none within);
    start_among = λ truth. picked-sublist (Begins truth) (begins-or truth) m.states;
    next_among = λ within letter among. picked-sublist (Leads within letter) (leads-or within letter) m.states;
    right = λ word.
        let tells = bit-tells (SomeEnds (at_end word)) (some-or-none (at_end word)) in
        ((λ widened. tells.0 (some-of word widened)), (λ is. of-some word (tells.1 is)));
  }
