-- The words of states that grow by letters are shortest.
use Rattle.std.proofs.Common.{◌≡◌, ◌≢◌, ℕ, ◌+◌, ◌<◌, ◌≤◌, Bool, List, [], ◌∷◌, length, slice_get, Option, Some, None, sym, ap, ◌∙◌, arith, ⊎_elim}
use Rattle.std.proofs.lemmas.Bool.{cases_lt}
use Rattle.ms_list.specs.declared.word.Word.{Word}
use Rattle.ms_arena.proofs.Lists.{slice_get-held}
use Rattle.ms_dfa.specs.declared.plain.FileSign.{FileSign}
use Rattle.ms_logic_words.specs.Content.{AreLetters, Content, IsContent, IsWordOver, first_state, last_state, next_state, sign_at, state_after}
use Rattle.ms_cert.specs.Certificate.{AreWordsTo, GrowByLetters}
use Rattle.ms_cert.specs.Proven.{IsShortest}
use Rattle.ms_cert.specs.inner.Lengths.{IsLesser, letters_to}
use Rattle.ms_cert.proofs.ContentLemmas.{after-state, first-state, next-state}
use Rattle.ms_cert.proofs.LengthsLemmas.{letters-held}

module _ (content : Content FileSign) (words : List Word) where
  -- the states of a sign below a place have no shorter word than the best, and one has it
  pub record IsBestBelow (sign : FileSign) (below count : ℕ) : Type 0 where
    pub state : ℕ
    pub less : state < below
    pub has_sign : sign_at content state ≡ Some sign
    pub letters : letters_to words state ≡ count
    pub least : (other : ℕ) → other < below → sign_at content other ≡ Some sign → count ≤ letters_to words other

  abbrev pub IsBest : FileSign → ℕ → Option ℕ → Type 0
  IsBest sign below None = (state : ℕ) → state < below → sign_at content state ≢ Some sign
  IsBest sign below (Some count) = IsBestBelow sign below count

  -- a state of another sign more
  pub best-other : (sign : FileSign) (below : ℕ) (best : Option ℕ) → sign_at content below ≢ Some sign → IsBest sign below best → IsBest sign (below + 1) best
  best-other sign below None apart so_far = λ state less is. ⊎_elim
      (λ before. so_far state before is)
      (λ past. let here : state ≡ below = omega arith in apart (ap (sign_at content) (sym here) ∙ is))
      (cases_lt state below)
  best-other sign below (Some count) apart so_far = record {
    state = so_far.state;
    less = omega (arith, so_far.less);
    has_sign = so_far.has_sign;
    letters = so_far.letters;
    least = λ other less is. ⊎_elim
        (λ before. so_far.least other before is)
        (λ past. let here : other ≡ below = omega arith in absurd (apart (ap (sign_at content) (sym here) ∙ is)))
        (cases_lt other below);
  }

  -- a state of the sign more
  pub best-own : (sign : FileSign) (below own least : ℕ) (best : Option ℕ) → sign_at content below ≡ Some sign → letters_to words below ≡ own → IsLesser best own least → IsBest sign below best → IsBest sign (below + 1) (Some least)
  best-own sign below own least None is letters lesser so_far = record {
    state = below;
    less = omega arith;
    has_sign = is;
    letters = letters ∙ sym lesser;
    least = λ other less has. ⊎_elim
        (λ before. absurd (so_far other before has))
        (λ past. let here : other ≡ below = omega arith in let same = ap (letters_to words) here in omega (arith, same, letters, lesser))
        (cases_lt other below);
  }
  best-own sign below own least (Some count) is letters lesser so_far = ⊎_elim
      (λ less. record {
        state = so_far.state;
        less = omega (arith, so_far.less);
        has_sign = so_far.has_sign;
        letters = so_far.letters ∙ omega (arith, less, lesser);
        least = λ other less_other has. ⊎_elim
            (λ before. let few = so_far.least other before has in omega (arith, few, lesser))
            (λ past. let here : other ≡ below = omega arith in let same = ap (letters_to words) here in omega (arith, same, letters, lesser))
            (cases_lt other below);
      })
      (λ more. record {
        state = below;
        less = omega arith;
        has_sign = is;
        letters = letters ∙ omega (arith, more, lesser);
        least = λ other less_other has. ⊎_elim
            (λ before. let few = so_far.least other before has in omega (arith, few, lesser))
            (λ past. let here : other ≡ below = omega arith in let same = ap (letters_to words) here in omega (arith, same, letters, lesser))
            (cases_lt other below);
      })
      (cases_lt count own)

module _ (content : Content FileSign) (rules : IsContent content) (words : List Word) (are : AreWordsTo content words) (grow : GrowByLetters content words) where
  word-of : (state : ℕ) → state < length content.states → (word : Word) × (slice_get words state ≡ Some word)
  word-of state within = slice_get-held words state (omega (arith, within, are.count))

  -- the word of the state after letters has as many letters more at most
  after_few : (letters : List (List Bool)) (state : ℕ) → state < length content.states → AreLetters content.variables letters
      → letters_to words (state_after content state letters) ≤ letters_to words state + length letters
  after_few [] state within over = omega arith
  after_few (letter ∷ letters) state within over =
      let next = next_state content state letter in
      let there = next-state content rules state letter in
      let own = word-of state within in
      let other = word-of next there in
      let step = grow.step state letter own.0 other.0 over.0 own.1 other.1 in
      let more = after_few letters next there over.1 in
      omega (arith, step, more, letters-held words state own.0 own.1, letters-held words next other.0 other.1)

  pub last-few : (word : Word) → IsWordOver content.variables word → letters_to words (last_state content word) ≤ length word.letters
  last-few word over =
      let first = first_state content word.truth in
      let within = first-state content rules word.truth in
      let own = word-of first within in
      let none = grow.start word.truth own.0 over.truth own.1 in
      let few = after_few word.letters first within over.letters in
      omega (arith, few, none, letters-held words first own.0 own.1)

  -- so no word that leads to a state is shorter than the state's word
  pub word-shortest : (state : ℕ) (word other : Word) → slice_get words state ≡ Some word → IsWordOver content.variables other → last_state content other ≡ state → length word.letters ≤ length other.letters
  word-shortest state word other held over last =
      let few = last-few other over in
      let same = ap (letters_to words) last in
      omega (arith, few, same, letters-held words state word held)

  last-within : (word : Word) → last_state content word < length content.states
  last-within word = after-state content rules word.letters (first_state content word.truth) (first-state content rules word.truth)

  -- the best of all states is that of all words
  pub shortest-best : (sign : FileSign) (best : Option ℕ) → IsBest content words sign (length content.states) best → IsShortest content sign best
  shortest-best sign None none = λ word over is. none (last_state content word) (last-within word) is
  shortest-best sign (Some count) best =
      let own = word-of best.state best.less in
      record {
        word = own.0;
        over = are.over best.state own.0 own.1;
        has_sign = ap (sign_at content) (are.ends best.state own.0 own.1) ∙ best.has_sign;
        letters = sym (letters-held words best.state own.0 own.1) ∙ best.letters;
        least = λ other over is.
            let few = last-few other over in
            let least = best.least (last_state content other) (last-within other) is in
            omega (arith, few, least);
      }
