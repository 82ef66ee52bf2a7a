-- A certified automaton has fewest states: words to its states lead to different states of each automaton with its words (Myhill; Nerode).
use Rattle.std.proofs.Common.{◌≡◌, ℕ, zero, suc, ◌+◌, ◌<◌, ◌≤◌, Bool, true, false, not, List, [], ◌∷◌, ◌++◌, filter, length, slice_get, Option, Some, None, refl, sym, ap, subst, ◌∙◌, arith}
use Rattle.std.specs.List.{AllByRecursion, range_with_len}
use Rattle.std.specs.Option.{option_map_or}
use Rattle.std.proofs.lemmas.Option.{none-some, same_Some}
use Rattle.ms_list.specs.declared.word.Word.{Word}
use Rattle.ms_arena.proofs.Lists.{slice_get-held}
use Rattle.ms_dfa.specs.Files.{content_of_file}
use Rattle.ms_dfa.specs.declared.plain.FileSign.{FileSign}
use Rattle.ms_dfa.specs.declared.plain.Plain.{Plain}
use Rattle.ms_logic.specs.Assignment.{Variable}
use Rattle.ms_logic.specs.FiniteSet.{numbers_below}
use Rattle.std_collections.proofs.IndexTableLemmas.Probe.{pigeonhole}
use Rattle.ms_logic_words.specs.Content.{AreLetters, Content, IsContent, IsWordOver, first_state, last_state, next_state, sign_at, state_after}
use Rattle.ms_dfafile_outside.proofs.FileLemmas.{length-states}
use Rattle.ms_cert.specs.Certificate.{AreWordsTo, IsCertified, IsLineOver, Separates, Tree, branch, ends_in, is_sign, leaf, lines_of}
use Rattle.ms_cert.specs.Laws.{HaveSameWords}
use Rattle.ms_cert.specs.declared.cert.Cert.{Cert}
use Rattle.ms_cert.specs.inner.Partition.{IsIn}
use Rattle.ms_cert.proofs.ContentLemmas.{after-state, first-state}
use Rattle.ms_cert.proofs.MemberLemmas.{kept}

only-one : (own state place : ℕ) → slice_get (own ∷ []) place ≡ Some state → own ≡ state
only-one own state zero held = same_Some own state held
only-one own state (suc place) held = absurd (none-some state held)

-- the letters of a tree are letters over the variables
abbrev IsTreeOver : List Variable → Tree → Type 0
IsTreeOver variables tree = AllByRecursion (IsLineOver variables) (lines_of tree)

all-at : {X : Type 0} (P : X → Type 0) (xs : List X) → ((i : ℕ) (x : X) → slice_get xs i ≡ Some x → P x) → AllByRecursion P xs
all-at P [] at = tt
all-at P (x ∷ xs) at = (at 0 x refl, all-at P xs (λ i. at (suc i)))

all-both : {X : Type 0} (P : X → Type 0) (xs ys : List X) → AllByRecursion P (xs ++ ys) → AllByRecursion P xs × AllByRecursion P ys
all-both P [] ys all = (tt, all)
all-both P (x ∷ xs) ys all = let rest = all-both P xs ys all.1 in ((all.0, rest.0), rest.1)

module _ (content : Content FileSign) where
  -- after each letters both states have one sign
  abbrev HaveSameSigns : ℕ → ℕ → Type 0
  HaveSameSigns one two = (letters : List (List Bool)) → AreLetters content.variables letters → sign_at content (state_after content one letters) ≡ sign_at content (state_after content two letters)

  -- two states of a list that a tree separates are one where they have the same signs
  separated-one : (tree : Tree) (states : List ℕ) → IsTreeOver content.variables tree → Separates content tree states → (one two : ℕ) → IsIn states one → IsIn states two → HaveSameSigns one two → one ≡ two
  separated-one (leaf state) states over separates one two there also same =
      let first = only-one state one there.0 (subst (λ (s : List ℕ). slice_get s there.0 ≡ Some one) separates there.1) in
      let second = only-one state two also.0 (subst (λ (s : List ℕ). slice_get s also.0 ≡ Some two) separates also.1) in
      sym first ∙ second
  separated-one (branch sign letters first second) states over separates one two there also same =
      let ends = ends_in content sign letters in
      let both = all-both (IsLineOver content.variables) (lines_of first) (lines_of second) over.1 in
      let equal : ends one ≡ ends two = ap (λ (found : Option FileSign). option_map_or (λ own. is_sign own sign) found false) (same letters over.0) in
      let by_test : (passed : Bool) → ends one ≡ passed → one ≡ two = λ passed. elim passed as (λ (b : Bool). ends one ≡ b → one ≡ two) [
        | true ↦ λ is. separated-one first (filter ends states) both.0 separates.0 one two (kept ends states one there.0 there.1 is) (kept ends states two also.0 also.1 (sym equal ∙ is)) same
        | false ↦ λ is. separated-one second (filter (λ state. not (ends state)) states) both.1 separates.1 one two (kept (λ state. not (ends state)) states one there.0 there.1 (ap not is)) (kept (λ state. not (ends state)) states two also.0 also.1 (ap not (sym equal ∙ is))) same
      ] in
      by_test (ends one) refl

-- letters behind letters
after-append : (content : Content FileSign) (letters more : List (List Bool)) (state : ℕ) → state_after content state (letters ++ more) ≡ state_after content (state_after content state letters) more
after-append content [] more state = refl
after-append content (letter ∷ letters) more state = after-append content letters more (next_state content state letter)

over-append : (variables : List Variable) (letters more : List (List Bool)) → AreLetters variables letters → AreLetters variables more → AreLetters variables (letters ++ more)
over-append variables [] more are also = also
over-append variables (letter ∷ letters) more are also = (are.0, over-append variables letters more are.1 also)

abbrev longer : Word → List (List Bool) → Word
longer word letters = record { truth = word.truth; letters = word.letters ++ letters }

-- the state of another content to which a word leads
abbrev led_by : Content FileSign → Option Word → ℕ
led_by other None = 0
led_by other (Some word) = last_state other word

number-in : (a n place : ℕ) → place < n → slice_get (range_with_len a n) place ≡ Some (a + place)
number-in a zero place less = absurd (omega arith)
number-in a (suc n) zero less = let same : a ≡ a + 0 = omega arith in ap Some same
number-in a (suc n) (suc place) less = let same : a + 1 + place ≡ a + suc place = omega arith in number-in (a + 1) n place (omega arith) ∙ ap Some same

module _ (content other : Content FileSign) (words : List Word) (are : AreWordsTo content words) (same : HaveSameWords content other) where
  -- states to which the words of one state of the other content lead have the same signs
  same-signs : (one two : ℕ) (word own : Word) → slice_get words one ≡ Some word → slice_get words two ≡ Some own → last_state other word ≡ last_state other own → HaveSameSigns content one two
  same-signs one two word own held held_own led letters over =
      sign-behind one word held letters over
      ∙ ap (λ (s : ℕ). sign_at other (state_after other s letters)) led
      ∙ sym (sign-behind two own held_own letters over)
    where
      sign-behind : (state : ℕ) (w : Word) → slice_get words state ≡ Some w → (more : List (List Bool)) → AreLetters content.variables more
          → sign_at content (state_after content state more) ≡ sign_at other (state_after other (last_state other w) more)
      sign-behind state w there more are_letters =
          let over_w = are.over state w there in
          let whole : IsWordOver content.variables (longer w more) = record { truth = over_w.truth; letters = over-append content.variables w.letters more over_w.letters are_letters } in
          ap (λ (s : ℕ). sign_at content (state_after content s more)) (sym (are.ends state w there))
          ∙ ap (sign_at content) (sym (after-append content w.letters more (first_state content w.truth)))
          ∙ same.signs (longer w more) whole
          ∙ ap (sign_at other) (after-append other w.letters more (first_state other w.truth))

-- so no content with its words has fewer states
pub fewest-states : (plain : Plain) (cert : Cert) (other : Content FileSign) → IsCertified plain cert → IsContent other → HaveSameWords (content_of_file plain) other → length plain.states ≤ length other.states
fewest-states plain cert other certified rules same =
    pigeonhole (length plain.states) (length other.states) (λ i. led_by other (slice_get cert.words i)) below apart
  where
    content : Content FileSign
    content = content_of_file plain

    word-of : (i : ℕ) → i < length plain.states → (word : Word) × (slice_get cert.words i ≡ Some word)
    word-of i less = slice_get-held cert.words i (omega (arith, less, certified.words.count, length-states plain))

    below : (i : ℕ) → i < length plain.states → led_by other (slice_get cert.words i) < length other.states
    below i less =
        let word = word-of i less in
        subst (λ (found : Option Word). led_by other found < length other.states) (sym word.1) (after-state other rules word.0.letters (first_state other word.0.truth) (first-state other rules word.0.truth))

    is-in : (i : ℕ) → i < length plain.states → IsIn (numbers_below (length (content_of_file plain).states)) i
    is-in i less = let same_place : 0 + i ≡ i = omega arith in (i, number-in 0 (length (content_of_file plain).states) i (omega (arith, less, length-states plain)) ∙ ap Some same_place)

    apart : (i j : ℕ) → i < length plain.states → j < length plain.states → led_by other (slice_get cert.words i) ≡ led_by other (slice_get cert.words j) → i ≡ j
    apart i j less also led =
        let one = word-of i less in
        let two = word-of j also in
        let ends : last_state other one.0 ≡ last_state other two.0 = ap (led_by other) (sym one.1) ∙ led ∙ ap (led_by other) two.1 in
        let over = subst (AllByRecursion (IsLineOver (content_of_file plain).variables)) certified.tree.spelled (all-at (IsLineOver (content_of_file plain).variables) cert.tree certified.letters) in
        separated-one (content_of_file plain) certified.tree.tree (numbers_below (length (content_of_file plain).states)) over certified.tree.separates i j (is-in i less) (is-in j also)
        (same-signs (content_of_file plain) other cert.words certified.words same i j one.0 two.0 one.1 two.1 ends)
