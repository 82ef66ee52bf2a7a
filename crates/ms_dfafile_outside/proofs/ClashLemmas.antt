-- Where the rule is met, two words that lead to one state have equally many ones of each number, if one of them has none twice.
use Rattle.std.proofs.Common.{◌≡◌, ◌↔◌, ℕ, ◌+◌, ◌≤◌, ⊎_elim, eqb, refl, sym, ap, ◌∙◌, arith}
use Rattle.std.proofs.lemmas.Bool.{cases_eq, eq-eqb, ne_eqb}
use Rattle.ms_arena.specs.Diagram.{Bits}
use Rattle.ms_dfa.specs.Files.{MarksOutside}
use Rattle.ms_dfa.specs.declared.plain.FileSign.{FileSign}
use Rattle.ms_list.specs.declared.word.Word.{Word}
use Rattle.ms_logic.specs.Lists.{AreRising}
use Rattle.ms_logic_words.specs.Content.{Content, IsWordOver, last_state, next_state, sign_at, sign_of}
use Rattle.ms_logic_words.specs.Word.{IsEncoding}
use Rattle.ms_dfafile_outside.specs.declared.label.Label.{Label}
use Rattle.ms_dfafile_outside.specs.declared.label.Label.TheVariants.{Lost, Seen}
use Rattle.ms_dfafile_outside.specs.inner.Numbers.{IsNumberAt, one_if}
use Rattle.ms_dfafile_outside.specs.inner.Labels.{IsLabel, ones_at, orders_in}
use Rattle.ms_dfafile_outside.proofs.LabelLemmas.{labels-same}
use Rattle.ms_dfafile_outside.proofs.NumbersLemmas.{AgreeAt, AreOnce}
use Rattle.ms_dfafile_outside.proofs.OnesLemmas.{encodes-ones}
use Rattle.ms_dfafile_outside.proofs.WordsLemmas.{last-with, letter_for, ones-with, over-with, word_with}

-- one more fills up none, and nothing else
filled : (n : ℕ) → n ≤ 1 → n + one_if (eqb n 0) ≡ 1
filled n once = ⊎_elim
    (λ none. ap (λ test. n + one_if test) (eq-eqb n 0 none) ∙ omega (arith, none))
    (λ some. ap (λ test. n + one_if test) (ne_eqb n 0 some) ∙ omega (arith, some, once))
    (cases_eq n 0)

filled-apart : (n m : ℕ) → n ≤ 1 → m + one_if (eqb n 0) ≡ 1 → n ≡ m
filled-apart n m once full = ⊎_elim
    (λ none. let more : m + 1 ≡ 1 = ap (λ test. m + one_if test) (sym (eq-eqb n 0 none)) ∙ full in omega (arith, none, more))
    (λ some. let more : m + 0 ≡ 1 = ap (λ test. m + one_if test) (sym (ne_eqb n 0 some)) ∙ full in omega (arith, some, once, more))
    (cases_eq n 0)

module _ (content : Content FileSign) (rising : AreRising content.variables) where
  abbrev pub ones_of : Word → ℕ → ℕ
  ones_of word = ones_at content.variables word.letters

  pub encodes : (word : Word) → IsWordOver content.variables word
      → IsEncoding content.mode content.variables word ↔ ((place : ℕ) → IsNumberAt (orders_in content) place → ones_of word place ≡ 1)
  encodes word over = encodes-ones content.mode content.variables word rising over

  module _ (marks : MarksOutside content) where
    pub clash : (one two : Word) → IsWordOver content.variables one → IsWordOver content.variables two → last_state content one ≡ last_state content two
        → AreOnce (orders_in content) (ones_of one) → AgreeAt (orders_in content) (ones_of one) (ones_of two)
    clash one two over_one over_two same once place is = ⊎_elim (λ equal. equal)
        (λ differ.
        let bits : Bits = λ p. eqb (ones_of one p) 0 in
        let first = word_with content one bits in
        let second = word_with content two bits in
        let over_first = over-with content one bits over_one in
        let over_second = over-with content two bits over_two in
        let encoding : IsEncoding content.mode content.variables first
        = (encodes first over_first).1 (λ p number. ones-with content one bits p number ∙ filled (ones_of one p) (once p number)) in
        let signs_same : sign_of content second ≡ sign_of content first
        = ap (sign_at content) (last-with content two bits ∙ ap (λ s. next_state content s (letter_for content bits)) (sym same) ∙ sym (last-with content one bits)) in
        let outside : ¬ IsEncoding content.mode content.variables second
        = λ found. differ (filled-apart (ones_of one place) (ones_of two place) (once place is)
        (sym (ones-with content two bits place is) ∙ (encodes second over_second).0 found place is)) in
        absurd ((marks first over_first).0 (sym signs_same ∙ (marks second over_second).1 outside) encoding))
        (cases_eq (ones_of one place) (ones_of two place))

    -- so they have one label
    pub labels-agree : (one two : Word) (first second : Label) → IsWordOver content.variables one → IsWordOver content.variables two → last_state content one ≡ last_state content two
        → IsLabel (orders_in content) (ones_of one) first → IsLabel (orders_in content) (ones_of two) second → first ≡ second
    labels-agree one two Lost Lost over_one over_two same is also = refl
    labels-agree one two Lost (Seen set) over_one over_two same is also =
        sym (labels-same (orders_in content) (ones_of two) (ones_of one) (Seen set) Lost (clash two one over_two over_one (sym same) also.once) also is)
    labels-agree one two (Seen set) second over_one over_two same is also =
        labels-same (orders_in content) (ones_of one) (ones_of two) (Seen set) second (clash one two over_one over_two same is.once) is also
