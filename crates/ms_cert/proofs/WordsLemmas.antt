-- Words and letters with as many bits as the variables of a file ask for.
use Rattle.std.proofs.Common.{◌≡◌, ◌≢◌, ◌↔◌, ℕ, Bool, nat_eq, IsTrue, List, length, sym, subst, ◌∙◌, arith}
use Rattle.std.specs.List.{AllByRecursion}
use Rattle.std.proofs.lemmas.Bool.Decides.{nat_tests}
use Rattle.ms_list.specs.declared.word.Word.{Word}
use Rattle.ms_dfa.specs.Files.{content_of_file}
use Rattle.ms_dfa.specs.declared.plain.FileSign.{FileSign}
use Rattle.ms_dfa.specs.declared.plain.Plain.{Plain}
use Rattle.ms_logic_words.specs.Content.{AreLetters, IsWordOver, count_of, is_in_letters, is_truth_value}
use Rattle.ms_cert.specs.Certificate.{IsLineOver}
use Rattle.ms_cert.specs.declared.cert.TreeLine.{TreeLine}
use Rattle.ms_cert.specs.declared.cert.TreeLine.TheVariants.{By}
use Rattle.ms_cert.specs.declared.layout.Layout.{Layout}
use Rattle.ms_cert.specs.inner.Slots.{IsLayout, orders_of}
use Rattle.ms_cert.proofs.SlotsLemmas.{count-orders}

module _ (plain : Plain) (layout : Layout) (is : IsLayout (orders_of plain) layout) where
  truth_count : layout.truth ≡ count_of is_truth_value (content_of_file plain).variables
  truth_count = is.truth ∙ sym (count-orders is_truth_value (orders_of plain))

  letter_count : layout.letter ≡ count_of is_in_letters (content_of_file plain).variables
  letter_count = is.letter ∙ sym (count-orders is_in_letters (orders_of plain))

  letters-over : (letters : List (List Bool)) (result : Bool) → IsTrue result ↔ AllByRecursion (λ letter. length letter ≡ layout.letter) letters → IsTrue result ↔ AreLetters (content_of_file plain).variables letters
  letters-over letters result told =
      let P = λ (n : ℕ). IsTrue result ↔ AllByRecursion (λ letter. length letter ≡ n) letters in subst P letter_count told

  pub line-over : (line : TreeLine) (sign : FileSign) (letters : List (List Bool)) → line ≡ By sign letters → (seen : List (List Bool)) → seen ≡ letters → (result : Bool) → IsTrue result ↔ AllByRecursion (λ letter. length letter ≡ layout.letter) seen
      → IsTrue result ↔ IsLineOver (content_of_file plain).variables line
  line-over line sign letters is_by seen same result told =
      subst (λ (l : TreeLine). IsTrue result ↔ IsLineOver (content_of_file plain).variables l) (sym is_by)
      (subst (λ (ls : List (List Bool)). IsTrue result ↔ AreLetters (content_of_file plain).variables ls) same (letters-over seen result told))

  pub word-over : (word : Word) (seen : List (List Bool)) → seen ≡ word.letters → (result : Bool) → IsTrue result ↔ AllByRecursion (λ letter. length letter ≡ layout.letter) seen
      → (long : ℕ) → long ≡ length word.truth → long ≡ layout.truth → IsTrue result ↔ IsWordOver (content_of_file plain).variables word
  word-over word seen same result told long is_long truth =
      let letters = subst (λ (ls : List (List Bool)). IsTrue result ↔ AreLetters (content_of_file plain).variables ls) same (letters-over seen result told) in
      (λ yes. record { truth = sym is_long ∙ truth ∙ truth_count; letters = letters.0 yes }, λ over. letters.1 over.letters)

  pub other-truth : (word : Word) (long : ℕ) → long ≡ length word.truth → long ≢ layout.truth → IsTrue (nat_eq long layout.truth) ↔ IsWordOver (content_of_file plain).variables word
  other-truth word long is_long other = (
    λ yes. absurd (other (grind (arith, nat_tests))),
    λ over. absurd (other (is_long ∙ over.truth ∙ sym truth_count)),
  )
