-- The tables of words and marks, which the code goes through from the front.
use Rattle.std.proofs.Common.{◌≡◌, ℕ, zero, suc, ◌+◌, ◌<◌, ◌≤◌, Bool, true, false, eqb, nat_le, ◌&&◌, List, [], ◌∷◌, ◌++◌, length, get_or, take, Some, slice_get, sym, refl, ap, ◌∙◌, subst, ⊎_elim, arith}
use Rattle.std.specs.Cmp.Lexicographic.{pointwise}
use Rattle.std.specs.List.{list_all}
use Rattle.std.proofs.lemmas.Bool.{false≢true, leb-true, cases_lt}
use Rattle.std.proofs.lemmas.Bool.Decides.{Decides-eqb}
use Rattle.std.proofs.lemmas.List.Recursion.{and_at}
use Rattle.std.proofs.lemmas.Option.{slice_get-get_or, slice_get_within, get_or_from_slice_get}
use Rattle.std.proofs.lemmas.Slice.Eq.{slice_eq-Decides, starts_is}
use Rattle.ms_text.proofs.Bytes.{and_both}
use denote.Enum.Declared.{tag_of}
use Rattle.ms_text.specs.Spelling.{mark_spelling}
use Rattle.ms_text.specs.contracts.keyword.Keyword as keyword
use Rattle.ms_text.specs.declared.keyword.Keyword.{Keyword}
use Rattle.ms_text.specs.declared.keyword.Keyword.TheVariants as words
use Rattle.ms_text.specs.declared.keyword.TheConstants.{WORDS, LEFT_OUT_WORDS}
use Rattle.ms_text.specs.contracts.keyword.LeftOutWord as left_out_word
use Rattle.ms_text.specs.declared.keyword.LeftOutWord.{LeftOutWord}
use Rattle.ms_text.specs.declared.keyword.LeftOutWord.TheVariants as others
use Rattle.ms_text.specs.declared.mark.Mark.{Mark}
use Rattle.ms_text.specs.declared.mark.Mark.TheVariants as marks
use Rattle.ms_text.specs.declared.mark.TheConstants.{MARKS}

-- P holds of no item before this place
abbrev pub NoneBefore : {X : Type 0} → (X → Type 0) → List X → ℕ → Type 0
NoneBefore {X} P xs i = (k : ℕ) (x : X) → k < i → slice_get xs k ≡ Some x → P x → ⊥

pub none_before_more : {X : Type 0} (P : X → Type 0) (xs : List X) (i : ℕ) (x : X) → slice_get xs i ≡ Some x → NoneBefore P xs i → (P x → ⊥) → NoneBefore P xs (i + 1)
none_before_more {X} P xs i x here before not_here k y below there holds =
    ⊎_elim (λ less. before k y less there holds)
    (λ more. let same : k ≡ i = omega arith in let item : y ≡ x = cc in not_here (subst P item holds))
    (cases_lt k i)

-- each word stands in the table, at its number
pub word_at : (word : Keyword) → slice_get WORDS (tag_of keyword.the_type word) ≡ Some word
word_at words.Ws1s = refl
word_at _ = refl

pub word_below : (word : Keyword) → tag_of keyword.the_type word < 34
word_below words.Ws1s = omega arith
word_below _ = omega arith

pub left_out_at : (word : LeftOutWord) → slice_get LEFT_OUT_WORDS (tag_of left_out_word.the_type word) ≡ Some word
left_out_at others.Ws2s = refl
left_out_at _ = refl

pub left_out_below : (word : LeftOutWord) → tag_of left_out_word.the_type word < 11
left_out_below others.Ws2s = omega arith
left_out_below _ = omega arith

-- each mark stands in the table
pub mark_place : (mark : Mark) → (k : ℕ) × (k < 23) × (slice_get MARKS k ≡ Some mark)
mark_place marks.Equivalence = (0, omega arith, refl)
mark_place marks.NotEqual = (1, omega arith, refl)
mark_place marks.LessEqual = (2, omega arith, refl)
mark_place marks.GreaterEqual = (3, omega arith, refl)
mark_place marks.Implication = (4, omega arith, refl)
mark_place marks.Arrow = (5, omega arith, refl)
mark_place marks.Semicolon = (6, omega arith, refl)
mark_place marks.Comma = (7, omega arith, refl)
mark_place marks.Colon = (8, omega arith, refl)
mark_place marks.OpenParenthesis = (9, omega arith, refl)
mark_place marks.CloseParenthesis = (10, omega arith, refl)
mark_place marks.OpenBrace = (11, omega arith, refl)
mark_place marks.CloseBrace = (12, omega arith, refl)
mark_place marks.Equal = (13, omega arith, refl)
mark_place marks.Less = (14, omega arith, refl)
mark_place marks.Greater = (15, omega arith, refl)
mark_place marks.And = (16, omega arith, refl)
mark_place marks.Or = (17, omega arith, refl)
mark_place marks.Not = (18, omega arith, refl)
mark_place marks.Plus = (19, omega arith, refl)
mark_place marks.Minus = (20, omega arith, refl)
mark_place marks.Backslash = (21, omega arith, refl)
mark_place marks.Dollar = (22, omega arith, refl)

-- one step of a search for the item whose bytes are the slice
pub search_step : {X : Type 0} (bytes_of : X → List ℕ) (slice : List ℕ) (items : List X) (i : ℕ) (d : X) (bytes : List ℕ) (r : Bool) → NoneBefore (λ item. slice ≡ bytes_of item) items i → i < length items → bytes ≡ bytes_of (get_or items i d) → r ≡ pointwise eqb slice bytes → r ≡ false → NoneBefore (λ item. slice ≡ bytes_of item) items (i + 1)
search_step bytes_of slice items i d bytes r before within bytes_are tested differs =
    none_before_more (λ item. slice ≡ bytes_of item) items i (get_or items i d) (slice_get-get_or items i d within) before
    (λ same. false≢true (sym differs ∙ (slice_eq-Decides Decides-eqb slice bytes r tested).1 (same ∙ sym bytes_are)))

-- one step of a search for the item whose bytes stand at the front
pub front_step : {X : Type 0} (bytes_of : X → List ℕ) (rest : List ℕ) (items : List X) (i : ℕ) (d : X) (bytes : List ℕ) (r : Bool) → NoneBefore (λ item. (behind : List ℕ) × (rest ≡ bytes_of item ++ behind)) items i → i < length items → bytes ≡ bytes_of (get_or items i d) → r ≡ pointwise eqb bytes (take (length bytes) rest) → r ≡ false → NoneBefore (λ item. (behind : List ℕ) × (rest ≡ bytes_of item ++ behind)) items (i + 1)
front_step bytes_of rest items i d bytes r before within bytes_are tested differs =
    none_before_more (λ item. (behind : List ℕ) × (rest ≡ bytes_of item ++ behind)) items i (get_or items i d) (slice_get-get_or items i d within) before
    (λ begins. false≢true (sym differs ∙ (starts_is Decides-eqb rest bytes r tested).1 begins.0 (begins.1 ∙ ap (λ front. front ++ begins.0) (sym bytes_are))))

-- no mark is longer than one before it
abbrev longer_first : List Mark → Bool
longer_first [] = true
longer_first (mark ∷ marks) = list_all (λ other. nat_le (length (mark_spelling other)) (length (mark_spelling mark))) marks && longer_first marks

no_longer : (marks : List Mark) (i k : ℕ) (mark other : Mark) → longer_first marks ≡ true → i ≤ k → slice_get marks i ≡ Some mark → slice_get marks k ≡ Some other → length (mark_spelling other) ≤ length (mark_spelling mark)
no_longer [] i k mark other sorted below here there = absurd cc
no_longer (m ∷ ms) zero zero mark other sorted below here there = let same : mark ≡ other = cc in rw same (omega arith)
no_longer (m ∷ ms) zero (suc k) mark other sorted below here there =
    let is_mark : m ≡ mark = cc in
    let shorter = λ (next : Mark). nat_le (length (mark_spelling next)) (length (mark_spelling m)) in
    let passes : shorter (get_or ms k other) ≡ true = and_at (list_all shorter) shorter refl (λ _ _. refl) ms k other (slice_get_within ms k other there) (and_both (list_all shorter ms) (longer_first ms) sorted).0 in
    let is_other = get_or_from_slice_get ms k other other there in
    subst (λ x. length (mark_spelling other) ≤ length (mark_spelling x)) is_mark
    (leb-true (length (mark_spelling other)) (length (mark_spelling m)) (subst (λ x. shorter x ≡ true) is_other passes))
no_longer (m ∷ ms) (suc i) zero mark other sorted below here there = absurd (omega arith)
no_longer (m ∷ ms) (suc i) (suc k) mark other sorted below here there = no_longer ms i k mark other (and_both (list_all (λ next. nat_le (length (mark_spelling next)) (length (mark_spelling m))) ms) (longer_first ms) sorted).1 (omega arith) here there

-- where the mark at a place of the table begins the bytes, and none before it, no longer mark does
pub longest_mark : (rest : List ℕ) (i : ℕ) (mark : Mark) → NoneBefore (λ mark. (behind : List ℕ) × (rest ≡ mark_spelling mark ++ behind)) MARKS i → slice_get MARKS i ≡ Some mark → (other : Mark) (behind : List ℕ) → rest ≡ mark_spelling other ++ behind → length (mark_spelling other) ≤ length (mark_spelling mark)
longest_mark rest i mark before here other behind begins =
    let place = mark_place other in
    ⊎_elim (λ less. absurd (before place.0 other less place.2 (behind, begins)))
    (λ more. no_longer MARKS i place.0 mark other refl more here place.2)
    (cases_lt place.0 i)
