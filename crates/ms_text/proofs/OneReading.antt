-- A text is read in one way: into one list of tokens, or up to one fault.
use Rattle.std.proofs.Common.{◌≡◌, ℕ, ◌+◌, List, ◌++◌, length, Option, None, Some, sym, refl, ap, ◌∙◌, subst, arith}
use Rattle.std.specs.List.{find}
use Rattle.std.specs.Str.{bytes_eq}
use Rattle.ms_text.specs.declared.keyword.Keyword.{Keyword}
use Rattle.ms_text.specs.declared.keyword.Keyword.TheVariants as words
use Rattle.ms_text.specs.declared.keyword.LeftOutWord.{LeftOutWord}
use Rattle.ms_text.specs.declared.keyword.LeftOutWord.TheVariants as others
use Rattle.ms_text.specs.declared.keyword.TheConstants.{WORDS, LEFT_OUT_WORDS}
use Rattle.ms_text.specs.declared.mark.Mark.{Mark}
use Rattle.ms_text.specs.declared.mark.Mark.TheVariants as marks
use Rattle.ms_text.specs.declared.mark.TheConstants.{MARKS}
use Rattle.ms_text.specs.declared.token.Kind.{Kind}
use Rattle.ms_text.specs.declared.token.Kind.TheVariants as kinds
use Rattle.ms_text.specs.declared.token.Token.{Token}
use Rattle.ms_text.specs.Spelling.{word_spelling, left_out_spelling, mark_spelling, Spells, IsToken}
use Rattle.ms_text.specs.TokenList.{BeginsWith}
use Rattle.ms_text.proofs.Bytes.{same_front}
use Rattle.ms_text.proofs.OneGap.{one_gap}
use Rattle.ms_text.proofs.Starts.{kind_group, spelled_group, no_piece_at_token}

-- the word and the mark that bytes spell

abbrev pub word_spelled : List ℕ → Option Keyword
word_spelled slice = find (λ word. bytes_eq (word_spelling word) slice) WORDS

pub word_spelled-spelling : (word : Keyword) → word_spelled (word_spelling word) ≡ Some word
word_spelled-spelling words.Ws1s = refl
word_spelled-spelling _ = refl

abbrev pub left_out_spelled : List ℕ → Option LeftOutWord
left_out_spelled slice = find (λ word. bytes_eq (left_out_spelling word) slice) LEFT_OUT_WORDS

pub left_out_spelled-spelling : (word : LeftOutWord) → left_out_spelled (left_out_spelling word) ≡ Some word
left_out_spelled-spelling others.Ws2s = refl
left_out_spelled-spelling _ = refl

word_spelled-left_out : (word : LeftOutWord) → word_spelled (left_out_spelling word) ≡ None
word_spelled-left_out others.Ws2s = refl
word_spelled-left_out _ = refl

one_word : (one two : Keyword) (slice : List ℕ) → slice ≡ word_spelling one → slice ≡ word_spelling two → one ≡ two
one_word one two slice is_one is_two =
    let same : Some one ≡ Some two = sym (word_spelled-spelling one) ∙ ap word_spelled (sym is_one ∙ is_two) ∙ word_spelled-spelling two in cc

no_word_left_out : (one : Keyword) (two : LeftOutWord) (slice : List ℕ) → slice ≡ word_spelling one → slice ≡ left_out_spelling two → ⊥
no_word_left_out one two slice is_one is_two =
    let same : Some one ≡ None = sym (word_spelled-spelling one) ∙ ap word_spelled (sym is_one ∙ is_two) ∙ word_spelled-left_out two in cc

abbrev mark_spelled : List ℕ → Option Mark
mark_spelled slice = find (λ mark. bytes_eq (mark_spelling mark) slice) MARKS

mark_spelled-spelling : (mark : Mark) → mark_spelled (mark_spelling mark) ≡ Some mark
mark_spelled-spelling marks.Semicolon = refl
mark_spelled-spelling _ = refl

one_mark : (one two : Mark) (slice : List ℕ) → slice ≡ mark_spelling one → slice ≡ mark_spelling two → one ≡ two
one_mark one two slice is_one is_two =
    let same : Some one ≡ Some two = sym (mark_spelled-spelling one) ∙ ap mark_spelled (sym is_one ∙ is_two) ∙ mark_spelled-spelling two in cc

-- bytes spell a token of one kind
one_kind : (one two : Kind) (slice : List ℕ) → Spells one slice → Spells two slice → kind_group one ≡ kind_group two → one ≡ two
one_kind kinds.Name kinds.Name slice is_one is_two same = refl
one_kind kinds.Name (kinds.Word word) slice is_one is_two same = absurd (is_one.1 (word, is_two))
one_kind kinds.Name kinds.LeftOut slice is_one is_two same = absurd (is_one.2 is_two)
one_kind (kinds.Word word) kinds.Name slice is_one is_two same = absurd (is_two.1 (word, is_one))
one_kind (kinds.Word one) (kinds.Word two) slice is_one is_two same = ap kinds.Word (one_word one two slice is_one is_two)
one_kind (kinds.Word word) kinds.LeftOut slice is_one is_two same = absurd (no_word_left_out word is_two.0 slice is_one is_two.1)
one_kind kinds.LeftOut kinds.Name slice is_one is_two same = absurd (is_two.2 is_one)
one_kind kinds.LeftOut (kinds.Word word) slice is_one is_two same = absurd (no_word_left_out word is_one.0 slice is_two is_one.1)
one_kind kinds.LeftOut kinds.LeftOut slice is_one is_two same = refl
one_kind (kinds.Number one) (kinds.Number two) slice is_one is_two same = ap kinds.Number (is_one.2 ∙ sym is_two.2)
one_kind kinds.Text kinds.Text slice is_one is_two same = refl
one_kind (kinds.Mark one) (kinds.Mark two) slice is_one is_two same = ap kinds.Mark (one_mark one two slice is_one is_two)
one_kind _ _ slice is_one is_two same = absurd cc

-- one token stands at the front
one_token : (one two : Kind) (slice other after behind : List ℕ) → slice ++ after ≡ other ++ behind → IsToken one slice after → IsToken two other behind → (one ≡ two) × (slice ≡ other) × (after ≡ behind)
one_token one two slice other after behind e is_one is_two =
    let long = is_one.longest two other behind (sym e) is_two.spelled in
    let short = is_two.longest one slice after e is_one.spelled in
    let cut = same_front slice other after behind (omega arith) e in
    let spelled = subst (Spells one) cut.0 is_one.spelled in
    (one_kind one two other spelled is_two.spelled (sym (spelled_group one other spelled) ∙ spelled_group two other is_two.spelled), cut.0, cut.1)

pub one_begin : (place : ℕ) (bytes : List ℕ) (one two : Token) (after behind : List ℕ) → BeginsWith place bytes one after → BeginsWith place bytes two behind → (one ≡ two) × (after ≡ behind)
one_begin place bytes one two after behind is_one is_two =
    let gaps = one_gap is_one.gap is_two.gap (is_one.slice ++ after) (is_two.slice ++ behind) (sym is_one.made_up ∙ is_two.made_up) is_one.is_gap is_two.is_gap
    (no_piece_at_token one.kind is_one.slice after is_one.is_token.spelled) (no_piece_at_token two.kind is_two.slice behind is_two.is_token.spelled)
    in
    let tokens = one_token one.kind two.kind is_one.slice is_two.slice after behind gaps.1 is_one.is_token is_two.is_token in
    let place_same : one.place ≡ two.place = is_one.place_is ∙ ap (λ gap. place + length gap) gaps.0 ∙ sym is_two.place_is in
    let length_same : one.length ≡ two.length = is_one.length_is ∙ ap length tokens.1 ∙ sym is_two.length_is in
    ((λ i. record { kind = tokens.0 i; place = place_same i; length = length_same i }), tokens.2)
