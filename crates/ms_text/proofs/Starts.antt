-- Which tokens begin with a byte: each kind of token, and what stands between tokens, has first bytes of its own.
use Rattle.std.proofs.Common.{◌≡◌, ℕ, ◌<◌, true, false, cond, ◌||◌, ◌==◌, List, [], ◌∷◌, ◌++◌, length, sym, refl, ap, ◌∙◌, arith}
use Rattle.std.specs.Char.{is_ascii_digit}
use Rattle.std.specs.List.{list_all}
use Rattle.std.proofs.lemmas.Bool.{false≢true}
use Rattle.std.proofs.lemmas.Bool.Decides.{nat_tests}
use Rattle.ms_text.specs.declared.keyword.Keyword.{Keyword}
use Rattle.ms_text.specs.declared.keyword.Keyword.TheVariants as words
use Rattle.ms_text.specs.declared.keyword.LeftOutWord.{LeftOutWord}
use Rattle.ms_text.specs.declared.keyword.LeftOutWord.TheVariants as others
use Rattle.ms_text.specs.declared.mark.Mark.{Mark}
use Rattle.ms_text.specs.declared.mark.Mark.TheVariants as marks
use Rattle.ms_text.specs.declared.token.Kind.{Kind}
use Rattle.ms_text.specs.declared.token.Kind.TheVariants as kinds
use Rattle.ms_text.specs.Gap.{is_blank, Piece, blank, line_comment, block_comment, piece_bytes, IsPiece, BeginsNoPiece}
use Rattle.ms_text.specs.Spelling.{is_name_start, is_name_byte, is_identifier, word_spelling, left_out_spelling, mark_spelling, Spells}
use Rattle.ms_text.proofs.Bytes.{and_both}
use Rattle.ms_text.proofs.Gaps.{piece_nonempty}

-- what a byte begins: a name or a word, a number, a text, a blank or a comment, or anything else
pub data Group : Type 0 where
  named : Group
  number : Group
  text : Group
  spaced : Group
  other : Group

abbrev pub group_of : ℕ → Group
group_of b =
    cond (is_name_start b) named (cond (is_ascii_digit b) number (cond (b == 34) text (cond (is_blank b || b == 35 || b == 47) spaced other)))

abbrev pub first_group : List ℕ → Group
first_group [] = other
first_group (b ∷ bs) = group_of b

abbrev pub kind_group : Kind → Group
kind_group kinds.Name = named
kind_group (kinds.Word word) = named
kind_group kinds.LeftOut = named
kind_group (kinds.Number value) = number
kind_group kinds.Text = text
kind_group (kinds.Mark mark) = other

pub first_group-append : (xs ys : List ℕ) → 0 < length xs → first_group (xs ++ ys) ≡ first_group xs
first_group-append [] ys nonempty = absurd (omega arith)
first_group-append (x ∷ xs) ys nonempty = refl

pub digit_no_start : (b : ℕ) → is_ascii_digit b ≡ true → is_name_start b ≡ false
digit_no_start b digit = grind (arith, nat_tests)

pub blank_group : (b : ℕ) → is_blank b ≡ true → group_of b ≡ spaced
blank_group b passes = grind (arith, nat_tests)

pub start_is_byte : (b : ℕ) → is_name_start b ≡ true → is_name_byte b ≡ true
start_is_byte b start = rw start refl

pub identifier_bytes : (slice : List ℕ) → is_identifier slice ≡ true → list_all is_name_byte slice ≡ true
identifier_bytes [] is = absurd (false≢true is)
identifier_bytes (b ∷ bs) is =
    let parts = and_both (is_name_start b) (list_all is_name_byte bs) is in
    rw (start_is_byte b parts.0) parts.1

pub identifier_group : (slice : List ℕ) → is_identifier slice ≡ true → first_group slice ≡ named
identifier_group [] is = absurd (false≢true is)
identifier_group (b ∷ bs) is = let start = (and_both (is_name_start b) (list_all is_name_byte bs) is).0 in rw start refl

pub number_group : (slice : List ℕ) → 0 < length slice → list_all is_ascii_digit slice ≡ true → first_group slice ≡ number
number_group [] nonempty digits = absurd (omega arith)
number_group (b ∷ bs) nonempty digits =
    let digit = (and_both (is_ascii_digit b) (list_all is_ascii_digit bs) digits).0 in
    rw (digit_no_start b digit, digit) refl

pub word_is_identifier : (word : Keyword) → is_identifier (word_spelling word) ≡ true
word_is_identifier words.Ws1s = refl
word_is_identifier _ = refl

pub left_out_is_identifier : (word : LeftOutWord) → is_identifier (left_out_spelling word) ≡ true
left_out_is_identifier others.Ws2s = refl
left_out_is_identifier _ = refl

pub mark_group : (mark : Mark) → first_group (mark_spelling mark) ≡ other
mark_group marks.Semicolon = refl
mark_group _ = refl

pub mark_nonempty : (mark : Mark) → 0 < length (mark_spelling mark)
mark_nonempty marks.Semicolon = omega arith
mark_nonempty _ = omega arith

-- names, words and left-out words are identifiers
pub spelled_identifier : (kind : Kind) (slice : List ℕ) → Spells kind slice → kind_group kind ≡ named → is_identifier slice ≡ true
spelled_identifier kinds.Name slice spelled same = spelled.0
spelled_identifier (kinds.Word word) slice spelled same = ap is_identifier spelled ∙ word_is_identifier word
spelled_identifier kinds.LeftOut slice spelled same = ap is_identifier spelled.1 ∙ left_out_is_identifier spelled.0
spelled_identifier (kinds.Number value) slice spelled same = cc
spelled_identifier kinds.Text slice spelled same = cc
spelled_identifier (kinds.Mark mark) slice spelled same = cc

identifier_nonempty : (slice : List ℕ) → is_identifier slice ≡ true → 0 < length slice
identifier_nonempty [] is = absurd (false≢true is)
identifier_nonempty (b ∷ bs) is = omega arith

-- a token has a byte at least, and its first byte tells its group
pub spelled_nonempty : (kind : Kind) (slice : List ℕ) → Spells kind slice → 0 < length slice
spelled_nonempty kinds.Name slice spelled = identifier_nonempty slice spelled.0
spelled_nonempty (kinds.Word word) slice spelled = identifier_nonempty slice (spelled_identifier (kinds.Word word) slice spelled refl)
spelled_nonempty kinds.LeftOut slice spelled = identifier_nonempty slice (spelled_identifier kinds.LeftOut slice spelled refl)
spelled_nonempty (kinds.Number value) slice spelled = spelled.0
spelled_nonempty kinds.Text slice spelled = omega (arith, ap length spelled.1)
spelled_nonempty (kinds.Mark mark) slice spelled = omega (arith, ap length spelled, mark_nonempty mark)

pub spelled_group : (kind : Kind) (slice : List ℕ) → Spells kind slice → first_group slice ≡ kind_group kind
spelled_group kinds.Name slice spelled = identifier_group slice spelled.0
spelled_group (kinds.Word word) slice spelled = identifier_group slice (spelled_identifier (kinds.Word word) slice spelled refl)
spelled_group kinds.LeftOut slice spelled = identifier_group slice (spelled_identifier kinds.LeftOut slice spelled refl)
spelled_group (kinds.Number value) slice spelled = number_group slice spelled.0 spelled.1
spelled_group kinds.Text slice spelled = ap first_group spelled.1
spelled_group (kinds.Mark mark) slice spelled = ap first_group spelled ∙ mark_group mark

-- a token at the front of bytes tells the group of their first byte
pub token_group : (kind : Kind) (front more : List ℕ) → Spells kind front → first_group (front ++ more) ≡ kind_group kind
token_group kind front more spelled = first_group-append front more (spelled_nonempty kind front spelled) ∙ spelled_group kind front spelled

pub piece_group : (piece : Piece) (behind : List ℕ) → IsPiece piece behind → first_group (piece_bytes piece) ≡ spaced
piece_group (blank b) behind is_piece = blank_group b is_piece
piece_group (line_comment body) behind is_piece = refl
piece_group (block_comment body) behind is_piece = refl

-- what begins with a byte of another group begins with no blank and no comment
pub no_piece_by_group : (bytes : List ℕ) → (first_group bytes ≡ spaced → ⊥) → BeginsNoPiece bytes
no_piece_by_group bytes apart piece behind e is_piece =
    apart (ap first_group e ∙ first_group-append (piece_bytes piece) behind (piece_nonempty piece) ∙ piece_group piece behind is_piece)

pub not_spaced : (kind : Kind) → kind_group kind ≡ spaced → ⊥
not_spaced kinds.Name same = cc
not_spaced _ same = cc

-- no piece begins where a token does
pub no_piece_at_token : (kind : Kind) (slice behind : List ℕ) → Spells kind slice → BeginsNoPiece (slice ++ behind)
no_piece_at_token kind slice behind spelled = no_piece_by_group (slice ++ behind) (λ same. not_spaced kind (sym (token_group kind slice behind spelled) ∙ same))
