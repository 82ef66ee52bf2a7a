-- A blank behind a text.
use Rattle.std.proofs.Common.{◌≡◌, ℕ, ◌<◌, Bool, true, false, List, [], ◌∷◌, ◌++◌, length, not, ◌⊎◌, inl, inr, ⊎_elim, sym, refl, ap, ◌∙◌, subst, arith, append_assoc, length-append}
use Rattle.std.specs.Char.{is_ascii_digit}
use Rattle.std.specs.List.{list_all}
use Rattle.std.proofs.lemmas.Bool.{false≢true, cases_eq, ne_eqb}
use Rattle.std.proofs.lemmas.Bool.Decides.{nat_tests}
use Rattle.std.proofs.lemmas.List.{append-nil, same_from_push}
use Rattle.ms_text.specs.declared.mark.Mark.{Mark}
use Rattle.ms_text.specs.declared.mark.Mark.TheVariants as marks
use Rattle.ms_text.specs.declared.token.Kind.{Kind}
use Rattle.ms_text.specs.declared.token.Kind.TheVariants as kinds
use Rattle.ms_text.specs.declared.token.Token.{Token}
use Rattle.ms_text.specs.Gap.{is_blank, is_line_byte, EndsLine, Piece, blank, line_comment, block_comment, piece_bytes, IsPiece, gap_bytes, ArePieces}
use Rattle.ms_text.specs.Spelling.{is_name_byte, is_identifier, mark_spelling, Spells, IsLongest}
use Rattle.ms_text.specs.TokenList.{IsTokenList, place_behind}
use Rattle.ms_text.proofs.Bytes.{and_both}
use Rattle.ms_text.proofs.Gaps.{piece_nonempty}
use Rattle.ms_text.proofs.Starts.{identifier_bytes, spelled_identifier, spelled_nonempty}

-- the last byte, and 0 where there is none
abbrev last_byte : List ℕ → ℕ
last_byte [] = 0
last_byte (b ∷ []) = b
last_byte (b ∷ c ∷ bs) = last_byte (c ∷ bs)

last_byte-push : (bytes : List ℕ) (b : ℕ) → last_byte (bytes ++ b ∷ []) ≡ b
last_byte-push [] b = refl
last_byte-push (x ∷ []) b = refl
last_byte-push (x ∷ y ∷ bytes) b = last_byte-push (y ∷ bytes) b

last_passes : (p : ℕ → Bool) (bytes : List ℕ) → list_all p bytes ≡ true → 0 < length bytes → p (last_byte bytes) ≡ true
last_passes p [] passes nonempty = absurd (omega arith)
last_passes p (b ∷ []) passes nonempty = (and_both (p b) true passes).0
last_passes p (b ∷ c ∷ bs) passes nonempty = last_passes p (c ∷ bs) (and_both (p b) (list_all p (c ∷ bs)) passes).1 (omega arith)

name_byte_no_blank : (b : ℕ) → is_name_byte b ≡ true → is_blank b ≡ false
name_byte_no_blank b passes = grind (arith, nat_tests)

digit_no_blank : (b : ℕ) → is_ascii_digit b ≡ true → is_blank b ≡ false
digit_no_blank b passes = grind (arith, nat_tests)

identifier_last : (slice : List ℕ) → is_identifier slice ≡ true → is_blank (last_byte slice) ≡ false
identifier_last [] is = absurd (false≢true is)
identifier_last (b ∷ bs) is = name_byte_no_blank (last_byte (b ∷ bs)) (last_passes is_name_byte (b ∷ bs) (identifier_bytes (b ∷ bs) is) (omega arith))

mark_last : (mark : Mark) → is_blank (last_byte (mark_spelling mark)) ≡ false
mark_last marks.Semicolon = refl
mark_last _ = refl

-- no token ends with a blank
token_last : (kind : Kind) (slice : List ℕ) → Spells kind slice → is_blank (last_byte slice) ≡ false
token_last kinds.Name slice spelled = identifier_last slice spelled.0
token_last (kinds.Word word) slice spelled = identifier_last slice (spelled_identifier (kinds.Word word) slice spelled refl)
token_last kinds.LeftOut slice spelled = identifier_last slice (spelled_identifier kinds.LeftOut slice spelled refl)
token_last (kinds.Number value) slice spelled = digit_no_blank (last_byte slice) (last_passes is_ascii_digit slice spelled.1 spelled.0)
token_last kinds.Text slice spelled = ap is_blank (ap last_byte spelled.1 ∙ last_byte-push (34 ∷ spelled.0) 34)
token_last (kinds.Mark mark) slice spelled = ap (λ bytes. is_blank (last_byte bytes)) spelled ∙ mark_last mark

-- bytes are none, or end with one
last_cut : (bytes : List ℕ) → (bytes ≡ []) ⊎ ((front : List ℕ) × (b : ℕ) × (bytes ≡ front ++ b ∷ []))
last_cut [] = inl refl
last_cut (x ∷ xs) =
    ⊎_elim (λ none. inr ([], x, (λ i. x ∷ none i))) (λ cut. inr (x ∷ cut.0, cut.1, (λ i. x ∷ cut.2 i))) (last_cut xs)

longest_before_blank : (slice rest : List ℕ) (b : ℕ) → is_blank b ≡ true → IsLongest slice rest → IsLongest slice (rest ++ b ∷ [])
longest_before_blank slice rest b is_blank_b longest kind front more e spelled =
    let whole : front ++ more ≡ (slice ++ rest) ++ b ∷ [] = e ∙ sym (append_assoc slice rest (b ∷ [])) in
    ⊎_elim
    (λ none.
    let all : front ≡ (slice ++ rest) ++ b ∷ [] = sym (append-nil front) ∙ ap (λ m. front ++ m) (sym none) ∙ whole in
    let last = ap is_blank (sym (ap last_byte all ∙ last_byte-push (slice ++ rest) b)) in
    absurd (false≢true (sym (token_last kind front spelled) ∙ sym last ∙ is_blank_b)))
    (λ cut. longest kind front cut.0 (same_from_push (front ++ cut.0) (slice ++ rest) cut.1 b (append_assoc front cut.0 (cut.1 ∷ []) ∙ ap (λ m. front ++ m) (sym cut.2) ∙ whole)).0 spelled)
    (last_cut more)

ends_line_more : (bytes : List ℕ) (b : ℕ) → 0 < length bytes → EndsLine bytes → EndsLine (bytes ++ b ∷ [])
ends_line_more [] b nonempty ends = absurd (omega arith)
ends_line_more (x ∷ xs) b nonempty ends = ends

piece_more : (piece : Piece) (behind : List ℕ) (b : ℕ) → 0 < length behind → IsPiece piece behind → IsPiece piece (behind ++ b ∷ [])
piece_more (blank c) behind b nonempty is_piece = is_piece
piece_more (line_comment body) behind b nonempty is_piece = (is_piece.0, ends_line_more behind b nonempty is_piece.1)
piece_more (block_comment body) behind b nonempty is_piece = is_piece

pieces_before_blank : (pieces : List Piece) (behind : List ℕ) (b : ℕ) → 0 < length behind → ArePieces pieces behind → ArePieces pieces (behind ++ b ∷ [])
pieces_before_blank [] behind b nonempty are = tt
pieces_before_blank (p ∷ ps) behind b nonempty are = (
  subst (IsPiece p) (append_assoc (gap_bytes ps) behind (b ∷ [])) (piece_more p (gap_bytes ps ++ behind) b (omega (arith, length-append (gap_bytes ps) behind)) are.0),
  pieces_before_blank ps behind b nonempty are.1,
)

line_bytes_push : (body : List ℕ) (b : ℕ) → list_all is_line_byte body ≡ true → is_line_byte b ≡ true → list_all is_line_byte (body ++ b ∷ []) ≡ true
line_bytes_push [] b passes last = rw last refl
line_bytes_push (x ∷ xs) b passes last =
    let parts = and_both (is_line_byte x) (list_all is_line_byte xs) passes in rw (parts.0) (line_bytes_push xs b parts.1 last)

-- pieces at the end of a text, with a blank behind them: one more piece, or a longer comment
last_pieces_more : (pieces : List Piece) (b : ℕ) → is_blank b ≡ true → ArePieces pieces [] → (more : List Piece) × ArePieces more [] × (gap_bytes more ≡ gap_bytes pieces ++ b ∷ [])
last_pieces_more [] b is_blank_b are = (blank b ∷ [], (is_blank_b, tt), refl)
last_pieces_more (line_comment body ∷ []) b is_blank_b are =
    ⊎_elim
    (λ feed. (line_comment body ∷ blank b ∷ [], ((are.0.0, feed), (is_blank_b, tt)), sym (append_assoc (35 ∷ body) [] (b ∷ []))))
    (λ apart. (
      line_comment (body ++ b ∷ []) ∷ [],
      ((line_bytes_push body b are.0.0 (ap not (ne_eqb b 10 apart)), tt), tt),
      append-nil (35 ∷ body ++ b ∷ []) ∙ ap (λ bytes. bytes ++ b ∷ []) (sym (append-nil (35 ∷ body))),
    ))
    (cases_eq b 10)
last_pieces_more (line_comment body ∷ q ∷ qs) b is_blank_b are =
    let others = last_pieces_more (q ∷ qs) b is_blank_b are.1 in
    let behind = gap_bytes (q ∷ qs) in
    let ends = ends_line_more behind b (omega (arith, length-append (piece_bytes q) (gap_bytes qs), piece_nonempty q)) (subst EndsLine (append-nil behind) are.0.1) in (
      line_comment body ∷ others.0,
      ((are.0.0, subst EndsLine (sym (append-nil (gap_bytes others.0) ∙ others.2)) ends), others.1),
      ap (λ bytes. 35 ∷ body ++ bytes) others.2 ∙ sym (append_assoc (35 ∷ body) behind (b ∷ [])),
    )
last_pieces_more (blank c ∷ ps) b is_blank_b are =
    let others = last_pieces_more ps b is_blank_b are.1 in
    (blank c ∷ others.0, (are.0, others.1), (λ i. c ∷ others.2 i))
last_pieces_more (block_comment body ∷ ps) b is_blank_b are =
    let others = last_pieces_more ps b is_blank_b are.1 in
    let bytes = piece_bytes (block_comment body) in
    (block_comment body ∷ others.0, (are.0, others.1), ap (λ more. bytes ++ more) others.2 ∙ sym (append_assoc bytes (gap_bytes ps) (b ∷ [])))

-- the tokens of a text with a blank behind it are those of the text
pub list_before_blank : (place : ℕ) (bytes : List ℕ) (tokens : List Token) (b : ℕ) → is_blank b ≡ true → IsTokenList place bytes tokens → IsTokenList place (bytes ++ b ∷ []) tokens
list_before_blank place bytes [] b is_blank_b is_gap =
    let more = last_pieces_more is_gap.0 b is_blank_b is_gap.1 in
    (more.0, more.1, ap (λ gap. gap ++ b ∷ []) is_gap.2 ∙ sym more.2)
list_before_blank place bytes (token ∷ tokens) b is_blank_b listed =
    let begins = listed.1 in
    let rest = listed.0 in
    let gap = begins.gap in
    let slice = begins.slice in
    let grouped : (slice ++ rest) ++ b ∷ [] ≡ slice ++ (rest ++ b ∷ []) = append_assoc slice rest (b ∷ []) in (
      rest ++ b ∷ [],
      record {
        gap = gap;
        slice = slice;
        made_up = ap (λ bs. bs ++ b ∷ []) begins.made_up ∙ append_assoc gap (slice ++ rest) (b ∷ []) ∙ ap (λ bs. gap ++ bs) grouped;
        is_gap = (
          begins.is_gap.0,
          subst (ArePieces begins.is_gap.0) grouped (pieces_before_blank begins.is_gap.0 (slice ++ rest) b (omega (arith, length-append slice rest, spelled_nonempty token.kind slice begins.is_token.spelled)) begins.is_gap.1),
          begins.is_gap.2,
        );
        is_token = record {
          spelled = begins.is_token.spelled;
          longest = longest_before_blank slice rest b is_blank_b begins.is_token.longest;
          accepted = begins.is_token.accepted;
        };
        place_is = begins.place_is;
        length_is = begins.length_is;
      },
      list_before_blank (place_behind token) rest tokens b is_blank_b listed.2,
    )
