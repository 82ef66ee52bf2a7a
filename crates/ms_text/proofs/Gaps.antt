-- Blanks and comments.
use Rattle.std.proofs.Common.{◌≡◌, ◌≢◌, ℕ, suc, ◌+◌, ◌<◌, ◌≤◌, true, false, List, [], ◌∷◌, ◌++◌, length, get_or, take, drop, eqb, ◌⊎◌, inl, inr, ⊎_elim, sym, refl, ap, ◌∙◌, subst, arith, append_assoc, length-append, length-take, get_or-take}
use Rattle.std.specs.List.{prefix_len}
use Rattle.std.proofs.lemmas.Bool.{false≢true, cases_eq}
use Rattle.std.proofs.lemmas.Bool.Decides.{nat_tests}
use Rattle.std.proofs.lemmas.List.{get_or_at, get_or-append-add, drop_more, drop-drop, take-append-drop, take_all, take_at, append-nil}
use Rattle.std.proofs.Math.Seq.{take-add}
use Rattle.ms_text.specs.Gap.{is_blank, is_line_byte, EndsLine, NeverCloses, Piece, blank, line_comment, block_comment, piece_bytes, IsPiece, gap_bytes, ArePieces, IsGap, BeginsWithPiece, BeginsNoPiece}
use Rattle.ms_text.proofs.Bytes.{Stops, prefix_passes, prefix_stops}

-- no `*` before this place has a `/` behind it
abbrev pub NoCloseBefore : List ℕ → ℕ → Type 0
NoCloseBefore bytes n = (k : ℕ) → k < n → get_or bytes k 0 ≡ 42 → get_or bytes (k + 1) 0 ≡ 47 → ⊥

pub never_closes_front : (bytes : List ℕ) (n m : ℕ) → NoCloseBefore bytes m → n ≤ m + 1 → NeverCloses (take n bytes)
never_closes_front bytes n m none near front behind e =
    let lengths : length (take n bytes) ≡ length front + length (42 ∷ 47 ∷ behind) = ap length e ∙ length-append front (42 ∷ 47 ∷ behind) in
    let cut : length (take n bytes) ≤ n = omega (arith, length-take n bytes) in
    let star : get_or (take n bytes) (length front) 0 ≡ 42 = ap (λ bs. get_or bs (length front) 0) e ∙ get_or_at front 42 (47 ∷ behind) 0 (length front) refl in
    let slash : get_or (take n bytes) (length front + 1) 0 ≡ 47 = ap (λ bs. get_or bs (length front + 1) 0) e ∙ get_or-append-add front (42 ∷ 47 ∷ behind) 1 0 in
    none (length front) (omega arith) (sym (get_or-take n bytes (length front) 0 (omega arith)) ∙ star)
    (sym (get_or-take n bytes (length front + 1) 0 (omega arith)) ∙ slash)

-- where no closing was found up to the last byte, there is none
pub never_closes : (bytes : List ℕ) (m : ℕ) → NoCloseBefore bytes m → length bytes ≤ m + 1 → NeverCloses bytes
never_closes bytes m none near = subst NeverCloses (take_all (length bytes) bytes (omega arith)) (never_closes_front bytes (length bytes) m none near)

-- the bytes are cut at the `*/` that was found
pub cut_at_close : (bytes : List ℕ) (n : ℕ) → n + 1 < length bytes → get_or bytes n 0 ≡ 42 → get_or bytes (n + 1) 0 ≡ 47 → bytes ≡ take n bytes ++ (42 ∷ 47 ∷ drop (n + 1 + 1) bytes)
cut_at_close bytes n within star slash =
    sym (take-append-drop n bytes) ∙ ap (λ rest. take n bytes ++ rest)
    (drop_more bytes n 0 (omega arith) ∙ (λ i. star i ∷ (drop_more bytes (n + 1) 0 (omega arith) ∙ (λ j. slash j ∷ drop (n + 1 + 1) bytes)) i))

-- a body with one more byte in front is closed only if that byte is a `*` before a `/`
never_more : (b : ℕ) (bs : List ℕ) → (b ≡ 42 → get_or bs 0 0 ≡ 47 → ⊥) → NeverCloses bs → NeverCloses (b ∷ bs)
never_more b bs apart never [] behind e = apart (cc) (ap (λ bytes. get_or (drop 1 bytes) 0 0) e)
never_more b bs apart never (x ∷ xs) behind e = never xs behind (ap (drop 1) e)

first_of_inner : (inner behind : List ℕ) → get_or inner 0 0 ≡ 47 → get_or (inner ++ behind) 0 0 ≡ 47
first_of_inner [] behind e = absurd (omega arith)
first_of_inner (x ∷ xs) behind e = e

closes_here : (b : ℕ) (bs : List ℕ) → (b ∷ bs ≡ 42 ∷ 47 ∷ drop 1 bs) ⊎ (b ≡ 42 → get_or bs 0 0 ≡ 47 → ⊥)
closes_here b [] = inr (λ star slash. absurd (omega arith))
closes_here b (x ∷ xs) =
    ⊎_elim (λ star. ⊎_elim (λ slash. inl (λ i. star i ∷ slash i ∷ xs)) (λ apart. inr (λ _ slash. apart slash)) (cases_eq x 47))
    (λ apart. inr (λ star _. apart star)) (cases_eq b 42)

-- a body is cut at its first `*/`, or there is none
pub closes_or_not : (body : List ℕ) → ((inner behind : List ℕ) × (body ≡ inner ++ (42 ∷ 47 ∷ behind)) × NeverCloses inner) ⊎ NeverCloses body
closes_or_not [] = inr (λ front behind e. absurd (omega (arith, ap length e, length-append front (42 ∷ 47 ∷ behind))))
closes_or_not (b ∷ bs) =
    ⊎_elim
    (λ here. inl ([], drop 1 bs, here, λ front behind e. absurd (omega (arith, ap length e, length-append front (42 ∷ 47 ∷ behind)))))
    (λ apart. ⊎_elim
    (λ closed. inl (b ∷ closed.0, closed.1, (λ i. b ∷ closed.2 i), never_more b closed.0 (λ star slash. apart star (ap (λ bytes. get_or bytes 0 0) closed.2 ∙ first_of_inner closed.0 (42 ∷ 47 ∷ closed.1) slash)) closed.3))
    (λ never. inr (never_more b bs apart never))
    (closes_or_not bs))
    (closes_here b bs)

-- a line ends where a run of bytes that are no line feed ends
pub ends_line : (bytes : List ℕ) → Stops is_line_byte bytes → EndsLine bytes
ends_line [] stops = tt
ends_line (b ∷ bs) stops = grind (arith, nat_tests)

pub stops_line : (bytes : List ℕ) → EndsLine bytes → Stops is_line_byte bytes
stops_line [] ends = tt
stops_line (b ∷ bs) ends = grind (arith, nat_tests)

-- a blank, a line comment and a whole block comment at the front, where `part` is what the code looked at
pub blank_front : (bytes : List ℕ) → eqb (length bytes) 0 ≡ false → is_blank (get_or bytes 0 0) ≡ true → BeginsWithPiece (take 1 bytes) (drop 1 bytes)
blank_front [] nonempty passes = absurd (false≢true (sym nonempty))
blank_front (b ∷ bs) nonempty passes = (blank b, passes, refl)

pub line_front : (bytes part : List ℕ) (n : ℕ) → eqb (length bytes) 0 ≡ false → get_or bytes 0 0 ≡ 35 → part ≡ drop 1 bytes → n ≡ prefix_len is_line_byte part → BeginsWithPiece (take (1 + n) bytes) (drop (1 + n) bytes)
line_front [] part n nonempty is_hash part_is n_is = absurd (false≢true (sym nonempty))
line_front (b ∷ bs) part n nonempty is_hash part_is n_is =
    let one : 1 + n ≡ suc n = omega arith in
    let run : n ≡ prefix_len is_line_byte bs = n_is ∙ ap (prefix_len is_line_byte) part_is in
    rw one (
      line_comment (take n bs),
      (
        rw run (prefix_passes is_line_byte bs),
        rw run (ends_line (drop (prefix_len is_line_byte bs) bs) (prefix_stops is_line_byte bs)),
      ),
      (λ i. is_hash i ∷ take n bs),
    )

pub block_front : (bytes part : List ℕ) (n : ℕ) → bytes ≡ 47 ∷ 42 ∷ drop 2 bytes → part ≡ drop 2 bytes → (behind : List ℕ) × (part ≡ take n part ++ (42 ∷ 47 ∷ behind)) → n + 2 ≤ length part → NeverCloses (take n part) → BeginsWithPiece (take (n + 4) bytes) (drop (n + 4) bytes)
block_front bytes part n bytes_are part_is closed within never =
    let inner = take n part in
    let whole : bytes ≡ (47 ∷ 42 ∷ inner ++ 42 ∷ 47 ∷ []) ++ closed.0 = bytes_are ∙ (λ i. 47 ∷ 42 ∷ (sym part_is ∙ closed.1 ∙ sym (append_assoc inner (42 ∷ 47 ∷ []) closed.0)) i) in
    let long : length (47 ∷ 42 ∷ inner ++ 42 ∷ 47 ∷ []) ≡ n + 4 = omega (arith, length-append inner (42 ∷ 47 ∷ []), length-take n part) in
    (block_comment inner, never, ap (take (n + 4)) whole ∙ take_at (47 ∷ 42 ∷ inner ++ 42 ∷ 47 ∷ []) closed.0 (n + 4) long)

-- no piece is empty
pub piece_nonempty : (piece : Piece) → 0 < length (piece_bytes piece)
piece_nonempty (blank b) = omega arith
piece_nonempty (line_comment body) = omega arith
piece_nonempty (block_comment body) = omega arith

pub no_piece_at_end : BeginsNoPiece []
no_piece_at_end piece behind e is_piece = absurd (omega (arith, ap length e, length-append (piece_bytes piece) behind, piece_nonempty piece))

-- no piece begins with a byte that is no blank and no `#`, where no comment of more lines is closed
pub no_piece_front : (b : ℕ) (bs : List ℕ) → is_blank b ≡ false → b ≢ 35 → ((body : List ℕ) → b ∷ bs ≡ 47 ∷ 42 ∷ body → NeverCloses body) → BeginsNoPiece (b ∷ bs)
no_piece_front b bs not_blank not_hash unclosed (blank x) behind e is_piece =
    let same : b ≡ x = cc in absurd (false≢true (sym not_blank ∙ ap is_blank same ∙ is_piece))
no_piece_front b bs not_blank not_hash unclosed (line_comment body) behind e is_piece = absurd (not_hash cc)
no_piece_front b bs not_blank not_hash unclosed (block_comment body) behind e is_piece =
    absurd (unclosed (body ++ (42 ∷ 47 ∷ behind)) (e ∙ (λ i. 47 ∷ 42 ∷ append_assoc body (42 ∷ 47 ∷ []) behind i)) body behind refl)

gap_bytes_more : (pieces : List Piece) (piece : Piece) → gap_bytes (pieces ++ piece ∷ []) ≡ gap_bytes pieces ++ piece_bytes piece
gap_bytes_more [] piece = append-nil (piece_bytes piece)
gap_bytes_more (p ∷ ps) piece = ap (λ bytes. piece_bytes p ++ bytes) (gap_bytes_more ps piece) ∙ sym (append_assoc (piece_bytes p) (gap_bytes ps) (piece_bytes piece))

-- a piece behind a gap makes a longer gap
pieces_more : (pieces : List Piece) (piece : Piece) (behind : List ℕ) → ArePieces pieces (piece_bytes piece ++ behind) → IsPiece piece behind → ArePieces (pieces ++ piece ∷ []) behind
pieces_more [] piece behind pieces_are is_piece = (is_piece, tt)
pieces_more (p ∷ ps) piece behind pieces_are is_piece =
    (subst (IsPiece p) (sym (ap (λ bytes. bytes ++ behind) (gap_bytes_more ps piece) ∙ append_assoc (gap_bytes ps) (piece_bytes piece) behind)) pieces_are.0, pieces_more ps piece behind pieces_are.1 is_piece)

pub gap_more : (gap front behind : List ℕ) → IsGap gap (front ++ behind) → BeginsWithPiece front behind → IsGap (gap ++ front) behind
gap_more gap front behind is_gap begins = (
  is_gap.0 ++ begins.0 ∷ [],
  pieces_more is_gap.0 begins.0 behind (subst (λ bytes. ArePieces is_gap.0 (bytes ++ behind)) begins.2 is_gap.1) begins.1,
  (λ i. is_gap.2 i ++ begins.2 i) ∙ sym (gap_bytes_more is_gap.0 begins.0),
)

pub gap_step : (bytes : List ℕ) (n p : ℕ) → IsGap (take n bytes) (drop n bytes) → BeginsWithPiece (take p (drop n bytes)) (drop p (drop n bytes)) → IsGap (take (n + p) bytes) (drop (n + p) bytes)
gap_step bytes n p is_gap begins =
    subst (IsGap (take (n + p) bytes)) (drop-drop p n bytes)
    (subst (λ gap. IsGap gap (drop p (drop n bytes))) (sym (take-add n p bytes))
    (gap_more (take n bytes) (take p (drop n bytes)) (drop p (drop n bytes)) (subst (IsGap (take n bytes)) (sym (take-append-drop p (drop n bytes))) is_gap) begins))
