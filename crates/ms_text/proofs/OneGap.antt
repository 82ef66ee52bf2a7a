-- A text is cut in one way into a gap and what stands behind it.
use Rattle.std.proofs.Common.{◌≡◌, ℕ, ◌<◌, true, List, [], ◌∷◌, ◌++◌, length, drop, eqb, sym, refl, ap, ◌∙◌, ⊎_elim, arith, append_assoc}
use Rattle.std.proofs.lemmas.Bool.{false≢true, cases_lt}
use Rattle.std.proofs.lemmas.List.{append-nil}
use Rattle.ms_text.specs.Gap.{is_blank, is_line_byte, NeverCloses, Piece, blank, line_comment, block_comment, piece_bytes, IsPiece, gap_bytes, ArePieces, IsGap, BeginsNoPiece}
use Rattle.ms_text.proofs.Bytes.{one_run, same_front, goes_on}
use Rattle.ms_text.proofs.Gaps.{stops_line, no_piece_at_end}

closes_within : (one two more after behind : List ℕ) → length one < length two → two ≡ one ++ more → 42 ∷ 47 ∷ after ≡ more ++ (42 ∷ 47 ∷ behind) → NeverCloses two → ⊥
closes_within one two [] after behind less two_is e never =
    let same : length two ≡ length one = ap length (two_is ∙ append-nil one) in omega arith
closes_within one two (x ∷ []) after behind less two_is e never =
    let slash_is_star : 47 ≡ 42 = cc in false≢true (sym (ap (eqb 47) slash_is_star))
closes_within one two (x ∷ y ∷ more) after behind less two_is e never =
    let star : x ≡ 42 = cc in
    let slash : y ≡ 47 = cc in
    never one more (two_is ∙ (λ i. one ++ (star i ∷ slash i ∷ more)))

-- a body that never closes does not go on behind a closing
no_longer_body : (one two after behind : List ℕ) → length one < length two → one ++ (42 ∷ 47 ∷ after) ≡ two ++ (42 ∷ 47 ∷ behind) → NeverCloses two → ⊥
no_longer_body one two after behind less e never =
    let longer = goes_on one two (42 ∷ 47 ∷ after) (42 ∷ 47 ∷ behind) (omega arith) e in
    closes_within one two longer.0 after behind less longer.1 longer.2 never

-- the first closing is one
one_close : (one two after behind : List ℕ) → one ++ (42 ∷ 47 ∷ after) ≡ two ++ (42 ∷ 47 ∷ behind) → NeverCloses one → NeverCloses two → (one ≡ two) × (after ≡ behind)
one_close one two after behind e never_one never_two =
    ⊎_elim
    (λ less. absurd (no_longer_body one two after behind less e never_two))
    (λ more. ⊎_elim
    (λ less. absurd (no_longer_body two one behind after less (sym e) never_one))
    (λ same. let cut = same_front one two (42 ∷ 47 ∷ after) (42 ∷ 47 ∷ behind) (omega arith) e in (cut.0, ap (drop 2) cut.1))
    (cases_lt (length two) (length one)))
    (cases_lt (length one) (length two))

blank_is : (b c : ℕ) → is_blank b ≡ true → b ≡ c → is_blank c ≡ true
blank_is b c passes same = sym (ap is_blank same) ∙ passes

-- one blank or comment stands at the front
one_piece : (p q : Piece) (after behind : List ℕ) → piece_bytes p ++ after ≡ piece_bytes q ++ behind → IsPiece p after → IsPiece q behind → (p ≡ q) × (after ≡ behind)
one_piece (blank b) (blank c) after behind e is_p is_q =
    let same : b ≡ c = cc in ((λ i. blank (same i)), ap (drop 1) e)
one_piece (blank b) (line_comment two) after behind e is_p is_q = absurd (false≢true (blank_is b 35 is_p cc))
one_piece (blank b) (block_comment two) after behind e is_p is_q = absurd (false≢true (blank_is b 47 is_p cc))
one_piece (line_comment one) (blank c) after behind e is_p is_q = absurd (false≢true (blank_is c 35 is_q cc))
one_piece (line_comment one) (line_comment two) after behind e is_p is_q =
    let cut = one_run is_line_byte one two after behind is_p.0 is_q.0 (stops_line after is_p.1) (stops_line behind is_q.1) (ap (drop 1) e) in
    ((λ i. line_comment (cut.0 i)), cut.1)
one_piece (line_comment one) (block_comment two) after behind e is_p is_q =
    let same : 35 ≡ 47 = cc in absurd (false≢true (sym (ap (eqb 35) same)))
one_piece (block_comment one) (blank c) after behind e is_p is_q = absurd (false≢true (blank_is c 47 is_q cc))
one_piece (block_comment one) (line_comment two) after behind e is_p is_q =
    let same : 47 ≡ 35 = cc in absurd (false≢true (sym (ap (eqb 47) same)))
one_piece (block_comment one) (block_comment two) after behind e is_p is_q =
    let inner = sym (append_assoc one (42 ∷ 47 ∷ []) after) ∙ ap (drop 2) e ∙ append_assoc two (42 ∷ 47 ∷ []) behind in
    let cut = one_close one two after behind inner is_p is_q in
    ((λ i. block_comment (cut.0 i)), cut.1)

one_pieces : (ps qs : List Piece) (after behind : List ℕ) → gap_bytes ps ++ after ≡ gap_bytes qs ++ behind → ArePieces ps after → ArePieces qs behind → BeginsNoPiece after → BeginsNoPiece behind → (gap_bytes ps ≡ gap_bytes qs) × (after ≡ behind)
one_pieces [] [] after behind e are_ps are_qs no_after no_behind = (refl, e)
one_pieces [] (q ∷ qs) after behind e are_ps are_qs no_after no_behind =
    absurd (no_after q (gap_bytes qs ++ behind) (e ∙ append_assoc (piece_bytes q) (gap_bytes qs) behind) are_qs.0)
one_pieces (p ∷ ps) [] after behind e are_ps are_qs no_after no_behind =
    absurd (no_behind p (gap_bytes ps ++ after) (sym e ∙ append_assoc (piece_bytes p) (gap_bytes ps) after) are_ps.0)
one_pieces (p ∷ ps) (q ∷ qs) after behind e are_ps are_qs no_after no_behind =
    let grouped = sym (append_assoc (piece_bytes p) (gap_bytes ps) after) ∙ e ∙ append_assoc (piece_bytes q) (gap_bytes qs) behind in
    let first = one_piece p q (gap_bytes ps ++ after) (gap_bytes qs ++ behind) grouped are_ps.0 are_qs.0 in
    let others = one_pieces ps qs after behind first.1 are_ps.1 are_qs.1 no_after no_behind in
    ((λ i. piece_bytes (first.0 i) ++ others.0 i), others.1)

-- one gap stands at the front, where no blank and no comment begins behind it
pub one_gap : (one two after behind : List ℕ) → one ++ after ≡ two ++ behind → IsGap one after → IsGap two behind → BeginsNoPiece after → BeginsNoPiece behind → (one ≡ two) × (after ≡ behind)
one_gap one two after behind e is_one is_two no_after no_behind =
    let cut = one_pieces is_one.0 is_two.0 after behind (ap (λ gap. gap ++ after) (sym is_one.2) ∙ e ∙ ap (λ gap. gap ++ behind) is_two.2) is_one.1 is_two.1 no_after no_behind in
    (is_one.2 ∙ cut.0 ∙ sym is_two.2, cut.1)

-- a gap up to the end leaves nothing behind another one
pub nothing_behind : (bytes gap behind : List ℕ) → bytes ≡ gap ++ behind → IsGap bytes [] → IsGap gap behind → BeginsNoPiece behind → [] ≡ behind
nothing_behind bytes gap behind e is_whole is_gap no_piece =
    (one_gap bytes gap [] behind (append-nil bytes ∙ e) is_whole is_gap no_piece_at_end no_piece).1
