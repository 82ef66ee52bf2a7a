-- Each text has tokens or a fault: what begins it can be told.
use Rattle.std.proofs.Common.{◌≡◌, ◌≢◌, ℕ, zero, suc, ◌+◌, ◌<◌, ◌≤◌, ◌^◌, Bool, true, false, eqb, List, [], ◌∷◌, ◌++◌, length, get_or, take, drop, Some, slice_get, IsUtf8, ◌⊎◌, inl, inr, ⊎_elim, sym, refl, ap, ◌∙◌, subst, arith, append_assoc, length-append, length-take, length-drop}
use Rattle.std.specs.Char.{is_ascii_digit}
use Rattle.std.specs.List.{prefix_len}
use Rattle.std.specs.Bool.{Decides}
use Rattle.std.specs.Str.{bytes_eq, is_utf8}
use Rattle.std.specs.Str.Parse.{digits_value}
use Rattle.std.proofs.lemmas.Bool.{false≢true, cases_lt, cases_eq}
use Rattle.std.proofs.lemmas.Bool.Decides.{Decides-eqb}
use Rattle.std.proofs.lemmas.List.{take-append-drop, get_or_past, append-nil}
use Rattle.std.proofs.lemmas.List.Sums.{prefix_len-le-length}
use Rattle.std.proofs.lemmas.Slice.Eq.{bytes_eq-Decides, starts_is}
use Rattle.std.proofs.lemmas.Str.{IsUtf8-from_is_utf8, is_utf8-from_IsUtf8}
use denote.Enum.Declared.{tag_of}
use Rattle.ms_text.specs.contracts.keyword.Keyword as keyword
use Rattle.ms_text.specs.contracts.keyword.LeftOutWord as left_out_word
use Rattle.ms_text.specs.declared.fault.Cause.{Cause}
use Rattle.ms_text.specs.declared.fault.Cause.TheVariants as causes
use Rattle.ms_text.specs.declared.keyword.TheConstants.{WORDS, LEFT_OUT_WORDS}
use Rattle.ms_text.specs.declared.mark.TheConstants.{MARKS}
use Rattle.ms_text.specs.declared.token.Kind.{Kind}
use Rattle.ms_text.specs.declared.token.Kind.TheVariants as kinds
use Rattle.ms_text.specs.declared.token.Token.{Token}
use Rattle.ms_text.specs.Fault.{IsFault, HasFaultBehind}
use Rattle.ms_text.specs.Gap.{is_blank, is_line_byte, NeverCloses, piece_bytes, blank, line_comment, block_comment, IsPiece, ArePieces, IsGap, BeginsWithPiece, BeginsNoPiece}
use Rattle.ms_text.specs.Spelling.{is_name_start, is_name_byte, is_text_byte, word_spelling, left_out_spelling, mark_spelling, IsWord, IsLeftOut, BeginsWithToken}
use Rattle.ms_text.specs.TokenList.{BeginsWith, IsTokenList, token_at}
use Rattle.ms_text.proofs.Bytes.{prefix_passes, prefix_stops}
use Rattle.ms_text.proofs.Fronts.{identifier_front, identifier_token, run_nonempty, number_token, number_too_large, cut_text, text_front, text_token, no_utf8, mark_token, open_comment, stray_byte}
use Rattle.ms_text.proofs.Gaps.{closes_or_not, ends_line, no_piece_at_end, no_piece_front}
use Rattle.ms_text.proofs.Starts.{spelled_nonempty}
use Rattle.ms_text.proofs.Tables.{NoneBefore, longest_mark, mark_place, word_at, word_below, left_out_at, left_out_below}

behind_first : {X : Type 0} (P : X → Type 0) (x : X) (xs : List X) (i : ℕ) → (P x → ⊥) → NoneBefore P xs i → NoneBefore P (x ∷ xs) (suc i)
behind_first P x xs i not_here none zero y below there holds = let same : y ≡ x = cc in not_here (subst P same holds)
behind_first P x xs i not_here none (suc k) y below there holds = none k y (omega arith) there holds

-- the first item that P holds of, or none
first_item : {X : Type 0} (P : X → Type 0) → ((x : X) → P x ⊎ (P x → ⊥)) → (items : List X) → ((k : ℕ) × (x : X) × (slice_get items k ≡ Some x) × P x × NoneBefore P items k) ⊎ NoneBefore P items (length items)
first_item P tell [] = inr (λ k x below there holds. omega arith)
first_item {X} P tell (x ∷ xs) =
    ⊎_elim
    (λ holds. inl (0, x, refl, holds, λ k y below there h. absurd (omega arith)))
    (λ not_here. ⊎_elim
    (λ found. inl (suc found.0, found.1, found.2, found.3, behind_first P x xs found.0 not_here found.4))
    (λ none. inr (behind_first P x xs (length xs) not_here none))
    (first_item P tell xs))
    (tell x)

told : (b : Bool) (P : Type 0) → Decides b P → P ⊎ (P → ⊥)
told true P decides = inl (decides.0 refl)
told false P decides = inr (λ holds. false≢true (decides.1 holds))

same_or_not : (slice bytes : List ℕ) → (slice ≡ bytes) ⊎ (slice ≡ bytes → ⊥)
same_or_not slice bytes = told (bytes_eq slice bytes) (slice ≡ bytes) (bytes_eq-Decides slice bytes)

word_or_not : (slice : List ℕ) → IsWord slice ⊎ (IsWord slice → ⊥)
word_or_not slice =
    ⊎_elim
    (λ found. inl (found.1, found.3))
    (λ none. inr (λ word. none (tag_of keyword.the_type word.0) word.0 (word_below word.0) (word_at word.0) word.1))
    (first_item (λ word. slice ≡ word_spelling word) (λ word. same_or_not slice (word_spelling word)) WORDS)

left_out_or_not : (slice : List ℕ) → IsLeftOut slice ⊎ (IsLeftOut slice → ⊥)
left_out_or_not slice =
    ⊎_elim
    (λ found. inl (found.1, found.3))
    (λ none. inr (λ word. none (tag_of left_out_word.the_type word.0) word.0 (left_out_below word.0) (left_out_at word.0) word.1))
    (first_item (λ word. slice ≡ left_out_spelling word) (λ word. same_or_not slice (left_out_spelling word)) LEFT_OUT_WORDS)

-- what stands at the front of bytes: a token, or a fault
abbrev Front : List ℕ → Type 0
Front rest = ((kind : Kind) × (n : ℕ) × (n ≤ length rest) × BeginsWithToken rest kind n) ⊎ ((cause : Cause) × IsFault cause rest)

name_front : (rest : List ℕ) → 0 < length rest → is_name_start (get_or rest 0 0) ≡ true → Front rest
name_front rest nonempty start =
    let n = prefix_len is_name_byte rest in
    let slice = take n rest in
    let is = identifier_front rest n nonempty start refl in
    let within = prefix_len-le-length is_name_byte rest in
    ⊎_elim
    (λ word. inl (kinds.Word word.0, n, within, identifier_token (kinds.Word word.0) rest n is refl word.1 tt))
    (λ no_word. ⊎_elim
    (λ left_out. inl (kinds.LeftOut, n, within, identifier_token kinds.LeftOut rest n is refl left_out tt))
    (λ no_left_out. inl (kinds.Name, n, within, identifier_token kinds.Name rest n is refl (is, no_word, no_left_out) tt))
    (left_out_or_not slice))
    (word_or_not slice)

number_front : (rest : List ℕ) → 0 < length rest → is_ascii_digit (get_or rest 0 0) ≡ true → Front rest
number_front rest nonempty digit =
    let n = prefix_len is_ascii_digit rest in
    let some = run_nonempty is_ascii_digit rest n nonempty digit refl in
    ⊎_elim
    (λ small. inl (kinds.Number (digits_value 10 (take n rest)), n, prefix_len-le-length is_ascii_digit rest, number_token rest n (digits_value 10 (take n rest)) refl some refl small))
    (λ large. inr (causes.NumberTooLarge, number_too_large rest n refl some large))
    (cases_lt (digits_value 10 (take n rest)) (2 ^ 64))

text_or_fault : (rest part : List ℕ) → 0 < length rest → get_or rest 0 0 ≡ 34 → part ≡ drop 1 rest → Front rest
text_or_fault rest part nonempty quote part_is =
    let n = prefix_len is_text_byte part in
    ⊎_elim
    (λ closes.
    let within : n < length part = ⊎_elim (λ less. less) (λ past. let quoted : 0 ≡ 34 = sym (get_or_past part n 0 past) ∙ closes in absurd (false≢true (sym (ap (eqb 0) quoted)))) (cases_lt n (length part)) in
    let cut = text_front rest part n nonempty quote part_is within closes in
    ⊎_elim
    (λ utf8. inl (kinds.Text, n + 2, omega (arith, ap length part_is, length-drop 1 rest), text_token rest part n cut within refl utf8))
    (λ not_utf8. inr (causes.Word 34, inr (refl, no_utf8 rest part n cut refl not_utf8)))
    (told (is_utf8 (take n part)) (IsUtf8 (take n part)) (IsUtf8-from_is_utf8 (take n part), is_utf8-from_IsUtf8 (take n part))))
    (λ apart. inr (causes.Unclosed, inr (cut_text rest part n nonempty quote part_is refl apart)))
    (cases_eq (get_or part n 0) 34)

begins_or_not : (rest bytes : List ℕ) → ((behind : List ℕ) × (rest ≡ bytes ++ behind)) ⊎ ((behind : List ℕ) × (rest ≡ bytes ++ behind) → ⊥)
begins_or_not rest bytes =
    let starts = starts_is Decides-eqb rest bytes (bytes_eq bytes (take (length bytes) rest)) refl in
    told (bytes_eq bytes (take (length bytes) rest)) ((behind : List ℕ) × (rest ≡ bytes ++ behind)) (λ yes. (drop (length bytes) rest, starts.0 yes), λ begins. starts.1 begins.0 begins.1)

sign_front : (rest : List ℕ) → 0 < length rest → BeginsNoPiece rest → is_name_start (get_or rest 0 0) ≡ false → is_ascii_digit (get_or rest 0 0) ≡ false → get_or rest 0 0 ≢ 34 → Front rest
sign_front rest nonempty no_piece no_name no_digit no_quote =
    ⊎_elim
    (λ opens. inr (causes.Unclosed, inl (open_comment rest (opens.1 ∙ (λ i. 47 ∷ 42 ∷ ap (drop 2) (sym opens.1) i)) no_piece)))
    (λ no_comment. ⊎_elim
    (λ found.
    let long = length (mark_spelling found.1) in
    let within = ap length found.3.1 in
    inl (kinds.Mark found.1, long, omega (arith, within, length-append (mark_spelling found.1) found.3.0), mark_token rest found.1 long found.3 (longest_mark rest found.0 found.1 found.4 found.2) refl))
    (λ none. inr (
      causes.Word (get_or rest 0 0),
      inl (stray_byte rest nonempty no_piece no_name no_digit no_quote (λ body e. no_comment (body, e))
          (λ mark behind e. none (mark_place mark).0 mark (mark_place mark).1 (mark_place mark).2 (behind, e))),
    ))
    (first_item (λ mark. (behind : List ℕ) × (rest ≡ mark_spelling mark ++ behind)) (λ mark. begins_or_not rest (mark_spelling mark)) MARKS))
    (begins_or_not rest (47 ∷ 42 ∷ []))

true_or_false : (b : Bool) → (b ≡ true) ⊎ (b ≡ false)
true_or_false true = inl refl
true_or_false false = inr refl

front_told : (rest : List ℕ) → 0 < length rest → BeginsNoPiece rest → Front rest
front_told rest nonempty no_piece =
    let b = get_or rest 0 0 in
    ⊎_elim
    (λ start. name_front rest nonempty start)
    (λ no_name. ⊎_elim
    (λ digit. number_front rest nonempty digit)
    (λ no_digit. ⊎_elim
    (λ quote. text_or_fault rest (drop 1 rest) nonempty quote refl)
    (λ no_quote. sign_front rest nonempty no_piece no_name no_digit no_quote)
    (cases_eq b 34))
    (true_or_false (is_ascii_digit b)))
    (true_or_false (is_name_start b))

comment_told : (b : ℕ) (bs : List ℕ) → is_blank b ≡ false → b ≢ 35 → ((body : List ℕ) × (b ∷ bs ≡ 47 ∷ 42 ∷ body)) ⊎ ((body : List ℕ) × (b ∷ bs ≡ 47 ∷ 42 ∷ body) → ⊥) → ((front behind : List ℕ) × (b ∷ bs ≡ front ++ behind) × (0 < length front) × BeginsWithPiece front behind) ⊎ BeginsNoPiece (b ∷ bs)
comment_told b bs not_blank no_hash (inr no_comment) = inr (no_piece_front b bs not_blank no_hash (λ body e. absurd (no_comment (body, e))))
comment_told b bs not_blank no_hash (inl opens) =
    ⊎_elim
    (λ closed.
    let whole = piece_bytes (block_comment closed.0) in
    inl (whole, closed.1, opens.1 ∙ (λ i. 47 ∷ 42 ∷ (closed.2 ∙ sym (append_assoc closed.0 (42 ∷ 47 ∷ []) closed.1)) i), omega arith, (block_comment closed.0, closed.3, refl)))
    (λ never. inr (no_piece_front b bs not_blank no_hash (λ body e. subst NeverCloses (ap (drop 2) (sym opens.1 ∙ e)) never)))
    (closes_or_not opens.0)

-- a blank or a whole comment stands at the front, or none does
piece_told : (bytes : List ℕ) → ((front behind : List ℕ) × (bytes ≡ front ++ behind) × (0 < length front) × BeginsWithPiece front behind) ⊎ BeginsNoPiece bytes
piece_told [] = inr no_piece_at_end
piece_told (b ∷ bs) =
    ⊎_elim
    (λ passes. inl (b ∷ [], bs, refl, omega arith, (blank b, passes, refl)))
    (λ not_blank. ⊎_elim
    (λ hash.
    let n = prefix_len is_line_byte bs in
    let body = take n bs in
    let cut : b ∷ bs ≡ (35 ∷ body) ++ drop n bs = λ i. hash i ∷ sym (take-append-drop n bs) i in
    inl (35 ∷ body, drop n bs, cut, omega arith, (line_comment body, (prefix_passes is_line_byte bs, ends_line (drop n bs) (prefix_stops is_line_byte bs)), refl)))
    (λ no_hash. comment_told b bs not_blank no_hash (begins_or_not (b ∷ bs) (47 ∷ 42 ∷ [])))
    (cases_eq b 35))
    (true_or_false (is_blank b))

gap_before : (front gap rest : List ℕ) → BeginsWithPiece front (gap ++ rest) → IsGap gap rest → IsGap (front ++ gap) rest
gap_before front gap rest begins is_gap = (
  begins.0 ∷ is_gap.0,
  (subst (λ g. IsPiece begins.0 (g ++ rest)) is_gap.2 begins.1, is_gap.1),
  (λ i. begins.2 i ++ is_gap.2 i),
)

-- the gap at the front
gap_told : (fuel : ℕ) (bytes : List ℕ) → length bytes ≤ fuel → (gap rest : List ℕ) × (bytes ≡ gap ++ rest) × IsGap gap rest × BeginsNoPiece rest
gap_told zero [] enough = ([], [], refl, ([], tt, refl), no_piece_at_end)
gap_told zero (b ∷ bs) enough = absurd (omega arith)
gap_told (suc fuel) bytes enough =
    ⊎_elim
    (λ piece.
    let others = gap_told fuel piece.1 (omega (arith, ap length piece.2, length-append piece.0 piece.1)) in (
      piece.0 ++ others.0,
      others.1,
      piece.2 ∙ ap (λ rest. piece.0 ++ rest) others.2 ∙ sym (append_assoc piece.0 others.0 others.1),
      gap_before piece.0 others.0 others.1 (subst (BeginsWithPiece piece.0) others.2 piece.4) others.3,
      others.4,
    ))
    (λ no_piece. ([], bytes, refl, ([], tt, refl), no_piece))
    (piece_told bytes)

-- each text has a list of tokens or a first fault
abbrev Reading : ℕ → List ℕ → Type 0
Reading place bytes =
    ((tokens : List Token) × IsTokenList place bytes tokens) ⊎ ((tokens : List Token) × (at : ℕ) × (cause : Cause) × HasFaultBehind tokens place bytes at cause)

nothing_or_some : (bytes : List ℕ) → (bytes ≡ []) ⊎ (0 < length bytes)
nothing_or_some [] = inl refl
nothing_or_some (b ∷ bs) = inr (omega arith)

-- a token behind a gap, and what is told of the rest
token_first : (place : ℕ) (bytes gap rest : List ℕ) (kind : Kind) (n : ℕ) → bytes ≡ gap ++ rest → IsGap gap rest → n ≤ length rest → BeginsWithToken rest kind n → Reading (place + length gap + n) (drop n rest) → Reading place bytes
token_first place bytes gap rest kind n e is_gap within is_token others =
    let token = token_at kind (place + length gap) n in
    let cut : rest ≡ take n rest ++ drop n rest = sym (take-append-drop n rest) in
    let begins : BeginsWith place bytes token (drop n rest) = record {
      gap = gap;
      slice = take n rest;
      made_up = e ∙ ap (λ r. gap ++ r) cut;
      is_gap = subst (IsGap gap) cut is_gap;
      is_token = is_token;
      place_is = refl;
      length_is = omega (arith, length-take n rest);
    }
    in
    ⊎_elim
    (λ listed. inl (token ∷ listed.0, (drop n rest, begins, listed.1)))
    (λ fault. inr (token ∷ fault.0, fault.1, fault.2, (drop n rest, begins, fault.3)))
    others

pub reading_told : (fuel place : ℕ) (bytes : List ℕ) → length bytes ≤ fuel → Reading place bytes
reading_told zero place [] enough = inl ([], ([], tt, refl))
reading_told zero place (b ∷ bs) enough = absurd (omega arith)
reading_told (suc fuel) place bytes enough =
    let cut = gap_told (length bytes) bytes (omega arith) in
    let gap = cut.0 in
    let rest = cut.1 in
    ⊎_elim
    (λ nothing. inl ([], (cut.3.0, subst (ArePieces cut.3.0) nothing cut.3.1, cut.2 ∙ ap (λ r. gap ++ r) nothing ∙ append-nil gap ∙ cut.3.2)))
    (λ nonempty. ⊎_elim
    (λ found.
    let some = spelled_nonempty found.0 (take found.1 rest) found.3.spelled in
    let shorter : length (drop found.1 rest) ≤ fuel = omega (arith, ap length cut.2, length-append gap rest, length-take found.1 rest, length-drop found.1 rest) in
    token_first place bytes gap rest found.0 found.1 cut.2 cut.3 found.2 found.3 (reading_told fuel (place + length gap + found.1) (drop found.1 rest) shorter))
    (λ fault. inr ([], place + length gap, fault.0, record { gap = gap; rest = rest; made_up = cut.2; is_gap = cut.3; is_fault = fault.1; at_is = refl }))
    (front_told rest nonempty cut.4))
    (nothing_or_some rest)
