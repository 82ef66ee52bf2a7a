-- What stands at the front of bytes, from what the code found out about them.
use Rattle.std.proofs.Common.{◌≡◌, ◌≢◌, ℕ, suc, ◌+◌, ◌<◌, ◌≤◌, ◌^◌, ◌⊎◌, Bool, true, false, cond, List, [], ◌∷◌, ◌++◌, length, get_or, take, drop, IfNone, IsUtf8, inl, inr, ⊎_elim, ◌||◌, ◌==◌, add-zero, get_or-drop, length-take, sym, refl, ap, ◌∙◌, subst, arith, length-append, append_assoc}
use Rattle.std.proofs.Common.{Result, Ok, Err, rules}
use Rattle.std.specs.Char.{is_ascii_digit}
use Rattle.std.specs.List.{list_all, prefix_len}
use Rattle.std.specs.Result.{OkIff, result_ok}
use Rattle.std.specs.Str.Parse.{digits_value}
use Rattle.std.proofs.lemmas.Bool.{cases_lt, ne_eqb}
use Rattle.std.proofs.lemmas.Bool.Decides.{nat_tests}
use Rattle.std.proofs.lemmas.List.{take-append-drop, take_at, drop_at, drop_more, get_or_past, append_cancel_right}
use Rattle.std.proofs.lemmas.List.Recursion.{and_at}
use Rattle.std.proofs.lemmas.Str.{IsUtf8-from_ascii}
use Rattle.std.proofs.lemmas.Str.Parse.{IsNumeralModel, numerals_by_value}
use Rattle.ms_text.specs.declared.mark.Mark.{Mark}
use Rattle.ms_text.specs.declared.token.Kind.{Kind}
use Rattle.ms_text.specs.declared.token.Kind.TheVariants as kinds
use Rattle.ms_text.specs.Fault.{IsOpenComment, IsCutText, BeginsTooLarge, BeginsNoUtf8, IsStray}
use Rattle.ms_text.specs.Gap.{is_blank, EndsLine, block_comment, BeginsNoPiece}
use Rattle.ms_text.specs.Spelling.{is_name_start, is_name_byte, is_identifier, is_text_byte, quoted, mark_spelling, Spells, IsAccepted, IsToken}
use Rattle.ms_text.proofs.Bytes.{Stops, prefix_passes, prefix_stops}
use Rattle.ms_text.proofs.Gaps.{closes_or_not}
use Rattle.ms_text.proofs.Longest.{longest_identifier, longest_number, longest_text, longest_sign, spelled_mark}
use Rattle.ms_text.proofs.Starts.{spaced, other, group_of, first_group, kind_group, token_group, not_spaced, start_is_byte}

-- Runs of bytes that pass a test.

pub run_passes : (p : ℕ → Bool) (rest : List ℕ) (n : ℕ) → n ≡ prefix_len p rest → list_all p (take n rest) ≡ true
run_passes p rest n run = rw run (prefix_passes p rest)

pub run_stops : (p : ℕ → Bool) (rest : List ℕ) (n : ℕ) → n ≡ prefix_len p rest → Stops p (drop n rest)
run_stops p rest n run = rw run (prefix_stops p rest)

run_more : (p : ℕ → Bool) (b : ℕ) (bs : List ℕ) (n : ℕ) → p b ≡ true → n ≡ prefix_len p (b ∷ bs) → n ≡ suc (prefix_len p bs)
run_more p b bs n passes run =
    let one : 1 + prefix_len p bs ≡ suc (prefix_len p bs) = omega arith in
    run ∙ ap (λ v. cond v (1 + prefix_len p bs) 0) passes ∙ one

pub run_nonempty : (p : ℕ → Bool) (rest : List ℕ) (n : ℕ) → 0 < length rest → p (get_or rest 0 0) ≡ true → n ≡ prefix_len p rest → 0 < length (take n rest)
run_nonempty p [] n nonempty passes run = absurd (omega arith)
run_nonempty p (b ∷ bs) n nonempty passes run = rw (run_more p b bs n passes run) (omega arith)

-- Names and words.

pub identifier_front : (rest : List ℕ) (n : ℕ) → 0 < length rest → is_name_start (get_or rest 0 0) ≡ true → n ≡ prefix_len is_name_byte rest → is_identifier (take n rest) ≡ true
identifier_front [] n nonempty start run = absurd (omega arith)
identifier_front (b ∷ bs) n nonempty start run =
    rw (run_more is_name_byte b bs n (start_is_byte b start) run, start) (prefix_passes is_name_byte bs)

pub identifier_token : (kind : Kind) (rest : List ℕ) (n : ℕ) → is_identifier (take n rest) ≡ true → n ≡ prefix_len is_name_byte rest → Spells kind (take n rest) → IsAccepted kind (take n rest) → IsToken kind (take n rest) (drop n rest)
identifier_token kind rest n is run spelled accepted = record {
  spelled = spelled;
  longest = longest_identifier (take n rest) (drop n rest) is (run_stops is_name_byte rest n run);
  accepted = accepted;
}

-- Numbers.

pub digits_are_text : (digits : List ℕ) → list_all is_ascii_digit digits ≡ true → IsUtf8 digits
digits_are_text digits passes =
    IsUtf8-from_ascii digits (λ i.
    ⊎_elim (λ within. let digit = and_at (list_all is_ascii_digit) is_ascii_digit refl (λ _ _. refl) digits i 0 within passes in grind (arith, nat_tests))
    (λ past. omega (arith, get_or_past digits i 0 past))
    (cases_lt i (length digits)))

-- the texts of digits, for `parse`
pub digit_texts : IsNumeralModel (λ digits. list_all is_ascii_digit digits ≡ true) (digits_value 10)
digit_texts = numerals_by_value (λ digits. list_all is_ascii_digit digits ≡ true) (search rules)

pub large_unless_parsed : {E : Type 0} (read : Result ℕ E) (n value : ℕ) → OkIff read ((0 < n) × (value < 2 ^ 64)) value → 0 < n → IfNone (result_ok read) (2 ^ 64 ≤ value)
large_unless_parsed (Ok x) n value parsed nonempty = tt
large_unless_parsed (Err e) n value parsed nonempty = ⊎_elim (λ small. absurd (parsed (nonempty, small))) (λ large. large) (cases_lt value (2 ^ 64))

pub number_token : (rest : List ℕ) (n value : ℕ) → n ≡ prefix_len is_ascii_digit rest → 0 < length (take n rest) → value ≡ digits_value 10 (take n rest) → value < 2 ^ 64 → IsToken (kinds.Number value) (take n rest) (drop n rest)
number_token rest n value run nonempty value_is small = record {
  spelled = (nonempty, run_passes is_ascii_digit rest n run, value_is);
  longest = longest_number (take n rest) (drop n rest) nonempty (run_passes is_ascii_digit rest n run) (run_stops is_ascii_digit rest n run);
  accepted = small;
}

pub number_too_large : (rest : List ℕ) (n : ℕ) → n ≡ prefix_len is_ascii_digit rest → 0 < length (take n rest) → 2 ^ 64 ≤ digits_value 10 (take n rest) → BeginsTooLarge rest
number_too_large rest n run nonempty large = record {
  value = digits_value 10 (take n rest);
  slice = take n rest;
  behind = drop n rest;
  made_up = sym (take-append-drop n rest);
  spelled = (nonempty, run_passes is_ascii_digit rest n run, refl);
  longest = longest_number (take n rest) (drop n rest) nonempty (run_passes is_ascii_digit rest n run) (run_stops is_ascii_digit rest n run);
  large = large;
}

-- Texts: `part` is what stands behind the opening quote.

quote_front : (rest part : List ℕ) → 0 < length rest → get_or rest 0 0 ≡ 34 → part ≡ drop 1 rest → rest ≡ 34 ∷ part
quote_front [] part nonempty quote part_is = absurd (omega arith)
quote_front (b ∷ bs) part nonempty quote part_is = λ i. quote i ∷ sym part_is i

stopped_line : (bytes : List ℕ) → Stops is_text_byte bytes → get_or bytes 0 0 ≢ 34 → EndsLine bytes
stopped_line [] stops apart = tt
stopped_line (b ∷ bs) stops apart = grind (arith, nat_tests)

pub cut_text : (rest part : List ℕ) (n : ℕ) → 0 < length rest → get_or rest 0 0 ≡ 34 → part ≡ drop 1 rest → n ≡ prefix_len is_text_byte part → get_or part n 0 ≢ 34 → IsCutText rest
cut_text rest part n nonempty quote part_is run apart = record {
  content = take n part;
  behind = drop n part;
  made_up = quote_front rest part nonempty quote part_is ∙ (λ i. 34 ∷ sym (take-append-drop n part) i);
  passes = run_passes is_text_byte part n run;
  ends = stopped_line (drop n part) (run_stops is_text_byte part n run) (λ quoted. apart (sym (get_or-drop n part 0 0 ∙ ap (λ k. get_or part k 0) (add-zero n)) ∙ quoted));
}

pub no_quote_past : (part : List ℕ) (n : ℕ) → n ≡ length part → get_or part n 0 ≢ 34
no_quote_past part n at_end quote = absurd (omega (arith, get_or_past part n 0 (omega arith)))

pub text_front : (rest part : List ℕ) (n : ℕ) → 0 < length rest → get_or rest 0 0 ≡ 34 → part ≡ drop 1 rest → n < length part → get_or part n 0 ≡ 34 → rest ≡ quoted (take n part) ++ drop (n + 1) part
text_front rest part n nonempty quote part_is within closes =
    quote_front rest part nonempty quote part_is
    ∙ (λ i. 34 ∷ (sym (take-append-drop n part) ∙ ap (λ bytes. take n part ++ bytes) (drop_more part n 0 within ∙ (λ j. closes j ∷ drop (n + 1) part)) ∙ sym (append_assoc (take n part) (34 ∷ []) (drop (n + 1) part))) i)

-- the front of so many bytes is the token where the bytes are the token and what stands behind it
token_from_cut : (kind : Kind) (rest slice behind : List ℕ) (n : ℕ) → rest ≡ slice ++ behind → length slice ≡ n → IsToken kind slice behind → IsToken kind (take n rest) (drop n rest)
token_from_cut kind rest slice behind n e long is_token =
    subst (λ front. IsToken kind front (drop n rest)) (sym (ap (take n) e ∙ take_at slice behind n long))
    (subst (IsToken kind slice) (sym (ap (drop n) e ∙ drop_at slice behind n long)) is_token)

pub one_quoted : (one two : List ℕ) → quoted one ≡ quoted two → one ≡ two
one_quoted one two e = append_cancel_right one two (34 ∷ []) (ap (drop 1) e)

pub text_token : (rest part : List ℕ) (n : ℕ) → rest ≡ quoted (take n part) ++ drop (n + 1) part → n < length part → n ≡ prefix_len is_text_byte part → IsUtf8 (take n part) → IsToken kinds.Text (take (n + 2) rest) (drop (n + 2) rest)
text_token rest part n e within run utf8 =
    let content = take n part in
    let long : length (quoted content) ≡ n + 2 = omega (arith, length-append content (34 ∷ []), length-take n part) in
    token_from_cut kinds.Text rest (quoted content) (drop (n + 1) part) (n + 2) e long (record {
      spelled = (content, refl, run_passes is_text_byte part n run);
      longest = longest_text content (drop (n + 1) part) (run_passes is_text_byte part n run);
      accepted = λ other same. subst IsUtf8 (one_quoted content other same) utf8;
    })

pub no_utf8 : (rest part : List ℕ) (n : ℕ) → rest ≡ quoted (take n part) ++ drop (n + 1) part → n ≡ prefix_len is_text_byte part → ¬ (IsUtf8 (take n part)) → BeginsNoUtf8 rest
no_utf8 rest part n e run not_utf8 = record {
  content = take n part;
  behind = drop (n + 1) part;
  made_up = e;
  passes = run_passes is_text_byte part n run;
  not_utf8 = not_utf8;
}

-- Marks, and comments that are never closed.

pub mark_token : (rest : List ℕ) (mark : Mark) (n : ℕ) → (behind : List ℕ) × (rest ≡ mark_spelling mark ++ behind) → ((longer : Mark) (behind : List ℕ) → rest ≡ mark_spelling longer ++ behind → length (mark_spelling longer) ≤ length (mark_spelling mark)) → length (mark_spelling mark) ≡ n → IsToken (kinds.Mark mark) (take n rest) (drop n rest)
mark_token rest mark n begins none_longer long =
    token_from_cut (kinds.Mark mark) rest (mark_spelling mark) begins.0 n begins.1 long (record {
      spelled = refl;
      longest = longest_sign mark begins.0 (λ longer more e. none_longer longer more (begins.1 ∙ e));
      accepted = tt;
    })

pub open_comment : (rest : List ℕ) → rest ≡ 47 ∷ 42 ∷ drop 2 rest → BeginsNoPiece rest → IsOpenComment rest
open_comment rest e no_piece =
    ⊎_elim
    (λ closed. absurd (no_piece (block_comment closed.0) closed.1 (e ∙ (λ i. 47 ∷ 42 ∷ (closed.2 ∙ sym (append_assoc closed.0 (42 ∷ 47 ∷ []) closed.1)) i)) closed.3))
    (λ never. (drop 2 rest, e, never))
    (closes_or_not (drop 2 rest))

spaced_or_other : (v : Bool) → (cond v spaced other ≡ spaced) ⊎ (cond v spaced other ≡ other)
spaced_or_other true = inl refl
spaced_or_other false = inr refl

sign_group : (b : ℕ) → is_name_start b ≡ false → is_ascii_digit b ≡ false → b ≢ 34 → (group_of b ≡ spaced) ⊎ (group_of b ≡ other)
sign_group b no_name no_digit no_quote =
    let no_text = ne_eqb b 34 no_quote in
    rw (no_name, no_digit, no_text) (spaced_or_other (is_blank b || b == 35 || b == 47))

pub stray_byte : (rest : List ℕ) → 0 < length rest → BeginsNoPiece rest → is_name_start (get_or rest 0 0) ≡ false → is_ascii_digit (get_or rest 0 0) ≡ false → get_or rest 0 0 ≢ 34 → ((body : List ℕ) → rest ≡ 47 ∷ 42 ∷ body → ⊥) → ((mark : Mark) (behind : List ℕ) → rest ≢ mark_spelling mark ++ behind) → IsStray (get_or rest 0 0) rest
stray_byte [] nonempty no_piece no_name no_digit no_quote no_comment no_mark = absurd (omega arith)
stray_byte (b ∷ bs) nonempty no_piece no_name no_digit no_quote no_comment no_mark = record {
  first = (bs, refl);
  no_token = λ kind slice behind e spelled.
      let same : group_of b ≡ kind_group kind = ap first_group e ∙ token_group kind slice behind spelled in
      let is_other = ⊎_elim (λ blank. absurd (not_spaced kind (sym same ∙ blank))) (λ sign. sym same ∙ sign) (sign_group b no_name no_digit no_quote) in
      let as_mark = spelled_mark kind slice spelled is_other in
      no_mark as_mark.0 behind (e ∙ ap (λ bytes. bytes ++ behind) as_mark.1);
  no_piece = no_piece;
  not_open = ⊎_elim (λ open_one. no_comment open_one.0 open_one.1) (λ cut. no_quote (ap (λ bytes. get_or bytes 0 0) cut.made_up));
}
