-- Tokens and faults at the front of given bytes, from tests that compute.
use Rattle.std.proofs.Common.{◌≡◌, ℕ, ◌+◌, ◌<◌, ◌^◌, Bool, true, false, List, [], ◌∷◌, ◌++◌, length, get_or, take, not, ◌||◌, nat_le, None, Some, slice_get, sym, refl, ap, ◌∙◌, arith, length-append}
use Rattle.std.specs.Char.{is_ascii_digit}
use Rattle.std.specs.List.{list_all, list_any}
use Rattle.std.specs.Str.{bytes_eq}
use Rattle.std.specs.Str.Parse.{digits_value}
use Rattle.std.proofs.lemmas.Bool.{false≢true, leb-true}
use Rattle.std.proofs.lemmas.Bool.Decides.{Decides-eqb}
use Rattle.std.proofs.lemmas.List.Recursion.{or_at, and_at}
use Rattle.std.proofs.lemmas.Option.{get_or_from_slice_get, slice_get_within}
use Rattle.std.proofs.lemmas.Slice.Eq.{starts_is}
use Rattle.ms_text.specs.declared.fault.Cause.{Cause}
use Rattle.ms_text.specs.declared.keyword.Keyword.{Keyword}
use Rattle.ms_text.specs.declared.keyword.LeftOutWord.{LeftOutWord}
use Rattle.ms_text.specs.declared.mark.Mark.{Mark}
use Rattle.ms_text.specs.declared.mark.TheConstants.{MARKS}
use Rattle.ms_text.specs.declared.token.Kind.{Kind}
use Rattle.ms_text.specs.declared.token.Kind.TheVariants as kinds
use Rattle.ms_text.specs.Fault.{IsFault, HasFaultBehind}
use Rattle.ms_text.specs.Gap.{NeverCloses}
use Rattle.ms_text.specs.Spelling.{is_name_byte, is_identifier, word_spelling, left_out_spelling, mark_spelling, IsToken}
use Rattle.ms_text.specs.TokenList.{BeginsWith, token_at}
use Rattle.ms_text.proofs.Bytes.{Stops}
use Rattle.ms_text.proofs.Longest.{longest_identifier, longest_number, longest_sign}
use Rattle.ms_text.proofs.OneReading.{word_spelled, word_spelled-spelling, left_out_spelled, left_out_spelled-spelling}
use Rattle.ms_text.proofs.Starts.{word_is_identifier, left_out_is_identifier}
use Rattle.ms_text.proofs.Tables.{mark_place}

-- a token at the front, with no gap before it
pub begins_here : {kind : Kind} {slice rest : List ℕ} (place : ℕ) → IsToken kind slice rest → BeginsWith place (slice ++ rest) (token_at kind place (length slice)) rest
begins_here {slice} place is_token = record {
  gap = [];
  slice = slice;
  made_up = refl;
  is_gap = ([], tt, refl);
  is_token = is_token;
  place_is = omega arith;
  length_is = refl;
}

pub name_here : (slice rest : List ℕ) → is_identifier slice ≡ true → word_spelled slice ≡ None → left_out_spelled slice ≡ None → Stops is_name_byte rest → IsToken kinds.Name slice rest
name_here slice rest is no_word no_left_out stops = record {
  spelled = (
    is,
    λ found. let same : Some found.0 ≡ None = sym (word_spelled-spelling found.0) ∙ ap word_spelled (sym found.1) ∙ no_word in cc,
    λ found. let same : Some found.0 ≡ None = sym (left_out_spelled-spelling found.0) ∙ ap left_out_spelled (sym found.1) ∙ no_left_out in cc,
  );
  longest = longest_identifier slice rest is stops;
  accepted = tt;
}

pub word_here : (word : Keyword) (rest : List ℕ) → Stops is_name_byte rest → IsToken (kinds.Word word) (word_spelling word) rest
word_here word rest stops = record {
  spelled = refl;
  longest = longest_identifier (word_spelling word) rest (word_is_identifier word) stops;
  accepted = tt;
}

pub left_out_here : (word : LeftOutWord) (rest : List ℕ) → Stops is_name_byte rest → IsToken kinds.LeftOut (left_out_spelling word) rest
left_out_here word rest stops = record {
  spelled = (word, refl);
  longest = longest_identifier (left_out_spelling word) rest (left_out_is_identifier word) stops;
  accepted = tt;
}

pub number_here : (slice rest : List ℕ) → 0 < length slice → list_all is_ascii_digit slice ≡ true → digits_value 10 slice < 2 ^ 64 → Stops is_ascii_digit rest → IsToken (kinds.Number (digits_value 10 slice)) slice rest
number_here slice rest nonempty digits small stops = record {
  spelled = (nonempty, digits, refl);
  longest = longest_number slice rest nonempty digits stops;
  accepted = small;
}

-- the mark begins the bytes
abbrev pub begins_mark : List ℕ → Mark → Bool
begins_mark bytes mark = bytes_eq (mark_spelling mark) (take (length (mark_spelling mark)) bytes)

none_begins : (bytes : List ℕ) (marks : List Mark) (k : ℕ) (mark : Mark) (behind : List ℕ) → list_any (begins_mark bytes) marks ≡ false → slice_get marks k ≡ Some mark → bytes ≡ mark_spelling mark ++ behind → ⊥
none_begins bytes marks k mark behind none at e =
    let begins = (starts_is Decides-eqb bytes (mark_spelling mark) (begins_mark bytes mark) refl).1 behind e in
    let there : begins_mark bytes (get_or marks k mark) ≡ true = ap (begins_mark bytes) (get_or_from_slice_get marks k mark mark at) ∙ begins in
    false≢true (sym none ∙ or_at (list_any (begins_mark bytes)) (begins_mark bytes) refl (λ _ _. refl) marks k mark (slice_get_within marks k mark at) there)

-- no mark begins the bytes
pub no_mark_here : (bytes : List ℕ) → list_any (begins_mark bytes) MARKS ≡ false → (mark : Mark) (behind : List ℕ) → bytes ≡ mark_spelling mark ++ behind → ⊥
no_mark_here bytes none mark behind e = none_begins bytes MARKS (mark_place mark).0 mark behind none (mark_place mark).2 e

second_of : (a b : Bool) → a ≡ true → (not a || b) ≡ true → b ≡ true
second_of true b holds either = either
second_of false b holds either = absurd (false≢true holds)

-- a mark begins the bytes, and no longer one
pub mark_here : (mark : Mark) (rest : List ℕ) → list_all (λ longer. not (begins_mark (mark_spelling mark ++ rest) longer) || nat_le (length (mark_spelling longer)) (length (mark_spelling mark))) MARKS ≡ true → IsToken (kinds.Mark mark) (mark_spelling mark) rest
mark_here mark rest none_longer = record {
  spelled = refl;
  longest = longest_sign mark rest (λ longer more e.
      let bytes = mark_spelling mark ++ rest in
      let place = mark_place longer in
      let test = λ (other : Mark). not (begins_mark bytes other) || nat_le (length (mark_spelling other)) (length (mark_spelling mark)) in
      let passes : test (get_or MARKS place.0 longer) ≡ true = and_at (list_all test) test refl (λ _ _. refl) MARKS place.0 longer (slice_get_within MARKS place.0 longer place.2) none_longer in
      let at_longer : test longer ≡ true = ap test (sym (get_or_from_slice_get MARKS place.0 longer longer place.2)) ∙ passes in
      let begins = (starts_is Decides-eqb bytes (mark_spelling longer) (begins_mark bytes longer) refl).1 more e in
      leb-true _ _ (second_of (begins_mark bytes longer) _ begins at_longer));
  accepted = tt;
}

pub short_never_closes : (body : List ℕ) → length body < 2 → NeverCloses body
short_never_closes body short front behind e =
    let long : length body ≡ length front + length (42 ∷ 47 ∷ behind) = ap length e ∙ length-append front (42 ∷ 47 ∷ behind) in omega arith

-- a fault at the very front
pub fault_here : (place : ℕ) (bytes : List ℕ) (cause : Cause) → IsFault cause bytes → HasFaultBehind [] place bytes place cause
fault_here place bytes cause is_fault = record {
  gap = [];
  rest = bytes;
  made_up = refl;
  is_gap = ([], tt, refl);
  is_fault = is_fault;
  at_is = omega arith;
}

pub one_byte_opens_none : (b : ℕ) (body : List ℕ) → b ∷ [] ≡ 47 ∷ 42 ∷ body → ⊥
one_byte_opens_none b body e = let long : 1 ≡ length (47 ∷ 42 ∷ body) = ap length e in omega arith
