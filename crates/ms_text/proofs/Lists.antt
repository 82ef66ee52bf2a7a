-- Token lists: where their tokens stand.
use Rattle.std.proofs.Common.{◌≡◌, ℕ, zero, suc, ◌+◌, ◌-◌, ◌<◌, ◌≤◌, List, [], ◌∷◌, ◌++◌, length, take, drop, Some, IfSome, Result, Ok, Err, OnOk, is_err, false, slice_get, slice_range, replicate, sym, ap, ◌∙◌, subst, arith, length-append, length-take, length-drop, append_assoc}
use Rattle.std.proofs.lemmas.Bool.{false≢true}
use Rattle.std.proofs.lemmas.List.{take_at, drop_at, drop-drop, take-append-drop, append-nil, length-replicate}
use Rattle.ms_text.specs.declared.token.Token.{Token}
use Rattle.ms_text.specs.declared.fault.Cause.{Cause}
use Rattle.ms_text.specs.declared.token.Kind.{Kind}
use Rattle.ms_text.specs.Fault.{IsFault, HasFaultBehind, HasFault}
use Rattle.ms_text.specs.Gap.{IsGap}
use Rattle.ms_text.specs.Spelling.{Spells, IsAccepted, IsToken}
use Rattle.ms_text.specs.TokenList.{BeginsWith, IsTokenList, place_behind}
use Rattle.ms_text.proofs.Starts.{spelled_nonempty}

-- where a token stands in a text, and what its bytes spell
pub record Stands (whole : List ℕ) (place : ℕ) (token : Token) : Type 0 where
  pub after : place ≤ token.place
  pub nonempty : 0 < token.length
  pub within : place_behind token ≤ length whole
  pub spelled : Spells token.kind (slice_range whole token.place (place_behind token))
  pub accepted : IsAccepted token.kind (slice_range whole token.place (place_behind token))

pub first_stands : (before bytes : List ℕ) (token : Token) (rest : List ℕ) → BeginsWith (length before) bytes token rest → Stands (before ++ bytes) (length before) token
first_stands before bytes token rest begins =
    let gap = begins.gap in
    let slice = begins.slice in
    let place : token.place ≡ length before + length gap = begins.place_is in
    let long : token.length ≡ length slice = begins.length_is in
    let made_up : before ++ bytes ≡ (before ++ gap) ++ (slice ++ rest) = ap (λ b. before ++ b) begins.made_up ∙ sym (append_assoc before gap (slice ++ rest)) in
    let at_slice : drop token.place (before ++ bytes) ≡ slice ++ rest = ap (drop token.place) made_up ∙ drop_at (before ++ gap) (slice ++ rest) token.place (length-append before gap ∙ sym place) in
    let cut : slice_range (before ++ bytes) token.place (place_behind token) ≡ slice = ap (take (place_behind token - token.place)) at_slice ∙ take_at slice rest (place_behind token - token.place) (omega arith) in
    record {
      after = omega arith;
      nonempty = omega (arith, spelled_nonempty token.kind slice begins.is_token.spelled);
      within = omega (arith, ap length made_up, length-append (before ++ gap) (slice ++ rest), length-append before gap, length-append slice rest);
      spelled = subst (Spells token.kind) (sym cut) begins.is_token.spelled;
      accepted = subst (IsAccepted token.kind) (sym cut) begins.is_token.accepted;
    }

-- the text before the rest, with the token
pub next_before : (before bytes : List ℕ) (token : Token) (rest : List ℕ) → BeginsWith (length before) bytes token rest → (front : List ℕ) × (length front ≡ place_behind token) × (before ++ bytes ≡ front ++ rest)
next_before before bytes token rest begins = (
  before ++ (begins.gap ++ begins.slice),
  omega (arith, length-append before (begins.gap ++ begins.slice), length-append begins.gap begins.slice, begins.place_is, begins.length_is),
  ap (λ b. before ++ b) (begins.made_up ∙ sym (append_assoc begins.gap begins.slice rest)) ∙ sym (append_assoc before (begins.gap ++ begins.slice) rest),
)

-- each token of a list stands in the text
pub token_stands : (before bytes : List ℕ) (place : ℕ) (tokens : List Token) (i : ℕ) (token : Token) → length before ≡ place → IsTokenList place bytes tokens → slice_get tokens i ≡ Some token → Stands (before ++ bytes) place token
token_stands before bytes place [] i token place_is listed at = cc
token_stands before bytes place (t ∷ ts) zero token place_is listed at =
    let same : t ≡ token = cc in
    let begins = subst (λ p. BeginsWith p bytes t listed.0) (sym place_is) listed.1 in
    subst (Stands (before ++ bytes) place) same (subst (λ p. Stands (before ++ bytes) p t) place_is (first_stands before bytes t listed.0 begins))
token_stands before bytes place (t ∷ ts) (suc i) token place_is listed at =
    let begins = subst (λ p. BeginsWith p bytes t listed.0) (sym place_is) listed.1 in
    let next = next_before before bytes t listed.0 begins in
    let first = first_stands before bytes t listed.0 begins in
    let stands = subst (λ whole. Stands whole (place_behind t) token) (sym next.2) (token_stands next.0 listed.0 (place_behind t) ts i token next.1 listed.2 at) in
    record {
      after = omega (arith, first.after, stands.after);
      nonempty = stands.nonempty;
      within = stands.within;
      spelled = stands.spelled;
      accepted = stands.accepted;
    }

-- a list has no more tokens than the text has bytes
pub length-tokens : (place : ℕ) (bytes : List ℕ) (tokens : List Token) → IsTokenList place bytes tokens → length tokens ≤ length bytes
length-tokens place bytes [] listed = omega arith
length-tokens place bytes (t ∷ ts) listed =
    let begins = listed.1 in
    omega (arith, length-tokens (place_behind t) listed.0 ts listed.2, ap length begins.made_up, length-append begins.gap (begins.slice ++ listed.0), length-append begins.slice listed.0, spelled_nonempty t.kind begins.slice begins.is_token.spelled)

-- the spans of the tokens rise
pub spans_rise : (place : ℕ) (bytes : List ℕ) (tokens : List Token) (i j : ℕ) (one two : Token) → IsTokenList place bytes tokens → i < j → slice_get tokens i ≡ Some one → slice_get tokens j ≡ Some two → place_behind one ≤ two.place
spans_rise place bytes [] i j one two listed less here there = cc
spans_rise place bytes (t ∷ ts) i zero one two listed less here there = absurd (omega arith)
spans_rise place bytes (t ∷ ts) zero (suc j) one two listed less here there =
    let same : t ≡ one = cc in
    let stands = token_stands (replicate (place_behind t) 0) listed.0 (place_behind t) ts j two (length-replicate (place_behind t) 0) listed.2 there in
    subst (λ token. place_behind token ≤ two.place) same stands.after
spans_rise place bytes (t ∷ ts) (suc i) (suc j) one two listed less here there =
    spans_rise (place_behind t) listed.0 ts i j one two listed.2 (omega arith) here there

-- what the code finds from a place on: a gap, and a token or a fault behind it

pub token_behind_gap : (bytes : List ℕ) (from gap n : ℕ) (kind : Kind) → from + gap + n ≤ length bytes → IsGap (take gap (drop from bytes)) (drop gap (drop from bytes)) → IsToken kind (take n (drop (from + gap) bytes)) (drop n (drop (from + gap) bytes)) → BeginsWith from (drop from bytes) (record { kind = kind; place = from + gap; length = n }) (drop (from + gap + n) bytes)
token_behind_gap bytes from gap n kind within is_gap is_token =
    let behind : drop gap (drop from bytes) ≡ drop (from + gap) bytes = drop-drop gap from bytes in
    let rest : drop n (drop (from + gap) bytes) ≡ drop (from + gap + n) bytes = drop-drop n (from + gap) bytes in
    let cut : drop (from + gap) bytes ≡ take n (drop (from + gap) bytes) ++ drop (from + gap + n) bytes =
    sym (take-append-drop n (drop (from + gap) bytes)) ∙ ap (λ b. take n (drop (from + gap) bytes) ++ b) rest
    in
    record {
      gap = take gap (drop from bytes);
      slice = take n (drop (from + gap) bytes);
      made_up = sym (take-append-drop gap (drop from bytes)) ∙ ap (λ b. take gap (drop from bytes) ++ b) (behind ∙ cut);
      is_gap = subst (IsGap (take gap (drop from bytes))) (behind ∙ cut) is_gap;
      is_token = subst (IsToken kind (take n (drop (from + gap) bytes))) rest is_token;
      place_is = omega (arith, length-take gap (drop from bytes), length-drop from bytes);
      length_is = omega (arith, length-take n (drop (from + gap) bytes), length-drop (from + gap) bytes);
    }

pub fault_behind_gap : (bytes : List ℕ) (from gap : ℕ) (cause : Cause) → from + gap ≤ length bytes → IsGap (take gap (drop from bytes)) (drop gap (drop from bytes)) → IsFault cause (drop (from + gap) bytes) → HasFaultBehind [] from (drop from bytes) (from + gap) cause
fault_behind_gap bytes from gap cause within is_gap is_fault =
    let behind : drop gap (drop from bytes) ≡ drop (from + gap) bytes = drop-drop gap from bytes in
    record {
      gap = take gap (drop from bytes);
      rest = drop (from + gap) bytes;
      made_up = sym (take-append-drop gap (drop from bytes)) ∙ ap (λ b. take gap (drop from bytes) ++ b) behind;
      is_gap = subst (IsGap (take gap (drop from bytes))) behind is_gap;
      is_fault = is_fault;
      at_is = omega (arith, length-take gap (drop from bytes), length-drop from bytes);
    }

-- the text up to a place is read: whatever makes up the rest makes up the text, behind the tokens so far
pub record ReadSoFar (bytes : List ℕ) (from : ℕ) (tokens : List Token) : Type 0 where
  pub within : from ≤ length bytes
  pub listed : (more : List Token) → IsTokenList from (drop from bytes) more → IsTokenList 0 bytes (tokens ++ more)
  pub faulty : (more : List Token) (at : ℕ) (cause : Cause) → HasFaultBehind more from (drop from bytes) at cause → HasFaultBehind (tokens ++ more) 0 bytes at cause

pub read_none : (bytes : List ℕ) → ReadSoFar bytes 0 []
read_none bytes = record { within = omega arith; listed = λ more listed. listed; faulty = λ more at cause faulty. faulty }

pub read_more : (bytes : List ℕ) (from : ℕ) (tokens : List Token) (token : Token) → ReadSoFar bytes from tokens → BeginsWith from (drop from bytes) token (drop (place_behind token) bytes) → place_behind token ≤ length bytes → ReadSoFar bytes (place_behind token) (tokens ++ token ∷ [])
read_more bytes from tokens token read begins within = record {
  within = within;
  listed = λ more listed.
      subst (IsTokenList 0 bytes) (sym (append_assoc tokens (token ∷ []) more)) (read.listed (token ∷ more) (drop (place_behind token) bytes, begins, listed));
  faulty = λ more at cause faulty.
      subst (λ all. HasFaultBehind all 0 bytes at cause) (sym (append_assoc tokens (token ∷ []) more)) (read.faulty (token ∷ more) at cause (drop (place_behind token) bytes, begins, faulty));
}

pub read_all : (bytes : List ℕ) (from : ℕ) (tokens : List Token) → ReadSoFar bytes from tokens → IsGap (drop from bytes) [] → IsTokenList 0 bytes tokens
read_all bytes from tokens read is_gap = subst (IsTokenList 0 bytes) (append-nil tokens) (read.listed [] is_gap)

pub read_to_fault : (bytes : List ℕ) (from at : ℕ) (cause : Cause) (tokens : List Token) → ReadSoFar bytes from tokens → HasFaultBehind [] from (drop from bytes) at cause → HasFault bytes at cause
read_to_fault bytes from at cause tokens read faulty = (tokens ++ [], read.faulty [] at cause faulty)

-- a fact on the token that stands at a place of the list
pub told_at : (tokens : List Token) (i : ℕ) (token : Token) (Told : Token → Type 0) → slice_get tokens i ≡ Some token → Told token → IfSome (slice_get tokens i) Told
told_at tokens i token Told there told = rw there told

pub told_of : (tokens : List Token) (i : ℕ) (token : Token) (Told : Token → Type 0) → slice_get tokens i ≡ Some token → IfSome (slice_get tokens i) Told → Told token
told_of tokens i token Told there told = rw there at told

pub from_ok : {T E : Type 0} (r : Result T E) (P : Type 0) → is_err r ≡ false → OnOk r P → P
from_ok (Ok x) P ok holds = holds
from_ok (Err e) P ok holds = absurd (false≢true (sym ok))
