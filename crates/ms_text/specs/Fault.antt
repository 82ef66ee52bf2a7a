-- Why a text has no tokens: its first fault, and where it stands.
use Rattle.std.specs.Prelude.{◌≡◌, ℕ, ◌+◌, ◌≤◌, ◌^◌, ◌⊎◌, List, [], ◌∷◌, ◌++◌, length, codes, IsTrue, IsUtf8}
use Rattle.std.specs.List.{list_all}
use Rattle.std.specs.Str.{byte}
use Rattle.ms_edge.specs.declared.refusal.Refusal.{Refusal}
use Rattle.ms_edge.specs.declared.refusal.Refusal.TheVariants as refusals
use Rattle.ms_text.specs.declared.fault.Cause.{Cause}
use Rattle.ms_text.specs.declared.fault.Cause.TheVariants as causes
use Rattle.ms_text.specs.declared.token.Kind.{Kind}
use Rattle.ms_text.specs.declared.token.Kind.TheVariants as kinds
use Rattle.ms_text.specs.declared.token.Token.{Token}
use Rattle.ms_text.specs.Gap.{EndsLine, NeverCloses, IsGap, BeginsNoPiece}
use Rattle.ms_text.specs.Spelling.{is_text_byte, quoted, Spells, IsLongest}
use Rattle.ms_text.specs.TokenList.{BeginsWith, place_behind}

-- `/*` with no `*/` behind it
abbrev pub IsOpenComment : List ℕ → Type 0
IsOpenComment bytes = (body : List ℕ) × (bytes ≡ codes "/*" ++ body) × NeverCloses body

-- a quote, and the line or the text ends before the next one
pub record IsCutText (bytes : List ℕ) : Type 0 where
  pub content : List ℕ
  pub behind : List ℕ
  pub made_up : bytes ≡ codes "\"" ++ (content ++ behind)
  pub passes : IsTrue (list_all is_text_byte content)
  pub ends : EndsLine behind

-- a comment or a text that is never closed
abbrev pub IsUnclosed : List ℕ → Type 0
IsUnclosed bytes = IsOpenComment bytes ⊎ IsCutText bytes

-- the longest number at the front is 2^64 or more
pub record BeginsTooLarge (bytes : List ℕ) : Type 0 where
  pub value : ℕ
  pub slice : List ℕ
  pub behind : List ℕ
  pub made_up : bytes ≡ slice ++ behind
  pub spelled : Spells (kinds.Number value) slice
  pub longest : IsLongest slice behind
  pub large : 2 ^ 64 ≤ value

-- a text at the front whose content is no UTF-8
pub record BeginsNoUtf8 (bytes : List ℕ) : Type 0 where
  pub content : List ℕ
  pub behind : List ℕ
  pub made_up : bytes ≡ quoted content ++ behind
  pub passes : IsTrue (list_all is_text_byte content)
  pub not_utf8 : ¬ (IsUtf8 content)

-- with this byte no token begins, no blank and no comment, and no text that is cut
pub record IsStray (b : ℕ) (bytes : List ℕ) : Type 0 where
  pub first : (more : List ℕ) × (bytes ≡ b ∷ more)
  pub no_token : (kind : Kind) (slice behind : List ℕ) → bytes ≡ slice ++ behind → ¬ (Spells kind slice)
  pub no_piece : BeginsNoPiece bytes
  pub not_open : ¬ (IsUnclosed bytes)

-- the bytes begin with a fault
abbrev pub IsFault : Cause → List ℕ → Type 0
IsFault (causes.Word b) bytes = IsStray b bytes ⊎ ((b ≡ byte "\"") × BeginsNoUtf8 bytes)
IsFault causes.NumberTooLarge bytes = BeginsTooLarge bytes
IsFault causes.Unclosed bytes = IsUnclosed bytes

-- the bytes, which stand at a place of the text, are a gap and what begins with the fault
pub record StopsAt (place : ℕ) (bytes : List ℕ) (at : ℕ) (cause : Cause) : Type 0 where
  pub gap : List ℕ
  pub rest : List ℕ
  pub made_up : bytes ≡ gap ++ rest
  pub is_gap : IsGap gap rest
  pub is_fault : IsFault cause rest
  pub at_is : at ≡ place + length gap

-- the bytes, which stand at a place of the text, are these tokens and then a gap and the fault
abbrev pub HasFaultBehind : List Token → ℕ → List ℕ → ℕ → Cause → Type 0
HasFaultBehind [] place bytes at cause = StopsAt place bytes at cause
HasFaultBehind (token ∷ tokens) place bytes at cause =
    (rest : List ℕ) × BeginsWith place bytes token rest × HasFaultBehind tokens (place_behind token) rest at cause

-- the text has its first fault at this place: what stands before it is tokens and gaps
abbrev pub HasFault : List ℕ → ℕ → Cause → Type 0
HasFault bytes at cause = (tokens : List Token) × HasFaultBehind tokens 0 bytes at cause

-- the refusal names the file, the place and the cause of the first fault; want of memory is free
abbrev pub IsCause : ℕ → List ℕ → Refusal → Type 0
IsCause file bytes (refusals.Word at b) = (at.file ≡ file) × HasFault bytes at.place (causes.Word b)
IsCause file bytes (refusals.NumberTooLarge at) = (at.file ≡ file) × HasFault bytes at.place causes.NumberTooLarge
IsCause file bytes (refusals.Unclosed at) = (at.file ≡ file) × HasFault bytes at.place causes.Unclosed
IsCause file bytes refusals.Memory = Unit {0}
IsCause file bytes _ = ⊥
