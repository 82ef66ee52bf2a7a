-- The tokens of a text, as a relation between the whole text and the whole list.
use Rattle.std.specs.Prelude.{◌≡◌, ℕ, ◌+◌, List, [], ◌∷◌, ◌++◌, length, slice_range}
use Rattle.ms_text.specs.declared.token.Kind.{Kind}
use Rattle.ms_text.specs.declared.token.Token.{Token}
use Rattle.ms_text.specs.Spelling.{IsToken}
use Rattle.ms_text.specs.Gap.{IsGap}

-- the bytes, which stand at a place of the text, are a gap, the token's slice and the rest
pub record BeginsWith (place : ℕ) (bytes : List ℕ) (token : Token) (rest : List ℕ) : Type 0 where
  pub gap : List ℕ
  pub slice : List ℕ
  pub made_up : bytes ≡ gap ++ (slice ++ rest)
  pub is_gap : IsGap gap (slice ++ rest)
  pub is_token : IsToken token.kind slice rest
  pub place_is : token.place ≡ place + length gap
  pub length_is : token.length ≡ length slice

-- a token of a kind at a place
abbrev pub token_at : Kind → ℕ → ℕ → Token
token_at kind place length = record { kind = kind; place = place; length = length }

-- the place behind a token
abbrev pub place_behind : Token → ℕ
place_behind token = token.place + token.length

-- the bytes, which stand at a place of the text, are made up of these tokens, with gaps between them and at both ends
abbrev pub IsTokenList : ℕ → List ℕ → List Token → Type 0
IsTokenList place bytes [] = IsGap bytes []
IsTokenList place bytes (token ∷ tokens) =
    (rest : List ℕ) × BeginsWith place bytes token rest × IsTokenList (place_behind token) rest tokens

-- a text and its tokens
pub record Lexed : Type 0 where
  pub bytes : List ℕ
  pub tokens : List Token

-- the bytes of a token
abbrev pub slice_of : Lexed → Token → List ℕ
slice_of lexed token = slice_range lexed.bytes token.place (place_behind token)
