-- What may stand before, between and behind tokens: blanks and comments, one after the other.
use Rattle.std.specs.Prelude.{◌≡◌, ◌≢◌, ℕ, Bool, ◌||◌, not, ◌==◌, List, [], ◌∷◌, ◌++◌, codes, IsTrue}
use Rattle.std.specs.List.{list_all}
use Rattle.std.specs.Str.{byte}

-- space, tab, carriage return or line feed
abbrev pub is_blank : ℕ → Bool
is_blank b = b == byte " " || b == 9 || b == 13 || b == 10

-- a byte that may stand in a comment to the end of the line: no line feed
abbrev pub is_line_byte : ℕ → Bool
is_line_byte b = not (b == 10)

-- a line ends before these bytes: they begin with a line feed, or there are none
abbrev pub EndsLine : List ℕ → Type 0
EndsLine [] = Unit {0}
EndsLine (b ∷ bs) = b ≡ 10

-- `*/` stands nowhere in the body
abbrev pub NeverCloses : List ℕ → Type 0
NeverCloses body = (front behind : List ℕ) → body ≢ front ++ (codes "*/" ++ behind)

-- a blank; a comment from `#` to the end of its line; a comment between `/*` and `*/`
pub data Piece : Type 0 where
  blank : (b : ℕ) → Piece
  line_comment : (body : List ℕ) → Piece
  block_comment : (body : List ℕ) → Piece

abbrev pub piece_bytes : Piece → List ℕ
piece_bytes (blank b) = b ∷ []
piece_bytes (line_comment body) = codes "#" ++ body
piece_bytes (block_comment body) = codes "/*" ++ body ++ codes "*/"

-- The piece is whole where these bytes stand behind it. Comments do not nest, and the first `*/` behind the
-- opening closes one.
abbrev pub IsPiece : Piece → List ℕ → Type 0
IsPiece (blank b) behind = IsTrue (is_blank b)
IsPiece (line_comment body) behind = IsTrue (list_all is_line_byte body) × EndsLine behind
IsPiece (block_comment body) behind = NeverCloses body

-- the bytes of pieces, one after the other
abbrev pub gap_bytes : List Piece → List ℕ
gap_bytes [] = []
gap_bytes (piece ∷ pieces) = piece_bytes piece ++ gap_bytes pieces

-- each piece is whole where the pieces after it and then these bytes stand behind it
abbrev pub ArePieces : List Piece → List ℕ → Type 0
ArePieces [] behind = Unit {0}
ArePieces (piece ∷ pieces) behind = IsPiece piece (gap_bytes pieces ++ behind) × ArePieces pieces behind

-- the gap is made up of blanks and comments where these bytes stand behind it
abbrev pub IsGap : List ℕ → List ℕ → Type 0
IsGap gap behind = (pieces : List Piece) × ArePieces pieces behind × (gap ≡ gap_bytes pieces)

-- the front is one blank or comment where these bytes stand behind it
abbrev pub BeginsWithPiece : List ℕ → List ℕ → Type 0
BeginsWithPiece front behind = (piece : Piece) × IsPiece piece behind × (front ≡ piece_bytes piece)

-- the bytes begin with no blank and no whole comment
abbrev pub BeginsNoPiece : List ℕ → Type 0
BeginsNoPiece bytes = (piece : Piece) (behind : List ℕ) → bytes ≡ piece_bytes piece ++ behind → ¬ (IsPiece piece behind)
