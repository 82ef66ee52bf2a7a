-- What the parts of the reader tell of the bytes that they are given. Only the contracts and proofs inside this crate cite it.
use Rattle.std.specs.Prelude.{◌≡◌, ◌≢◌, ℕ, Bool, List, ◌∷◌, ◌++◌, codes}
use Rattle.ms_cert.specs.Text.{bit_text, bits_text, letters_text}

-- no bit is at the front
abbrev pub Stops : List ℕ → Type 0
Stops bytes = (bit : Bool) (rest : List ℕ) → bytes ≢ bit_text bit ++ rest

-- the bits at the front, all of them, and what stands behind them
pub record AreBits (bytes : List ℕ) (bits : List Bool) (rest : List ℕ) : Type 0 where
  pub parts : bytes ≡ bits_text bits ++ rest
  pub stop : Stops rest

-- a blank, `l` and bits are at the front, and a rest behind them
pub record IsLetter (bytes : List ℕ) (letter : List Bool) (rest : List ℕ) : Type 0 where
  pub behind : List ℕ
  pub begins : bytes ≡ codes " l" ++ behind
  pub bits : AreBits behind letter rest

-- no letter is at the front
abbrev pub IsNoLetter : List ℕ → Type 0
IsNoLetter bytes = (rest : List ℕ) → bytes ≢ codes " l" ++ rest

-- the letters at the front, and what stands behind them: a line feed where letters and a line feed are at the front at all
pub record AreLettersAt (bytes : List ℕ) (letters : List (List Bool)) (rest : List ℕ) : Type 0 where
  pub parts : bytes ≡ letters_text letters ++ rest
  pub only : (others : List (List Bool)) (behind : List ℕ) → bytes ≡ letters_text others ++ 10 ∷ behind → (others ≡ letters) × (rest ≡ 10 ∷ behind)
