-- A word, and letters behind it.
use Rattle.std.proofs.Common.{◌≡◌, ℕ, Bool, List, [], ◌∷◌, ◌++◌, refl, ap}
use Rattle.ms_list.specs.declared.word.Word.{Word}
use Rattle.ms_logic.specs.Assignment.{Variable}
use Rattle.ms_logic_words.specs.Content.{Content, AreLetters, IsWordOver, first_state, next_state, state_after, last_state, sign_at, sign_of}

module _ {Sign : Type 0} (content : Content Sign) where
  -- letters, and more behind them
  pub state_after-append : (state : ℕ) (first second : List (List Bool)) → state_after content state (first ++ second) ≡ state_after content (state_after content state first) second
  state_after-append state [] second = refl
  state_after-append state (letter ∷ first) second = state_after-append (next_state content state letter) first second

-- a word, and letters behind it
abbrev pub with_letters : Word → List (List Bool) → Word
with_letters word letters = record { truth = word.truth; letters = word.letters ++ letters }

pub sign_of-with_letters : {Sign : Type 0} (content : Content Sign) (word : Word) (letters : List (List Bool))
    → sign_of content (with_letters word letters) ≡ sign_at content (state_after content (last_state content word) letters)
sign_of-with_letters content word letters = ap (sign_at content) (state_after-append content (first_state content word.truth) word.letters letters)

pub AreLetters-append : (variables : List Variable) (first second : List (List Bool)) → AreLetters variables first → AreLetters variables second → AreLetters variables (first ++ second)
AreLetters-append variables [] second are also = also
AreLetters-append variables (letter ∷ first) second are also = (are.0, AreLetters-append variables first second are.1 also)

pub over-with_letters : (variables : List Variable) (word : Word) (letters : List (List Bool)) → IsWordOver variables word → AreLetters variables letters → IsWordOver variables (with_letters word letters)
over-with_letters variables word letters over are = record { truth = over.truth; letters = AreLetters-append variables word.letters letters over.letters are }
