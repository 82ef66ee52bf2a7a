-- Residuals of states, and automata of fewest states (Myhill, 1957; Nerode, 1958).
use Rattle.std.specs.Prelude.{◌≡◌, ℕ, ◌<◌, ◌≤◌, Bool, List, length}
use Rattle.ms_list.specs.declared.word.Word.{Word}
use Rattle.ms_logic_words.specs.Content.{Content, AreLetters, IsWordOver, IsClosed, last_state, state_after, sign_at, sign_of}

-- the same letters behind two states lead to the same sign
abbrev pub HaveEqualResiduals : {Sign : Type 0} → Content Sign → ℕ → ℕ → Type 0
HaveEqualResiduals content one other =
    (letters : List (List Bool)) → AreLetters content.variables letters
    → sign_at content (state_after content one letters) ≡ sign_at content (state_after content other letters)

-- each word over the variables of the first has one sign in both
abbrev pub HaveEqualSigns : {Sign : Type 0} → Content Sign → Content Sign → Type 0
HaveEqualSigns first second = (word : Word) → IsWordOver first.variables word → sign_of second word ≡ sign_of first word

-- some word over the variables leads to each state
abbrev pub AreReached : {Sign : Type 0} → Content Sign → Type 0
AreReached content = (state : ℕ) → state < length content.states → (word : Word) × IsWordOver content.variables word × (last_state content word ≡ state)

-- no two states have equal residuals
abbrev pub HaveDifferentResiduals : {Sign : Type 0} → Content Sign → Type 0
HaveDifferentResiduals content =
    (one other : ℕ) → one < length content.states → other < length content.states → HaveEqualResiduals content one other → one ≡ other

-- no closed content over the same variables that gives each word over them the same sign has fewer states
abbrev pub HasFewestStates : {Sign : Type 0} → Content Sign → Type 0
HasFewestStates {Sign} content =
    (other : Content Sign) → IsClosed other → other.variables ≡ content.variables → HaveEqualSigns content other → length content.states ≤ length other.states

-- a content of fewest states: each is reached, and no two have equal residuals
pub record IsLeast {Sign : Type 0} (content : Content Sign) : Type 0 where
  pub fewest : HasFewestStates content
  pub reached : AreReached content
  pub differ : HaveDifferentResiduals content
