-- Classes that no letter splits. Only the contracts and proofs inside this crate cite it.
use Rattle.std.specs.Prelude.{◌≡◌, ◌≢◌, ℕ, ◌<◌, Bool, List, slice_get, slice_index, Some}
use Rattle.ms_dfa.specs.declared.plain.FileSign.{FileSign}
use Rattle.ms_logic_words.specs.Content.{Content, next_state, sign_at}
use Rattle.ms_cert.specs.declared.splitter.Splitter.{Splitter}
use Rattle.ms_cert.specs.inner.Partition.{IsIn, is_split_off}

-- states of one class were of one class before
abbrev pub Refines : List ℕ → List ℕ → Type 0
Refines new old = (one other class : ℕ) → slice_get new one ≡ Some class → slice_get new other ≡ Some class → slice_index old one ≡ slice_index old other

module _ (content : Content FileSign) where
  -- the letters of a splitter end in its sign from one of two states alone
  abbrev pub TellsApart : ℕ → ℕ → Splitter → Type 0
  TellsApart one other splitter = is_split_off content splitter one ≢ is_split_off content splitter other

  -- the same of two states of a list
  pub record TellsSomeApart (states : List ℕ) (splitter : Splitter) : Type 0 where
    pub one : ℕ
    pub other : ℕ
    pub one_in : IsIn states one
    pub other_in : IsIn states other
    pub apart : TellsApart one other splitter

module _ (content : Content FileSign) (classes : List ℕ) where
  -- a letter leads from two states to different classes, and each letter to one class
  abbrev pub LeadsApart : ℕ → ℕ → List Bool → Type 0
  LeadsApart one other letter = slice_index classes (next_state content one letter) ≢ slice_index classes (next_state content other letter)

  abbrev pub LeadTogether : ℕ → ℕ → Type 0
  LeadTogether one other = (letter : List Bool) → slice_index classes (next_state content one letter) ≡ slice_index classes (next_state content other letter)

  -- two states have one sign, and each letter leads from both to one class
  pub record AreAlike (one other : ℕ) : Type 0 where
    pub signs : sign_at content one ≡ sign_at content other
    pub next : LeadTogether one other

  -- so have the states of a list
  abbrev pub AreAllAlike : List ℕ → Type 0
  AreAllAlike states = (one other : ℕ) → IsIn states one → IsIn states other → AreAlike one other

-- the states of each class so far are alike
abbrev pub AreSettledBelow : Content FileSign → List ℕ → List (List ℕ) → ℕ → Type 0
AreSettledBelow content classes members count =
    (class : ℕ) (states : List ℕ) → class < count → slice_get members class ≡ Some states → AreAllAlike content classes states

-- the states of each class have one sign, and each letter leads from all of them to one class
abbrev pub AreSettled : Content FileSign → List ℕ → Type 0
AreSettled content classes =
    (one other class : ℕ) → slice_get classes one ≡ Some class → slice_get classes other ≡ Some class → AreAlike content classes one other
