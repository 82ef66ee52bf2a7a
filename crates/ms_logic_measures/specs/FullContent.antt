-- The full content of a formula: the canonical content whose runs give the value of the formula on every word, and tell the words
-- that encode no assignment from the others. By Myhill and Nerode there is exactly one.
use Rattle.std.specs.Prelude.{◌≡◌, ℕ, ◌+◌, List, length, Some, Contains}
use Rattle.ms_list.specs.declared.word.Word.{Word}
use Rattle.ms_logic_words.specs.declared.sign.Sign.{Sign}
use Rattle.ms_logic_words.specs.declared.sign.Sign.TheVariants as sign
use Rattle.ms_logic.specs.declared.mode.Mode.{Mode}
use Rattle.ms_logic.specs.Assignment.{Variable}
use Rattle.ms_logic_words.specs.Canonical.{IsCanonical}
use Rattle.ms_logic_words.specs.Content.{Content, IsWordOver, sign_of}
use Rattle.ms_logic_core.specs.CoreForm.{CoreForm, CoreYes, CoreNo}
use Rattle.ms_logic_measures.specs.Steps.{free_variables}
use Rattle.ms_logic.specs.Truth.{Import}
use Rattle.ms_logic_words.specs.WordSign.{EncodesSome, IsOutside}

-- the formula has the value on the word
abbrev pub HasValueOn : List Import → Mode → List Variable → CoreForm → Word → Sign → Type 0
HasValueOn imports mode variables f word sign.Yes = EncodesSome mode variables (CoreYes imports f) word
HasValueOn imports mode variables f word sign.No = EncodesSome mode variables (CoreNo imports f) word
HasValueOn imports mode variables f word sign.Undefined =
    EncodesSome mode variables (λ e. (¬ CoreYes imports f e) × (¬ CoreNo imports f e)) word
HasValueOn imports mode variables f word sign.Outside = IsOutside mode variables word

-- the list has each free variable of the core formula
abbrev pub CoversCoreFormula : List Import → List Variable → CoreForm → Type 0
CoversCoreFormula imports variables f = (w : Variable) → Contains (free_variables imports f) w → Contains variables w

-- the full content of a formula over a list of variables that covers it
pub record IsFullContent (imports : List Import) (mode : Mode) (variables : List Variable) (f : CoreForm) (content : Content Sign) : Type 0 where
  pub covers : CoversCoreFormula imports variables f
  pub canonical : IsCanonical content
  pub same_mode : content.mode ≡ mode
  pub same_variables : content.variables ≡ variables
  -- the sign of each word is the value of the formula on it
  pub values :
      (word : Word) → IsWordOver variables word
      → (value : Sign) × (sign_of content word ≡ Some value) × HasValueOn imports mode variables f word value

-- the states and nodes of a content
abbrev pub part_count : {Sign : Type 0} → Content Sign → ℕ
part_count content = length content.states + length content.nodes

-- the formula has so many states and nodes: its full content over the variables has
abbrev pub HasPartCount : List Import → Mode → List Variable → CoreForm → ℕ → Type 0
HasPartCount imports mode variables f n =
    (content : Content Sign) × IsFullContent imports mode variables f content × (n ≡ part_count content)
