-- What certifies that an automaton has fewest states: a word for each state, no longer than need be, and a tree of words that
-- tells the states apart (Myhill; Nerode).
use Rattle.std.specs.Prelude.{◌≡◌, ℕ, ◌+◌, ◌≤◌, Bool, true, false, not, List, [], ◌∷◌, ◌++◌, filter, length, slice_get, Some}
use Rattle.std.specs.Option.{option_map_or}
use Rattle.ms_list.specs.declared.word.Word.{Word}
use Rattle.ms_dfa.specs.Files.{content_of_file}
use Rattle.ms_dfa.specs.declared.plain.FileSign.{FileSign}
use Rattle.ms_dfa.specs.declared.plain.FileSign.TheVariants as signs
use Rattle.ms_dfa.specs.declared.plain.Plain.{Plain}
use Rattle.ms_logic.specs.Assignment.{Variable}
use Rattle.ms_logic.specs.FiniteSet.{numbers_below}
use Rattle.ms_logic_words.specs.Content.{AreLetters, Content, IsWordOver, count_of, first_state, is_in_letters, is_truth_value, last_state, next_state, sign_at, state_after}
use Rattle.ms_cert.specs.declared.cert.Cert.{Cert}
use Rattle.ms_cert.specs.declared.cert.TreeLine.{TreeLine}
use Rattle.ms_cert.specs.declared.cert.TreeLine.TheVariants.{At, By}

-- a tree: a state alone, or a sign and a word's letters, a tree for the states from which these end in the sign, and one for the others
pub data Tree : Type 0 where
  leaf : ℕ → Tree
  branch : FileSign → List (List Bool) → Tree → Tree → Tree

-- the lines of a tree in pre-order
abbrev pub lines_of : Tree → List TreeLine
lines_of (leaf state) = At state ∷ []
lines_of (branch sign letters one other) = By sign letters ∷ lines_of one ++ lines_of other

-- whether two signs are one
abbrev pub is_sign : FileSign → FileSign → Bool
is_sign signs.Plus signs.Plus = true
is_sign signs.Minus signs.Minus = true
is_sign signs.Zero signs.Zero = true
is_sign signs.Outside signs.Outside = true
is_sign one other = false

module _ (content : Content FileSign) where
  -- whether the run by the letters from a state ends in the sign
  abbrev pub ends_in : FileSign → List (List Bool) → ℕ → Bool
  ends_in sign letters state = option_map_or (λ found. is_sign found sign) (sign_at content (state_after content state letters)) false

  -- a tree separates states: it is one of them alone, or its two trees separate those from which the letters end in the sign, and the others
  abbrev pub Separates : Tree → List ℕ → Type 0
  Separates (leaf state) states = states ≡ state ∷ []
  Separates (branch sign letters one other) states =
      Separates one (filter (ends_in sign letters) states) × Separates other (filter (λ state. not (ends_in sign letters state)) states)

  -- the lines spell one tree, which separates all states
  pub record AreApart (lines : List TreeLine) : Type 0 where
    pub tree : Tree
    pub spelled : lines ≡ lines_of tree
    pub separates : Separates tree (numbers_below (length content.states))

  -- for each state a word over the variables whose run ends there
  pub record AreWordsTo (words : List Word) : Type 0 where
    pub count : length words ≡ length content.states
    pub over : (state : ℕ) (word : Word) → slice_get words state ≡ Some word → IsWordOver content.variables word
    pub ends : (state : ℕ) (word : Word) → slice_get words state ≡ Some word → last_state content word ≡ state

  -- a state to which the start leads has a word without letters, and one to which a letter leads one letter more at most
  pub record GrowByLetters (words : List Word) : Type 0 where
    pub start :
        (truth : List Bool) (word : Word) → length truth ≡ count_of is_truth_value content.variables
        → slice_get words (first_state content truth) ≡ Some word → length word.letters ≡ 0
    pub step :
        (state : ℕ) (letter : List Bool) (word next : Word) → length letter ≡ count_of is_in_letters content.variables
        → slice_get words state ≡ Some word → slice_get words (next_state content state letter) ≡ Some next
        → length next.letters ≤ length word.letters + 1

-- the letters of a line of a tree are letters over the variables
abbrev pub IsLineOver : List Variable → TreeLine → Type 0
IsLineOver variables (At state) = Unit {0}
IsLineOver variables (By sign letters) = AreLetters variables letters

-- the certificate certifies that the automaton of the file has fewest states
pub record IsCertified (plain : Plain) (cert : Cert) : Type 0 where
  pub words : AreWordsTo (content_of_file plain) cert.words
  pub lengths : GrowByLetters (content_of_file plain) cert.words
  pub letters : (place : ℕ) (line : TreeLine) → slice_get cert.tree place ≡ Some line → IsLineOver (content_of_file plain).variables line
  pub tree : AreApart (content_of_file plain) cert.tree
