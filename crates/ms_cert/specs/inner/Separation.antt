-- Trees that stand one after the other, and separate lists of states. Only the contracts and proofs inside this crate cite it.
use Rattle.std.specs.Prelude.{◌≡◌, ◌↔◌, ℕ, zero, suc, ◌<◌, ◌==◌, Bool, not, IsTrue, List, [], ◌∷◌, ◌++◌, filter, length, map, reverse, slice_get, slice_index_or, Some}
use Rattle.ms_dfa.specs.declared.plain.FileSign.{FileSign}
use Rattle.ms_dfa.specs.declared.plain.Plain.{Plain}
use Rattle.ms_logic_words.specs.Content.{Content}
use Rattle.ms_cert.specs.Certificate.{Separates, Tree, ends_in, lines_of}
use Rattle.ms_cert.specs.declared.cert.TreeLine.{TreeLine}
use Rattle.ms_cert.specs.declared.separation.Sides.{Sides}
use Rattle.ms_cert.specs.declared.cert.TreeLine.TheVariants.{At, By}

-- the lines spell so many trees, one after the other
abbrev pub SpellTrees : ℕ → List TreeLine → Type 0
SpellTrees zero lines = lines ≡ []
SpellTrees (suc count) lines = (tree : Tree) × (rest : List TreeLine) × (lines ≡ lines_of tree ++ rest) × SpellTrees count rest

module _ (content : Content FileSign) where
  -- the lines spell a tree for each list of states, one after the other, and each separates its list
  abbrev pub SeparateEach : List (List ℕ) → List TreeLine → Type 0
  SeparateEach [] lines = lines ≡ []
  SeparateEach (states ∷ more) lines =
      (tree : Tree) × (rest : List TreeLine) × (lines ≡ lines_of tree ++ rest) × Separates content tree states × SeparateEach more rest

  -- whether a state is on the first side of a line: the state itself, or one from which the letters end in the sign
  abbrev pub passes : TreeLine → ℕ → Bool
  passes (At own) state = state == own
  passes (By sign letters) state = ends_in content sign letters state

  -- the states on the first side, and on the other
  abbrev pub passing : TreeLine → List ℕ → List ℕ
  passing line states = filter (passes line) states

  abbrev pub failing : TreeLine → List ℕ → List ℕ
  failing line states = filter (λ state. not (passes line state)) states

  pub record IsSplit (line : TreeLine) (states : List ℕ) (sides : Sides) : Type 0 where
    pub first : sides.first ≡ passing line states
    pub second : sides.second ≡ failing line states

  -- the lists that wait, the next one last, once a line is taken: the lines go on right where the rest does
  abbrev pub Takes : TreeLine → List (List ℕ) → List (List ℕ) → Bool → Type 0
  Takes line waiting left goes_on =
      (rest : List TreeLine) → SeparateEach (reverse waiting) (line ∷ rest) ↔ (IsTrue goes_on × SeparateEach (reverse left) rest)

-- the lists of classes
abbrev pub lists_of : List (List ℕ) → List ℕ → List (List ℕ)
lists_of members classes = map (λ class. slice_index_or members class []) classes

-- classes that wait: each is there, and none waits twice
pub record AreWaiting (members : List (List ℕ)) (classes : List ℕ) : Type 0 where
  pub within : (place class : ℕ) → slice_get classes place ≡ Some class → class < length members
  pub once : (one other class : ℕ) → slice_get classes one ≡ Some class → slice_get classes other ≡ Some class → one ≡ other

-- places of states
abbrev pub AreStates : Plain → List ℕ → Type 0
AreStates plain states = (place state : ℕ) → slice_get states place ≡ Some state → state < length plain.states
