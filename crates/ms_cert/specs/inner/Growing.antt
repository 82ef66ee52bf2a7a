-- A tree that grows from its leaves on, as classes go back into those from which they were split off. Only the contracts and proofs
-- inside this crate cite it.
use Rattle.std.specs.Prelude.{◌≡◌, ℕ, ◌+◌, ◌≤◌, true, false, List, [], ◌∷◌, ◌++◌, length, reverse, slice_get, slice_set, Some}
use Rattle.std.specs.List.{AllByRecursion}
use Rattle.ms_dfa.specs.declared.plain.FileSign.{FileSign}
use Rattle.ms_logic_words.specs.Content.{Content}
use Rattle.ms_cert.specs.Certificate.{IsLineOver, Tree, branch, ends_in, leaf, lines_of}
use Rattle.ms_cert.specs.declared.cert.TreeLine.{TreeLine}
use Rattle.ms_cert.specs.inner.Partition.{Classes, IsIn, StemsFrom}

-- numbers that rise, from a least one on
abbrev pub RiseFrom : ℕ → List ℕ → Type 0
RiseFrom least [] = Unit {0}
RiseFrom least (n ∷ more) = (least ≤ n) × RiseFrom (n + 1) more

-- the states at the leaves of a tree
abbrev pub leaves_of : Tree → List ℕ
leaves_of (leaf state) = state ∷ []
leaves_of (branch sign letters one other) = leaves_of one ++ leaves_of other

module _ (content : Content FileSign) where
  -- the letters of each branch end in its sign from the leaves of its first tree, and from none of its second
  abbrev pub TellsLeaves : Tree → Type 0
  TellsLeaves (leaf state) = Unit {0}
  TellsLeaves (branch sign letters one other) =
      ((state : ℕ) → IsIn (leaves_of one) state → ends_in content sign letters state ≡ true)
      × ((state : ℕ) → IsIn (leaves_of other) state → ends_in content sign letters state ≡ false)
      × TellsLeaves one
      × TellsLeaves other

  -- the lines of a tree that tells its leaves apart: the states that were in a class before those above a bound were split off
  pub record IsGrown (parts : Classes) (bound class : ℕ) (lines : List TreeLine) : Type 0 where
    pub tree : Tree
    pub spelled : lines ≡ lines_of tree
    pub tells : TellsLeaves tree
    pub over : AllByRecursion (IsLineOver content.variables) lines
    pub from :
        (state : ℕ) → IsIn (leaves_of tree) state
        → (own : ℕ) × (slice_get parts.classes state ≡ Some own) × StemsFrom parts.parents bound own class
    pub to :
        (state own : ℕ) → slice_get parts.classes state ≡ Some own → StemsFrom parts.parents bound own class
        → IsIn (leaves_of tree) state

  -- the same of each class up to the bound, with its lines from the last one on
  pub record AreGrown (parts : Classes) (bound : ℕ) (trees : List (List TreeLine)) : Type 0 where
    pub count : length trees ≡ bound + 1
    pub each : (class : ℕ) (lines : List TreeLine) → slice_get trees class ≡ Some lines → IsGrown parts bound class (reverse lines)

-- the lines of the last class stand behind those of another one, and a line behind both
pub record Joins (parent : ℕ) (line : TreeLine) (old new : List (List TreeLine)) : Type 0 where
  pub front : List (List TreeLine)
  pub first : List TreeLine
  pub second : List TreeLine
  pub parts : old ≡ front ++ first ∷ []
  pub there : slice_get front parent ≡ Some second
  pub made : new ≡ slice_set front parent (second ++ first ++ line ∷ [])
