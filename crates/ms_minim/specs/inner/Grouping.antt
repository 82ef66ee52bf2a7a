-- Classes that are split by where their states lead among some chosen classes, at the states that lead to one of these alone.
use Rattle.std.specs.Prelude.{◌≡◌, ◌≢◌, ◌⊎◌, ℕ, ◌+◌, ◌<◌, List, length, map, slice_get, slice_index, Some}
use Rattle.ms_arena.specs.Target.{Extends}
use Rattle.ms_diagram.specs.Numbering.{IsNumbering}
use Rattle.ms_diagram.specs.Store.{IsStore}
use Rattle.ms_logic_words.specs.declared.sign.Sign.{Sign}
use Rattle.ms_logic_words.specs.Content.{Content}
use Rattle.ms_minim.specs.declared.signatures.Seen.{Seen}
use Rattle.ms_minim.specs.inner.Marks.{IsMarkOf}
use Rattle.ms_minim.specs.inner.Partition.{HaveOneClass}
use Rattle.ms_minim.specs.inner.Predecessors.{IsListed, AreBelow}
use Rattle.ms_logic_words.specs.Residual.{HaveEqualResiduals}

-- states with equal residuals have one class
abbrev pub NeverSplits : Content Sign → List ℕ → Type 0
NeverSplits content classes =
    (one other : ℕ) → one < length content.states → other < length content.states → HaveEqualResiduals content one other → HaveOneClass classes one other

-- each state is listed among the members of its class; a state that has left a class may be listed there too
abbrev pub AreListed : List ℕ → List (List ℕ) → Type 0
AreListed classes members = (state class : ℕ) → slice_get classes state ≡ Some class → IsListed members class state

-- the states in classes that never split equal residuals, with the members of each
pub record AreGrouped (content : Content Sign) (classes : List ℕ) (members : List (List ℕ)) : Type 0 where
  pub all : length classes ≡ length content.states
  pub kept : NeverSplits content classes
  pub listed : AreListed classes members
  pub below : AreBelow (length content.states) members

-- the class is chosen
abbrev pub IsChosen : List ℕ → ℕ → Type 0
IsChosen chosen class = (place : ℕ) × (slice_get chosen place ≡ Some class)

-- a number for each class, which is 0 for all that are not chosen
abbrev pub AreSplitters : List ℕ → List ℕ → Type 0
AreSplitters chosen splitters = (class : ℕ) → slice_index splitters class ≢ 0 → IsChosen chosen class

-- the number of the class of each state
abbrev pub through : List ℕ → List ℕ → List ℕ
through splitters classes = map (slice_index splitters) classes

-- the state is due
pub record IsDue (due : List (ℕ × ℕ)) (state : ℕ) : Type 0 where
  pub place : ℕ
  pub pair : ℕ × ℕ
  pub there : slice_get due place ≡ Some pair
  pub own : pair.0 ≡ state

-- all states that lead to a state of a chosen class are due
abbrev pub AreCovered : List ℕ → List (List ℕ) → List ℕ → List (ℕ × ℕ) → Type 0
AreCovered classes predecessors chosen due =
    (state class item : ℕ) → slice_get classes state ≡ Some class → IsChosen chosen class → IsListed predecessors state item → IsDue due item

-- each class has a number
abbrev pub AreWithin : List ℕ → List ℕ → Type 0
AreWithin classes splitters = (state class : ℕ) → slice_get classes state ≡ Some class → class < length splitters

-- the class that the states of a class with a mark get: the same where they lead to no chosen class, and else a new one
pub record IsSplitOff (keys : List (ℕ × ℕ)) (first class mark label : ℕ) : Type 0 where
  pub leads : mark ≢ 0
  pub place : ℕ
  pub label_is : label ≡ first + place
  pub key : slice_get keys place ≡ Some (class, mark)

abbrev pub IsLabel : List (ℕ × ℕ) → ℕ → ℕ → ℕ → ℕ → Type 0
IsLabel keys first class mark label = ((mark ≡ 0) × (label ≡ class)) ⊎ IsSplitOff keys first class mark label

-- the mark 0 is that of the states that lead to no chosen class
pub record IsSeen (seen : Seen) : Type 0 where
  pub store : IsStore seen.scratch.nodes seen.scratch.limit
  pub numbering : IsNumbering seen.marks
  pub none : slice_get seen.marks 0 ≡ Some (0, 0)
  pub keys : IsNumbering seen.keys

-- more has been seen
pub record IsLaterSeen (early late : Seen) : Type 0 where
  pub nodes : Extends early.scratch.nodes late.scratch.nodes
  pub marks : Extends early.marks late.marks
  pub keys : Extends early.keys late.keys
  pub first : late.first ≡ early.first

-- the class that a state gets
pub record IsNewClass (seen : Seen) (content : Content Sign) (classes splitters : List ℕ) (state label : ℕ) : Type 0 where
  pub class : ℕ
  pub class_is : slice_get classes state ≡ Some class
  pub mark : ℕ
  pub mark_is : IsMarkOf seen.scratch.nodes seen.marks content (through splitters classes) state mark
  pub labelled : IsLabel seen.keys seen.first class mark label

-- the first so many of the states that are due have their new classes
pub record AreLabels (seen : Seen) (content : Content Sign) (classes splitters : List ℕ) (due : List (ℕ × ℕ)) (labels : List ℕ) (done : ℕ) : Type 0 where
  pub count : length labels ≡ done
  pub labelled :
      (place label : ℕ) (pair : ℕ × ℕ) → slice_get labels place ≡ Some label → slice_get due place ≡ Some pair
      → IsNewClass seen content classes splitters pair.0 label

-- a state that has got its new class
pub record IsGiven (classes : List ℕ) (due : List (ℕ × ℕ)) (labels : List ℕ) (done state : ℕ) : Type 0 where
  pub place : ℕ
  pub before : place < done
  pub pair : ℕ × ℕ
  pub there : slice_get due place ≡ Some pair
  pub own : pair.0 ≡ state
  pub given : slice_get classes state ≡ slice_get labels place

-- a state that has kept its class
pub record IsLeft (early late : List ℕ) (due : List (ℕ × ℕ)) (done state : ℕ) : Type 0 where
  pub same : slice_get late state ≡ slice_get early state
  pub none : (place : ℕ) (pair : ℕ × ℕ) → place < done → slice_get due place ≡ Some pair → pair.0 ≢ state

-- the first so many of the states that are due have got their new classes
pub record IsMoved (early late : List ℕ) (members : List (List ℕ)) (due : List (ℕ × ℕ)) (labels : List ℕ) (done : ℕ) : Type 0 where
  pub count : length late ≡ length early
  pub either : (state : ℕ) → IsGiven late due labels done state ⊎ IsLeft early late due done state
  pub listed : AreListed late members
