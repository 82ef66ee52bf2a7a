-- Classes of states, each but the first of which was split off from an earlier one. Only the contracts and proofs inside this crate cite it.
use Rattle.std.specs.Prelude.{◌≡◌, ◌⊎◌, ℕ, zero, suc, ◌<◌, ◌≤◌, Bool, true, false, not, List, [], ◌∷◌, ◌++◌, filter, length, replicate, slice_get, slice_index_or, slice_set, Some}
use Rattle.ms_dfa.specs.declared.plain.FileSign.{FileSign}
use Rattle.ms_dfa.specs.declared.plain.FileSign.TheVariants.{Plus}
use Rattle.ms_logic.specs.FiniteSet.{numbers_below}
use Rattle.ms_logic_words.specs.Content.{AreLetters, Content}
use Rattle.ms_cert.specs.Certificate.{ends_in}
use Rattle.ms_cert.specs.declared.partition.Partition.{Partition}
use Rattle.ms_cert.specs.declared.splitter.Splitter.{Splitter}
use Rattle.ms_cert.specs.declared.separation.Sides.{Sides}

-- for each state its class, and for each class its states, the class from which it was split off, and by what
pub record Classes : Type 0 where
  pub classes : List ℕ
  pub members : List (List ℕ)
  pub parents : List ℕ
  pub splitters : List Splitter

abbrev pub classes_of : Partition → Classes
classes_of partition = record {
  classes = partition.classes.items;
  members = partition.members.items;
  parents = partition.parents.items;
  splitters = partition.splitters.items;
}

-- the state is in the list
abbrev pub IsIn : List ℕ → ℕ → Type 0
IsIn states state = (place : ℕ) × (slice_get states place ≡ Some state)

-- the classes of all states, once these states are put into a class
abbrev pub assigned : List ℕ → List ℕ → ℕ → List ℕ
assigned classes [] class = classes
assigned classes (state ∷ states) class = assigned (slice_set classes state class) states class

-- from a class its parents lead, in so many steps at most, to the first one up to a bound: what the states of the class were in before
-- the classes above the bound were split off
abbrev pub StemsWithin : ℕ → List ℕ → ℕ → ℕ → ℕ → Type 0
StemsWithin zero parents bound class own = (class ≡ own) × (class ≤ bound)
StemsWithin (suc steps) parents bound class own =
    ((class ≡ own) × (class ≤ bound))
    ⊎ ((bound < class) × ((parent : ℕ) × (slice_get parents class ≡ Some parent) × StemsWithin steps parents bound parent own))

abbrev pub StemsFrom : List ℕ → ℕ → ℕ → ℕ → Type 0
StemsFrom parents bound class own = (steps : ℕ) × StemsWithin steps parents bound class own

-- each class but the first was split off from an earlier one
abbrev pub AreEarlier : List ℕ → Type 0
AreEarlier parents = (class parent : ℕ) → slice_get parents class ≡ Some parent → 0 < class → parent < class

-- where the states of two classes parted: those of one went into the class that was split off, and those of the other stayed
pub record IsParting (parents : List ℕ) (one other split : ℕ) : Type 0 where
  pub some : 0 < split
  pub parent : ℕ
  pub there : slice_get parents split ≡ Some parent
  pub sides : (StemsFrom parents split one split × StemsFrom parents split other parent) ⊎ (StemsFrom parents split other split × StemsFrom parents split one parent)

-- the letters of a splitter are a letter and those of an earlier one, which has the same sign
pub record HasTail (parts : Classes) (splitter : Splitter) : Type 0 where
  pub letter : List Bool
  pub tail : Splitter
  pub there : slice_get parts.splitters splitter.tail ≡ Some tail
  pub letters : splitter.letters ≡ letter ∷ tail.letters
  pub sign : splitter.sign ≡ tail.sign

-- where a tail is named, it is one
abbrev pub IsBehind : Classes → Splitter → Type 0
IsBehind parts splitter = 0 < splitter.tail → HasTail parts splitter

-- different states have different classes
abbrev pub IsDiscrete : List ℕ → Type 0
IsDiscrete classes = (one other class : ℕ) → slice_get classes one ≡ Some class → slice_get classes other ≡ Some class → one ≡ other

-- the states of the first side in a class of their own, and those of the second in the old one
abbrev pub with_sides : Classes → ℕ → Splitter → Sides → Classes
with_sides old class splitter sides = record {
  classes = assigned old.classes sides.first (length old.parents);
  members = slice_set old.members class sides.second ++ sides.first ∷ [];
  parents = old.parents ++ class ∷ [];
  splitters = old.splitters ++ splitter ∷ [];
}

module _ (content : Content FileSign) where
  -- whether the letters of a splitter end in its sign from a state
  abbrev pub is_split_off : Splitter → ℕ → Bool
  is_split_off splitter state = ends_in content splitter.sign splitter.letters state

  -- all states in one class
  abbrev pub one_class : Classes
  one_class = record {
    classes = replicate (length content.states) 0;
    members = numbers_below (length content.states) ∷ [];
    parents = 0 ∷ [];
    splitters = record { sign = Plus; letters = []; tail = 0 } ∷ [];
  }

  -- a class with those of its states split off that a splitter tells apart
  abbrev pub with_split : Classes → ℕ → Splitter → Classes
  with_split old class splitter =
      let states = slice_index_or old.members class [] in
      with_sides old class splitter (record { first = filter (is_split_off splitter) states; second = filter (λ state. not (is_split_off splitter state)) states })

  pub record IsPartition (parts : Classes) : Type 0 where
    pub states_count : length parts.classes ≡ length content.states
    pub members_count : length parts.members ≡ length parts.parents
    pub splitters_count : length parts.splitters ≡ length parts.parents
    pub earlier : AreEarlier parts.parents
    -- a state is in the list of its class, and in no other
    pub listed :
        (state class : ℕ) → slice_get parts.classes state ≡ Some class
        → (states : List ℕ) × (slice_get parts.members class ≡ Some states) × IsIn states state
    pub own :
        (class state : ℕ) (states : List ℕ) → slice_get parts.members class ≡ Some states → IsIn states state
        → slice_get parts.classes state ≡ Some class
    pub some : (class : ℕ) (states : List ℕ) → slice_get parts.members class ≡ Some states → 0 < length states
    -- the letters of splitters are letters over the variables
    pub over : (class : ℕ) (splitter : Splitter) → slice_get parts.splitters class ≡ Some splitter → AreLetters content.variables splitter.letters
    -- what was split off is told apart from what stayed
    pub told :
        (split parent state class stem : ℕ) (splitter : Splitter) → 0 < split → slice_get parts.parents split ≡ Some parent
        → slice_get parts.splitters split ≡ Some splitter → slice_get parts.classes state ≡ Some class → StemsFrom parts.parents split class stem
        → (stem ≡ split → is_split_off splitter state ≡ true) × (stem ≡ parent → is_split_off splitter state ≡ false)
