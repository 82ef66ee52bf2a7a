-- The variables that an automaton lacks.
use Rattle.std.specs.Prelude.{◌≡◌, ◌⊎◌, ℕ, ◌<◌, ◌≤◌, List, [], ◌∷◌, ◌++◌, take, slice_get, Some}
use Rattle.ms_dfa.specs.declared.track.Track.{Track}
use Rattle.ms_dfa.specs.Automaton.{variables_of}
use Rattle.ms_logic.specs.declared.mode.Order.{Order}
use Rattle.ms_logic.specs.declared.mode.Order.TheVariants.{Zero, One, Two}
use Rattle.ms_logic.specs.Assignment.{Variable}
use Rattle.ms_logic.specs.Lists.{AreRising, IsAmong}
use Rattle.ms_rename.specs.Whole.{HasNoNumber}
use Rattle.ms_build.specs.declared.lacked.Lacked.{Lacked}

-- a variable of the list has this number
abbrev pub HasNumber : List Variable → ℕ → Type 0
HasNumber vs name = (v : Variable) × IsAmong vs v × (v.name ≡ name)

-- the variables before a place have lower numbers than this one
abbrev pub AreBelow : List Variable → ℕ → ℕ → Type 0
AreBelow vs place name = (v : Variable) → IsAmong (take place vs) v → v.name < name

-- and the one at the place, where there is one, does not
abbrev pub IsNotBelow : List Variable → ℕ → ℕ → Type 0
IsNotBelow vs place name = (v : Variable) → slice_get vs place ≡ Some v → name ≤ v.name

-- a track more, to those of its kind
abbrev pub with_track_of : Order → Lacked → Track → Lacked
with_track_of Zero lacked track = record lacked { free = lacked.free ++ track ∷ [] }
with_track_of One lacked track = record lacked { numbers = lacked.numbers ++ track ∷ [] }
with_track_of Two lacked track = record lacked { free = lacked.free ++ track ∷ [] }

abbrev pub with_track : Lacked → Track → Lacked
with_track lacked track = with_track_of track.order lacked track

-- the wanted variables that are lacked, numbers apart from the others: each wanted variable has the number of one that is
-- there, or is one of theirs, and none of theirs has the number of one that is there
pub record IsLacked (own wanted : List Variable) (lacked : Lacked) : Type 0 where
  pub rising : AreRising (variables_of lacked.free)
  pub no_number : HasNoNumber (variables_of lacked.free)
  pub number : (v : Variable) → IsAmong (variables_of lacked.numbers) v → v.order ≡ One
  pub free : (v : Variable) → IsAmong (variables_of lacked.free) v → IsAmong wanted v
  pub numbers : (v : Variable) → IsAmong (variables_of lacked.numbers) v → IsAmong wanted v
  pub all : (v : Variable) → IsAmong wanted v → HasNumber own v.name ⊎ (IsAmong (variables_of lacked.free) v ⊎ IsAmong (variables_of lacked.numbers) v)
  pub free_lacks : (v : Variable) → IsAmong (variables_of lacked.free) v → ¬ HasNumber own v.name
  pub numbers_lack : (v : Variable) → IsAmong (variables_of lacked.numbers) v → ¬ HasNumber own v.name
