-- What files are known to hold. A real disk tells nothing; files in memory tell all.
use Rattle.std.specs.Prelude.{◌≡◌, ◌≢◌, ℕ, ◌<◌, ◌≤◌, List, length, Option, Some, None}
use Rattle.ms_edge.specs.declared.files.ReadAnswer.{ReadAnswer}
use Rattle.ms_edge.specs.declared.files.ReadAnswer.TheVariants.{Missing, Failed, TooLong, NoMemory}
use Rattle.ms_edge.specs.Counts.{Rose}

-- what is held under each name: its bytes, or nothing
abbrev pub Holding : Type 0
Holding = List ℕ → Option (List ℕ)

-- what files tell at one moment: what is held, where that is told, and how often a call has failed, a file was not
-- there, a file was too long
pub record FilesTold : Type 0 where
  pub held : Option Holding
  pub faults : ℕ
  pub absences : ℕ
  pub overlongs : ℕ

-- what is told where nothing is told of what is held: the counts alone
abbrev pub untold : ℕ → ℕ → ℕ → FilesTold
untold faults absences overlongs = record { held = None; faults = faults; absences = absences; overlongs = overlongs }

-- what was told before and after a call, or several
pub record Seen : Type 0 where
  pub before : FilesTold
  pub after : FilesTold

abbrev pub between : FilesTold → FilesTold → Seen
between before after = record { before = before; after = after }

-- no count fell from the one moment to the other
pub record NoCountFell (old new : FilesTold) : Type 0 where
  pub faults : old.faults ≤ new.faults
  pub absences : old.absences ≤ new.absences
  pub overlongs : old.overlongs ≤ new.overlongs

-- files were read and none was written: what is held stays, and no count fell
pub record OnlyRead (old new : FilesTold) : Type 0 where
  pub held : new.held ≡ old.held
  pub counts : NoCountFell old new

-- where the holding is told, these bytes are held under the name
abbrev pub Holds : Option Holding → List ℕ → List ℕ → Type 0
Holds None name bytes = Unit {0}
Holds (Some holding) name bytes = holding name ≡ Some bytes

-- where the holding is told, nothing is held under the name
abbrev pub Lacks : Option Holding → List ℕ → Type 0
Lacks None name = Unit {0}
Lacks (Some holding) name = holding name ≡ None

-- where the holding is told, more bytes than the limit are held under the name
abbrev pub HoldsMoreThan : Option Holding → List ℕ → ℕ → Type 0
HoldsMoreThan None name limit = Unit {0}
HoldsMoreThan (Some holding) name limit = (bytes : List ℕ) × (holding name ≡ Some bytes) × (limit < length bytes)

-- every name but this one holds what it held, and the holding is told as before
abbrev pub KeepsOthers : Option Holding → Option Holding → List ℕ → Type 0
KeepsOthers None None name = Unit {0}
KeepsOthers (Some old) (Some new) name = (other : List ℕ) → other ≢ name → new other ≡ old other
KeepsOthers None (Some new) name = ⊥
KeepsOthers (Some old) None name = ⊥

-- why a read of this name, of so many bytes at most, gave none: each answer but want of memory has its cause
abbrev pub IsCauseOfRead : FilesTold → FilesTold → List ℕ → ℕ → ReadAnswer → Type 0
IsCauseOfRead old new name limit Missing = Lacks old.held name × Rose old.absences new.absences
IsCauseOfRead old new name limit TooLong = HoldsMoreThan old.held name limit × Rose old.overlongs new.overlongs
IsCauseOfRead old new name limit Failed = Rose old.faults new.faults
IsCauseOfRead old new name limit NoMemory = Unit {0}
