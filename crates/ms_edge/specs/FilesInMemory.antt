-- Files in memory, and what one call of them does.
use Rattle.std.specs.Prelude.{ℕ, ◌+◌, ◌-◌, ◌<◌, ◌≤◌, List, [], ◌∷◌, ◌++◌, length, ◌⊎◌, Contains, fold, if◌then◌else◌, Option, Some, None, Result, Ok, Err}
use Rattle.std.specs.Str.{bytes_eq}
use Rattle.ms_edge.specs.declared.files.ReadAnswer.{ReadAnswer}
use Rattle.ms_edge.specs.declared.files.ReadAnswer.TheVariants.{Missing, Failed, TooLong, NoMemory}
use Rattle.ms_edge.specs.Counts.{counted}
use Rattle.ms_edge.specs.Files.{FilesTold}

-- a name and the bytes under it
abbrev pub Entry : Type 0
Entry = List ℕ × List ℕ

-- the entries in the order in which they were made; the numbers of the reads and of the writes that fail, and
-- of the next read and the next write; the number from which on writes fail, and the bytes of names and files
-- that may still be written; how often a call has failed, a file was not there, a file was too long
pub record FilesInMemory : Type 0 where
  pub entries : List Entry
  pub failing_reads : List ℕ
  pub failing_writes : List ℕ
  pub reads : ℕ
  pub writes : ℕ
  pub last_write : ℕ
  pub room : ℕ
  pub faults : ℕ
  pub absences : ℕ
  pub overlongs : ℕ

-- what is held under a name after one more entry: its bytes where it has the name
abbrev pub held_after : List ℕ → Option (List ℕ) → Entry → Option (List ℕ)
held_after name held entry = if bytes_eq entry.0 name then Some entry.1 else held

-- what is held under a name: the bytes of its last entry
abbrev pub held_under : List Entry → List ℕ → Option (List ℕ)
held_under entries name = fold (held_after name) None entries

-- what files in memory tell, which is all
abbrev pub told_of : FilesInMemory → FilesTold
told_of files = record {
  held = Some (held_under files.entries);
  faults = files.faults;
  absences = files.absences;
  overlongs = files.overlongs;
}

-- the next write of these bytes under the name fails: by its number, or for want of room
abbrev pub WriteFails : FilesInMemory → List ℕ → List ℕ → Type 0
WriteFails files name bytes =
    Contains files.failing_writes files.writes ⊎ (files.last_write ≤ files.writes) ⊎ (files.room < length name + length bytes)

-- with one more entry
abbrev pub with_entry : FilesInMemory → List ℕ → List ℕ → FilesInMemory
with_entry files name bytes = record files { entries = files.entries ++ (name, bytes) ∷ [] }

-- after a write that made the name hold the bytes
abbrev pub after_writing : FilesInMemory → List ℕ → List ℕ → FilesInMemory
after_writing files name bytes =
    record files {
      entries = files.entries ++ (name, bytes) ∷ [];
      writes = counted files.writes;
      room = files.room - (length name + length bytes);
    }

-- after a write that failed
abbrev pub after_failing : FilesInMemory → FilesInMemory
after_failing files = record files { writes = counted files.writes; faults = counted files.faults }

-- after a read that ended in this answer, what went wrong is counted
abbrev pub noted : ReadAnswer → FilesInMemory → FilesInMemory
noted Missing files = record files { absences = counted files.absences }
noted Failed files = record files { faults = counted files.faults }
noted TooLong files = record files { overlongs = counted files.overlongs }
noted NoMemory files = files

-- after a read, which is counted too
abbrev pub after_reading : Result (List ℕ) ReadAnswer → FilesInMemory → FilesInMemory
after_reading (Ok bytes) files = record files { reads = counted files.reads }
after_reading (Err answer) files = noted answer (record files { reads = counted files.reads })
