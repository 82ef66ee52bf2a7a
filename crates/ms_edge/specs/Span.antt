-- Where an entry lies in one buffer: the name from `start` to `middle`, and the bytes from there to `end`.
use Rattle.std.specs.Prelude.{ℕ, ◌≤◌, List, map}
use Rattle.std.specs.List.{slice_range}
use Rattle.ms_edge.specs.declared.log.Span.{Span}
use Rattle.ms_edge.specs.FilesInMemory.{Entry}

-- the name and the bytes that a span shows
abbrev pub entry_at : List ℕ → Span → Entry
entry_at buffer span = (slice_range buffer span.start span.middle, slice_range buffer span.middle span.end)

-- the entries that the spans show, in order
abbrev pub entries_in : List ℕ → List Span → List Entry
entries_in buffer spans = map (entry_at buffer) spans

-- a span lies within so many bytes
pub record IsWithin (count : ℕ) (span : Span) : Type 0 where
  pub name : span.start ≤ span.middle
  pub bytes : span.middle ≤ span.end
  pub end : span.end ≤ count
