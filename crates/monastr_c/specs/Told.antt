-- What files in memory tell, and a sink in memory, where nothing failed.
use Rattle.std.specs.Prelude.{ℕ, List, Some}
use Rattle.ms_edge.specs.Files.{FilesTold}
use Rattle.ms_edge.specs.FilesInMemory.{Entry, held_under}
use Rattle.ms_edge.specs.Sink.{SinkTold}

-- what files tell: under each name the content of the last of them that has it, and these counts
abbrev pub files_told : List Entry → ℕ → ℕ → ℕ → FilesTold
files_told files faults absences overlongs =
    record { held = Some (held_under files); faults = faults; absences = absences; overlongs = overlongs }

-- what a sink tells that has taken this text, and has failed so often
abbrev pub sink_told : List ℕ → ℕ → SinkTold
sink_told text faults = record { taken = Some text; faults = faults }
