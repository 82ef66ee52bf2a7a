-- Files, a sink and sources for worked examples of what can be done.
use Rattle.std.specs.Prelude.{ℕ, List, [], ◌∷◌, Some, None}
use Rattle.ms_edge.specs.Files.{FilesTold, Seen, between}
use Rattle.ms_edge.specs.Sink.{SinkTold}
use Rattle.ms_logic.specs.declared.checked.Checked.{Checked}
use Rattle.ms_logic.specs.declared.mode.Mode.TheVariants.{Ws1s}
use Rattle.ms_logic.specs.declared.source.Loaded.{Loaded}

-- under each name there is a file without bytes; so many calls failed
abbrev pub empty_files : ℕ → FilesTold
empty_files faults = record { held = Some (λ name. Some []); faults = faults; absences = 0; overlongs = 0 }

-- under no name is a file
abbrev pub no_files : FilesTold
no_files = record { held = Some (λ name. None); faults = 0; absences = 0; overlongs = 0 }

-- files of which nothing is told
abbrev pub silent_files : FilesTold
silent_files = record { held = None; faults = 0; absences = 0; overlongs = 0 }

-- nothing happens to the files
abbrev pub still : FilesTold → Seen
still told = between told told

-- a sink that took nothing, after so many faults
abbrev pub sink_after : ℕ → SinkTold
sink_after faults = record { taken = Some []; faults = faults }

-- the source without declarations, as it loads from a file of this name
abbrev pub nothing_loaded : List ℕ → Loaded
nothing_loaded name = record { mode = Ws1s; items = []; files = name ∷ [] }

abbrev pub nothing_checked : List ℕ → Checked
nothing_checked name = record { mode = Ws1s; globals = []; predicates = []; imports = []; exports = []; formulas = []; files = name ∷ [] }
