-- Small imports, and files that hold nothing.
use Rattle.std.specs.Prelude.{ℕ, List, [], Some, None}
use Rattle.ms_arena.specs.declared.node.Ref.TheVariants.{Leaf}
use Rattle.ms_dfa.specs.declared.plain.FileVersion.TheVariants as versions
use Rattle.ms_dfa.specs.declared.plain.Plain.{Plain}
use Rattle.ms_list.specs.declared.at.At.{At}
use Rattle.ms_edge.specs.Files.{FilesTold, Seen, between}
use Rattle.ms_logic.specs.declared.checked.ImportUse.{ImportUse}
use Rattle.ms_logic.specs.declared.checked.MapPair.{MapPair}
use Rattle.ms_logic.specs.declared.mode.Mode.{Mode}

abbrev pub nowhere : At
nowhere = record { file = 0; place = 0 }

-- import(name, pairs)
abbrev pub import_by : List ℕ → List MapPair → ImportUse
import_by name pairs = record { at = nowhere; name = name; pairs = pairs }

-- import(name)
abbrev pub import_of : List ℕ → ImportUse
import_of name = import_by name []

-- a content of a mode, without variables
abbrev pub content_in : Mode → Plain
content_in mode = record { version = versions.One; mode = mode; variables = []; start = Leaf 0; states = []; nodes = [] }

-- files that hold nothing, where so often a file was not there
abbrev pub nothing_held : ℕ → FilesTold
nothing_held absences = record { held = Some (λ name. None); faults = 0; absences = absences; overlongs = 0 }

-- a file was not there
abbrev pub one_absence : Seen
one_absence = between (nothing_held 0) (nothing_held 1)
