-- A file with one inclusion, and words that ask to decide it, for worked examples.
use Rattle.std.specs.Prelude.{ℕ, List, [], ◌∷◌, Some, codes}
use Rattle.ms_edge.specs.Files.{FilesTold}

-- var2 P, Q; P sub Q
abbrev pub inclusion_text : List ℕ
inclusion_text = codes "ws1s;\nvar2 P, Q;\nP sub Q;\n"

-- this text stands under each name
abbrev pub inclusion_files : FilesTold
inclusion_files = record { held = Some (λ name. Some inclusion_text); faults = 0; absences = 0; overlongs = 0 }

-- decide --max-nodes 30976 a
abbrev pub inclusion_words : List (List ℕ)
inclusion_words = codes "decide" ∷ codes "--max-nodes" ∷ codes "30976" ∷ codes "a" ∷ []
