-- Values for the worked examples.
use Rattle.std.specs.Prelude.{ℕ, List, [], ◌++◌, ◌∷◌, codes}
use Rattle.ms_edge.specs.declared.refusal.Status.TheVariants.{Done}
use Rattle.monastr_c.specs.declared.request.FileLengths.{FileLengths}
use Rattle.monastr_c.specs.Request.{Outcome}

-- a file with a name and a content of so many bytes
abbrev pub file : ℕ → ℕ → FileLengths
file name content = record { name = name; content = content }

-- two files with the name a, the second of which is empty
abbrev pub twice : List FileLengths
twice = file 1 5 ∷ file 1 0 ∷ []

-- a line was printed, and a file x with three bytes was written
abbrev pub wrote_one : Outcome
wrote_one = record { status = Done; text = codes "agree" ++ 10 ∷ []; written = codes "xabc"; lengths = file 1 3 ∷ [] }
