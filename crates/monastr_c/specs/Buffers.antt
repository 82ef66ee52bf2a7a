-- What bytes spell that lie one behind the other, by their lengths.
use Rattle.std.specs.Prelude.{◌≡◌, ℕ, ◌+◌, List, [], ◌∷◌, length, take, drop, map, sum_by}
use Rattle.ms_edge.specs.FilesInMemory.{Entry}
use Rattle.monastr_c.specs.declared.request.FileLengths.{FileLengths}

-- the pieces of the bytes: the first has the first so many of them, and the others lie behind it
abbrev pub pieces : List ℕ → List ℕ → List (List ℕ)
pieces bytes [] = []
pieces bytes (count ∷ counts) = take count bytes ∷ pieces (drop count bytes) counts

-- the files that the bytes spell, each name before its content
abbrev pub files_in : List ℕ → List FileLengths → List Entry
files_in bytes [] = []
files_in bytes (file ∷ files) =
    let behind = drop file.name bytes in
    (take file.name bytes, take file.content behind) ∷ files_in (drop file.content behind) files

-- the names of these files
abbrev pub names_in : List ℕ → List FileLengths → List (List ℕ)
names_in bytes files = map (λ (file : Entry). file.0) (files_in bytes files)

-- how many bytes a file takes
abbrev pub size_of : FileLengths → ℕ
size_of file = file.name + file.content

-- the files take all the bytes, and no more
abbrev pub FilesAddUp : List ℕ → List FileLengths → Type 0
FilesAddUp bytes files = sum_by size_of files ≡ length bytes
