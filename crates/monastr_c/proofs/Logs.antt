-- What files spell once one more was appended.
use Rattle.std.proofs.Common.{◌≡◌, ◌≢◌, ℕ, ◌+◌, ◌≤◌, List, [], ◌∷◌, ◌++◌, length, take, drop, sum_by, Some, refl, ap, sym, ◌∙◌, arith}
use Rattle.std.proofs.Math.Seq.{take-append_seam, drop-append_seam, take-length}
use Rattle.std.proofs.lemmas.List.{append_assoc, take-append-le, drop-append-le, length-drop}
use Rattle.std.proofs.lemmas.List.Sums.{sum_by-cons}
use Rattle.ms_edge.specs.FilesInMemory.{Entry, held_under}
use Rattle.ms_edge.proofs.Holding.{held_under-named, held_under-other}
use Rattle.monastr_c.specs.declared.request.FileLengths.{FileLengths}
use Rattle.monastr_c.specs.Buffers.{FilesAddUp, files_in, size_of}

-- no bytes are an empty list
no_bytes : (bytes : List ℕ) → length bytes ≡ 0 → bytes ≡ []
no_bytes [] none = refl
no_bytes (byte ∷ bytes) none = absurd (omega (arith, none))

-- the file that lies alone in its bytes
files_in-alone : (name content : List ℕ) (file : FileLengths) → file.name ≡ length name → file.content ≡ length content
    → files_in (name ++ content) (file ∷ []) ≡ (name, content) ∷ []
files_in-alone name content file its_name its_content =
    rw (its_name, its_content, take-append_seam, drop-append_seam, take-length) refl

-- behind files that add up to their bytes others begin anew
pub files_in-append : (bytes more : List ℕ) (files others : List FileLengths) → FilesAddUp bytes files
    → files_in (bytes ++ more) (files ++ others) ≡ files_in bytes files ++ files_in more others
files_in-append bytes more [] others adds_up = rw (no_bytes bytes (sym adds_up)) refl
files_in-append bytes more (file ∷ files) others adds_up =
    let behind = drop file.name bytes in
    let sums : file.name + file.content + sum_by size_of files ≡ length bytes = rw sum_by-cons at adds_up in
    let name_in : file.name ≤ length bytes = omega (arith, sums) in
    let content_in : file.content ≤ length behind = omega (arith, sums, length-drop file.name bytes) in
    let rest_adds_up : FilesAddUp (drop file.content behind) files =
    omega (arith, sums, length-drop file.name bytes, length-drop file.content behind) in
    rw (
      take-append-le file.name bytes more name_in,
      drop-append-le file.name bytes more name_in,
      take-append-le file.content behind more content_in,
      drop-append-le file.content behind more content_in,
    )
    (ap (λ (rest : List Entry). (take file.name bytes, take file.content behind) ∷ rest)
    (files_in-append (drop file.content behind) more files others rest_adds_up))

-- one more file
pub files_in-appended : (bytes name content : List ℕ) (files : List FileLengths) (file : FileLengths) → FilesAddUp bytes files
    → file.name ≡ length name → file.content ≡ length content
    → files_in (bytes ++ name ++ content) (files ++ file ∷ []) ≡ files_in bytes files ++ (name, content) ∷ []
files_in-appended bytes name content files file adds_up its_name its_content =
    rw append_assoc
    (files_in-append bytes (name ++ content) files (file ∷ []) adds_up
    ∙ ap (λ (rest : List Entry). files_in bytes files ++ rest) (files_in-alone name content file its_name its_content))

-- what is held under the name of a file that was written
pub held_under-written : (given old new : List Entry) (name bytes : List ℕ) → new ≡ old ++ (name, bytes) ∷ []
    → held_under (given ++ new) name ≡ Some bytes
held_under-written given old new name bytes is =
    rw is (rw (← append_assoc given old ((name, bytes) ∷ [])) (held_under-named (given ++ old) name bytes))

-- what is held under any other name
pub held_under-unwritten : (given old new : List Entry) (name bytes other : List ℕ) → new ≡ old ++ (name, bytes) ∷ [] → other ≢ name
    → held_under (given ++ new) other ≡ held_under (given ++ old) other
held_under-unwritten given old new name bytes other is differs =
    rw is (rw (← append_assoc given old ((name, bytes) ∷ [])) (held_under-other (given ++ old) name bytes other differs))
