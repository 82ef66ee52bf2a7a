-- Entries in one buffer: what stays and what is added when the buffer grows.
use Rattle.std.proofs.Common.{◌≡◌, ℕ, ◌+◌, ◌-◌, ◌≤◌, List, [], ◌∷◌, ◌++◌, All, length, take, drop, None, refl, ap, ◌∙◌, arith, length-append}
use Rattle.std.specs.List.{slice_range}
use Rattle.std.proofs.Math.Seq.{take-append_seam, drop-append_seam}
use Rattle.std.proofs.lemmas.List.{map-append, append_assoc, append-nil, take-append-le, drop-append-le, length-drop}
use Rattle.std.proofs.lemmas.List.Elements.{recursion_from_All}
use Rattle.std.specs.List.{AllByRecursion}
use Rattle.std.proofs.lemmas.List.Sums.{fold-append}
use Rattle.ms_edge.specs.declared.log.Span.{Span}
use Rattle.ms_edge.specs.FilesInMemory.{Entry, held_after, held_under}
use Rattle.ms_edge.specs.Span.{entry_at, entries_in, IsWithin}

-- one more entry
pub held_under-append : (entries : List Entry) (entry : Entry) (name : List ℕ) → held_under (entries ++ entry ∷ []) name ≡ held_after name (held_under entries name) entry
held_under-append entries entry name = fold-append (held_after name) None entries (entry ∷ [])

-- one more span
pub entries_in-append : (buffer : List ℕ) (spans : List Span) (span : Span) → entries_in buffer (spans ++ span ∷ []) ≡ entries_in buffer spans ++ entry_at buffer span ∷ []
entries_in-append buffer spans span = map-append (entry_at buffer) spans (span ∷ [])

-- a range within the buffer, once the buffer has grown
pub slice_range-append : (buffer more : List ℕ) (from to : ℕ) → from ≤ to → to ≤ length buffer → slice_range (buffer ++ more) from to ≡ slice_range buffer from to
slice_range-append buffer more from to rises within =
    let starts : from ≤ length buffer = omega arith in
    let ends : to - from ≤ length (drop from buffer) = omega (arith, length-drop from buffer) in
    ap (take (to - from)) (drop-append-le from buffer more starts) ∙ take-append-le (to - from) (drop from buffer) more ends

-- an entry within the buffer, once the buffer has grown
pub entry_at-append : (buffer more : List ℕ) (span : Span) → IsWithin (length buffer) span → entry_at (buffer ++ more) span ≡ entry_at buffer span
entry_at-append buffer more span within =
    let middle : span.middle ≤ length buffer = omega (arith, within.bytes, within.end) in
    let name_stays = slice_range-append buffer more span.start span.middle within.name middle in
    let bytes_stay = slice_range-append buffer more span.middle span.end within.bytes within.end in
    rw (name_stays, bytes_stay)

-- all entries, once the buffer has grown
pub entries_in-grown : (buffer more : List ℕ) (spans : List Span) → AllByRecursion (IsWithin (length buffer)) spans → entries_in (buffer ++ more) spans ≡ entries_in buffer spans
entries_in-grown buffer more [] within = refl
entries_in-grown buffer more (span ∷ spans) within =
    rw (entry_at-append buffer more span within.0) (ap (λ rest. entry_at buffer span ∷ rest) (entries_in-grown buffer more spans within.1))

-- the range between two parts of a buffer
pub slice_range-between : (front part back : List ℕ) (from to : ℕ) → from ≡ length front → to ≡ length front + length part → slice_range (front ++ part ++ back) from to ≡ part
slice_range-between front part back from to starts ends =
    let count : to - from ≡ length part = omega arith in
    rw (count, starts, append_assoc, drop-append_seam, take-append_seam)

-- the entry whose name and bytes were appended to the buffer
pub entry_at-appended : (buffer name bytes : List ℕ) (span : Span)
    → span.start ≡ length buffer → span.middle ≡ length buffer + length name → span.end ≡ length buffer + length name + length bytes
    → entry_at (buffer ++ name ++ bytes) span ≡ (name, bytes)
entry_at-appended buffer name bytes span start middle end =
    let of_name = slice_range-between buffer name bytes span.start span.middle start middle in
    let starts : span.middle ≡ length (buffer ++ name) = omega (arith, length-append buffer name) in
    let ends : span.end ≡ length (buffer ++ name) + length bytes = omega (arith, length-append buffer name) in
    let of_bytes = slice_range-between (buffer ++ name) bytes [] span.middle span.end starts ends in
    rw (of_name, rw append-nil at of_bytes)

-- the entries, once one more has been appended to the buffer and to the spans
pub entries_in-appended : (buffer name bytes : List ℕ) (spans : List Span) (span : Span) → All (IsWithin (length buffer)) spans
    → span.start ≡ length buffer → span.middle ≡ length buffer + length name → span.end ≡ length buffer + length name + length bytes
    → entries_in (buffer ++ name ++ bytes) (spans ++ span ∷ []) ≡ entries_in buffer spans ++ (name, bytes) ∷ []
entries_in-appended buffer name bytes spans span within start middle end =
    let old = entries_in-grown buffer (name ++ bytes) spans (recursion_from_All _ spans within) in
    let same : buffer ++ name ++ bytes ≡ buffer ++ (name ++ bytes) = append_assoc buffer name bytes in
    entries_in-append (buffer ++ name ++ bytes) spans span
    ∙ rw (entry_at-appended buffer name bytes span start middle end, same, old)
