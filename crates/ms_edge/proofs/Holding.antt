-- What is held under a name after one more entry.
use Rattle.std.proofs.Common.{◌≡◌, ◌≢◌, ℕ, List, [], ◌∷◌, ◌++◌, true, false, Some, refl, sym, ◌∙◌}
use Rattle.std.specs.Str.{bytes_eq}
use Rattle.std.proofs.lemmas.Slice.Eq.{bytes_eq-Decides}
use Rattle.ms_edge.specs.FilesInMemory.{Entry, held_under}
use Rattle.ms_edge.proofs.Spans.{held_under-append}

-- under the name of the new entry
pub held_under-named : (entries : List Entry) (name bytes : List ℕ) → held_under (entries ++ (name, bytes) ∷ []) name ≡ Some bytes
held_under-named entries name bytes =
    let same : bytes_eq name name ≡ true = (bytes_eq-Decides name name).1 refl in
    held_under-append entries (name, bytes) name ∙ rw same

-- another name is not taken for this one
bytes_eq-differ : (name other : List ℕ) → other ≢ name → bytes_eq name other ≡ false
bytes_eq-differ name other differs =
    (elim (bytes_eq name other) as (λ test. (test ≡ true → name ≡ other) → test ≡ false) [
      | true ↦ λ equal. absurd (differs (sym (equal refl)))
      | false ↦ λ equal. refl
    ]) (bytes_eq-Decides name other).0

-- under every other name
pub held_under-other : (entries : List Entry) (name bytes other : List ℕ) → other ≢ name → held_under (entries ++ (name, bytes) ∷ []) other ≡ held_under entries other
held_under-other entries name bytes other differs =
    let unlike : bytes_eq name other ≡ false = bytes_eq-differ name other differs in
    held_under-append entries (name, bytes) other ∙ rw unlike
