-- What lies behind the pieces and the files that were read so far.
use Rattle.std.proofs.Common.{◌≡◌, ℕ, ◌+◌, ◌<◌, true, false, List, [], ◌∷◌, ◌++◌, All, IsUtf8, length, get_or, take, drop, fold, Option, Some, refl, ap, sym, ◌∙◌, add-one}
use Rattle.std.specs.Str.{bytes_eq}
use Rattle.std.proofs.Math.Seq.{drop-cons}
use Rattle.std.proofs.lemmas.List.{append_assoc}
use Rattle.std.proofs.lemmas.List.Elements.{All-append, All-cons, All-nil, All-from_recursion, recursion_from_All}
use Rattle.ms_edge.specs.FilesInMemory.{held_after}
use Rattle.monastr_c.specs.declared.request.FileLengths.{FileLengths}
use Rattle.monastr_c.specs.Buffers.{files_in, names_in, pieces}

-- the first of them all
All-first : {X : Type 0} (P : X → Type 0) (x : X) (xs : List X) → All P (x ∷ xs) → P x
All-first P x xs all = (recursion_from_All P (x ∷ xs) all).0

-- those behind the first
All-rest : {X : Type 0} (P : X → Type 0) (x : X) (xs : List X) → All P (x ∷ xs) → All P xs
All-rest P x xs all = All-from_recursion P xs (recursion_from_All P (x ∷ xs) all).1

-- the second part of them all
All-behind : {X : Type 0} (P : X → Type 0) (xs ys : List X) → All P (xs ++ ys) → All P ys
All-behind P [] ys all = all
All-behind P (x ∷ xs) ys all = All-behind P xs ys (All-rest P x (xs ++ ys) all)

-- the pieces from here on are the next one and those behind it
pub pieces-at : (bytes counts : List ℕ) (i : ℕ) → i < length counts
    → pieces bytes (drop i counts) ≡ take (get_or counts i 0) bytes ∷ pieces (drop (get_or counts i 0) bytes) (drop (i + 1) counts)
pieces-at bytes counts i within =
    let step : drop i counts ≡ get_or counts i 0 ∷ drop (i + 1) counts = rw add-one (drop-cons counts i 0 within) in
    ap (pieces bytes) step

-- the words so far, once one more was read
pub pieces-more : (words : List (List ℕ)) (bytes counts : List ℕ) (i : ℕ) → i < length counts
    → (words ++ take (get_or counts i 0) bytes ∷ []) ++ pieces (drop (get_or counts i 0) bytes) (drop (i + 1) counts)
    ≡ words ++ pieces bytes (drop i counts)
pieces-more words bytes counts i within =
    append_assoc words (take (get_or counts i 0) bytes ∷ []) (pieces (drop (get_or counts i 0) bytes) (drop (i + 1) counts))
    ∙ ap (λ (rest : List (List ℕ)). words ++ rest) (sym (pieces-at bytes counts i within))

-- words that are text, once one more is
pub texts-more : (words : List (List ℕ)) (word : List ℕ) → All IsUtf8 words → IsUtf8 word → All IsUtf8 (words ++ word ∷ [])
texts-more words word texts text = All-append IsUtf8 words (word ∷ []) texts (All-cons IsUtf8 word [] text (All-nil IsUtf8))

-- where the next piece is no text, not all pieces are
pub no_text-at : (words all : List (List ℕ)) (bytes counts : List ℕ) (i : ℕ) → i < length counts
    → words ++ pieces bytes (drop i counts) ≡ all → (IsUtf8 (take (get_or counts i 0) bytes) → ⊥) → All IsUtf8 all → ⊥
no_text-at words all bytes counts i within is no_text texts =
    let behind = All-behind IsUtf8 words (pieces bytes (drop i counts)) (rw is texts) in
    no_text (All-first IsUtf8 _ _ (rw (pieces-at bytes counts i within) at behind))

-- the lengths from here on are the next and those behind it
pub lengths-at : (files : List FileLengths) (i : ℕ) (d : FileLengths) → i < length files → drop i files ≡ get_or files i d ∷ drop (i + 1) files
lengths-at files i d within = rw add-one (drop-cons files i d within)

-- the files from here on are the next one and those behind it
pub files-at : (bytes : List ℕ) (files : List FileLengths) (i : ℕ) (d : FileLengths) → i < length files
    → files_in bytes (drop i files)
    ≡ (take (get_or files i d).name bytes, take (get_or files i d).content (drop (get_or files i d).name bytes))
    ∷ files_in (drop (get_or files i d).content (drop (get_or files i d).name bytes)) (drop (i + 1) files)
files-at bytes files i d within = ap (files_in bytes) (lengths-at files i d within)

-- the same of their names
pub names-at : (bytes : List ℕ) (files : List FileLengths) (i : ℕ) (d : FileLengths) → i < length files
    → names_in bytes (drop i files)
    ≡ take (get_or files i d).name bytes ∷ names_in (drop (get_or files i d).content (drop (get_or files i d).name bytes)) (drop (i + 1) files)
names-at bytes files i d within = ap (names_in bytes) (lengths-at files i d within)

-- where the next name is no text, not all are
pub no_name-at : (bytes : List ℕ) (files : List FileLengths) (i : ℕ) (d : FileLengths) → i < length files
    → (IsUtf8 (take (get_or files i d).name bytes) → ⊥) → All IsUtf8 (names_in bytes (drop i files)) → ⊥
no_name-at bytes files i d within no_text texts = no_text (All-first IsUtf8 _ _ (rw (names-at bytes files i d within) at texts))

-- the names from here on are text where the next is and those behind it are
pub names-on : (bytes : List ℕ) (files : List FileLengths) (i : ℕ) (d : FileLengths) → i < length files → IsUtf8 (take (get_or files i d).name bytes)
    → All IsUtf8 (names_in (drop (get_or files i d).content (drop (get_or files i d).name bytes)) (drop (i + 1) files))
    → All IsUtf8 (names_in bytes (drop i files))
names-on bytes files i d within text texts = rw (names-at bytes files i d within) (All-cons IsUtf8 _ _ text texts)

-- and then those behind it are
pub names-back : (bytes : List ℕ) (files : List FileLengths) (i : ℕ) (d : FileLengths) → i < length files
    → All IsUtf8 (names_in bytes (drop i files))
    → All IsUtf8 (names_in (drop (get_or files i d).content (drop (get_or files i d).name bytes)) (drop (i + 1) files))
names-back bytes files i d within texts = All-rest IsUtf8 _ _ (rw (names-at bytes files i d within) at texts)

-- the content of a file with the name is what is held then
pub held-then : (name : List ℕ) (held : Option (List ℕ)) (its_name content : List ℕ) → bytes_eq its_name name ≡ true
    → Some content ≡ held_after name held (its_name, content)
held-then name held its_name content same = rw same refl

-- a file with another name changes nothing
pub held-else : (name : List ℕ) (held : Option (List ℕ)) (its_name content : List ℕ) → bytes_eq its_name name ≡ false
    → held ≡ held_after name held (its_name, content)
held-else name held its_name content differs = rw differs refl

-- what is held after all files, once one more was read
pub held-more : (name : List ℕ) (held held' all : Option (List ℕ)) (rest its_name content behind rest' : List ℕ)
    (files : List FileLengths) (i : ℕ) (d : FileLengths) → i < length files
    → its_name ≡ take (get_or files i d).name rest → behind ≡ drop (get_or files i d).name rest
    → content ≡ take (get_or files i d).content behind → rest' ≡ drop (get_or files i d).content behind
    → held' ≡ held_after name held (its_name, content)
    → fold (held_after name) held (files_in rest (drop i files)) ≡ all
    → fold (held_after name) held' (files_in rest' (drop (i + 1) files)) ≡ all
held-more name held held' all rest its_name content behind rest' files i d within name_is behind_is content_is rest_is held_is before =
    let step = rw (files-at rest files i d within) at before in
    rw (rest_is, held_is, content_is, name_is, behind_is) step
