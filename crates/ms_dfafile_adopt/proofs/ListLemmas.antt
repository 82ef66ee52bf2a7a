-- Lists that are made of others item by item.
use Rattle.std.proofs.Common.{◌≡◌, ℕ, zero, suc, ◌+◌, ◌<◌, ◌⊎◌, Bool, true, false, if◌then◌else◌, List, [], ◌∷◌, ◌++◌, length, get_or, map, replicate, slice_get, Some, take, refl, sym, ap, ◌∙◌, inl, inr, ⊎_elim, arith}
use Rattle.std.proofs.lemmas.List.{length-map, length-take-le, map_push, take_more}
use Rattle.std.proofs.lemmas.Option.{same_Some, slice_get-get_or}
use Rattle.ms_arena.proofs.Lists.{slice_get-pushed}
use Rattle.ms_dfa.specs.Automaton.{variable_of, variables_of}
use Rattle.ms_dfa.specs.declared.plain.FileVar.{FileVar}
use Rattle.ms_dfa.specs.declared.track.Track.{Track}
use Rattle.ms_dfa.proofs.Ranks.{count_of-more}
use Rattle.ms_logic_words.specs.Content.{count_of, is_in_letters, variables_by_place, zero_letter}
use Rattle.ms_dfafile_adopt.proofs.VariableLemmas.{variables_from-push}

-- the item of a turn stands in the list
pub item_at : {X : Type 0} (items : List X) (i : ℕ) (x : X) → i < length items → x ≡ get_or items i x → slice_get items i ≡ Some x
item_at items i x within is = slice_get-get_or items i x within ∙ ap Some (sym is)

-- the items of one turn more
pub take_item : {X : Type 0} (items : List X) (i : ℕ) (x : X) → i < length items → x ≡ get_or items i x → take i items ++ x ∷ [] ≡ take (i + 1) items
take_item items i x within is = ap (λ y. take i items ++ y ∷ []) is ∙ sym (take_more items i x within)

-- an item of one turn more is one of before, or that of the turn
pub taken_more : {X : Type 0} (items : List X) (i k : ℕ) (x y : X) → i < length items → slice_get items i ≡ Some x → slice_get (take (i + 1) items) k ≡ Some y
    → (slice_get (take i items) k ≡ Some y) ⊎ ((k ≡ i) × (x ≡ y))
taken_more items i k x y within held at =
    let is : x ≡ get_or items i x = sym (same_Some (get_or items i x) x (sym (slice_get-get_or items i x within) ∙ held)) in
    ⊎_elim inl (λ last. inr (last.0 ∙ length-take-le i items (omega (arith, within)), last.1))
    (slice_get-pushed (take i items) x k y (ap (λ list. slice_get list k) (take_item items i x within is) ∙ at))

-- the variables of a file, one more by its place
pub tracks_more : (variables : List FileVar) (made : List Track) (i place : ℕ) (v : FileVar) → i < length variables → v ≡ get_or variables i v → place ≡ i
    → variables_of made ≡ variables_by_place (map (λ (w : FileVar). w.order) (take i variables))
    → variables_of (made ++ record { variable = place; order = v.order } ∷ []) ≡ variables_by_place (map (λ (w : FileVar). w.order) (take (i + 1) variables))
tracks_more variables made i place v within is here were =
    let orders = map (λ (w : FileVar). w.order) (take i variables) in
    let long : length orders ≡ i = length-map (take i variables) (λ (w : FileVar). w.order) ∙ length-take-le i variables (omega (arith, within)) in
    map_push variable_of made (record { variable = place; order = v.order })
    ∙ ap (λ vs. vs ++ record { name = place; order = v.order } ∷ []) were
    ∙ ap (λ (n : ℕ). variables_by_place orders ++ record { name = n; order = v.order } ∷ []) (let plain : place ≡ 0 + length orders = omega (arith, here, long) in plain)
    ∙ sym (variables_from-push 0 orders v.order)
    ∙ ap variables_by_place (sym (map_push (λ (w : FileVar). w.order) (take i variables) v) ∙ ap (map (λ (w : FileVar). w.order)) (take_item variables i v within is))

-- a letter of zeros, with a zero more where a track has a bit
pub zeros_more : (tracks : List Track) (i : ℕ) (default : Track) (made : List Bool) → i < length tracks → made ≡ zero_letter (variables_of (take i tracks)) → (bit : Bool)
    → bit ≡ is_in_letters (get_or tracks i default).order → (if bit then made ++ false ∷ [] else made) ≡ zero_letter (variables_of (take (i + 1) tracks))
zeros_more tracks i default made within were true bit =
    let count = count_of is_in_letters (variables_of (take i tracks)) in
    let more : count_of is_in_letters (variables_of (take (i + 1) tracks)) ≡ count + 1
    = count_of-more is_in_letters tracks i default within ∙ ap (λ test. if test then count + 1 else count) (sym bit) in
    ap (λ list. list ++ false ∷ []) were ∙ sym (replicate-push count) ∙ ap (λ n. replicate n false) (sym more)
  where
    replicate-push : (n : ℕ) → replicate (n + 1) false ≡ replicate n false ++ false ∷ []
    replicate-push zero = refl
    replicate-push (suc n) = let moved : suc n + 1 ≡ suc (n + 1) = omega arith in ap (λ k. replicate k false) moved ∙ ap (λ list. false ∷ list) (replicate-push n)
zeros_more tracks i default made within were false bit =
    let count = count_of is_in_letters (variables_of (take i tracks)) in
    let more : count_of is_in_letters (variables_of (take (i + 1) tracks)) ≡ count
    = count_of-more is_in_letters tracks i default within ∙ ap (λ test. if test then count + 1 else count) (sym bit) in
    were ∙ ap (λ n. replicate n false) (sym more)
