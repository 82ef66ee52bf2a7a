-- The pairs of an import name the variables of its file, one each.
use Rattle.std.proofs.Common.{◌≡◌, ◌≢◌, ℕ, zero, suc, ◌≤◌, List, [], ◌∷◌, AllPairs, length, slice_get, slice_index, Some, refl, sym, ap, ◌∙◌, arith}
use Rattle.std.proofs.lemmas.List.{length-map}
use Rattle.std.proofs.lemmas.Option.{none-some, same_Some, slice_get_within}
use Rattle.ms_arena.proofs.Lists.{slice_get-held}
use Rattle.ms_dfa.specs.declared.plain.FileVar.{FileVar}
use Rattle.ms_dfa.specs.declared.plain.Plain.{Plain}
use Rattle.ms_dfafile.specs.File.{IsFile}
use Rattle.ms_dfafile_adopt.specs.Import.{HasVariables}
use Rattle.ms_dfafile_adopt.specs.Naming.{IsNaming}
use Rattle.ms_dfafile_adopt.specs.inner.Map.{ArePlacesOf, IsEachThere, file_names, pair_names}
use Rattle.ms_dfafile_adopt.proofs.MapLemmas.{IsNaming-by, names_there, one_place_of, orders_there, pairs_there}
use Rattle.ms_logic.specs.declared.checked.MapPair.{MapPair}
use Rattle.std_collections.proofs.IndexTableLemmas.Probe.{pigeonhole}

-- places of names that are each there
there_more : (names : List (List ℕ)) (first : List ℕ) (wanted : List (List ℕ)) (place : ℕ) (places : List ℕ) → slice_get names place ≡ Some first
    → ((i : ℕ) (name : List ℕ) → slice_get wanted i ≡ Some name → slice_get names (slice_index places i) ≡ Some name)
    → (i : ℕ) (name : List ℕ) → slice_get (first ∷ wanted) i ≡ Some name → slice_get names (slice_index (place ∷ places) i) ≡ Some name
there_more names first wanted place places here there zero name held = here ∙ held
there_more names first wanted place places here there (suc i) name held = there i name held

places_for : (names wanted : List (List ℕ)) → IsEachThere names wanted → (places : List ℕ) × ArePlacesOf names wanted places
places_for names [] there = ([], record { long = refl; there = λ i name held. absurd (none-some name held) })
places_for names (first ∷ wanted) there =
    let here = there 0 first refl in
    let later = places_for names wanted (λ i name held. there (suc i) name held) in
    (here.0 ∷ later.0, record { long = ap suc later.1.long; there = there_more names first wanted here.0 later.0 here.1 later.1.there })

-- different names that are each there are no more than the names
no_more : (names wanted : List (List ℕ)) (places : List ℕ) → AllPairs (λ one other. one ≢ other) wanted → ArePlacesOf names wanted places → length wanted ≤ length names
no_more names wanted places different are = pigeonhole (length wanted) (length names) (slice_index places)
    (λ i less. let held = slice_get-held wanted i less in slice_get_within names (slice_index places i) held.0 (are.there i held.0 held.1))
    (λ i j less_i less_j same.
    let one = slice_get-held wanted i less_i in
    let other = slice_get-held wanted j less_j in
    let name : one.0 ≡ other.0 = same_Some one.0 other.0 (sym (are.there i one.0 one.1) ∙ ap (slice_get names) same ∙ are.there j other.0 other.1) in
    one_place_of wanted i j other.0 different (one.1 ∙ ap Some name) other.1)

module _ (plain : Plain) (pairs : List MapPair) (file : IsFile plain) (different : AllPairs (λ one other. one ≢ other) (pair_names pairs)) (has : HasVariables plain pairs) where
  there : (places : List ℕ) × ArePlacesOf (pair_names pairs) (file_names plain.variables) places
  there = places_for (pair_names pairs) (file_names plain.variables) (names_there plain pairs has)

  back : (places : List ℕ) × ArePlacesOf (file_names plain.variables) (pair_names pairs) places
  back = places_for (file_names plain.variables) (pair_names pairs) (pairs_there plain pairs has)

  pub naming : (places : List ℕ) × IsNaming plain pairs places
  naming = (there.0, IsNaming-by plain pairs different there.0 there.1 back.0 back.1 (orders_there plain pairs different there.0 there.1 has))

  -- there are as many
  pub as_many_pairs : length plain.variables ≡ length pairs
  as_many_pairs =
      let less = no_more (pair_names pairs) (file_names plain.variables) there.0 file.different there.1 in
      let more = no_more (file_names plain.variables) (pair_names pairs) back.0 different back.1 in
      let own = length-map plain.variables (λ (variable : FileVar). variable.name) in
      let others = length-map pairs (λ (pair : MapPair). pair.name) in
      omega (arith, less, more, own, others)
