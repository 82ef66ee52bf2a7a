-- What a set's look-ups and insertions say of the items that its keys stand for.
use Rattle.std.proofs.Common.{◌≡◌, ℕ, zero, suc, Bool, true, false, ◌||◌, if◌then◌else◌, List, [], ◌∷◌, ◌++◌, map, slice_get, position, get_or, Some, refl, sym, ap, subst, ◌∙◌, inl, inr, ⊎_elim}
use Rattle.std.proofs.lemmas.Bool.{cases_Bool, both_ways}
use Rattle.std.proofs.lemmas.List.{map-id, map-append}
use Rattle.std.proofs.lemmas.Option.{same_Some, none-some, slice_get-get_or, slice_get-map}
use Rattle.std.proofs.lemmas.List.Quantifiers.{position-Some}
use Rattle.std.specs.List.{list_any}
use Rattle.std.specs.Option.{option_map}
use Rattle.indexmap.specs.IndexSet.{insert_key}
use Rattle.ms_diagram.specs.Numbering.{IsMissing, Numbers}

module _ {K X : Type 0} (view : K → X) (test : K → Bool) (item : X) (same : (key : K) → test key ≡ true → view key ≡ item) (finds : (key : K) → view key ≡ item → test key ≡ true) where
  -- an item for whose key no test passes has no number
  missing : (keys : List K) → list_any test keys ≡ false → IsMissing (map view keys) item
  missing [] none place held = none-some item held
  missing (key ∷ keys) none zero held =
      both_ways (test key || list_any test keys) none (ap (λ passes. passes || list_any test keys) (finds key (same_Some (view key) item held)))
  missing (key ∷ keys) none (suc place) held =
      ⊎_elim (λ passes_key. both_ways (test key || list_any test keys) none (ap (λ passes. passes || list_any test keys) passes_key))
      (λ no. missing keys (sym (ap (λ passes. passes || list_any test keys) no) ∙ none) place held) (cases_Bool (test key))

  -- an insertion leaves the keys, or puts a new one behind them
  pub numbered : (keys new : List K) (key : K) → view key ≡ item → new ≡ (if list_any test keys then keys else keys ++ key ∷ []) → Numbers (map view keys) (map view new) item
  numbered keys new key shows is =
      ⊎_elim (λ passes_key. inl (ap (map view) (is ∙ ap (λ passes. if passes then keys else keys ++ key ∷ []) passes_key)))
      (λ no. inr (
        missing keys no,
        ap (map view) (is ∙ ap (λ passes. if passes then keys else keys ++ key ∷ []) no)
            ∙ map-append view keys (key ∷ []) ∙ ap (λ last. map view keys ++ last ∷ []) shows,
      )) (cases_Bool (list_any test keys))

  -- the item at the place that a look-up finds
  pub found_at : (keys : List K) (place : ℕ) → Some place ≡ position test keys → slice_get (map view keys) place ≡ Some item
  found_at keys place found =
      elim keys as (λ ks. Some place ≡ position test ks → slice_get (map view ks) place ≡ Some item) [
        | [] ↦ λ none. absurd (let never : ⊥ = cc in never)
        | first ∷ rest ↦ λ is.
            let at = position-Some test (first ∷ rest) place first (sym is) in
            slice_get-map view (first ∷ rest) place ∙ ap (option_map view) (slice_get-get_or (first ∷ rest) place first at.0)
            ∙ ap Some (same (get_or (first ∷ rest) place first) at.1)
      ] found

  -- and an item that it does not find
  pub not_found : (keys : List K) → false ≡ list_any test keys → IsMissing (map view keys) item
  not_found keys none = missing keys (sym none)

-- the same for keys that are the items
module _ {K : Type 0} (eq : K → K → Bool) (same : (x y : K) → eq x y ≡ true → x ≡ y) (itself : (x : K) → eq x x ≡ true) (key : K) where
  is_key : (x : K) → eq key x ≡ true → x ≡ key
  is_key x passes = sym (same key x passes)

  finds_key : (x : K) → x ≡ key → eq key x ≡ true
  finds_key x is = ap (eq key) is ∙ itself key

  pub numbered_key : (keys new : List K) → new ≡ insert_key eq keys key → Numbers keys new key
  numbered_key keys new is =
      subst (λ list. Numbers list new key) (map-id keys) (subst (λ list. Numbers (map (λ x. x) keys) list key) (map-id new)
      (numbered (λ x. x) (eq key) key is_key finds_key keys new key refl is))

  pub key_found : (keys : List K) (place : ℕ) → Some place ≡ position (eq key) keys → slice_get keys place ≡ Some key
  key_found keys place found = subst (λ list. slice_get list place ≡ Some key) (map-id keys) (found_at (λ x. x) (eq key) key is_key finds_key keys place found)

  pub key_not_found : (keys : List K) → false ≡ list_any (eq key) keys → IsMissing keys key
  key_not_found keys none = subst (λ list. IsMissing list key) (map-id keys) (not_found (λ x. x) (eq key) key is_key finds_key keys none)
