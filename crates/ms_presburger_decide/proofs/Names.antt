-- The numbers of names by their places, where no name comes twice.
use Rattle.std.proofs.Common.{◌≡◌, ◌≢◌, ℕ, zero, suc, ◌<◌, ⊎_elim, List, [], ◌∷◌, length, get_or, map, refl, sym, ap, ap₂, ◌∙◌, arith}
use Rattle.std.specs.List.{range_with_len}
use Rattle.std.specs.Prelude.{AllPairs}
use Rattle.std.proofs.lemmas.Bool.{cases_lt}
use Rattle.std.proofs.lemmas.Grind.{same_number_lists}
use Rattle.std.proofs.lemmas.List.{get_or-map, length-map}
use Rattle.std.proofs.lemmas.List.FromFn.{get_or-map-range_with_len, length-range_with_len}
use Rattle.ms_logic.specs.Lists.{Each}
use Rattle.ms_presburger.specs.Source.{place_of}
use Rattle.ms_presburger.proofs.Named.{IsNamed, each-named, name-at-place, place-below}

each-at : (P : List ℕ → Type 0) (names : List (List ℕ)) (j : ℕ) → Each P names → j < length names → P (get_or names j [])
each-at P [] j each below = absurd (omega (arith, below))
each-at P (x ∷ names) zero each below = each.0
each-at P (x ∷ names) (suc j) each below = each-at P names j each.1 (omega (arith, below))

-- the name at a place has that place
place-at : (names : List (List ℕ)) → AllPairs (λ one other. one ≢ other) names → (j : ℕ) → j < length names → place_of names (get_or names j []) ≡ j
place-at names apart j below =
    let x = get_or names j [] in
    let named = each-at (IsNamed names) names j (each-named names) below in
    let i = place_of names x in
    let there : get_or names i [] ≡ x = name-at-place names x named in
    ⊎_elim (λ before. absurd (apart i j [] before below there))
    (λ not-before. ⊎_elim (λ after. absurd (apart j i [] after (place-below names x named) (sym there))) (λ not-after. omega (arith, not-before, not-after)) (cases_lt j i)) (cases_lt i j)

pub by-places : (names : List (List ℕ)) → AllPairs (λ one other. one ≢ other) names → (number : ℕ → ℕ) → map (λ name. number (place_of names name)) names ≡ map number (range_with_len 0 (length names))
by-places names apart number =
    let named : List ℕ → ℕ = λ name. number (place_of names name) in
    let size : length (map named names) ≡ length names = length-map names named in
    same_number_lists (map named names) (map number (range_with_len 0 (length names)))
    (size ∙ sym (length-map (range_with_len 0 (length names)) number ∙ length-range_with_len 0 (length names)))
    (λ j below.
    let within : j < length names = omega (arith, below, size) in
    get_or-map named names j [] 0 within ∙ ap number (place-at names apart j within) ∙ sym (get_or-map-range_with_len number 0 (length names) j j 0 within (omega arith)))

-- names have the same numbers where each has
pub same-numbers : (names : List (List ℕ)) (v w : List ℕ → ℕ) → Each (λ name. v name ≡ w name) names → map v names ≡ map w names
same-numbers [] v w same = refl
same-numbers (name ∷ names) v w same = ap₂ (λ (n : ℕ) more. n ∷ more) same.0 (same-numbers names v w same.1)
