-- Numbers that are moved and keep their order leave the places of variables as they are.
use Rattle.std.proofs.Common.{◌≡◌, ℕ, zero, suc, ◌+◌, ◌<◌, ◌≤◌, nat_lt, nat_eq, ⊎_elim, Bool, true, false, if◌then◌else◌, List, [], ◌∷◌, ◌++◌, length, map, slice_index, refl, sym, ap, ap₂, ◌∙◌, arith}
use Rattle.std.proofs.lemmas.Bool.{cases_lt}
use Rattle.std.proofs.lemmas.Bool.Decides.{nat_tests}
use Rattle.std.proofs.lemmas.List.{map-append}
use Rattle.std.proofs.lemmas.List.Elements.{All-head, All-tail}
use Rattle.std.specs.List.Sorted.{IsStrictlyIncreasing}
use Rattle.ms_dag.specs.Places.{AreBelow, picked}
use Rattle.ms_dfa_explore.specs.Tracks.{before, distinct, from, gathered_with, merged, place_of, places_among, without_first}
use Rattle.ms_logic.specs.Assignment.{Variable}
use Rattle.ms_logic_core.specs.Operands.{variable}
use Rattle.ms_rename.specs.Renamed.{renamed, renamed_places}
use Rattle.ms_build_steps.proofs.SameValues.{rising_behind}

module _ (name : ℕ → ℕ) (keeps : (x y : ℕ) → x < y → name x < name y) where
  -- moved numbers compare as they did
  less_kept : (x y : ℕ) → nat_lt (name x) (name y) ≡ nat_lt x y
  less_kept x y = ⊎_elim
      (λ less. let above = keeps x y less in grind (arith, nat_tests, above, less))
      (λ at_least. ⊎_elim
      (λ more. let above = keeps y x more in grind (arith, nat_tests, above, more))
      (λ at_most. let same : x ≡ y = omega (arith, at_least, at_most) in
      let moved_same = ap name same in grind (arith, nat_tests, same, moved_same))
      (cases_lt y x))
      (cases_lt x y)

  equal_kept : (x y : ℕ) → nat_eq (name x) (name y) ≡ nat_eq x y
  equal_kept x y = ⊎_elim
      (λ less. let above = keeps x y less in grind (arith, nat_tests, above, less))
      (λ at_least. ⊎_elim
      (λ more. let above = keeps y x more in grind (arith, nat_tests, above, more))
      (λ at_most. let same : x ≡ y = omega (arith, at_least, at_most) in
      let moved_same = ap name same in grind (arith, nat_tests, same, moved_same))
      (cases_lt y x))
      (cases_lt x y)

  abbrev moved : Variable → Variable
  moved v = variable (name v.name) v.order

  before_moved : (x : ℕ) (vs : List Variable) → before (name x) (map moved vs) ≡ map moved (before x vs)
  before_moved x [] = refl
  before_moved x (v ∷ vs) =
      ap (λ (test : Bool). if test then moved v ∷ before (name x) (map moved vs) else []) (less_kept v.name x)
      ∙ by_test (nat_lt v.name x) (before_moved x vs)
    where
      by_test : (test : Bool) → before (name x) (map moved vs) ≡ map moved (before x vs)
          → (if test then moved v ∷ before (name x) (map moved vs) else []) ≡ map moved (if test then v ∷ before x vs else [])
      by_test true rest = ap (λ (us : List Variable). moved v ∷ us) rest
      by_test false rest = refl

  from_moved : (x : ℕ) (vs : List Variable) → from (name x) (map moved vs) ≡ map moved (from x vs)
  from_moved x [] = refl
  from_moved x (v ∷ vs) =
      ap (λ (test : Bool). if test then from (name x) (map moved vs) else moved v ∷ map moved vs) (less_kept v.name x)
      ∙ by_test (nat_lt v.name x) (from_moved x vs)
    where
      by_test : (test : Bool) → from (name x) (map moved vs) ≡ map moved (from x vs)
          → (if test then from (name x) (map moved vs) else moved v ∷ map moved vs) ≡ map moved (if test then from x vs else v ∷ vs)
      by_test true rest = rest
      by_test false rest = refl

  without_moved : (x : ℕ) (vs : List Variable) → without_first (name x) (map moved vs) ≡ map moved (without_first x vs)
  without_moved x [] = refl
  without_moved x (v ∷ vs) = ap (λ (test : Bool). if test then map moved vs else moved v ∷ map moved vs) (equal_kept v.name x) ∙ by_test (nat_eq v.name x)
    where
      by_test : (test : Bool) → (if test then map moved vs else moved v ∷ map moved vs) ≡ map moved (if test then vs else v ∷ vs)
      by_test true = refl
      by_test false = refl

  merged_moved : (vs ws : List Variable) → merged (map moved vs) (map moved ws) ≡ map moved (merged vs ws)
  merged_moved [] ws = refl
  merged_moved (v ∷ vs) ws =
      let rest = without_first v.name (from v.name ws) in
      let rest_moved = ap (without_first (name v.name)) (from_moved v.name ws) ∙ without_moved v.name (from v.name ws) in
      let later = ap (merged (map moved vs)) rest_moved ∙ merged_moved vs rest in
      ap₂ (λ (us more : List Variable). us ++ moved v ∷ more) (before_moved v.name ws) later ∙ sym (map-append moved (before v.name ws) (v ∷ merged vs rest))

  gathered_moved : (there vs : List Variable) → gathered_with (map moved there) (map moved vs) ≡ map moved (gathered_with there vs)
  gathered_moved there [] = refl
  gathered_moved there (v ∷ vs) = ap (λ us. gathered_with us (map moved vs)) (merged_moved there (v ∷ [])) ∙ gathered_moved (merged there (v ∷ [])) vs

  place_moved : (x : ℕ) (ws : List Variable) → place_of (name x) (map moved ws) ≡ place_of x ws
  place_moved x [] = refl
  place_moved x (w ∷ ws) =
      ap (λ (test : Bool). if test then 0 else suc (place_of (name x) (map moved ws))) (equal_kept w.name x)
      ∙ ap (λ n. if nat_eq w.name x then 0 else suc n) (place_moved x ws)

  places_moved : (vs ws : List Variable) → places_among (map moved vs) (map moved ws) ≡ places_among vs ws
  places_moved [] ws = refl
  places_moved (v ∷ vs) ws = ap₂ (λ (n : ℕ) (ns : List ℕ). n ∷ ns) (place_moved v.name ws) (places_moved vs ws)

  renamed_moved : (xs : List ℕ) (vs : List Variable) → renamed (map name xs) vs ≡ map moved (renamed xs vs)
  renamed_moved [] vs = refl
  renamed_moved (x ∷ xs) [] = refl
  renamed_moved (x ∷ xs) (v ∷ vs) = ap (λ (us : List Variable). variable (name x) v.order ∷ us) (renamed_moved xs vs)

  -- so variables have the same places once they are renamed to moved numbers
  places_kept : (xs : List ℕ) (vs : List Variable) → renamed_places (map name xs) vs ≡ renamed_places xs vs
  places_kept xs vs =
      ap (λ us. places_among us (distinct us)) (renamed_moved xs vs)
      ∙ ap (places_among (map moved (renamed xs vs))) (gathered_moved [] (renamed xs vs))
      ∙ places_moved (renamed xs vs) (distinct (renamed xs vs))

-- the name of each number, and beyond the names numbers above them
abbrev named_on : ℕ → List ℕ → ℕ → ℕ
named_on base [] x = base + x
named_on base (n ∷ names) zero = n
named_on base (n ∷ names) (suc x) = named_on (n + 1) names x

abbrev BeginsFrom : ℕ → List ℕ → Type 0
BeginsFrom base [] = Unit {0}
BeginsFrom base (n ∷ names) = base ≤ n

begins_behind : (n : ℕ) (names : List ℕ) → IsStrictlyIncreasing (n ∷ names) → BeginsFrom (n + 1) names
begins_behind n [] rising = tt
begins_behind n (m ∷ names) rising = let less = rising 0 (omega arith) in omega (arith, less)

named_above : (base : ℕ) (names : List ℕ) → BeginsFrom base names → IsStrictlyIncreasing names → (x : ℕ) → base ≤ named_on base names x
named_above base [] begins rising x = omega arith
named_above base (n ∷ names) begins rising zero = begins
named_above base (n ∷ names) begins rising (suc x) =
    let more = named_above (n + 1) names (begins_behind n names rising) (rising_behind n names rising) x in omega (arith, begins, more)

named_rises : (base : ℕ) (names : List ℕ) → BeginsFrom base names → IsStrictlyIncreasing names → (x y : ℕ) → x < y → named_on base names x < named_on base names y
named_rises base [] begins rising x y less = omega (arith, less)
named_rises base (n ∷ names) begins rising x zero less = absurd (omega (arith, less))
named_rises base (n ∷ names) begins rising zero (suc y) less =
    let more = named_above (n + 1) names (begins_behind n names rising) (rising_behind n names rising) y in omega (arith, more)
named_rises base (n ∷ names) begins rising (suc x) (suc y) less =
    named_rises (n + 1) names (begins_behind n names rising) (rising_behind n names rising) x y (omega (arith, less))

named_at : (base : ℕ) (names : List ℕ) (x : ℕ) → x < length names → slice_index names x ≡ named_on base names x
named_at base [] x less = absurd (omega (arith, less))
named_at base (n ∷ names) zero less = refl
named_at base (n ∷ names) (suc x) less = named_at (n + 1) names x (omega (arith, less))

picked_on : (names xs : List ℕ) → AreBelow (length names) xs → picked names xs ≡ map (named_on 0 names) xs
picked_on names [] below = refl
picked_on names (x ∷ xs) below =
    ap₂ (λ (n : ℕ) (ns : List ℕ). n ∷ ns) (named_at 0 names x (All-head (λ j. j < length names) x xs below))
    (picked_on names xs (All-tail (λ j. j < length names) x xs below))

begins_from_zero : (names : List ℕ) → BeginsFrom 0 names
begins_from_zero [] = tt
begins_from_zero (n ∷ names) = omega arith

-- variables that are renamed to rising names of numbers have the places that they have under the numbers
pub places_under_names : (names : List ℕ) → IsStrictlyIncreasing names → (xs : List ℕ) (vs : List Variable) → AreBelow (length names) xs
    → renamed_places (picked names xs) vs ≡ renamed_places xs vs
places_under_names names rising xs vs below =
    ap (λ ys. renamed_places ys vs) (picked_on names xs below) ∙ places_kept (named_on 0 names) (named_rises 0 names (begins_from_zero names) rising) xs vs
