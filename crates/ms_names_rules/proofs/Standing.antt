-- What stands in a list from a place on, and that the imports and exports of occurrences stand in the tables.
use Rattle.std.proofs.Common.{◌≡◌, ℕ, zero, suc, ◌+◌, List, [], ◌∷◌, ◌++◌, length, map, Option, Some, refl, sym, subst, ap, ◌∙◌, add-one, add-zero, arith, length-append}
use Rattle.std.specs.Prelude.{flat_map, slice_get}
use Rattle.ms_names_rules.specs.Before.{Before}
use Rattle.ms_names_rules.specs.Numbers.{Tables}
use Rattle.ms_logic.specs.Lists.{Each}
use Rattle.ms_names_rules.specs.Occurrence.{Occurrence}
use Rattle.ms_names_rules.specs.Uses.{export_at, import_at}
use Rattle.ms_names_rules.proofs.Growth.{Counts, past, counts}
use Rattle.ms_names_rules.proofs.Numbering.{Stand, UsesStand}

get-later : {A : Type 0} (x : A) (all : List A) (n : ℕ) → slice_get (x ∷ all) (n + 1) ≡ slice_get all n
get-later x all n = ap (slice_get (x ∷ all)) (add-one n)

stand-later : {A : Type 0} (x : A) (all : List A) (n : ℕ) (ys : List A) → Stand all n ys → Stand (x ∷ all) (n + 1) ys
stand-later x all n [] h = tt
stand-later x all n (y ∷ ys) h = (get-later x all n ∙ h.0, stand-later x all (n + 1) ys h.1)

-- a list stands in itself from its first place on
pub stand-all : {A : Type 0} (xs : List A) → Stand xs 0 xs
stand-all [] = tt
stand-all (x ∷ xs) = (refl, stand-later x xs 0 xs (stand-all xs))

pub stand-front : {A : Type 0} (all : List A) (n : ℕ) (xs ys : List A) → Stand all n (xs ++ ys) → Stand all n xs
stand-front all n [] ys h = tt
stand-front all n (x ∷ xs) ys h = (h.0, stand-front all (n + 1) xs ys h.1)

pub stand-back : {A : Type 0} (all : List A) (n : ℕ) (xs ys : List A) → Stand all n (xs ++ ys) → Stand all (n + length xs) ys
stand-back all n [] ys h = subst (λ m. Stand all m ys) (sym (add-zero n)) h
stand-back all n (x ∷ xs) ys h =
    let same : n + 1 + length xs ≡ n + length (x ∷ xs) = omega arith in
    subst (λ m. Stand all m ys) same (stand-back all (n + 1) xs ys h.1)

-- where all items of a list are there
pub get-some : {A : Type 0} (xs : List A) (n : ℕ) (found : Option A) → slice_get (map (λ x. Some x) xs) n ≡ Some found →
    (x : A) × (slice_get xs n ≡ Some x) × (found ≡ Some x)
get-some [] n found h = absurd (cc)
get-some (x ∷ xs) zero found h = let is : Some x ≡ found = cc in (x, refl, sym is)
get-some (x ∷ xs) (suc n) found h = get-some xs n found h

-- imports and exports

pub counted : (b c : Before) (os : List Occurrence) → Counts b os c →
    (c.imports ≡ b.imports + length (flat_map import_at os)) × (c.exports ≡ b.exports + length (flat_map export_at os))
counted b c [] h = (h.0 ∙ sym (add-zero b.imports), h.1 ∙ sym (add-zero b.exports))
counted b c (o ∷ os) h =
    let rest = counted (past b o) c os h.2 in
    let more = length-append (import_at o) (flat_map import_at os) in
    let others = length-append (export_at o) (flat_map export_at os) in
    let first : c.imports ≡ b.imports + length (import_at o) + length (flat_map import_at os) = rest.0 in
    let second : c.exports ≡ b.exports + length (export_at o) + length (flat_map export_at os) = rest.1 in
    let all : c.imports ≡ b.imports + length (import_at o ++ flat_map import_at os) = omega (arith, more, first) in
    let each : c.exports ≡ b.exports + length (export_at o ++ flat_map export_at os) = omega (arith, others, second) in
    (all, each)

pub uses-stand : (tables : Tables) (b c : Before) (os : List Occurrence) → Counts b os c →
    Stand tables.imports b.imports (flat_map import_at os) → Stand tables.exports b.exports (flat_map export_at os) → Each (UsesStand tables) os
uses-stand tables b c [] counts imports exports = tt
uses-stand tables b c (o ∷ os) counts imports exports = (
  (
    subst (λ n. Stand tables.imports n (import_at o)) (sym counts.0) (stand-front tables.imports b.imports (import_at o) (flat_map import_at os) imports),
    subst (λ n. Stand tables.exports n (export_at o)) (sym counts.1) (stand-front tables.exports b.exports (export_at o) (flat_map export_at os) exports),
  ),
  uses-stand tables (past b o) c os counts.2
      (stand-back tables.imports b.imports (import_at o) (flat_map import_at os) imports)
      (stand-back tables.exports b.exports (export_at o) (flat_map export_at os) exports),
)
