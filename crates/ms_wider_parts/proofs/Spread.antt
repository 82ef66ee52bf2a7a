-- Bits that are spread over more variables keep their order.
use Rattle.std.proofs.Common.{◌≡◌, ℕ, suc, ◌<◌, ◌≤◌, ◌⊎◌, inl, inr, ⊎_elim, if◌then◌else◌, List, [], ◌∷◌, length, slice_index, Option, Some, None, refl, sym, ap, ◌∙◌, arith}
use Rattle.std.specs.Option.{option_map}
use Rattle.std.proofs.lemmas.Bool.{cases_eq, cases_lt, eq-eqb, ne_eqb}
use Rattle.ms_arena.specs.Bits.{below_from}
use Rattle.ms_arena.specs.Diagram.{Bits}
use Rattle.ms_arena.proofs.BitsLemmas.{below_from-first, below_from-later}
use Rattle.ms_product.specs.Widened.{IsRisingMap}
use Rattle.ms_wider_parts.specs.Fixed.{bit_or_zero, index_in, spread}
use Rattle.ms_wider_parts.specs.Laws.{SpreadBitsKeepOrder}

abbrev IsIndex : List ℕ → ℕ → ℕ → Type 0
IsIndex map place i = (i < length map) × (slice_index map i ≡ place)

-- an index that is found is one
one_later : (first : ℕ) (more : List ℕ) (place i : ℕ) (found : Option ℕ) → ((k : ℕ) → found ≡ Some k → IsIndex more place k) → option_map suc found ≡ Some i → IsIndex (first ∷ more) place i
one_later first more place i None each is = let never : ⊥ = cc in absurd never
one_later first more place i (Some k) each is =
    let at = each k refl in
    let same : suc k ≡ i = cc in
    let below : k < length more = at.0 in
    rw (sym same) (omega (arith, below), at.1)

index_is : (map : List ℕ) (place i : ℕ) → index_in map place ≡ Some i → IsIndex map place i
index_is [] place i is = let never : ⊥ = cc in absurd never
index_is (first ∷ more) place i is = ⊎_elim
    (λ same.
    let here : Some 0 ≡ Some i = sym (ap (λ test. if test then Some 0 else option_map suc (index_in more place)) (eq-eqb place first same)) ∙ is in
    let zero_is : 0 ≡ i = cc in
    rw (sym zero_is) (omega arith, sym same))
    (λ differs.
    one_later first more place i (index_in more place) (λ k found. index_is more place k found)
    (sym (ap (λ test. if test then Some 0 else option_map suc (index_in more place)) (ne_eqb place first differs)) ∙ is))
    (cases_eq place first)

-- a level below which just the places of the indices below a variable are
abbrev IsLevel : ℕ → List ℕ → ℕ → ℕ → Type 0
IsLevel count map var level = (place i : ℕ) → place < count → IsIndex map place i → ((i < var) × (place < level)) ⊎ ((var ≤ i) × (level ≤ place))

level_in : (count width : ℕ) (map : List ℕ) → IsRisingMap width map → (var : ℕ) → (level : ℕ) × IsLevel count map var level
level_in count width map rising var = ⊎_elim
    (λ some. (
      slice_index map var,
      λ place i less at.
          let within : i < length map = at.0 in
          let is : slice_index map i ≡ place = at.1 in
          let long = rising.long in
          ⊎_elim
          (λ before. let up = rising.rising i var before (omega (arith, some, long)) in inl (before, omega (arith, up, is)))
          (λ behind. ⊎_elim
          (λ after. let up = rising.rising var i after (omega (arith, within, long)) in inr (behind, omega (arith, up, is)))
          (λ last. let same : var ≡ i = omega (arith, behind, last) in let equal : slice_index map var ≡ slice_index map i = rw same refl in inr (behind, omega (arith, equal, is)))
          (cases_lt var i))
          (cases_lt i var),
    ))
    (λ past. (count, λ place i less at. let within : i < length map = at.0 in inl (omega (arith, within, past), less)))
    (cases_lt var (length map))

module _ (map : List ℕ) (var level : ℕ) (first bits : Bits) (place : ℕ) where
  put : (found : Option ℕ) → index_in map place ≡ found → ((i : ℕ) → found ≡ Some i → ((i < var) × (place < level)) ⊎ ((var ≤ i) × (level ≤ place)))
      → bit_or_zero (below_from var first bits) found ≡ below_from level (spread map first) (spread map bits) place
  put None is sides = ⊎_elim
      (λ under. sym (below_from-first level (spread map first) (spread map bits) place under ∙ ap (bit_or_zero first) is))
      (λ over. sym (below_from-later level (spread map first) (spread map bits) place over ∙ ap (bit_or_zero bits) is))
      (cases_lt place level)
  put (Some i) is sides = ⊎_elim
      (λ under. below_from-first var first bits i under.0 ∙ sym (below_from-first level (spread map first) (spread map bits) place under.1 ∙ ap (bit_or_zero first) is))
      (λ over. below_from-later var first bits i over.0 ∙ sym (below_from-later level (spread map first) (spread map bits) place over.1 ∙ ap (bit_or_zero bits) is))
      (sides i refl)

pub spread_keep : SpreadBitsKeepOrder
spread_keep count width map rising var =
    let level = level_in count width map rising var in
    (level.0, λ first bits place less. put map var level.0 first bits place (index_in map place) refl (λ i found. level.1 place i less (index_is map place i found)))
