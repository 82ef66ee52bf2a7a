-- Bits that are put together below a variable, once they are read through a rising map.
use Rattle.std.proofs.Common.{◌≡◌, ℕ, zero, suc, ◌<◌, ◌≤◌, ⊎_elim, List, slice_index, sym, ◌∙◌, arith}
use Rattle.std.proofs.lemmas.Bool.{cases_lt}
use Rattle.ms_arena.specs.Bits.{below_from}
use Rattle.ms_arena.specs.Diagram.{Bits}
use Rattle.ms_arena.proofs.BitsLemmas.{below_from-first, below_from-later}
use Rattle.ms_diagram.specs.Bring.{read_through}
use Rattle.ms_product.specs.Widened.{IsRisingMap}

module _ (map : List ℕ) (count : ℕ) (rising : IsRisingMap count map) (var : ℕ) where
  -- below a level the map has smaller variables, and from there on none
  pub record IsLevelOf (bound level : ℕ) : Type 0 where
    pub within : level ≤ bound
    pub below : (place : ℕ) → place < bound → place < level → slice_index map place < var
    pub above : (place : ℕ) → place < bound → level ≤ place → var ≤ slice_index map place

  -- one place more
  next_low : (bound level : ℕ) → bound < count → IsLevelOf bound level → slice_index map bound < var → IsLevelOf (suc bound) (suc bound)
  next_low bound level within is low = record {
    within = omega arith;
    below = λ place less under. ⊎_elim
        (λ before. let up = rising.rising place bound before within in omega (arith, up, low))
        (λ last. let same : place ≡ bound = omega (arith, less, last) in rw same low)
        (cases_lt place bound);
    above = λ place less over. absurd (omega (arith, less, over));
  }

  next_high : (bound level : ℕ) → IsLevelOf bound level → var ≤ slice_index map bound → IsLevelOf (suc bound) level
  next_high bound level is high = record {
    within = (let few = is.within in omega (arith, few));
    below = λ place less under. (let few = is.within in is.below place (omega (arith, under, few)) under);
    above = λ place less over. ⊎_elim
        (λ before. is.above place before over)
        (λ last. let same : place ≡ bound = omega (arith, less, last) in rw same high)
        (cases_lt place bound);
  }

  pub level_of : (bound : ℕ) → bound ≤ count → (level : ℕ) × IsLevelOf bound level
  level_of zero few = (0, record { within = omega arith; below = λ place less under. absurd (omega (arith, less)); above = λ place less over. absurd (omega (arith, less)) })
  level_of (suc bound) few =
      let before = level_of bound (omega (arith, few)) in
      ⊎_elim
      (λ low. (suc bound, next_low bound before.0 (omega (arith, few)) before.1 low))
      (λ high. (before.0, next_high bound before.0 before.1 high))
      (cases_lt (slice_index map bound) var)

  -- so bits that are put together at the variable are put together at the level
  pub put_together : (level : ℕ) → IsLevelOf count level → (first bits : Bits) (place : ℕ) → place < count
      → read_through map (below_from var first bits) place ≡ below_from level (read_through map first) (read_through map bits) place
  put_together level is first bits place less = ⊎_elim
      (λ under.
      below_from-first var first bits (slice_index map place) (is.below place less under)
      ∙ sym (below_from-first level (read_through map first) (read_through map bits) place under))
      (λ over.
      below_from-later var first bits (slice_index map place) (is.above place less over)
      ∙ sym (below_from-later level (read_through map first) (read_through map bits) place over))
      (cases_lt place level)
