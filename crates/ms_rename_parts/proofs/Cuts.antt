-- Where numbers that do not fall reach another number.
use Rattle.std.proofs.Common.{◌≡◌, ℕ, zero, suc, ◌<◌, ◌≤◌, ⊎_elim, arith}
use Rattle.std.proofs.lemmas.Bool.{cases_lt}
use Rattle.ms_rename_parts.proofs.Arranged.{IsCut}

module _ (read_at : ℕ → ℕ) (count : ℕ) (rises : (one two : ℕ) → one < two → two < count → read_at one ≤ read_at two) where
  -- one place more
  next_low : (var bound level : ℕ) → bound < count → IsCut read_at var bound level → read_at bound < var → IsCut read_at var (suc bound) (suc bound)
  next_low var bound level less is low = record {
    within = omega arith;
    below = λ at few under. ⊎_elim
        (λ before. let up = rises at bound before less in omega (arith, up, low))
        (λ last. let same : at ≡ bound = omega (arith, few, last) in rw same low)
        (cases_lt at bound);
    above = λ at few over. absurd (omega (arith, few, over));
  }

  next_high : (var bound level : ℕ) → IsCut read_at var bound level → var ≤ read_at bound → IsCut read_at var (suc bound) level
  next_high var bound level is high = record {
    within = (let few = is.within in omega (arith, few));
    below = λ at few under. (let within = is.within in is.below at (omega (arith, under, within)) under);
    above = λ at few over. ⊎_elim
        (λ before. is.above at before over)
        (λ last. let same : at ≡ bound = omega (arith, few, last) in rw same high)
        (cases_lt at bound);
  }

  pub cut_at : (var bound : ℕ) → bound ≤ count → (level : ℕ) × IsCut read_at var bound level
  cut_at var zero few = (0, record { within = omega arith; below = λ at less under. absurd (omega (arith, less)); above = λ at less over. absurd (omega (arith, less)) })
  cut_at var (suc bound) few =
      let before = cut_at var bound (omega (arith, few)) in
      ⊎_elim
      (λ low. (suc bound, next_low var bound before.0 (omega (arith, few)) before.1 low))
      (λ high. (before.0, next_high var bound before.0 before.1 high))
      (cases_lt (read_at bound) var)
