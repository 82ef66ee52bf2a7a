-- Counts of parts that are put together.
use Rattle.std.proofs.Common.{◌≡◌, ℕ, suc, ◌≤◌, ◌<◌, ◌^◌, max, min, cond, List, [], ◌∷◌, ◌++◌, Option, Some, None, inl, inr, refl, sym, ap, ◌∙◌, arith}
use Rattle.std.proofs.lemmas.Bool.{le-leb, lt-leb, cases_lt}
use Rattle.ms_logic_core.specs.Size.{Extent, total_size, greatest_depth, above}
use Rattle.ms_lower.specs.declared.counted.Counted.{Counted}
use Rattle.ms_lower.specs.Counted.{counted, above_count, both_counts, too_large}

pub within : (limit : ℕ) (parts : List Extent) → greatest_depth parts ≤ limit →
    counted limit parts ≡ Some (record { size = min (total_size parts) too_large; depth = greatest_depth parts })
within limit parts h = ap (λ b. cond b (Some (record { size = min (total_size parts) too_large; depth = greatest_depth parts })) None) (le-leb (greatest_depth parts) limit h)

pub beyond : (limit : ℕ) (parts : List Extent) → limit < greatest_depth parts → counted limit parts ≡ None
beyond limit parts h = ap (λ b. cond b (Some (record { size = min (total_size parts) too_large; depth = greatest_depth parts })) None) (lt-leb (greatest_depth parts) limit h)

-- two counts are the same where both numbers are
same_count : (s t d e : ℕ) → s ≡ t → d ≡ e → let c : Counted = record { size = s; depth = d } in let k : Counted = record { size = t; depth = e } in Some c ≡ Some k
same_count s t d e one two = ap (λ x. let c : Counted = record { size = x; depth = d } in Some c) one ∙ ap (λ x. let c : Counted = record { size = t; depth = x } in Some c) two

-- a part in front of others
pub counted-cons : (limit : ℕ) (e : Extent) (more : List Extent) →
    both_counts (counted limit (e ∷ [])) (counted limit more) ≡ counted limit (e ∷ more)
counted-cons limit e more =
    elim (cases_lt limit (max e.depth 0)) [
      | inl deep ↦
          ap (λ c. both_counts c (counted limit more)) (beyond limit (e ∷ []) deep)
          ∙ sym (beyond limit (e ∷ more) (omega arith))
      | inr here ↦
          elim (cases_lt limit (greatest_depth more)) [
            | inl deep ↦
                ap (λ c. both_counts c (counted limit more)) (within limit (e ∷ []) here)
                ∙ ap (λ c. both_counts (Some (record { size = min (total_size (e ∷ [])) too_large; depth = greatest_depth (e ∷ []) })) c) (beyond limit more deep)
                ∙ sym (beyond limit (e ∷ more) (omega arith))
            | inr later ↦
                ap (λ c. both_counts c (counted limit more)) (within limit (e ∷ []) here)
                ∙ ap (λ c. both_counts (Some (record { size = min (total_size (e ∷ [])) too_large; depth = greatest_depth (e ∷ []) })) c) (within limit more later)
                ∙ same_count _ (min (total_size (e ∷ more)) too_large) _ (greatest_depth (e ∷ more)) (omega arith) (omega arith)
                ∙ sym (within limit (e ∷ more) (omega arith))
          ]
    ]

pub both-assoc : (a b c : Option Counted) → both_counts (both_counts a b) c ≡ both_counts a (both_counts b c)
both-assoc None b c = refl
both-assoc (Some a) None c = refl
both-assoc (Some a) (Some b) None = refl
both-assoc (Some a) (Some b) (Some c) = same_count _ _ _ _ (omega arith) (omega arith)

-- no parts in front of some
pub counted-none_before : (limit : ℕ) (parts : List Extent) → both_counts (counted limit []) (counted limit parts) ≡ counted limit parts
counted-none_before limit parts =
    elim (cases_lt limit (greatest_depth parts)) [
      | inl deep ↦
          ap (both_counts (counted limit [])) (beyond limit parts deep) ∙ ap (λ c. both_counts c None) (within limit [] (omega arith)) ∙ sym (beyond limit parts deep)
      | inr here ↦
          ap (both_counts (counted limit [])) (within limit parts here)
          ∙ ap (λ c. both_counts c (Some (record { size = min (total_size parts) too_large; depth = greatest_depth parts }))) (within limit [] (omega arith))
          ∙ same_count _ (min (total_size parts) too_large) _ (greatest_depth parts) (omega arith) (omega arith)
          ∙ sym (within limit parts here)
    ]

pub counted-append : (limit : ℕ) (front later : List Extent) →
    both_counts (counted limit front) (counted limit later) ≡ counted limit (front ++ later)
counted-append limit [] later = counted-none_before limit later
counted-append limit (e ∷ front) later =
    ap (λ c. both_counts c (counted limit later)) (sym (counted-cons limit e front))
    ∙ both-assoc (counted limit (e ∷ [])) (counted limit front) (counted limit later)
    ∙ ap (both_counts (counted limit (e ∷ []))) (counted-append limit front later)
    ∙ counted-cons limit e (front ++ later)

-- a node above its parts
pub counted-above : (limit below : ℕ) (parts : List Extent) → suc below ≡ limit → limit < 2 ^ 32 →
    above_count (counted below parts) ≡ counted limit (above parts ∷ [])
counted-above limit below parts is small =
    elim (cases_lt below (greatest_depth parts)) [
      | inl deep ↦ ap above_count (beyond below parts deep) ∙ sym (beyond limit (above parts ∷ []) (omega arith))
      | inr here ↦
          ap above_count (within below parts here)
          ∙ same_count _ (min (total_size (above parts ∷ [])) too_large) _ (greatest_depth (above parts ∷ [])) (omega arith) (omega arith)
          ∙ sym (within limit (above parts ∷ []) (omega arith))
    ]

-- a size that is counted is none above the least that is too large
abbrev pub IsCapped : Option Counted → Type 0
IsCapped None = Unit {0}
IsCapped (Some c) = c.size ≤ too_large

pub both-capped : (a b : Option Counted) → IsCapped (both_counts a b)
both-capped None b = tt
both-capped (Some a) None = tt
both-capped (Some a) (Some b) = omega arith

-- no parts behind some
pub counted-done : (limit : ℕ) (o : Option Counted) → IsCapped o → both_counts o (counted limit []) ≡ o
counted-done limit None capped = refl
counted-done limit (Some c) capped = ap (both_counts (Some c)) (within limit [] (omega arith)) ∙ same_count _ c.size _ c.depth (omega arith) (omega arith)

-- of all parts some have been counted, and the rest are left
pub record CountsWith (limit : ℕ) (rest all : List Extent) (so_far : Option Counted) : Type 0 where
  pub all_is : both_counts so_far (counted limit rest) ≡ counted limit all
  pub capped : IsCapped so_far

-- the count of a node, and of two parts, by the counts that were made
pub node : (limit below : ℕ) (parts : List Extent) (whole : Extent) (o r : Option Counted) →
    r ≡ above_count o → o ≡ counted below parts → whole ≡ above parts → suc below ≡ limit → limit < 2 ^ 32 → r ≡ counted limit (whole ∷ [])
node limit below parts whole o r made inner is step small =
    made ∙ (ap above_count inner ∙ (counted-above limit below parts step small ∙ ap (λ e. counted limit (e ∷ [])) (sym is)))

pub pair : (limit : ℕ) (front later : List Extent) (o p r : Option Counted) →
    r ≡ both_counts o p → o ≡ counted limit front → p ≡ counted limit later → r ≡ counted limit (front ++ later)
pair limit front later o p r made one other =
    made ∙ (ap (λ c. both_counts c p) one ∙ (ap (both_counts (counted limit front)) other ∙ counted-append limit front later))
