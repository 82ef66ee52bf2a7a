-- Examples have the fewest digits, and a formula has one answer.
use Rattle.std.proofs.Common.{◌≡◌, ℕ, zero, suc, ◌<◌, ◌≤◌, ◌==◌, Bool, ⊎_elim, inl, inr, List, [], ◌∷◌, length, map, Option, None, Some, refl, sym, ap, ap₂, ◌∙◌, arith}
use Rattle.std.specs.Int.{bit_at}
use Rattle.std.specs.List.{flat_map}
use Rattle.std.proofs.lemmas.Bool.{cases_lt}
use Rattle.std.proofs.lemmas.List.{length-map}
use Rattle.std.proofs.lemmas.Nat.Bits.{bit_at-lt, same_from_bits_below}
use Rattle.std.proofs.lemmas.Option.{same_Some}
use Rattle.ms_logic.specs.FiniteSet.{numbers_below}
use Rattle.ms_logic.specs.First.{IsLower}
use Rattle.ms_logic.proofs.BitOrder.{flat_map_parts, length-flat_map_same, lower_total}
use Rattle.ms_presburger.specs.Numbers.{Holds, Valuation}
use Rattle.ms_presburger.specs.Tree.{Arithmetic, free_names}
use Rattle.ms_presburger_decide.specs.Answer.{ComesBefore, FailsAt, IsVerdictOn, ShowsFirstNumbers, bits_at, bits_of, most_digits}
use Rattle.ms_presburger_decide.specs.Laws.{ExamplesAreShort, FormulasHaveOneAnswer}
use Rattle.ms_presburger_decide.proofs.SetDigits.{digits-within}
use Rattle.ms_report.specs.declared.found.Verdict.{Verdict}
use Rattle.ms_report.specs.declared.found.Verdict.TheVariants.{Valid, Unsatisfiable, Contingent, Vacuous}
use Rattle.ms_report.specs.Numbers.{NumberAnswer, ShownNumbers}

fewest : (names : List (List ℕ)) (Has : Valuation → Type 0) (shown : ShownNumbers) (found : Option ShownNumbers) (w : Valuation) → ShowsFirstNumbers names Has found → found ≡ Some shown → Has w
    → shown.digits ≤ most_digits (map w names)
fewest names Has shown None w none is has = absurd (none w has)
fewest names Has shown (Some found) w (v, first, is') is has =
    let same : found ≡ shown = same_Some found shown is in
    let long = ap (λ (s : ShownNumbers). s.digits) (sym same ∙ is') in
    omega (
      arith,
      long,
      ⊎_elim (λ fewer. absurd (first.none_before w (inl fewer) has)) (λ (enough : most_digits (map v names) ≤ most_digits (map w names)). enough)
          (cases_lt (most_digits (map w names)) (most_digits (map v names))),
    )

pub short : ExamplesAreShort
short f answer shown v is = (
  fewest (free_names f) (Holds f) shown answer.example v is.example,
  fewest (free_names f) (FailsAt f) shown answer.counterexample v is.counterexample,
)

-- numbers with the same bits are the same

same-bit : (a b : ℕ) → a < 2 → b < 2 → (a == 1) ≡ (b == 1) → a ≡ b
same-bit zero zero small_a small_b same = refl
same-bit zero (suc zero) small_a small_b same = absurd (cc)
same-bit (suc zero) zero small_a small_b same = absurd (cc)
same-bit (suc zero) (suc zero) small_a small_b same = refl
same-bit (suc (suc a)) b small_a small_b same = absurd (omega (arith, small_a))
same-bit a (suc (suc b)) small_a small_b same = absurd (omega (arith, small_b))

head-same : (a b : Bool) (as_ bs : List Bool) → a ∷ as_ ≡ b ∷ bs → a ≡ b
head-same a b as_ bs same = cc

tail-same : (a b : Bool) (as_ bs : List Bool) → a ∷ as_ ≡ b ∷ bs → as_ ≡ bs
tail-same a b as_ bs same = cc

same-by-places : (k : ℕ) (ms ns : List ℕ) → length ms ≡ length ns → most_digits ms ≤ k → most_digits ns ≤ k → ((i : ℕ) → i < k → bits_at ms i ≡ bits_at ns i) → ms ≡ ns
same-by-places k [] [] long few few' same = refl
same-by-places k [] (n ∷ ns) long few few' same = absurd (omega (arith, long))
same-by-places k (m ∷ ms) [] long few few' same = absurd (omega (arith, long))
same-by-places k (m ∷ ms) (n ∷ ns) long few few' same =
    let one : m ≡ n = same_from_bits_below k m n (digits-within m k (omega (arith, few))) (digits-within n k (omega (arith, few')))
    (λ i below. same-bit (bit_at m i) (bit_at n i) (bit_at-lt m i) (bit_at-lt n i) (head-same (bit_at m i == 1) (bit_at n i == 1) (bits_at ms i) (bits_at ns i) (same i below))) in
    let others : ms ≡ ns = same-by-places k ms ns (omega (arith, long)) (omega (arith, few)) (omega (arith, few'))
    (λ i below. tail-same (bit_at m i == 1) (bit_at n i == 1) (bits_at ms i) (bits_at ns i) (same i below)) in
    ap₂ (λ (x : ℕ) more. x ∷ more) one others

module _ (ms ns : List ℕ) (long : length ms ≡ length ns) (same : most_digits ms ≡ most_digits ns) where
  letters-long : (i : ℕ) → length (bits_at ms i) ≡ length (bits_at ns i)
  letters-long i = length-map ms (λ n. bit_at n i == 1) ∙ long ∙ sym (length-map ns (λ n. bit_at n i == 1))

  -- the bits of the second as far as the first has digits
  turned : bits_of ns ≡ flat_map (bits_at ns) (numbers_below (most_digits ms))
  turned = ap (λ k. flat_map (bits_at ns) (numbers_below k)) (sym same)

  as-long : length (bits_of ms) ≡ length (bits_of ns)
  as-long = length-flat_map_same (bits_at ms) (bits_at ns) letters-long (numbers_below (most_digits ms)) ∙ ap (λ (bits : List Bool). length bits) (sym turned)

  same-numbers : bits_of ms ≡ bits_of ns → ms ≡ ns
  same-numbers bits =
      same-by-places (most_digits ms) ms ns long (omega arith) (omega (arith, same))
      (λ i below. flat_map_parts (bits_at ms) (bits_at ns) letters-long 0 (most_digits ms) (bits ∙ turned) i (omega arith) (omega (arith, below)))

  one-by-bits : ¬ (IsLower (bits_of ms) (bits_of ns)) → ¬ (IsLower (bits_of ns) (bits_of ms)) → ms ≡ ns
  one-by-bits not-lower not-higher =
      ⊎_elim (λ lower. absurd (not-lower lower)) (λ rest. ⊎_elim (λ higher. absurd (not-higher higher)) (λ bits. same-numbers bits) rest) (lower_total (bits_of ms) (bits_of ns) as-long)

-- as many numbers, of which neither come before the others, are one
pub one-of-two : (ms ns : List ℕ) → length ms ≡ length ns → ¬ (ComesBefore ms ns) → ¬ (ComesBefore ns ms) → ms ≡ ns
one-of-two ms ns long not-before not-after =
    ⊎_elim (λ fewer. absurd (not-before (inl fewer)))
    (λ enough. ⊎_elim (λ fewer. absurd (not-after (inl fewer)))
    (λ enough'. let same : most_digits ms ≡ most_digits ns = omega (arith, enough, enough') in
    one-by-bits ms ns long same (λ lower. not-before (inr (same, lower))) (λ higher. not-after (inr (sym same, higher))))
    (cases_lt (most_digits ns) (most_digits ms))) (cases_lt (most_digits ms) (most_digits ns))

one-shown : (names : List (List ℕ)) (Has : Valuation → Type 0) (found other : Option ShownNumbers) → ShowsFirstNumbers names Has found → ShowsFirstNumbers names Has other → found ≡ other
one-shown names Has None None none none' = refl
one-shown names Has None (Some other) none (w, first, is) = absurd (none w first.has)
one-shown names Has (Some found) None (v, first, is) none = absurd (none v first.has)
one-shown names Has (Some found) (Some other) (v, first, is) (w, first', is') =
    let long : length (map v names) ≡ length (map w names) = length-map names v ∙ sym (length-map names w) in
    let same = one-of-two (map v names) (map w names) long (λ before. first'.none_before v before first.has) (λ after. first.none_before w after first'.has) in
    ap (λ (s : ShownNumbers). Some s) (is ∙ ap (λ (ns : List ℕ). record { digits = most_digits ns; numbers = ns }) same ∙ sym is')

-- numbers of which nothing is asked
zeros : Valuation
zeros name = 0

one-verdict : (f : Arithmetic) (verdict other : Verdict) → IsVerdictOn f verdict → IsVerdictOn f other → verdict ≡ other
one-verdict f Valid Valid is is' = refl
one-verdict f Valid Unsatisfiable is is' = absurd (is' zeros (is zeros))
one-verdict f Valid Contingent is is' = absurd (is'.1.1 (is is'.1.0))
one-verdict f Unsatisfiable Valid is is' = absurd (is zeros (is' zeros))
one-verdict f Unsatisfiable Unsatisfiable is is' = refl
one-verdict f Unsatisfiable Contingent is is' = absurd (is is'.0.0 is'.0.1)
one-verdict f Contingent Valid is is' = absurd (is.1.1 (is' is.1.0))
one-verdict f Contingent Unsatisfiable is is' = absurd (is' is.0.0 is.0.1)
one-verdict f Contingent Contingent is is' = refl
one-verdict f Vacuous other is is' = absurd is
one-verdict f verdict Vacuous is is' = absurd is'

pub one : FormulasHaveOneAnswer
one f answer other is is' =
    let made : Verdict → Option ShownNumbers → Option ShownNumbers → NumberAnswer = λ verdict example counterexample. record { verdict = verdict; example = example; counterexample = counterexample } in
    let verdict = one-verdict f answer.verdict other.verdict is.verdict is'.verdict in
    let example = one-shown (free_names f) (Holds f) answer.example other.example is.example is'.example in
    let counterexample = one-shown (free_names f) (FailsAt f) answer.counterexample other.counterexample is.counterexample is'.counterexample in
    ap (λ v. made v answer.example answer.counterexample) verdict ∙ ap₂ (made other.verdict) example counterexample
