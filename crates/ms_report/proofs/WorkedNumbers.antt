-- The examples of numbers in binary, worked by hand.
use Rattle.std.proofs.Common.{◌≡◌, ℕ, ◌*◌, ◌^◌, ◌<◌, ◌++◌, codes, replicate, refl, ap, ap₂, ◌∙◌, arith}
use Rattle.std.specs.Fmt.{decimal, digits}
use Rattle.std.proofs.lemmas.List.{append-nil}
use Rattle.ms_report.specs.Numbers.{also_decimal, binary, number_line_of}
use Rattle.ms_report.proofs.Digits.{binary-spelled, spelled, with-zeros}

decimal-power : decimal 170141183460469231731687303715884105728 ≡ codes "170141183460469231731687303715884105728"
unfolding digits
decimal-power = refl

-- a one and zeros
binary-power : (k n : ℕ) → n ≡ 2 ^ k * 1 → 0 < n → binary n ≡ codes "1" ++ replicate k 48
binary-power k n is some = binary-spelled n some ∙ ap spelled is ∙ with-zeros 1 k (omega arith)

pub line-with-decimal : (n : ℕ) → n ≡ 2 ^ 127 → number_line_of (codes "x") n ≡ codes "x = 0b1" ++ replicate 127 48 ++ codes " = 170141183460469231731687303715884105728"
line-with-decimal n is =
    ap₂ (λ digits more. codes "x = 0b" ++ (digits ++ more)) (binary-power 127 n is (omega (arith, is)))
    (ap also_decimal is ∙ ap (λ number. codes " = " ++ number) decimal-power)

pub line-without : (n : ℕ) → n ≡ 2 ^ 128 → number_line_of (codes "x") n ≡ codes "x = 0b1" ++ replicate 128 48
line-without n is =
    ap₂ (λ digits more. codes "x = 0b" ++ (digits ++ more)) (binary-power 128 n is (omega (arith, is))) (ap also_decimal is)
    ∙ append-nil (codes "x = 0b1" ++ replicate 128 48)
