-- The decimal spelling of numbers of 32 bits.
use Rattle.std.proofs.Common.{◌≡◌, ℕ, zero, suc, ◌+◌, ◌%◌, ◌<◌, ◌≤◌, ◌^◌, true, false, List, [], ◌∷◌, length, drop, get_or, Result, Ok, Err, IsUtf8, refl, sym, ap, ◌∙◌, arith}
use Rattle.std.specs.Fmt.{decimal}
use Rattle.std.specs.Result.{result_ok}
use Rattle.std.specs.Str.Parse.{AllDigits, ParsesUnsigned, digits_value}
use Rattle.std.proofs.lemmas.Bool.Decides.{nat_tests}
use Rattle.std.proofs.lemmas.Fmt.{IsAscii-decimal, decimal-digits_value, decimal_by_steps, decimal_digit, decimal_is_IsNumeral, decimal_injective, first_decimal, parse-decimal}
use Rattle.std.proofs.lemmas.List.Folds.{list_all-append}
use Rattle.std.proofs.lemmas.Str.{IsUtf8-from_ascii}
use Rattle.std.proofs.lemmas.Str.Parse.{IsNumeralModel, digit_at, numerals_by_value, parse_plain, tells_digits}
use Rattle.ms_arena.specs.declared.node.Ref.{Ref}
use Rattle.ms_arena.specs.declared.node.Ref.TheVariants.{Leaf, Inner}
use Rattle.ms_dfafile.specs.inner.Reading.{BeginsNumber, Decodes, IsField, IsOneForm, IsSmall, IsSmallRef, ended, is_field_byte}
use Rattle.ms_dfafile.specs.Spelling.{ref_text}
use Rattle.ms_dfafile.proofs.FieldLemmas.{ended-one}

own : IsNumeralModel (AllDigits 10) (digits_value 10)
own = numerals_by_value (AllDigits 10) tells_digits

wide : (n : ℕ) → IsSmall n → n < 2 ^ 64
wide n small = omega arith

first_digit : (n : ℕ) → IsSmall n → 48 ≤ get_or (decimal n) 0 0
first_digit n small =
    let numeral = (decimal_is_IsNumeral n (wide n small)).0 in
    let digit = digit_at (decimal n) 0 numeral.1 numeral.0 in omega arith

zero_alone : (n : ℕ) → IsSmall n → get_or (decimal n) 0 0 ≡ 48 → length (decimal n) ≡ 1
zero_alone zero small first = ap length (decimal_digit 0 (omega arith))
zero_alone (suc n) small first = absurd (omega (arith, first_decimal (suc n) (omega arith) (wide (suc n) small)))

pub decimal-begins : (n : ℕ) → IsSmall n → BeginsNumber (decimal n)
decimal-begins n small = record {
  nonempty = (decimal_is_IsNumeral n (wide n small)).0.0;
  digit = first_digit n small;
  zero = zero_alone n small;
}

pub decimal-text : (n : ℕ) → IsSmall n → IsUtf8 (decimal n)
decimal-text n small = IsUtf8-from_ascii (decimal n) (IsAscii-decimal n (wide n small))

digit_byte : (n : ℕ) → n < 10 → is_field_byte (48 + n) ≡ true
digit_byte n small = grind (arith, nat_tests)

pub decimal-field : (n : ℕ) → IsSmall n → IsField (decimal n)
decimal-field n small =
    decimal_by_steps (λ n digits. IsField digits) (λ n below. rw (digit_byte n below) refl)
    (λ n digits large so_far. rw (list_all-append is_field_byte digits ((48 + n % 10) ∷ []), so_far, digit_byte (n % 10) (omega arith)) refl) n (wide n small)

-- what parsing tells of a text that begins as a number may
pub parsed : {E : Type 0} (text : List ℕ) (r : Result ℕ E) → BeginsNumber text → ParsesUnsigned 32 10 text r → Decodes decimal IsSmall text (result_ok r)
parsed {E} text (Ok n) begins parses =
    let told = parse_plain own {E = E} 32 text (Ok n) parses (λ plus. absurd (omega (arith, begins.digit))) in
    let small : n < 2 ^ 32 = omega (arith, told.0.2, told.1) in
    (small, sym (ap decimal told.1 ∙ decimal-digits_value own text told.0.0 told.0.1 begins.zero (omega (arith, told.0.2))))
parsed {E} text (Err e) begins parses =
    λ n small same. let never = parse-decimal 32 n text (Err e) small (wide n small) same parses in cc

-- one number is in front of the same bytes
pub number-one_form : (end : ℕ) → is_field_byte end ≡ false → IsOneForm (λ n. ended end (decimal n)) IsSmall
number-one_form end ends one two rest other small_one small_two same =
    decimal_injective one two (wide one small_one) (wide two small_two) (ended-one end (decimal one) (decimal two) rest other ends (decimal-field one small_one) (decimal-field two small_two) same).0

-- the text of a reference, and its letter
pub ref_text-field : (r : Ref) → IsSmallRef r → IsField (ref_text r)
ref_text-field (Leaf state) small = decimal-field state small
ref_text-field (Inner node) small = decimal-field node small

ref_text-injective : (one two : Ref) → IsSmallRef one → IsSmallRef two → ref_text one ≡ ref_text two → one ≡ two
ref_text-injective (Leaf one) (Leaf two) small_one small_two same = ap Leaf (decimal_injective one two (wide one small_one) (wide two small_two) (ap (λ (bytes : List ℕ). drop 1 bytes) same))
ref_text-injective (Leaf one) (Inner two) small_one small_two same = let letters : 115 ≡ 110 = ap (λ (bytes : List ℕ). get_or bytes 0 0) same in absurd (omega (arith, letters))
ref_text-injective (Inner one) (Leaf two) small_one small_two same = let letters : 110 ≡ 115 = ap (λ (bytes : List ℕ). get_or bytes 0 0) same in absurd (omega (arith, letters))
ref_text-injective (Inner one) (Inner two) small_one small_two same = ap Inner (decimal_injective one two (wide one small_one) (wide two small_two) (ap (λ (bytes : List ℕ). drop 1 bytes) same))

pub reference-one_form : (end : ℕ) → is_field_byte end ≡ false → IsOneForm (λ r. ended end (ref_text r)) IsSmallRef
reference-one_form end ends one two rest other small_one small_two same =
    ref_text-injective one two small_one small_two (ended-one end (ref_text one) (ref_text two) rest other ends (ref_text-field one small_one) (ref_text-field two small_two) same).0
