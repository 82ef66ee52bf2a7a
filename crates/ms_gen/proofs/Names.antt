-- The names of sets.
use Rattle.std.proofs.Common.{◌≡◌, ◌≤◌, ℕ, true, List, [], ◌∷◌, refl, arith}
use Rattle.std.specs.Char.{is_ascii_digit}
use Rattle.std.specs.Fmt.{decimal}
use Rattle.std.specs.List.{list_all}
use Rattle.std.proofs.lemmas.Bool.Decides.{nat_tests}
use Rattle.std.proofs.lemmas.Fmt.{digits_decimal}
use Rattle.ms_gen.specs.Generated.{name_of}
use Rattle.ms_text.specs.declared.token.Kind.TheVariants as kinds
use Rattle.ms_text.specs.Spelling.{is_name_byte, IsToken}
use Rattle.ms_text.proofs.Bytes.{Stops, and_both}
use Rattle.ms_text.proofs.Fronts.{digit_texts}
use Rattle.ms_text.proofs.Here.{name_here}

digit_is_name_byte : (b : ℕ) → is_ascii_digit b ≡ true → is_name_byte b ≡ true
digit_is_name_byte b digit = grind (arith, nat_tests)

digits_are_name_bytes : (bs : List ℕ) → list_all is_ascii_digit bs ≡ true → list_all is_name_byte bs ≡ true
digits_are_name_bytes [] digits = refl
digits_are_name_bytes (b ∷ bs) digits =
    let parts = and_both (is_ascii_digit b) (list_all is_ascii_digit bs) digits in
    rw (digit_is_name_byte b parts.0) (digits_are_name_bytes bs parts.1)

-- the name of a set is one token where no more of a name follows
pub name_token : (n : ℕ) (rest : List ℕ) → n ≤ 2000 → Stops is_name_byte rest → IsToken kinds.Name (name_of n) rest
name_token n rest small stops =
    let digits = digits_decimal digit_texts n (omega (arith, small)) in
    name_here (name_of n) rest (digits_are_name_bytes (decimal n) digits) refl refl stops
