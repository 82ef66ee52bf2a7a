-- What is within the universe.
use Rattle.std.proofs.Common.{◌≡◌, ℕ, true, cond, Some, None, refl, ap, arith}
use Rattle.std.proofs.lemmas.Bool.Decides.{nat_tests}
use Rattle.ms_logic.specs.Assignment.{Universe, is_within, IsWithin}
use Rattle.ms_logic.specs.Terms.{if_within}

-- a number within the universe passes the test
pub is_within-of : (universe : Universe) (n : ℕ) → IsWithin universe n → is_within universe n ≡ true
is_within-of None n within = refl
is_within-of (Some size) n within = grind (arith, nat_tests)

-- a number within the universe is its own value
pub if_within-of : (universe : Universe) (n : ℕ) → IsWithin universe n → if_within universe n ≡ Some n
if_within-of universe n within = ap (λ b. cond b (Some n) None) (is_within-of universe n within)
