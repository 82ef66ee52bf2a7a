-- What a reader gives of what it has.
use Rattle.std.proofs.Common.{◌≡◌, ℕ, List, ◌<◌, ◌≤◌, length, take, min, Option, Some, None, IfSome, ap, ◌∙◌, arith}
use Rattle.std.proofs.lemmas.List.{length-take, take_all}
use Rattle.std.specs.Option.{option_map}

-- what is given under a bound is all that there is, where it is less than the bound
pub given-is-whole : (known : Option (List ℕ)) (most : ℕ) (bytes : List ℕ) → IfSome (option_map (take most) known) (λ given. bytes ≡ given) → length bytes < most → IfSome known (λ left. bytes ≡ left)
given-is-whole None most bytes given fewer = tt
given-is-whole (Some left) most bytes given fewer = given ∙ take_all most left (under (ap length given ∙ length-take most left))
  where
    under : length bytes ≡ min most (length left) → length left ≤ most
    under is = omega (arith, is, fewer)
