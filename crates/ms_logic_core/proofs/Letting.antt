-- What is left of a list without its last item is no larger.
use denote.Param.Weighed.{most, most-append}
use Rattle.std.proofs.Common.{◌≡◌, ◌++◌, ◌∷◌, [], ℕ, ◌≤◌, List, Option, Some, None, MatchOption, ap, ◌∙◌, arith}

pub fewer : {X : Type 0} (μ : X → ℕ) (items others : List X) (last : Option X) → MatchOption last ((items ≡ []) × (others ≡ [])) (λ x. items ≡ others ++ x ∷ []) → most μ others ≤ most μ items
fewer μ items others None is = let none = ap (most μ) is.1 in omega (arith, none)
fewer μ items others (Some x) is = let same = ap (most μ) is ∙ most-append μ others (x ∷ []) in omega (arith, same)
