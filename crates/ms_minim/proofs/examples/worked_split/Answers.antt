use Rattle.std.proofs.Common.{◌≡◌, ◌+◌, [], ◌∷◌, ◌++◌, length, inr, refl, subst, arith}
use Rattle.std.proofs.lemmas.Option.{none-some, same_Some}
use Rattle.ms_minim.specs.inner.Split.{IsPlaced}
use Rattle.ms_minim.proofs.SplitLemmas.{IsPlaced-behind}
use Rattle.ms_minim.proofs.examples.worked_split.Goals as goal

pub returns-clause-placed : goal.returns-clause-placed
returns-clause-placed c front long numbering missing =
    let two : length front ≡ 2 = omega (arith, long) in
    let last : length front + 0 ≡ 2 = omega (arith, two) in
    subst (IsPlaced (front ++ []) (0 ∷ 1 ∷ []) (front ++ (0, 7) ∷ []) (0 ∷ 1 ∷ 2 ∷ []) (0, 7) 2) last
    (IsPlaced-behind front [] ((0, 7) ∷ []) (0 ∷ 1 ∷ []) (0 ∷ 1 ∷ 2 ∷ []) (0, 7) 2 0 long (omega arith) numbering missing
    (inr ((λ place held. none-some (0, 7) held), refl)) refl (λ at_end. refl) (λ differs. absurd (differs last)))

pub returns-clause-left_together : goal.returns-clause-left_together
returns-clause-left_together c split =
    let marks : 5 ≡ 7 = same_Some 5 7 (split.apart 0 2 (omega arith) (omega arith) refl).1 in
    omega (arith, marks)

pub returns-clause-put_together : goal.returns-clause-put_together
returns-clause-put_together c split =
    let classes : 1 ≡ 0 = same_Some 1 0 (split.apart 1 2 (omega arith) (omega arith) refl).0 in
    omega (arith, classes)
