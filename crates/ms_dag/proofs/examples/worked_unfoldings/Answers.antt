use Rattle.std.proofs.Common.{ℕ, ◌<◌, [], ◌∷◌, None, refl, arith}
use Rattle.std.proofs.lemmas.List.Elements.{All-nil, All-cons}
use Rattle.ms_logic_core.specs.declared.core_formula.Basic.TheVariants.{Less}
use Rattle.ms_dag.specs.inner.Examples.{child}
use Rattle.ms_dag.specs.Places.{AreBelow}
use Rattle.ms_dag.specs.Unfolds.{IsPartOf}
use Rattle.ms_dag.proofs.examples.worked_unfoldings.Goals as goal

two_below : (count a b : ℕ) → a < count → b < count → AreBelow count (a ∷ b ∷ [])
two_below count a b first second = All-cons (λ j. j < count) a (b ∷ []) first (All-cons (λ j. j < count) b [] second (All-nil (λ j. j < count)))

part : (count a b : ℕ) → a < count → b < count → IsPartOf 1 count (child 0 (a ∷ b ∷ []))
part count a b first second = record { smaller = omega arith; within = two_below count a b first second }

pub returns-clause-relation : goal.returns-clause-relation
returns-clause-relation c = (Less 0 1, refl, two_below 2 0 1 (omega arith) (omega arith), refl)

pub returns-clause-call : goal.returns-clause-call
returns-clause-call c = (Less 0 1, refl, two_below 2 0 1 (omega arith) (omega arith), refl)

pub returns-clause-shared : goal.returns-clause-shared
returns-clause-shared c = (
  child 0 (0 ∷ 1 ∷ []) ∷ child 0 (1 ∷ 2 ∷ []) ∷ [],
  refl,
  ((part 3 0 1 (omega arith) (omega arith), (Less 0 1, refl, two_below 2 0 1 (omega arith) (omega arith), refl)), ((part 3 1 2 (omega arith) (omega arith), (Less 0 1, refl, two_below 2 0 1 (omega arith) (omega arith), refl)), tt)),
)

pub returns-clause-bound : goal.returns-clause-bound
returns-clause-bound c = (
  None,
  child 0 (0 ∷ 1 ∷ []),
  refl,
  All-cons (λ j. j < 4) 2 [] (omega arith) (All-nil (λ j. j < 4)),
  tt,
  (part 2 0 1 (omega arith) (omega arith), (Less 0 1, refl, two_below 2 0 1 (omega arith) (omega arith), refl)),
)
