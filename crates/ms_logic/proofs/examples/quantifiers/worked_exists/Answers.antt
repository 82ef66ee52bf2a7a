use Rattle.std.proofs.Common.{true, [], ◌∷◌, inl, ⊎_elim, arith, rules}
use Rattle.ms_logic.specs.declared.assignment.Value.TheVariants.{Truth, Number, Set}
use Rattle.ms_logic.proofs.Values.{each_value}
use Rattle.ms_logic.proofs.examples.quantifiers.worked_exists.Goals as goal

pub returns-clause-yes : goal.returns-clause-yes
returns-clause-yes c = (Number 0, (tt, tt), search rules)

pub returns-clause-no : goal.returns-clause-no
returns-clause-no c =
    (each_value _ (λ b in_range. absurd in_range.0) (λ n in_range below. omega (arith, below)) (λ s in_range. absurd in_range.0), inl (Number 0, (tt, tt), λ below. omega (arith, below)))

pub returns-clause-undefined : goal.returns-clause-undefined
returns-clause-undefined c = (λ found. found.2, λ h. ⊎_elim (λ found. found.2) (λ empty. empty (Number 0) (tt, tt)) h.1)

pub returns-clause-yes_beside_undefined : goal.returns-clause-yes_beside_undefined
returns-clause-yes_beside_undefined c = (Set (0 ∷ 1 ∷ []), (search rules, tt), search rules)

pub returns-clause-no_beside_undefined : goal.returns-clause-no_beside_undefined
returns-clause-no_beside_undefined c =
    (each_value _ (λ b in_range. absurd in_range.0) (λ n in_range equal. omega (arith, equal.0, equal.1.0)) (λ s in_range. absurd in_range.0), inl (Number 0, (tt, tt), search rules))

pub returns-clause-restricted_yes : goal.returns-clause-restricted_yes
returns-clause-restricted_yes c = (Number 2, (tt, search rules), search rules)

pub returns-clause-restricted_no : goal.returns-clause-restricted_no
returns-clause-restricted_no c =
    (each_value _ (λ b in_range. absurd in_range.0) (λ n in_range below. omega (arith, in_range.1, below)) (λ s in_range. absurd in_range.0), inl (Number 2, (tt, search rules), λ below. omega (arith, below)))

pub returns-clause-restricted_undefined : goal.returns-clause-restricted_undefined
returns-clause-restricted_undefined c =
    (λ found. found.2, λ h. ⊎_elim (λ found. found.2) (λ empty. empty (Number 2) (tt, search rules)) h.1)

pub returns-clause-one_position : goal.returns-clause-one_position
returns-clause-one_position c = (Number 0, (omega arith, tt), tt)

pub returns-clause-truth_value : goal.returns-clause-truth_value
returns-clause-truth_value c = (Truth true, (tt, tt), search rules)

pub returns-clause-empty_set : goal.returns-clause-empty_set
returns-clause-empty_set c = (Set [], ((tt, tt), tt), tt)
