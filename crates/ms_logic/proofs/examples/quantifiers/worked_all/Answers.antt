use Rattle.std.proofs.Common.{◌+◌, false, Some, inl, ⊎_elim, arith, rules}
use Rattle.ms_logic.specs.declared.assignment.Value.TheVariants.{Truth, Number}
use Rattle.ms_logic.proofs.Values.{each_value}
use Rattle.ms_logic.proofs.Within.{if_within-of}
use Rattle.ms_logic.proofs.examples.quantifiers.worked_all.Goals as goal

pub returns-clause-yes : goal.returns-clause-yes
returns-clause-yes c =
    (each_value _ (λ b in_range. absurd in_range.0) (λ n in_range fails. fails (omega arith)) (λ s in_range. absurd in_range.0), inl (Number 0, (tt, tt), search rules))

pub returns-clause-no : goal.returns-clause-no
returns-clause-no c = (Number 5, (tt, tt), λ below. omega (arith, below))

pub returns-clause-undefined : goal.returns-clause-undefined
returns-clause-undefined c = (λ h. ⊎_elim (λ found. found.2) (λ empty. empty (Number 0) (tt, tt)) h.1, λ found. found.2)

pub returns-clause-yes_beside_undefined : goal.returns-clause-yes_beside_undefined
returns-clause-yes_beside_undefined c = (λ v in_range impossible. impossible, inl (Number 0, (tt, tt), search rules))

pub returns-clause-restricted_yes : goal.returns-clause-restricted_yes
returns-clause-restricted_yes c =
    (each_value _ (λ b in_range. absurd in_range.0) (λ n in_range fails. fails in_range.1) (λ s in_range. absurd in_range.0), inl (Number 0, (tt, search rules), search rules))

pub returns-clause-restricted_no : goal.returns-clause-restricted_no
returns-clause-restricted_no c = (Number 2, (tt, search rules), λ below. omega (arith, below))

pub returns-clause-restricted_undefined : goal.returns-clause-restricted_undefined
returns-clause-restricted_undefined c =
    (λ h. ⊎_elim (λ found. found.2) (λ empty. empty (Number 0) (tt, search rules)) h.1, λ found. found.2)

pub returns-clause-one_position : goal.returns-clause-one_position
returns-clause-one_position c = (Number 0, (omega arith, tt), tt)

pub returns-clause-truth_value : goal.returns-clause-truth_value
returns-clause-truth_value c = (Truth false, (tt, tt), search rules)

pub returns-clause-no_last_successor : goal.returns-clause-no_last_successor
returns-clause-no_last_successor c =
    (Number 0, (omega arith, tt), (each_value _ (λ b in_range. absurd in_range.0) (λ n in_range. rw (if_within-of (Some 1) n in_range.0) (λ below. omega (arith, below, in_range.0))) (λ s in_range. absurd in_range.0), inl (Number 0, (omega arith, tt), λ below. omega (arith, below))))

pub returns-clause-successor : goal.returns-clause-successor
returns-clause-successor c =
    (each_value _ (λ b in_range. absurd in_range.0) (λ n in_range none. none.0 (Number (n + 1)) (tt, tt) (omega arith)) (λ s in_range. absurd in_range.0), inl (Number 0, (tt, tt), (Number 1, (tt, tt), search rules)))
