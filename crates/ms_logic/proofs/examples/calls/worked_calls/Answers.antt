use Rattle.std.proofs.Common.{true, false, Some, [], ◌∷◌, refl, inl, inr, arith, rules}
use Rattle.ms_logic.specs.declared.assignment.Value.TheVariants.{Truth, Number}
use Rattle.ms_logic.proofs.Values.{each_value}
use Rattle.ms_logic.proofs.Within.{if_within-of}
use Rattle.ms_logic.proofs.examples.calls.worked_calls.Goals as goal

pub returns-clause-yes : goal.returns-clause-yes
returns-clause-yes c = (Number 0 ∷ [], (refl, tt), ((tt, tt), (Number 1, (omega arith, tt), search rules)))

pub returns-clause-no : goal.returns-clause-no
returns-clause-no c =
    inr (Number 0 ∷ [], (refl, tt), ((tt, tt), (each_value _ (λ b in_range. absurd in_range.0) (λ n in_range. rw (if_within-of (Some 1) n in_range.0) (λ below. omega (arith, below, in_range.0))) (λ s in_range. absurd in_range.0), inl (Number 0, (omega arith, tt), λ below. omega (arith, below)))))

pub returns-clause-no_capture : goal.returns-clause-no_capture
returns-clause-no_capture c = (Number 0 ∷ [], (refl, tt), ((tt, tt), (Number 1, (omega arith, tt), search rules)))

pub returns-clause-restriction_met : goal.returns-clause-restriction_met
returns-clause-restriction_met c = (Number 0 ∷ [], (refl, tt), search rules)

pub returns-clause-restriction_met_no : goal.returns-clause-restriction_met_no
returns-clause-restriction_met_no c = inr (Number 1 ∷ [], (refl, tt), search rules)

pub returns-clause-true_argument : goal.returns-clause-true_argument
returns-clause-true_argument c = (Truth true ∷ [], (tt, tt), search rules)

pub returns-clause-false_argument : goal.returns-clause-false_argument
returns-clause-false_argument c = inr (Truth false ∷ [], (tt, tt), search rules)

pub returns-clause-called_in_body : goal.returns-clause-called_in_body
returns-clause-called_in_body c =
    inr (Truth true ∷ [], (tt, tt), ((tt, tt), inr (Truth false ∷ [], (refl, tt), search rules)))
