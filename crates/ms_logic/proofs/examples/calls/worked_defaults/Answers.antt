use Rattle.std.proofs.Common.{inl, arith, rules}
use Rattle.ms_logic.specs.declared.assignment.Value.TheVariants.{Number}
use Rattle.ms_logic.proofs.Values.{each_value}
use Rattle.ms_logic.proofs.examples.calls.worked_defaults.Goals as goal

pub returns-clause-second_met : goal.returns-clause-second_met
returns-clause-second_met c = (Number 2, (tt, search rules), search rules)

pub returns-clause-second_not_met : goal.returns-clause-second_not_met
returns-clause-second_not_met c =
    (each_value _ (λ b in_range. absurd in_range.0) (λ n in_range above. omega (arith, in_range.1, above)) (λ s in_range. absurd in_range.0), inl (Number 0, (tt, search rules), λ above. omega (arith, above)))
