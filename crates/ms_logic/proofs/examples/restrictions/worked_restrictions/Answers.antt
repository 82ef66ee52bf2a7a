use Rattle.std.proofs.Common.{[], ◌∷◌, refl, inl, inr, arith, rules}
use Rattle.ms_logic.specs.declared.assignment.Value.TheVariants.{Number}
use Rattle.ms_logic.proofs.Values.{each_value}
use Rattle.ms_logic.proofs.examples.restrictions.worked_restrictions.Goals as goal

pub returns-clause-inner_yes : goal.returns-clause-inner_yes
returns-clause-inner_yes c = inr (Number 0 ∷ [], (refl, tt), ((tt, tt), (Number 0 ∷ [], (refl, tt), search rules)))

pub returns-clause-inner_no : goal.returns-clause-inner_no
returns-clause-inner_no c = (Number 2 ∷ [], (refl, tt), ((tt, tt), inr (Number 2 ∷ [], (refl, tt), search rules)))

pub returns-clause-default_yes : goal.returns-clause-default_yes
returns-clause-default_yes c = (Number 1 ∷ [], (refl, tt), ((tt, tt), (Number 2, (tt, search rules), search rules)))

pub returns-clause-default_no : goal.returns-clause-default_no
returns-clause-default_no c =
    inr (Number 2 ∷ [], (refl, tt), ((tt, tt), (each_value _ (λ b in_range. absurd in_range.0) (λ n in_range above. omega (arith, in_range.1, above)) (λ s in_range. absurd in_range.0), inl (Number 0, (tt, search rules), λ above. omega (arith, above)))))

pub returns-clause-both_met_yes : goal.returns-clause-both_met_yes
returns-clause-both_met_yes c = (Number 0 ∷ Number 1 ∷ [], (refl, (refl, tt)), search rules)

pub returns-clause-both_met_no : goal.returns-clause-both_met_no
returns-clause-both_met_no c = inr (Number 2 ∷ Number 1 ∷ [], (refl, (refl, tt)), search rules)

pub returns-clause-default_met : goal.returns-clause-default_met
returns-clause-default_met c = (Number 0 ∷ [], (refl, tt), search rules)

pub returns-clause-dependent_yes : goal.returns-clause-dependent_yes
returns-clause-dependent_yes c = (Number 1 ∷ Number 2 ∷ [], (refl, (refl, tt)), search rules)

pub returns-clause-dependent_no : goal.returns-clause-dependent_no
returns-clause-dependent_no c = inr (Number 1 ∷ Number 7 ∷ [], (refl, (refl, tt)), search rules)
