use Rattle.std.proofs.Common.{[], ◌∷◌, refl, inl, ⊎_elim, arith, rules}
use Rattle.ms_logic.specs.declared.assignment.Value.TheVariants.{Set}
use Rattle.ms_logic.specs.Assignment.{assign}
use Rattle.ms_logic.specs.inner.Examples.{string, x_at}
use Rattle.ms_logic_words.proofs.examples.values.worked_values.Goals as goal

pub returns-clause-yes : goal.returns-clause-yes
returns-clause-yes c =
    (λ w free. free, (x_at 1, record { universe = refl; values = (tt, tt) }, record { truth = refl; letters = refl; room = omega arith; string = tt }, refl))

pub returns-clause-no : goal.returns-clause-no
returns-clause-no c =
    (λ w free. free, (x_at 1, record { universe = refl; values = (tt, tt) }, record { truth = refl; letters = refl; room = omega arith; string = tt }, search rules))

pub returns-clause-undefined : goal.returns-clause-undefined
returns-clause-undefined c =
    (λ w free. free, (x_at 1, record { universe = refl; values = (tt, tt) }, record { truth = refl; letters = refl; room = omega arith; string = tt }, search rules))

pub returns-clause-whole_yes : goal.returns-clause-whole_yes
returns-clause-whole_yes c =
    (λ w free. ⊎_elim (λ none. absurd none) (λ is. inl is) free, (assign 0 (Set (0 ∷ 1 ∷ [])) (string 2), record { universe = search rules; values = search rules }, record { truth = refl; letters = refl; room = omega arith; string = refl }, refl))

pub returns-clause-whole_no : goal.returns-clause-whole_no
returns-clause-whole_no c =
    (λ w free. ⊎_elim (λ none. absurd none) (λ is. inl is) free, (assign 0 (Set (0 ∷ [])) (string 2), record { universe = search rules; values = search rules }, record { truth = refl; letters = refl; room = omega arith; string = refl }, search rules))
