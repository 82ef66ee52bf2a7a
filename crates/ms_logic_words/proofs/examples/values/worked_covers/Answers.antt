use Rattle.std.proofs.Common.{refl, inl, ⊎_elim, arith, rules}
use Rattle.ms_logic.specs.inner.Examples.{var_x, equal, nothing_given, variable, naturals, x_at}
use Rattle.ms_logic.specs.Tree.{numeral}
use Rattle.ms_logic_words.specs.WordSign.{CoversFormula}
use Rattle.ms_logic.specs.declared.mode.Order.TheVariants.{One}
use Rattle.ms_logic_words.specs.inner.ContentExamples.{just_P}
use Rattle.ms_logic_words.proofs.examples.values.worked_covers.Goals as goal

-- the number x is not among the sets
set_is_no_number : CoversFormula nothing_given just_P (equal var_x (numeral 0)) → ⊥
set_is_no_number covers = ⊎_elim (λ is. grind (arith, is.1)) (λ none. none) (covers (variable 0 One) (inl (refl, refl)))

pub returns-clause-not_covers : goal.returns-clause-not_covers
returns-clause-not_covers c = set_is_no_number

pub returns-clause-some_yes : goal.returns-clause-some_yes
returns-clause-some_yes c =
    (naturals, record { universe = refl; values = ((tt, tt), tt) }, record { truth = refl; letters = refl; room = omega arith; string = tt }, refl)

pub returns-clause-some_no : goal.returns-clause-some_no
returns-clause-some_no c =
    (x_at 1, record { universe = refl; values = ((tt, tt), tt) }, record { truth = refl; letters = refl; room = omega arith; string = tt }, search rules)

pub returns-clause-never_yes : goal.returns-clause-never_yes
returns-clause-never_yes c w found = set_is_no_number found.0

pub returns-clause-never_no : goal.returns-clause-never_no
returns-clause-never_no c w found = set_is_no_number found.0

pub returns-clause-never_undefined : goal.returns-clause-never_undefined
returns-clause-never_undefined c w found = set_is_no_number found.0
